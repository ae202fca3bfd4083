-- Loading, over the history of the file.
use Rattle.std.proofs.Common.{◌≡◌, ℕ, ◌≤◌, List, [], ◌++◌, length, take, sym, ◌∙◌, ap, subst, arith}
use Rattle.std.proofs.lemmas.List.{append-nil}
use Rattle.tx_model.specs.declared.record.Record.{Record}
use Rattle.tx_model.specs.Records.{ids_rise}
use Rattle.tx_model.proofs.RisingIds.{rise-ids}
use Rattle.tx_model.specs.Framing.{record_len}
use Rattle.disk_model.specs.File.{IsPlain, IsSound, settled}
use Rattle.disk_model.specs.History.{History, EachMoment, Always}
use Rattle.tx_model.specs.Frames.{joined, frames_in}
use Rattle.disk_model.specs.Frames.{EachImage, IsAtRest, IsFirm}
use Rattle.tx_model.proofs.Walks.{frames_in-stop}
use Rattle.disk_model.proofs.Firm.{firm_images}
use Rattle.disk_model.proofs.Left.{each_left}
use Rattle.disk_model.proofs.Trimmed.{trimmed, trimmed_frames, trimmed_rest}
use Rattle.disk_model.proofs.Moments.{weaker}
use Rattle.tx_model.specs.Contents.{records_of, records_in}
use Rattle.segment_store.specs.Records.{EachLeftHolds}
use Rattle.segment_store.specs.Index.{Index, count_of, IsTidy, IsLoadable, IsWholeIndexOf}
use Rattle.segment_store.proofs.Indexing.{framing, index-count, index-rest, index-frames, length-records_of}

-- ---- all frames of the file

pub wholly-frames : (s : Index) (all : List ℕ) (wholly : IsWholeIndexOf s all) → frames_in record_len all ≡ wholly.index.frames
wholly-frames s all wholly =
    let none : record_len wholly.index.rest ≡ 0 = ap record_len (sym (index-rest s all wholly.index)) ∙ wholly.none in
    index-frames s all wholly.index ∙ ap (λ (gs : List (List ℕ)). wholly.index.frames ++ gs) (frames_in-stop record_len framing wholly.index.rest none) ∙ append-nil wholly.index.frames

-- ---- what is taken

pub loadable : (s : Index) (count : ℕ) (all : List ℕ) → IsWholeIndexOf s all → count ≤ count_of s → IsLoadable s.first count (records_in all)
loadable s count all wholly enough =
    let same : records_in all ≡ records_of wholly.index.frames = ap records_of (wholly-frames s all wholly) in
    record {
      ids = ap (λ (rs : List Record). ids_rise s.first rs) same ∙ rise-ids s.first (records_of wholly.index.frames) wholly.index.ids;
      enough = omega (arith, ap length same, length-records_of wholly.index.frames, index-count s all wholly.index);
    }

-- ---- the cut and the sync

module _ (file : ℕ) (s : Index) (end : ℕ) (end_is : end ≡ s.end) (old : History) (wholly : IsWholeIndexOf s (old.now file).reads) where
  -- the last frame ends where the last record does
  pub load_end : end ≡ length (joined (frames_in record_len (old.now file).reads))
  load_end = end_is ∙ wholly.index.end ∙ ap (λ (fs : List (List ℕ)). length (joined fs)) (sym (wholly-frames s (old.now file).reads wholly))

  module _ (mid new : History) (reads : (mid.now file).reads ≡ take end (old.now file).reads) (done : new.now file ≡ settled (mid.now file).reads) where
    pub load_cut : (new.now file).reads ≡ joined (frames_in record_len (old.now file).reads)
    load_cut = trimmed record_len framing file old end load_end mid new reads done

    pub load_records : records_in (new.now file).reads ≡ records_in (old.now file).reads
    load_records = ap records_of (trimmed_frames record_len framing file old end load_end mid new reads done)

    pub load_tidy : IsTidy s (new.now file)
    load_tidy = record {
      index = record {
        frames = wholly.index.frames;
        rest = [];
        whole = wholly.index.whole;
        is = load_cut ∙ ap joined (wholly-frames s (old.now file).reads wholly) ∙ sym (append-nil (joined wholly.index.frames));
        starts = wholly.index.starts;
        end = wholly.index.end;
        ids = wholly.index.ids;
      };
      at_rest = subst (IsAtRest record_len (new.now file)) end_is (trimmed_rest record_len framing file old end load_end mid new reads done);
    }

-- while the frames stay firm, whatever a crash may leave holds the same records
pub firm_records : (plain : Type 0) (file : ℕ) (old new : History) → Always IsSound new → (plain → Always IsPlain new)
    → EachMoment file (IsFirm record_len (frames_in record_len (old.now file).reads)) old new → EachMoment file (EachLeftHolds plain (λ rs. rs ≡ records_in (old.now file).reads)) old new
firm_records plain file old new sound settles run =
    each_left plain record_len (λ gs. records_of gs ≡ records_in (old.now file).reads) file old new sound settles
    (weaker file (EachImage record_len (λ gs. records_of gs ≡ records_in (old.now file).reads)) (IsFirm record_len (frames_in record_len (old.now file).reads)) old new run
    (λ f firm c image put. ap records_of (firm_images record_len framing (frames_in record_len (old.now file).reads) f firm c image put)))
