-- An append, over the history of the file.
use Rattle.std.proofs.Common.{◌≡◌, ℕ, ◌+◌, List, [], ◌∷◌, ◌++◌, length, take, refl, sym, ◌∙◌, ap, subst, arith, length-append, All}
use Rattle.std.specs.List.{AllByRecursion}
use Rattle.std.proofs.lemmas.List.{append-nil, take-map}
use Rattle.tx_model.specs.declared.record.Record.{Record}
use Rattle.tx_model.specs.Records.{IsRecord, RiseByOne, ids_rise}
use Rattle.tx_model.proofs.Batches.{RiseByOne-append, RiseByOne-take, RiseByOne-All}
use Rattle.tx_model.proofs.RisingIds.{rise-ids}
use Rattle.tx_model.specs.Framing.{record_len}
use Rattle.disk_model.specs.File.{File, IsImage, IsDuring, settled, written, overlaid}
use Rattle.disk_model.specs.History.{History, EachMoment}
use Rattle.tx_model.specs.Frames.{IsFrame, joined, frames_in, IsPrefixOf}
use Rattle.disk_model.specs.Frames.{EachImage}
use Rattle.tx_model.proofs.Walks.{all-append, joined-append, frames_in-joined, frames_in-stop}
use Rattle.disk_model.proofs.Images.{empty, image_settled}
use Rattle.disk_model.proofs.Moments.{weaker}
use Rattle.disk_model.proofs.Appends.{append_writes, append_syncs, reads_mid}
use Rattle.tx_model.specs.Contents.{records_of, records_in}
use Rattle.segment_store.specs.Records.{frames_of, HasPrefixOf}
use Rattle.segment_store.specs.Index.{Index, count_of, starts_of, IsTidy, IsLoadable}
use Rattle.segment_store.proofs.Indexing.{framing, index-count, index-frames, records_of-append, length-records_of, starts_of-append}
use Rattle.segment_store.proofs.Encoded.{frames_of-frames, records_of-frames_of, length-frames_of}

pub no_bytes : (bytes : List ℕ) → length bytes ≡ 0 → bytes ≡ []
no_bytes [] none = refl
no_bytes (b ∷ bytes) none = absurd (omega arith)

-- a tidy file has the segment's frames and nothing behind them
pub record IsOnly (s : Index) (file : File) (fs : List (List ℕ)) : Type 0 where
  pub is : file ≡ settled (joined fs)
  pub whole : AllByRecursion (IsFrame record_len) fs
  pub frames : frames_in record_len file.reads ≡ fs
  pub starts : s.starts ≡ starts_of 0 fs
  pub end : s.end ≡ length (joined fs)
  pub ids : RiseByOne s.first (records_of fs)

pub tidy-only : (s : Index) (file : File) (tidy : IsTidy s file) → IsOnly s file tidy.index.frames
tidy-only s file tidy =
    let index = tidy.index in
    let rest : index.rest ≡ [] = no_bytes index.rest (omega (arith, ap length index.is, length-append (joined index.frames) index.rest, index.end, tidy.at_rest.end_is)) in
    let frames : frames_in record_len file.reads ≡ index.frames =
    index-frames s file.reads index ∙ ap (λ (l : List ℕ). index.frames ++ frames_in record_len l) rest ∙ ap (λ (gs : List (List ℕ)). index.frames ++ gs) (frames_in-stop record_len framing [] (empty record_len framing)) ∙ append-nil index.frames in
    record {
      is = tidy.at_rest.is ∙ ap (λ (gs : List (List ℕ)). settled (joined gs)) frames;
      whole = index.whole;
      frames = frames;
      starts = index.starts;
      end = index.end;
      ids = index.ids;
    }

-- ---- prefixes

-- a prefix of the frames holds a prefix of the records
pub prefix-records : (fs gs : List (List ℕ)) (rs : List Record) → All IsRecord rs → IsPrefixOf fs (frames_of rs) gs → HasPrefixOf (records_of fs) rs (records_of gs)
prefix-records fs gs rs all found = (
  found.0,
  omega (arith, found.1, length-frames_of rs),
  ap records_of found.2 ∙ records_of-append fs (take found.0 (frames_of rs))
      ∙ ap (λ (l : List Record). records_of fs ++ l) (sym (take-map _ found.0 (frames_of rs)) ∙ ap (λ (l : List Record). take found.0 l) (records_of-frames_of rs all)),
)

-- so each image can be loaded
pub prefix-loadable : (s : Index) (old new now : List Record) → RiseByOne s.first old → count_of s ≡ length old → RiseByOne (s.first + count_of s) new → HasPrefixOf old new now → IsLoadable s.first (count_of s) now
prefix-loadable s old new now rise count ids found =
    let next : RiseByOne (s.first + length old) (take found.0 new) = subst (λ (n : ℕ). RiseByOne (s.first + n) (take found.0 new)) count (RiseByOne-take (s.first + count_of s) new found.0 ids) in
    record {
      ids = ap (λ (rs : List Record). ids_rise s.first rs) found.2 ∙ rise-ids s.first (old ++ take found.0 new) (RiseByOne-append s.first old (take found.0 new) rise next);
      enough = omega (arith, ap length found.2, length-append old (take found.0 new), count);
    }

-- ---- the write and the sync

-- the records in each image as put have P
abbrev pub EachImageHolds : (List Record → Type 0) → File → Type 0
EachImageHolds P file = EachImage record_len (λ frames. P (records_of frames)) file

module _ (file : ℕ) (s : Index) (end : ℕ) (end_is : end ≡ s.end) (old : History) (tidy : IsTidy s (old.now file)) (rs : List Record) (ids : RiseByOne (s.first + count_of s) rs) (bytes : List ℕ) (bytes_are : bytes ≡ joined (frames_of rs)) where
  abbrev fs : List (List ℕ)
  fs = tidy.index.frames

  only : IsOnly s (old.now file) fs
  only = tidy-only s (old.now file) tidy

  valid : All IsRecord rs
  valid = RiseByOne-All (s.first + count_of s) rs ids

  all_n : AllByRecursion (IsFrame record_len) (frames_of rs)
  all_n = frames_of-frames rs valid

  abbrev writing : History → History → Type 0
  writing before after = EachMoment file (IsDuring (end ≡ length (before.now file).reads) (written end bytes (before.now file))) before after

  at : end ≡ length (joined fs)
  at = end_is ∙ only.end

  -- the same write, of the frames behind the frames
  placed : (after : History) → writing old after → EachMoment file (IsDuring (length (joined fs) ≡ length (old.now file).reads) (written (length (joined fs)) (joined (frames_of rs)) (old.now file))) old after
  placed after step =
      subst (λ (n : ℕ). EachMoment file (IsDuring (n ≡ length (old.now file).reads) (written n (joined (frames_of rs)) (old.now file))) old after) at
      (subst (λ (l : List ℕ). EachMoment file (IsDuring (end ≡ length (old.now file).reads) (written end l (old.now file))) old after) bytes_are step)

  placed_reads : overlaid (old.now file).reads end bytes ≡ overlaid (old.now file).reads (length (joined fs)) (joined (frames_of rs))
  placed_reads = ap (λ (n : ℕ). overlaid (old.now file).reads n bytes) at ∙ ap (λ (l : List ℕ). overlaid (old.now file).reads (length (joined fs)) l) bytes_are

  abbrev Prefix : List Record → Type 0
  Prefix now = HasPrefixOf (records_in (old.now file).reads) rs now

  in_records : (new : History) → EachMoment file (EachImage record_len (IsPrefixOf fs (frames_of rs))) old new → EachMoment file (EachImageHolds Prefix) old new
  in_records new run =
      weaker file (EachImageHolds Prefix) (EachImage record_len (IsPrefixOf fs (frames_of rs))) old new run
      (λ f each c image put. subst (λ (gs : List (List ℕ)). HasPrefixOf (records_of gs) rs (records_of (frames_in record_len c))) (sym only.frames) (prefix-records fs (frames_in record_len c) rs valid (each c image put)))

  -- during the write
  pub writes : (after : History) → writing old after → EachMoment file (EachImageHolds Prefix) old after
  writes after step = in_records after (append_writes record_len framing file fs (frames_of rs) only.whole all_n old after only.is (placed after step))

  -- and during the sync
  pub syncs : (mid new : History) → writing old mid → (mid.now file).reads ≡ overlaid (old.now file).reads end bytes
      → EachMoment file (λ f. f ≡ settled (mid.now file).reads) mid new → EachMoment file (EachImageHolds Prefix) old new
  syncs mid new wrote reads step = in_records new (append_syncs record_len framing file fs (frames_of rs) only.whole all_n old mid new only.is (placed mid wrote) (reads ∙ placed_reads) step)

  -- what holds of such records can be loaded
  pub can_load : (new : History) → EachMoment file (EachImageHolds Prefix) old new → EachMoment file (EachImageHolds (IsLoadable s.first (count_of s))) old new
  can_load new run =
      weaker file (EachImageHolds (IsLoadable s.first (count_of s))) (EachImageHolds Prefix) old new run
      (λ f each c image put. prefix-loadable s (records_in (old.now file).reads) rs (records_of (frames_in record_len c))
      (subst (λ (gs : List (List ℕ)). RiseByOne s.first (records_of gs)) (sym only.frames) only.ids)
      (index-count s (old.now file).reads tidy.index ∙ sym (length-records_of fs) ∙ ap (λ (gs : List (List ℕ)). length (records_of gs)) (sym only.frames))
      ids (each c image put))

  module _ (mid new : History) (reads : (mid.now file).reads ≡ overlaid (old.now file).reads end bytes) (done : new.now file ≡ settled (mid.now file).reads) where
    is_now : new.now file ≡ settled (joined (fs ++ frames_of rs))
    is_now = done ∙ ap settled (reads_mid record_len framing file fs (frames_of rs) only.whole all_n old mid only.is (reads ∙ placed_reads))

    all_whole : AllByRecursion (IsFrame record_len) (fs ++ frames_of rs)
    all_whole = all-append (IsFrame record_len) fs (frames_of rs) only.whole all_n

    frames_now : frames_in record_len (joined (fs ++ frames_of rs)) ≡ fs ++ frames_of rs
    frames_now = ap (frames_in record_len) (sym (append-nil (joined (fs ++ frames_of rs)))) ∙ frames_in-joined record_len framing (fs ++ frames_of rs) [] all_whole (empty record_len framing)

    records_then : records_of (fs ++ frames_of rs) ≡ records_in (old.now file).reads ++ rs
    records_then =
        records_of-append fs (frames_of rs) ∙ ap (λ (l : List Record). records_of fs ++ l) (records_of-frames_of rs valid)
        ∙ ap (λ (gs : List (List ℕ)). records_of gs ++ rs) (sym only.frames)

    pub added : records_in (new.now file).reads ≡ records_in (old.now file).reads ++ rs
    added = ap (λ (f : File). records_in f.reads) is_now ∙ ap records_of frames_now ∙ records_then

    pub in_each : (image : List ℕ) → IsImage (new.now file) image → records_in image ≡ records_in (old.now file).reads ++ rs
    in_each image is =
        ap records_in (image_settled image (joined (fs ++ frames_of rs)) (subst (λ (f : File). IsImage f image) is_now is))
        ∙ ap records_of frames_now ∙ records_then

    pub tidy_then : (t : Index) → t.first ≡ s.first → t.starts ≡ s.starts ++ starts_of end (frames_of rs) → t.end ≡ end + length bytes → IsTidy t (new.now file)
    tidy_then t first starts last =
        let now = ap (λ (f : File). f.reads) is_now in
        let whole_end : t.end ≡ length (joined (fs ++ frames_of rs)) = omega (arith, last, at, ap length bytes_are, ap length (joined-append fs (frames_of rs)), length-append (joined fs) (joined (frames_of rs))) in
        let next : RiseByOne (s.first + length (records_of fs)) (records_of (frames_of rs)) =
        subst (λ (n : ℕ). RiseByOne (s.first + n) (records_of (frames_of rs))) (index-count s (old.now file).reads tidy.index ∙ sym (length-records_of fs)) (subst (RiseByOne (s.first + count_of s)) (sym (records_of-frames_of rs valid)) ids) in
        record {
          index = record {
            frames = fs ++ frames_of rs;
            rest = [];
            whole = all_whole;
            is = now ∙ sym (append-nil (joined (fs ++ frames_of rs)));
            starts =
                starts ∙ ap (λ (l : List ℕ). l ++ starts_of end (frames_of rs)) only.starts ∙ ap (λ (n : ℕ). starts_of 0 fs ++ starts_of n (frames_of rs)) at
                ∙ sym (starts_of-append 0 fs (frames_of rs) ∙ ap (λ (n : ℕ). starts_of 0 fs ++ starts_of n (frames_of rs)) (omega arith));
            end = whole_end;
            ids = subst (λ (n : ℕ). RiseByOne n (records_of (fs ++ frames_of rs))) (sym first) (subst (RiseByOne s.first) (sym (records_of-append fs (frames_of rs))) (RiseByOne-append s.first (records_of fs) (records_of (frames_of rs)) only.ids next));
          };
          at_rest = record {
            is = is_now ∙ ap (λ (gs : List (List ℕ)). settled (joined gs)) (sym (ap (λ (l : List ℕ). frames_in record_len l) now ∙ frames_now));
            end_is = whole_end ∙ ap length (sym now);
          };
        }
