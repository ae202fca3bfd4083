-- Records written behind the others and not synced.
use Rattle.std.proofs.Common.{◌≡◌, ℕ, ◌+◌, List, [], ◌++◌, length, drop, sym, ◌∙◌, ap, subst, arith, length-append, All}
use Rattle.std.specs.List.{AllByRecursion}
use Rattle.std.proofs.lemmas.List.{append-nil, take_all, drop_all}
use Rattle.tx_model.specs.declared.record.Record.{Record}
use Rattle.tx_model.specs.Records.{IsRecord, RiseByOne}
use Rattle.tx_model.proofs.Batches.{RiseByOne-append, RiseByOne-All}
use Rattle.tx_model.specs.Framing.{record_len}
use Rattle.disk_model.specs.File.{settled, overlaid}
use Rattle.tx_model.specs.Frames.{IsFrame, joined, frames_in}
use Rattle.tx_model.proofs.Walks.{all-append, joined-append, frames_in-joined, frames_in-stop}
use Rattle.disk_model.proofs.Images.{empty}
use Rattle.tx_model.specs.Contents.{records_of, records_in}
use Rattle.segment_store.specs.Records.{frames_of}
use Rattle.segment_store.specs.Index.{Index, count_of, starts_of, IsIndexOfAll, IsTidy}
use Rattle.segment_store.proofs.Indexing.{framing, index-count, index-frames, records_of-append, length-records_of, starts_of-append}
use Rattle.segment_store.proofs.Encoded.{frames_of-frames, records_of-frames_of}
use Rattle.segment_store.proofs.Appended.{no_bytes}

pub all-frames : (s : Index) (file : List ℕ) (all : IsIndexOfAll s file) → (file ≡ joined all.index.frames) × (frames_in record_len file ≡ all.index.frames)
all-frames s file all =
    let index = all.index in
    let rest : index.rest ≡ [] = no_bytes index.rest (omega (arith, ap length index.is, length-append (joined index.frames) index.rest, index.end, all.ends)) in (
      index.is ∙ ap (λ (l : List ℕ). joined index.frames ++ l) rest ∙ append-nil (joined index.frames),
      index-frames s file index ∙ ap (λ (l : List ℕ). index.frames ++ frames_in record_len l) rest ∙ ap (λ (gs : List (List ℕ)). index.frames ++ gs) (frames_in-stop record_len framing [] (empty record_len framing)) ∙ append-nil index.frames,
    )

-- once such a file is synced it is tidy
pub synced-tidy : (s : Index) (bytes : List ℕ) → IsIndexOfAll s bytes → IsTidy s (settled bytes)
synced-tidy s bytes all =
    let parts = all-frames s bytes all in
    record { index = all.index; at_rest = record { is = ap settled (parts.0 ∙ ap joined (sym parts.1)); end_is = all.ends } }

module _ (s : Index) (end : ℕ) (end_is : end ≡ s.end) (file : List ℕ) (all : IsIndexOfAll s file) (rs : List Record) (ids : RiseByOne (s.first + count_of s) rs) (bytes : List ℕ) (bytes_are : bytes ≡ joined (frames_of rs)) (then : List ℕ) (reads : then ≡ overlaid file end bytes) where
  abbrev fs : List (List ℕ)
  fs = all.index.frames

  valid : All IsRecord rs
  valid = RiseByOne-All (s.first + count_of s) rs ids

  all_whole : AllByRecursion (IsFrame record_len) (fs ++ frames_of rs)
  all_whole = all-append (IsFrame record_len) fs (frames_of rs) all.index.whole (frames_of-frames rs valid)

  at : end ≡ length file
  at = end_is ∙ all.ends

  is_then : then ≡ joined (fs ++ frames_of rs)
  is_then =
      reads ∙ ap (λ (l : List ℕ). l ++ bytes ++ drop (end + length bytes) file) (take_all end file (omega (arith, at)))
      ∙ ap (λ (l : List ℕ). file ++ bytes ++ l) (drop_all (end + length bytes) file (omega (arith, at)))
      ∙ append-nil (file ++ bytes)
      ∙ ap (λ (l : List ℕ). l ++ bytes) (all-frames s file all).0 ∙ ap (λ (l : List ℕ). joined fs ++ l) bytes_are ∙ sym (joined-append fs (frames_of rs))

  pub staged-records : records_in then ≡ records_in file ++ rs
  staged-records =
      let found : frames_in record_len (joined (fs ++ frames_of rs)) ≡ fs ++ frames_of rs =
      ap (frames_in record_len) (sym (append-nil (joined (fs ++ frames_of rs)))) ∙ frames_in-joined record_len framing (fs ++ frames_of rs) [] all_whole (empty record_len framing) in
      ap records_in is_then ∙ ap records_of found ∙ records_of-append fs (frames_of rs)
      ∙ ap (λ (l : List Record). records_of fs ++ l) (records_of-frames_of rs valid)
      ∙ ap (λ (gs : List (List ℕ)). records_of gs ++ rs) (sym (all-frames s file all).1)

  pub staged-all : (t : Index) → t.first ≡ s.first → t.starts ≡ s.starts ++ starts_of end (frames_of rs) → t.end ≡ end + length bytes → IsIndexOfAll t then
  staged-all t first starts last =
      let whole_end : t.end ≡ length (joined (fs ++ frames_of rs)) = omega (arith, last, end_is, all.index.end, ap length bytes_are, ap length (joined-append fs (frames_of rs)), length-append (joined fs) (joined (frames_of rs))) in
      let next : RiseByOne (s.first + length (records_of fs)) (records_of (frames_of rs)) =
      subst (λ (n : ℕ). RiseByOne (s.first + n) (records_of (frames_of rs))) (index-count s file all.index ∙ sym (length-records_of fs)) (subst (RiseByOne (s.first + count_of s)) (sym (records_of-frames_of rs valid)) ids) in
      record {
        index = record {
          frames = fs ++ frames_of rs;
          rest = [];
          whole = all_whole;
          is = is_then ∙ sym (append-nil (joined (fs ++ frames_of rs)));
          starts =
              starts ∙ ap (λ (l : List ℕ). l ++ starts_of end (frames_of rs)) all.index.starts ∙ ap (λ (n : ℕ). starts_of 0 fs ++ starts_of n (frames_of rs)) (end_is ∙ all.index.end)
              ∙ sym (starts_of-append 0 fs (frames_of rs) ∙ ap (λ (n : ℕ). starts_of 0 fs ++ starts_of n (frames_of rs)) (omega arith));
          end = whole_end;
          ids = subst (λ (n : ℕ). RiseByOne n (records_of (fs ++ frames_of rs))) (sym first) (subst (RiseByOne s.first) (sym (records_of-append fs (frames_of rs))) (RiseByOne-append s.first (records_of fs) (records_of (frames_of rs)) all.index.ids next));
        };
        ends = whole_end ∙ ap length (sym is_then);
      }
