-- A frame more for what was read of a file, and what was found once all was read.
use Rattle.std.proofs.Common.{◌≡◌, ◌≢◌, inl, inr, ℕ, ◌+◌, ◌<◌, ◌≤◌, List, [], ◌∷◌, ◌++◌, length, take, drop, refl, sym, ◌∙◌, ap, subst, arith, length-append}
use Rattle.std.proofs.lemmas.Bool.{cases_lt}
use Rattle.std.proofs.lemmas.List.{append-nil, drop_at}
use Rattle.tx_model.specs.declared.record.Record.{Record}
use Rattle.tx_model.specs.Records.{IsRecord}
use Rattle.tx_model.specs.Frames.{joined, frames_in}
use Rattle.tx_model.specs.Framing.{record_len, framed_record}
use Rattle.tx_model.specs.Contents.{records_in}
use Rattle.record_frame.proofs.Parts.{IsBytes}
use Rattle.record_frame.proofs.FrontFrames.{framed-spells}
use Rattle.disk_model.specs.History.{History}
use Rattle.tx_model.proofs.Walks.{frames_in-stop}
use Rattle.segment_store.specs.Index.{Index, count_of, IsIndexOf, IsWholeIndexOf, IsNext, IsDamagedWithin, IsDamagedBehind}
use Rattle.segment_store.specs.Loading.{AreFrames, IsWrongNext, IsReadingOf, IsWholeReadingOf, IsSameFile, IsFit}
use Rattle.segment_store.specs.declared.reading.Reading.{Reading}
use Rattle.segment_store.proofs.Damaged.{wrong-within, wrong-behind, short-within}
use Rattle.segment_store.proofs.Indexing.{framing, in-front, frames_behind, length-records_of, more_is, more_whole, more_long}

-- ---- frames, whatever their ids

pub no-frames : (bytes : List ℕ) → AreFrames 0 0 bytes
no-frames bytes = record { frames = []; rest = bytes; whole = tt; is = refl; count_is = refl; end_is = refl }

-- what stands where the last frame ends
frames-rest : (count end : ℕ) (all : List ℕ) (are : AreFrames count end all) → drop end all ≡ are.rest
frames-rest count end all are = ap (λ (l : List ℕ). drop end l) are.is ∙ drop_at (joined are.frames) are.rest end (sym are.end_is)

pub frames-more : (count end len : ℕ) (all : List ℕ) → AreFrames count end all → 0 < len → record_len (drop end all) ≡ len → AreFrames (count + 1) (end + len) all
frames-more count end len all are some stands =
    let here : record_len are.rest ≡ len = ap record_len (sym (frames-rest count end all are)) ∙ stands in
    let is_some : 0 < record_len are.rest = omega (arith, here, some) in
    record {
      frames = are.frames ++ take (record_len are.rest) are.rest ∷ [];
      rest = drop (record_len are.rest) are.rest;
      whole = more_whole are.frames are.rest is_some are.whole;
      is = are.is ∙ more_is are.frames are.rest is_some;
      count_is = omega (arith, are.count_is, length-append are.frames (take (record_len are.rest) are.rest ∷ []));
      end_is = omega (arith, are.end_is, here, more_long are.frames are.rest is_some);
    }

frames-as : (count end len count' end' : ℕ) (all : List ℕ) → AreFrames count end all → 0 < len → record_len (drop end all) ≡ len → count' ≡ count + 1 → end' ≡ end + len → AreFrames count' end' all
frames-as count end len count' end' all are some stands count_is end_is =
    subst (λ (n : ℕ). AreFrames n end' all) (sym count_is) (subst (λ (n : ℕ). AreFrames (count + 1) n all) (sym end_is) (frames-more count end len all are some stands))

-- all of them
pub frames-all : (count end : ℕ) (all : List ℕ) → AreFrames count end all → record_len (drop end all) ≡ 0 → count ≡ length (records_in all)
frames-all count end all are none =
    let stop : frames_in record_len are.rest ≡ [] = frames_in-stop record_len framing are.rest (ap record_len (sym (frames-rest count end all are)) ∙ none) in
    let same : frames_in record_len all ≡ are.frames = frames_behind are.frames are.rest all are.whole are.is ∙ ap (λ (gs : List (List ℕ)). are.frames ++ gs) stop ∙ append-nil are.frames in
    are.count_is ∙ ap length (sym same) ∙ sym (length-records_of (frames_in record_len all))

-- ---- the frame at the front of bytes that stand where the last frame ends

module _ (s : Index) (bytes more here : List ℕ) (stands : here ≡ bytes ++ more) (len : ℕ) (len_is : len ≡ record_len bytes) (some : 0 < len) where
  long : 0 < record_len bytes
  long = omega (arith, len_is, some)

  pub frame-whole : record_len here ≡ len
  frame-whole = ap record_len stands ∙ (in-front bytes more long).0 ∙ sym len_is

  frame-says : framed_record here ≡ framed_record bytes
  frame-says = ap framed_record stands ∙ (in-front bytes more long).1

  -- it is the next
  pub frame-next : IsBytes bytes → (framed_record bytes).id ≡ s.first + count_of s → IsNext s len here
  frame-next fits id = record {
    some = some;
    whole = frame-whole;
    valid = subst IsRecord (sym frame-says) (framed-spells bytes long fits).valid;
    id = ap (λ (r : Record). r.id) frame-says ∙ id;
  }

  -- it is another
  pub frame-wrong : (framed_record bytes).id ≢ s.first + count_of s → IsWrongNext s here
  frame-wrong other = record { some = omega (arith, frame-whole, some); other = λ same. other (sym (ap (λ (r : Record). r.id) frame-says) ∙ same) }

-- ---- what is read

pub same-file : (old mid new : Reading) → IsSameFile old mid → IsSameFile mid new → IsSameFile old new
same-file old mid new one other = record { file = other.file ∙ one.file; first = other.first ∙ one.first; count = other.count ∙ one.count }

-- a damaged place of the same file
pub within-same : (old now : Reading) → IsSameFile old now → (all : List ℕ) (at : ℕ) → IsDamagedWithin now.segment.first now.count all at → IsDamagedWithin old.segment.first old.count all at
within-same old now same all at is =
    subst (λ (n : ℕ). IsDamagedWithin n old.count all at) same.first (subst (λ (n : ℕ). IsDamagedWithin now.segment.first n all at) same.count is)

-- one more frame was read, behind those of the segment
pub reading-passed : (r s : Reading) (len : ℕ) (all : List ℕ) → IsReadingOf r all → 0 < len → record_len (drop r.end all) ≡ len → IsWrongNext r.segment (drop r.segment.end all)
    → s.segment ≡ r.segment → s.frames ≡ r.frames + 1 → s.end ≡ r.end + len → IsReadingOf s all
reading-passed r s len all reading some stands wrong segment frames end = record {
  index = subst (λ (i : Index). IsIndexOf i all) (sym segment) reading.index;
  frames = frames-as r.frames r.end len s.frames s.end all reading.frames some stands frames end;
  wrong = λ more. subst (λ (i : Index). IsWrongNext i (drop i.end all)) (sym segment) wrong;
}

-- one more, and its record is the segment's
pub reading-noted : (r s : Reading) (len : ℕ) (all : List ℕ) → IsReadingOf r all → 0 < len → record_len (drop r.end all) ≡ len → IsIndexOf s.segment all → count_of r.segment ≡ r.frames → count_of s.segment ≡ count_of r.segment + 1
    → s.frames ≡ r.frames + 1 → s.end ≡ r.end + len → IsReadingOf s all
reading-noted r s len all reading some stands index all_right count frames end = record {
  index = index;
  frames = frames-as r.frames r.end len s.frames s.end all reading.frames some stands frames end;
  wrong = λ more. absurd (omega (arith, more, frames, count, all_right));
}

-- ---- what was found, once all was read

-- with no wrong id the segment has all
pub whole-found : (r : Reading) (all : List ℕ) → IsFit r → IsWholeReadingOf r all → count_of r.segment ≡ r.frames → IsWholeIndexOf r.segment all
whole-found r all fit wholly right = record { index = wholly.reading.index; none = ap (λ (n : ℕ). record_len (drop n all)) (fit.all right) ∙ wholly.none }

-- with fewer records than are counted, one of them is missing or another
pub few-found : (r : Reading) (first count : ℕ) (all : List ℕ) → IsFit r → IsWholeReadingOf r all → r.segment.first ≡ first → count_of r.segment < count → IsDamagedWithin first count all r.segment.end
few-found r first count all fit wholly first_is few =
    subst (λ (n : ℕ). IsDamagedWithin n count all r.segment.end) first_is (elim (cases_lt (count_of r.segment) r.frames) [
      | inl more ↦ wrong-within r.segment count all wholly.reading.index (wholly.reading.wrong more) few
      | inr most ↦ short-within r.segment count all (whole-found r all fit wholly (omega (arith, most, fit.more))) few
    ])

-- with more frames than records, another id stands behind those that are counted
pub more-found : (r : Reading) (first count : ℕ) (all : List ℕ) → IsWholeReadingOf r all → r.segment.first ≡ first → count ≤ count_of r.segment → count_of r.segment < r.frames → IsDamagedBehind first count all r.segment.end
more-found r first count all wholly first_is enough more =
    subst (λ (n : ℕ). IsDamagedBehind n count all r.segment.end) first_is (wrong-behind r.segment count all wholly.reading.index (wholly.reading.wrong more) enough)

-- how many frames there are
pub frames-found : (r : Reading) (all : List ℕ) → IsWholeReadingOf r all → r.frames ≡ length (records_in all)
frames-found r all wholly = frames-all r.frames r.end all wholly.reading.frames wholly.none

-- a place among those that a new reading counts
pub started-within : (r : Reading) (file first count : ℕ) (h : History) (at : ℕ) → r.segment.file ≡ file → r.segment.first ≡ first → r.count ≡ count
    → IsDamagedWithin r.segment.first r.count (h.now r.segment.file).reads at → IsDamagedWithin first count (h.now file).reads at
started-within r file first count h at file_is first_is count_is is =
    subst (λ (n : ℕ). IsDamagedWithin n count (h.now file).reads at) first_is
    (subst (λ (n : ℕ). IsDamagedWithin r.segment.first n (h.now file).reads at) count_is
    (subst (λ (q : ℕ). IsDamagedWithin r.segment.first r.count (h.now q).reads at) file_is is))
