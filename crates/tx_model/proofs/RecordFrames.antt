-- Frames with a length in front and a check behind: the one at the front rests on its own bytes alone.
use Rattle.std.proofs.Common.{◌≡◌, ◌⊎◌, inl, inr, ℕ, ◌+◌, ◌<◌, ◌≤◌, Bool, true, ◌&&◌, List, ◌++◌, length, take, drop, sym, ◌∙◌, ap, subst, arith, length-append}
use Rattle.std.specs.Prelude.{bytes_eq, nat_le, if◌then◌else◌}
use Rattle.std.specs.Int.{w32, from_be_bytes}
use Rattle.std.proofs.lemmas.Bool.{cases_Bool, and_from, and_parts, leb-true, le-leb}
use Rattle.std.proofs.lemmas.List.{take-take, drop-take, take-append-le, length-take-le}
use Rattle.tx_model.specs.Spelling.{check_of}
use Rattle.tx_model.specs.Reading.{length_in, body_in, is_record_length, is_meta_length, is_body, record_of}
use Rattle.tx_model.specs.Frames.{IsFrame, IsFraming}
use Rattle.tx_model.specs.Framing.{is_framed, frame_len, is_meta, record_len, framed_record, meta_len}

module _ (test : ℕ → Bool) (is_right : List ℕ → Bool) where
  -- the check that stands behind so many bytes is theirs
  abbrev has_check : ℕ → List ℕ → Bool
  has_check n bytes = bytes_eq (check_of (take (4 + n) bytes)) (take 8 (drop (4 + n) bytes))

  -- a whole and right frame stands at the front
  record Good (bytes : List ℕ) : Type 0 where
    four : 4 ≤ length bytes
    known : test (length_in bytes) ≡ true
    whole : 12 + length_in bytes ≤ length bytes
    check : has_check (length_in bytes) bytes ≡ true
    right : is_right (body_in bytes) ≡ true

  good_from : (bytes : List ℕ) → (is_framed test bytes && is_right (body_in bytes)) ≡ true → Good bytes
  good_from bytes is =
      let n = length_in bytes in
      let both = and_parts (is_framed test bytes) (is_right (body_in bytes)) is in
      let a = and_parts (nat_le 4 (length bytes)) (test n && (nat_le (12 + n) (length bytes) && has_check n bytes)) both.0 in
      let b = and_parts (test n) (nat_le (12 + n) (length bytes) && has_check n bytes) a.1 in
      let c = and_parts (nat_le (12 + n) (length bytes)) (has_check n bytes) b.1 in
      record { four = leb-true 4 (length bytes) a.0; known = b.0; whole = leb-true (12 + n) (length bytes) c.0; check = c.1; right = both.1 }

  good_test : (bytes : List ℕ) → Good bytes → (is_framed test bytes && is_right (body_in bytes)) ≡ true
  good_test bytes good =
      let n = length_in bytes in
      and_from (is_framed test bytes) (is_right (body_in bytes))
      (and_from (nat_le 4 (length bytes)) (test n && (nat_le (12 + n) (length bytes) && has_check n bytes)) (le-leb 4 (length bytes) good.four)
      (and_from (test n) (nat_le (12 + n) (length bytes) && has_check n bytes) good.known
      (and_from (nat_le (12 + n) (length bytes)) (has_check n bytes) (le-leb (12 + n) (length bytes) good.whole) good.check)))
      good.right

  -- so long is it
  len_of : (bytes : List ℕ) → Good bytes → frame_len test is_right bytes ≡ 12 + length_in bytes
  len_of bytes good = ap (λ (b : Bool). if b then 12 + length_in bytes else 0) (good_test bytes good)

  good_or_none : (bytes : List ℕ) → Good bytes ⊎ (frame_len test is_right bytes ≡ 0)
  good_or_none bytes = elim (cases_Bool (is_framed test bytes && is_right (body_in bytes))) [
    | inl is ↦ inl (good_from bytes is)
    | inr not ↦ inr (ap (λ (b : Bool). if b then 12 + length_in bytes else 0) not)
  ]

  good_of : (bytes : List ℕ) → 0 < frame_len test is_right bytes → Good bytes
  good_of bytes some = elim (good_or_none bytes) [ inl good ↦ good | inr none ↦ absurd (omega (arith, some, none)) ]

  -- other bytes that begin with the same frame
  module _ (bytes other : List ℕ) (good : Good bytes) (enough : 12 + length_in bytes ≤ length other) (same : take (12 + length_in bytes) other ≡ take (12 + length_in bytes) bytes) where
    front : (k : ℕ) → k ≤ 12 + length_in bytes → take k other ≡ take k bytes
    front k few = sym (take-take k (12 + length_in bytes) other few) ∙ ap (λ (l : List ℕ). take k l) same ∙ take-take k (12 + length_in bytes) bytes few

    part : (from n : ℕ) → from + n ≤ 12 + length_in bytes → take n (drop from other) ≡ take n (drop from bytes)
    part from n few = sym (drop-take from n other) ∙ ap (λ (l : List ℕ). drop from l) (front (from + n) few) ∙ drop-take from n bytes

    length_same : length_in other ≡ length_in bytes
    length_same = ap (λ (l : List ℕ). from_be_bytes w32 l) (front 4 (omega arith))

    check_same : has_check (length_in bytes) other ≡ has_check (length_in bytes) bytes
    check_same =
        ap (λ (l : List ℕ). bytes_eq (check_of l) (take 8 (drop (4 + length_in bytes) other))) (front (4 + length_in bytes) (omega arith))
        ∙ ap (λ (l : List ℕ). bytes_eq (check_of (take (4 + length_in bytes) bytes)) l) (part (4 + length_in bytes) 8 (omega arith))

    body_same : body_in other ≡ body_in bytes
    body_same = ap (λ (n : ℕ). take n (drop 4 other)) length_same ∙ part 4 (length_in bytes) (omega arith)

    good_other : Good other
    good_other = record {
      four = omega (arith, enough);
      known = subst (λ (n : ℕ). test n ≡ true) (sym length_same) good.known;
      whole = omega (arith, enough, length_same);
      check = subst (λ (n : ℕ). has_check n other ≡ true) (sym length_same) (check_same ∙ good.check);
      right = subst (λ (l : List ℕ). is_right l ≡ true) (sym body_same) good.right;
    }

    len_other : frame_len test is_right other ≡ frame_len test is_right bytes
    len_other = len_of other good_other ∙ ap (λ (n : ℕ). 12 + n) length_same ∙ sym (len_of bytes good)

  pub frame_len-framing : IsFraming (frame_len test is_right)
  frame_len-framing = record {
    fits = λ bs. elim (good_or_none bs) [
      | inl good ↦ omega (arith, len_of bs good, good.whole)
      | inr none ↦ omega (arith, none)
    ];
    alone = λ f rest is.
        let good = good_of f (omega (arith, is.some, is.whole)) in
        let n : 12 + length_in f ≡ length f = sym (len_of f good) ∙ is.whole in
        len_other f (f ++ rest) good (omega (arith, n, length-append f rest)) (take-append-le (12 + length_in f) f rest (omega (arith, n))) ∙ is.whole;
    front = λ bs some.
        let good = good_of bs some in
        let n = len_of bs good in
        let long : length (take (frame_len test is_right bs) bs) ≡ frame_len test is_right bs = length-take-le (frame_len test is_right bs) bs (omega (arith, n, good.whole)) in
        len_other bs (take (frame_len test is_right bs) bs) good (omega (arith, n, long)) (take-take (12 + length_in bs) (frame_len test is_right bs) bs (omega (arith, n)));
  }

  -- what follows a frame is no part of its body
  pub body-alone : (f rest : List ℕ) → IsFrame (frame_len test is_right) f → body_in (f ++ rest) ≡ body_in f
  body-alone f rest is =
      let good = good_of f (omega (arith, is.some, is.whole)) in
      let n : 12 + length_in f ≡ length f = sym (len_of f good) ∙ is.whole in
      body_same f (f ++ rest) good (omega (arith, n, length-append f rest)) (take-append-le (12 + length_in f) f rest (omega (arith, n)))

-- records' frames
pub record_framing : IsFraming record_len
unfolding record_len
record_framing = frame_len-framing is_record_length is_body

-- entries' frames
pub meta_framing : IsFraming meta_len
unfolding meta_len
meta_framing = frame_len-framing is_meta_length is_meta

-- a frame holds the same record, whatever follows
pub framed_record-alone : (f rest : List ℕ) → IsFrame record_len f → framed_record (f ++ rest) ≡ framed_record f
unfolding record_len framed_record
framed_record-alone f rest is = ap record_of (body-alone is_record_length is_body f rest is)
