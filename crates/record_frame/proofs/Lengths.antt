-- The length of the frame at the front is the one that reading answers.
use Rattle.std.proofs.Common.{◌≡◌, ℕ, ◌+◌, ◌≤◌, inl, inr, Bool, true, false, List, length, take, drop, Option, Some, None, Result, Ok, refl, sym, ap, ◌∙◌, subst, arith}
use Rattle.std.specs.Prelude.{nat_le, bytes_eq, is_some, ◌&&◌, if◌then◌else◌}
use Rattle.std.proofs.lemmas.Bool.{and_from, le-leb, leb-true, cases_Bool}
use Rattle.std.proofs.lemmas.Slice.Eq.{bytes_eq-Decides}
use Rattle.tx_model.specs.Spelling.{check_of}
use Rattle.tx_model.specs.Reading.{length_in, body_in, is_record_length, is_meta_length, is_body, record_of, record_in, meta_in}
use Rattle.tx_model.specs.Framing.{is_framed, frame_len, is_meta, record_len, meta_len}
use Rattle.record_frame.specs.declared.fault.FrameFault.{FrameFault}
use Rattle.record_frame.specs.Reading.{with_frame_length, if_framed, value_at, read_length, record_at, meta_at}
use Rattle.record_frame.proofs.Frames.{length-body_in}
use Rattle.record_frame.proofs.Values.{FrameRow, no_length, out_of_range, part_alone, wrong_check, right_check, frame_row}

module _ {V : Type 0} (test : ℕ → Bool) (value_of : List ℕ → Option V) (is_right : List ℕ → Bool) (same : (body : List ℕ) → is_right body ≡ is_some (value_of body)) (bytes : List ℕ) where
  abbrev check_is : Bool
  check_is = bytes_eq (check_of (take (4 + length_in bytes) bytes)) (take 8 (drop (4 + length_in bytes) bytes))

  abbrev len : ℕ
  len = frame_len test is_right bytes

  none : (b : Bool) → b ≡ false → (if b then 12 + length_in bytes else 0) ≡ 0
  none true e = absurd cc
  none false e = refl

  not_whole : is_framed test bytes ≡ false → len ≡ 0
  not_whole e = none (is_framed test bytes && is_right (body_in bytes)) (ap (λ (b : Bool). b && is_right (body_in bytes)) e)

  -- a test that fails, whichever it is
  fails : (a b c d : Bool) → (a ≡ true → b ≡ true → c ≡ true → d ≡ true → ⊥) → (a && (b && (c && d))) ≡ false
  fails true true true true no_all = absurd (no_all refl refl refl refl)
  fails true true true false no_all = refl
  fails true true false d no_all = refl
  fails true false c d no_all = refl
  fails false b c d no_all = refl

  fails_by : (nat_le 4 (length bytes) ≡ true → test (length_in bytes) ≡ true → nat_le (12 + length_in bytes) (length bytes) ≡ true → check_is ≡ true → ⊥) → len ≡ 0
  fails_by all = not_whole (fails (nat_le 4 (length bytes)) (test (length_in bytes)) (nat_le (12 + length_in bytes) (length bytes)) check_is all)

  found : (o : Option V) → value_of (body_in bytes) ≡ o → is_framed test bytes ≡ true → length (body_in bytes) ≡ length_in bytes → len ≡ read_length (if_framed value_of (Ok (body_in bytes)))
  found (Some v) e framed long =
      let right : is_right (body_in bytes) ≡ true = same (body_in bytes) ∙ ap is_some e in
      let here : len ≡ 12 + length_in bytes = ap (λ (b : Bool). if b then 12 + length_in bytes else 0) (and_from (is_framed test bytes) (is_right (body_in bytes)) framed right) in
      subst (λ (z : Option V). len ≡ read_length (with_frame_length (length (body_in bytes)) z)) (sym e) (here ∙ ap (λ (n : ℕ). 12 + n) (sym long))
  found None e framed long =
      let wrong : is_right (body_in bytes) ≡ false = same (body_in bytes) ∙ ap is_some e in
      let here : len ≡ 0 = none (is_framed test bytes && is_right (body_in bytes)) (ap (λ (b : Bool). is_framed test bytes && b) wrong ∙ falls (is_framed test bytes)) in
      subst (λ (z : Option V). len ≡ read_length (with_frame_length (length (body_in bytes)) z)) (sym e) here
    where
      falls : (b : Bool) → (b && false) ≡ false
      falls true = refl
      falls false = refl

  row_len : (z : Result (List ℕ) FrameFault) → FrameRow test bytes z → len ≡ read_length (if_framed value_of z)
  row_len z (no_length few) = fails_by (λ a b c d. let long : 4 ≤ length bytes = leb-true 4 (length bytes) a in omega arith)
  row_len z (out_of_range long out) = fails_by (λ a b c d. cc)
  row_len z (part_alone long in_range few) = fails_by (λ a b c d. let whole : 12 + length_in bytes ≤ length bytes = leb-true (12 + length_in bytes) (length bytes) c in omega arith)
  row_len z (wrong_check in_range whole wrong) = fails_by (λ a b c d. wrong ((bytes_eq-Decides _ _).0 d))
  row_len z (right_check in_range whole right) =
      let long : nat_le 4 (length bytes) ≡ true = le-leb 4 (length bytes) (omega arith) in
      let fits : nat_le (12 + length_in bytes) (length bytes) ≡ true = le-leb (12 + length_in bytes) (length bytes) whole in
      let checked : check_is ≡ true = (bytes_eq-Decides _ _).1 right in
      let framed : is_framed test bytes ≡ true = and_from (nat_le 4 (length bytes)) _ long (and_from (test (length_in bytes)) _ in_range (and_from (nat_le (12 + length_in bytes) (length bytes)) check_is fits checked)) in
      found (value_of (body_in bytes)) refl framed (length-body_in bytes whole)

  pub read_len : len ≡ read_length (value_at test value_of bytes)
  unfolding value_at
  read_len = row_len _ (frame_row test bytes)

right_record : (body : List ℕ) → is_body body ≡ is_some (record_in body)
right_record body = elim (cases_Bool (is_body body)) [
  | inl is ↦ is ∙ sym (ap (λ (b : Bool). is_some (if b then Some (record_of body) else None)) is)
  | inr none ↦ none ∙ sym (ap (λ (b : Bool). is_some (if b then Some (record_of body) else None)) none)
]

pub record_len-read : (bytes : List ℕ) → record_len bytes ≡ read_length (record_at bytes)
unfolding record_len
record_len-read bytes = read_len is_record_length record_in is_body right_record bytes

pub meta_len-read : (bytes : List ℕ) → meta_len bytes ≡ read_length (meta_at bytes)
unfolding meta_len
meta_len-read bytes = read_len is_meta_length meta_in is_meta (λ body. refl) bytes
