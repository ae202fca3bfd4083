-- Values in frames, whatever a body spells: what is read is spelled so, what is spelled is read, and each fault comes by
-- its cause.
use Rattle.std.proofs.Common.{◌≡◌, ℕ, ◌+◌, ◌^◌, ◌<◌, ◌≤◌, inl, inr, Bool, true, false, cond, not, nat_lt, List, ◌++◌, length, take, drop, Option, Some, None, Result, Ok, Err, refl, sym, ap, ◌∙◌, subst, arith}
use Rattle.std.specs.Prelude.{◌↔◌, bytes_eq}
use Rattle.std.specs.Int.{w32, from_be_bytes}
use Rattle.std.proofs.lemmas.Bool.{ltb-true, ltb-false, le-ltb}
use Rattle.std.proofs.lemmas.List.{take-take, drop-take}
use Rattle.std.proofs.lemmas.Slice.Eq.{bytes_eq-Decides}
use Rattle.tx_model.specs.Spelling.{Spells, check_of, frame}
use Rattle.record_frame.specs.declared.fault.FrameFault.{FrameFault}
use Rattle.record_frame.specs.declared.fault.FrameFault.TheVariants.{Short, Bad, Memory}
use Rattle.tx_model.specs.Reading.{number, length_in, body_in}
use Rattle.record_frame.specs.Reading.{frame_at, with_frame_length, if_framed, value_at, BeginsWith}
use Rattle.record_frame.specs.Faults.{IsShort, IsWhole, IsRight, IsBadAt}
use Rattle.record_frame.proofs.Parts.{IsBytes, IsBytes-take, IsBytes-drop}
use Rattle.record_frame.proofs.Frames.{length-body_in, frame-spelled, frame-read, length-frame, chosen}

abbrev pub done : {A : Type 0} → A → Result A FrameFault
done x = Ok x

abbrev pub failed : {A : Type 0} → FrameFault → Result A FrameFault
failed e = Err e

same_done : {A : Type 0} (x y : A) → done x ≡ done y → x ≡ y
same_done x y e = cc

same_place : {A : Type 0} (m n : ℕ) → failed {A = A} (Bad m) ≡ failed (Bad n) → m ≡ n
same_place m n e = cc

-- a test that let a value through
pub tested : {A : Type 0} (b : Bool) (x y : A) → cond b (Some x) None ≡ Some y → (b ≡ true) × (x ≡ y)
tested true x y e = (refl, cc)
tested false x y e = absurd cc

-- ---- the rows of frame_at

-- what stands at the front, and what is answered for it
pub data FrameRow (test : ℕ → Bool) (bytes : List ℕ) : Result (List ℕ) FrameFault → Type 0 where
  no_length : length bytes < 4 → FrameRow test bytes (Err Short)
  out_of_range : 4 ≤ length bytes → test (length_in bytes) ≡ false → FrameRow test bytes (Err (Bad 0))
  part_alone : 4 ≤ length bytes → test (length_in bytes) ≡ true → length bytes < 12 + length_in bytes → FrameRow test bytes (Err Short)
  wrong_check : test (length_in bytes) ≡ true → 12 + length_in bytes ≤ length bytes → ¬ IsRight bytes → FrameRow test bytes (Err (Bad (4 + length_in bytes)))
  right_check : test (length_in bytes) ≡ true → 12 + length_in bytes ≤ length bytes → IsRight bytes → FrameRow test bytes (Ok (body_in bytes))

module _ (test : ℕ → Bool) (bytes : List ℕ) where
  check_row : (b : Bool) → bytes_eq (check_of (take (4 + length_in bytes) bytes)) (take 8 (drop (4 + length_in bytes) bytes)) ≡ b → test (length_in bytes) ≡ true → 12 + length_in bytes ≤ length bytes → FrameRow test bytes (cond (not b) (Err (Bad (4 + length_in bytes))) (Ok (body_in bytes)))
  check_row true e in_range whole = right_check in_range whole ((bytes_eq-Decides _ _).0 e)
  check_row false e in_range whole = wrong_check in_range whole (λ right. let same = (bytes_eq-Decides _ _).1 right in absurd cc)

  whole_row : (b : Bool) → nat_lt (length bytes) (12 + length_in bytes) ≡ b → 4 ≤ length bytes → test (length_in bytes) ≡ true → FrameRow test bytes (cond b (Err Short) (cond (not (bytes_eq (check_of (take (4 + length_in bytes) bytes)) (take 8 (drop (4 + length_in bytes) bytes)))) (Err (Bad (4 + length_in bytes))) (Ok (body_in bytes))))
  whole_row true e long in_range = part_alone long in_range (ltb-true _ _ e)
  whole_row false e long in_range = check_row _ refl in_range (ltb-false _ _ e)

  range_row : (b : Bool) → test (length_in bytes) ≡ b → 4 ≤ length bytes → FrameRow test bytes (cond (not b) (Err (Bad 0)) (cond (nat_lt (length bytes) (12 + length_in bytes)) (Err Short) (cond (not (bytes_eq (check_of (take (4 + length_in bytes) bytes)) (take 8 (drop (4 + length_in bytes) bytes)))) (Err (Bad (4 + length_in bytes))) (Ok (body_in bytes)))))
  range_row true e long = whole_row _ refl long e
  range_row false e long = out_of_range long e

  first_row : (b : Bool) → nat_lt (length bytes) 4 ≡ b → FrameRow test bytes (cond b (Err Short) (cond (not (test (length_in bytes))) (Err (Bad 0)) (cond (nat_lt (length bytes) (12 + length_in bytes)) (Err Short) (cond (not (bytes_eq (check_of (take (4 + length_in bytes) bytes)) (take 8 (drop (4 + length_in bytes) bytes)))) (Err (Bad (4 + length_in bytes))) (Ok (body_in bytes))))))
  first_row true e = no_length (ltb-true _ _ e)
  first_row false e = range_row _ refl (ltb-false _ _ e)

  pub frame_row : FrameRow test bytes (frame_at test bytes)
  unfolding frame_at
  frame_row = first_row _ refl

-- ---- a format of bodies

-- how values are spelled in bodies, and how bodies are read
pub record IsFormat {V : Type 0} (IsLength : ℕ → Type 0) (IsValid : V → Type 0) (spelling : V → List ℕ) (test : ℕ → Bool) (value_of : List ℕ → Option V) : Type 0 where
  -- the test of a length
  pub passes : (n : ℕ) → IsLength n → test n ≡ true
  pub tells : (n : ℕ) → test n ≡ true → IsLength n
  pub below : (n : ℕ) → IsLength n → n < 2 ^ 32
  -- what a body spells
  pub fits : (v : V) → IsValid v → IsLength (length (spelling v))
  pub spelled : (body : List ℕ) (v : V) → value_of body ≡ Some v → IsBytes body → Spells IsValid spelling body v
  pub read : (v : V) → IsValid v → value_of (spelling v) ≡ Some v

module _ {V : Type 0} (IsLength : ℕ → Type 0) (IsValid : V → Type 0) (spelling : V → List ℕ) (test : ℕ → Bool) (value_of : List ℕ → Option V) (format : IsFormat IsLength IsValid spelling test value_of) where
  -- ---- what is spelled is read

  pub value_at-read : (v : V) (spelled rest : List ℕ) → Spells IsValid (λ w. frame (spelling w)) spelled v → value_at test value_of (spelled ++ rest) ≡ Ok (v, length spelled)
  unfolding value_at
  value_at-read v spelled rest is =
      let body = spelling v in
      let in_range = format.fits v is.valid in
      let framed = frame-read test body rest (format.passes _ in_range) (format.below _ in_range) in
      let len : 12 + length body ≡ length spelled = sym (ap length is.spelled ∙ length-frame body) in
      ap (λ (l : List ℕ). if_framed value_of (frame_at test (l ++ rest))) is.spelled ∙ ap (if_framed value_of) framed ∙ ap (with_frame_length (length body)) (format.read v is.valid) ∙ ap (λ (n : ℕ). done (v, n)) len

  pub one_spelling : (a b x y : List ℕ) (v w : V) → Spells IsValid (λ u. frame (spelling u)) a v → Spells IsValid (λ u. frame (spelling u)) b w → a ++ x ≡ b ++ y → (v ≡ w) × (a ≡ b)
  one_spelling a b x y v w p q e =
      let both : (v, length a) ≡ (w, length b) = same_done (v, length a) (w, length b) (sym (value_at-read v a x p) ∙ ap (value_at test value_of) e ∙ value_at-read w b y q) in
      let same : v ≡ w = ap (λ (z : V × ℕ). z.0) both in
      (same, p.spelled ∙ ap (λ (z : V). frame (spelling z)) same ∙ sym q.spelled)

  -- ---- what is read is spelled so

  -- what stands at the front, and what is read of it
  pub data Row (bytes : List ℕ) : Result (V × ℕ) FrameFault → Type 0 where
    unknown : length bytes < 4 → Row bytes (Err Short)
    unfit : 4 ≤ length bytes → ¬ IsLength (length_in bytes) → Row bytes (Err (Bad 0))
    part : 4 ≤ length bytes → IsLength (length_in bytes) → length bytes < 12 + length_in bytes → Row bytes (Err Short)
    wrong : IsWhole IsLength bytes → ¬ IsRight bytes → Row bytes (Err (Bad (4 + length_in bytes)))
    no_body : IsWhole IsLength bytes → IsRight bytes → ((v : V) → Spells IsValid spelling (body_in bytes) v → ⊥) → Row bytes (Err (Bad 4))
    value : (v : V) → IsWhole IsLength bytes → IsRight bytes → value_of (body_in bytes) ≡ Some v → Row bytes (Ok (v, 12 + length (body_in bytes)))

  body_row : (bytes : List ℕ) (o : Option V) → value_of (body_in bytes) ≡ o → IsWhole IsLength bytes → IsRight bytes → Row bytes (with_frame_length (length (body_in bytes)) o)
  body_row bytes (Some v) e whole right = value v whole right e
  body_row bytes None e whole right = no_body whole right none
    where
      none : (v : V) → Spells IsValid spelling (body_in bytes) v → ⊥
      none v is = let some = ap value_of is.spelled ∙ format.read v is.valid in absurd cc

  whole : (bytes : List ℕ) → test (length_in bytes) ≡ true → 12 + length_in bytes ≤ length bytes → IsWhole IsLength bytes
  whole bytes in_range long = record { in_range = format.tells _ in_range; whole = long }

  row_of_frame : (bytes : List ℕ) (r : Result (List ℕ) FrameFault) → FrameRow test bytes r → Row bytes (if_framed value_of r)
  row_of_frame bytes r (no_length a) = unknown a
  row_of_frame bytes r (out_of_range a b) = unfit a (λ is. let yes = format.passes _ is in absurd cc)
  row_of_frame bytes r (part_alone a b c) = part a (format.tells _ b) c
  row_of_frame bytes r (wrong_check a b c) = wrong (whole bytes a b) c
  row_of_frame bytes r (right_check a b c) = body_row bytes (value_of (body_in bytes)) refl (whole bytes a b) c

  pub row : (bytes : List ℕ) → Row bytes (value_at test value_of bytes)
  unfolding value_at
  row bytes = row_of_frame bytes (frame_at test bytes) (frame_row test bytes)

  -- what a body spells, where a whole and right frame holds it
  body-spelled : (bytes : List ℕ) (v : V) → value_of (body_in bytes) ≡ Some v → IsBytes bytes → Spells IsValid spelling (body_in bytes) v
  body-spelled bytes v e fits = format.spelled (body_in bytes) v e (IsBytes-take (length_in bytes) (drop 4 bytes) (IsBytes-drop 4 bytes fits))

  value-spelled : (bytes : List ℕ) (v : V) → IsWhole IsLength bytes → IsRight bytes → value_of (body_in bytes) ≡ Some v → IsBytes bytes → BeginsWith (Spells IsValid (λ w. frame (spelling w))) bytes v (12 + length (body_in bytes))
  value-spelled bytes v is right e fits =
      let body = body-spelled bytes v e fits in
      let whole = is.whole in
      let len = length-body_in bytes whole in
      record {
        within = omega arith;
        spelled = record { valid = body.valid; spelled = frame-spelled bytes whole right fits ∙ ap frame body.spelled };
      }

  pub found : (bytes : List ℕ) (z : Result (V × ℕ) FrameFault) (x : V × ℕ) → Row bytes z → z ≡ Ok x → IsBytes bytes → BeginsWith (Spells IsValid (λ v. frame (spelling v))) bytes x.0 x.1
  found bytes z x (unknown a) e fits = absurd cc
  found bytes z x (unfit a b) e fits = absurd cc
  found bytes z x (part a b c) e fits = absurd cc
  found bytes z x (wrong a b) e fits = absurd cc
  found bytes z x (no_body a b c) e fits = absurd cc
  found bytes z x (value v a b c) e fits = subst (λ (y : V × ℕ). BeginsWith (Spells IsValid (λ w. frame (spelling w))) bytes y.0 y.1) (same_done _ _ e) (value-spelled bytes v a b c fits)

  pub value_at-spelled : (bytes : List ℕ) (x : V × ℕ) → value_at test value_of bytes ≡ Ok x → IsBytes bytes → BeginsWith (Spells IsValid (λ v. frame (spelling v))) bytes x.0 x.1
  value_at-spelled bytes x e fits = found bytes _ x (row bytes) e fits

  -- ---- each fault by its cause

  short_is : (bytes : List ℕ) (z : Result (V × ℕ) FrameFault) → Row bytes z → z ≡ Err Short → IsShort IsLength bytes
  short_is bytes z (unknown a) e = inl a
  short_is bytes z (unfit a b) e = absurd cc
  short_is bytes z (part a b c) e = inr (a, b, c)
  short_is bytes z (wrong a b) e = absurd cc
  short_is bytes z (no_body a b c) e = absurd cc
  short_is bytes z (value v a b c) e = absurd cc

  is_short : (bytes : List ℕ) (z : Result (V × ℕ) FrameFault) → Row bytes z → IsShort IsLength bytes → z ≡ Err Short
  is_short bytes z (unknown a) h = refl
  is_short bytes z (unfit a b) (inl h) = absurd (omega arith)
  is_short bytes z (unfit a b) (inr h) = absurd (b h.1)
  is_short bytes z (part a b c) h = refl
  is_short bytes z (wrong a b) (inl h) = absurd (omega arith)
  is_short bytes z (wrong a b) (inr h) = absurd (omega (arith, a.whole, h.2))
  is_short bytes z (no_body a b c) (inl h) = absurd (omega arith)
  is_short bytes z (no_body a b c) (inr h) = absurd (omega (arith, a.whole, h.2))
  is_short bytes z (value v a b c) (inl h) = absurd (omega arith)
  is_short bytes z (value v a b c) (inr h) = absurd (omega (arith, a.whole, h.2))

  pub short_exactly : (bytes : List ℕ) → (value_at test value_of bytes ≡ Err Short) ↔ IsShort IsLength bytes
  short_exactly bytes = (short_is bytes _ (row bytes), is_short bytes _ (row bytes))

  bad_is : (bytes : List ℕ) (at : ℕ) (z : Result (V × ℕ) FrameFault) → Row bytes z → z ≡ Err (Bad at) → IsBadAt IsLength (λ body. (v : V) × Spells IsValid spelling body v) bytes at
  bad_is bytes at z (unknown a) e = absurd cc
  bad_is bytes at z (unfit a b) e = inl (sym (same_place {A = V × ℕ} 0 at e), a, b)
  bad_is bytes at z (part a b c) e = absurd cc
  bad_is bytes at z (wrong a b) e = inr (inl (sym (same_place {A = V × ℕ} _ at e), a, b))
  bad_is bytes at z (no_body a b c) e = inr (inr (sym (same_place {A = V × ℕ} 4 at e), a, b, λ is. c is.0 is.1))
  bad_is bytes at z (value v a b c) e = absurd cc

  is_bad : (bytes : List ℕ) (at : ℕ) (z : Result (V × ℕ) FrameFault) → IsBytes bytes → Row bytes z → IsBadAt IsLength (λ body. (v : V) × Spells IsValid spelling body v) bytes at → z ≡ Err (Bad at)
  is_bad bytes at z fits (unknown a) (inl h) = absurd (omega (arith, h.1))
  is_bad bytes at z fits (unknown a) (inr (inl h)) = absurd (omega (arith, h.1.whole))
  is_bad bytes at z fits (unknown a) (inr (inr h)) = absurd (omega (arith, h.1.whole))
  is_bad bytes at z fits (unfit a b) (inl h) = ap (λ (n : ℕ). failed (Bad n)) (sym h.0)
  is_bad bytes at z fits (unfit a b) (inr (inl h)) = absurd (b h.1.in_range)
  is_bad bytes at z fits (unfit a b) (inr (inr h)) = absurd (b h.1.in_range)
  is_bad bytes at z fits (part a b c) (inl h) = absurd (h.2 b)
  is_bad bytes at z fits (part a b c) (inr (inl h)) = absurd (omega (arith, h.1.whole))
  is_bad bytes at z fits (part a b c) (inr (inr h)) = absurd (omega (arith, h.1.whole))
  is_bad bytes at z fits (wrong a b) (inl h) = absurd (h.2 a.in_range)
  is_bad bytes at z fits (wrong a b) (inr (inl h)) = ap (λ (n : ℕ). failed (Bad n)) (sym h.0)
  is_bad bytes at z fits (wrong a b) (inr (inr h)) = absurd (b h.2)
  is_bad bytes at z fits (no_body a b c) (inl h) = absurd (h.2 a.in_range)
  is_bad bytes at z fits (no_body a b c) (inr (inl h)) = absurd (h.2 b)
  is_bad bytes at z fits (no_body a b c) (inr (inr h)) = ap (λ (n : ℕ). failed (Bad n)) (sym h.0)
  is_bad bytes at z fits (value v a b c) (inl h) = absurd (h.2 a.in_range)
  is_bad bytes at z fits (value v a b c) (inr (inl h)) = absurd (h.2 b)
  is_bad bytes at z fits (value v a b c) (inr (inr h)) = absurd (h.3 (v, body-spelled bytes v c fits))

  pub bad_exactly : (bytes : List ℕ) (at : ℕ) → IsBytes bytes → (value_at test value_of bytes ≡ Err (Bad at)) ↔ IsBadAt IsLength (λ body. (v : V) × Spells IsValid spelling body v) bytes at
  bad_exactly bytes at fits = (bad_is bytes at _ (row bytes), is_bad bytes at _ fits (row bytes))

  no_memory : (bytes : List ℕ) (z : Result (V × ℕ) FrameFault) → Row bytes z → z ≡ Err Memory → ⊥
  no_memory bytes z (unknown a) e = cc
  no_memory bytes z (unfit a b) e = cc
  no_memory bytes z (part a b c) e = cc
  no_memory bytes z (wrong a b) e = cc
  no_memory bytes z (no_body a b c) e = cc
  no_memory bytes z (value v a b c) e = cc

  pub never_memory : (bytes : List ℕ) → value_at test value_of bytes ≡ Err Memory → ⊥
  never_memory bytes e = no_memory bytes _ (row bytes) e

  -- ---- what is read rests on the frame alone

  same_front : (bytes other : List ℕ) → IsWhole IsLength bytes → IsRight bytes → 12 + length_in bytes ≤ length other → take (12 + length_in bytes) other ≡ take (12 + length_in bytes) bytes → frame_at test other ≡ Ok (body_in bytes)
  same_front bytes other is right enough alike =
      let n = length_in bytes in
      let cut : (k : ℕ) → k ≤ 12 + n → take k other ≡ take k bytes = λ k le. sym (take-take k (12 + n) other le) ∙ ap (λ (l : List ℕ). take k l) alike ∙ take-take k (12 + n) bytes le in
      let four : number w32 0 other ≡ n = ap (λ (l : List ℕ). from_be_bytes w32 l) (cut 4 (omega arith)) in
      let front : take (4 + n) other ≡ take (4 + n) bytes = cut (4 + n) (omega arith) in
      let check : take 8 (drop (4 + n) other) ≡ take 8 (drop (4 + n) bytes) = sym (drop-take (4 + n) 8 other) ∙ ap (λ (l : List ℕ). drop (4 + n) l) (cut ((4 + n) + 8) (omega arith)) ∙ drop-take (4 + n) 8 bytes in
      let body : take n (drop 4 other) ≡ body_in bytes = sym (drop-take 4 n other) ∙ ap (λ (l : List ℕ). drop 4 l) (cut (4 + n) (omega arith)) ∙ drop-take 4 n bytes in
      chosen test other (body_in bytes) n four (le-ltb _ _ (omega arith)) (format.passes n is.in_range) (le-ltb _ _ enough) (rw (front, check) ((bytes_eq-Decides _ _).1 right)) body

  pub record IsAlone (bytes : List ℕ) (x : V × ℕ) : Type 0 where
    pub within : x.1 ≤ length bytes
    pub alone : (other : List ℕ) → x.1 ≤ length other → take x.1 other ≡ take x.1 bytes → value_at test value_of other ≡ Ok x

  value_alone : (bytes : List ℕ) (v : V) → IsWhole IsLength bytes → IsRight bytes → value_of (body_in bytes) ≡ Some v → IsAlone bytes (v, 12 + length (body_in bytes))
  unfolding value_at
  value_alone bytes v is right e =
      let whole = is.whole in
      let len = length-body_in bytes whole in
      record {
        within = omega arith;
        alone = λ other enough alike.
            let longer : take (12 + length_in bytes) other ≡ take (12 + length_in bytes) bytes = ap (λ (k : ℕ). take (12 + k) other) (sym len) ∙ alike ∙ ap (λ (k : ℕ). take (12 + k) bytes) len in
            ap (if_framed value_of) (same_front bytes other is right (omega arith) longer) ∙ ap (with_frame_length (length (body_in bytes))) e;
      }

  row_alone : (bytes : List ℕ) (z : Result (V × ℕ) FrameFault) (x : V × ℕ) → Row bytes z → z ≡ Ok x → IsAlone bytes x
  row_alone bytes z x (unknown a) e = absurd cc
  row_alone bytes z x (unfit a b) e = absurd cc
  row_alone bytes z x (part a b c) e = absurd cc
  row_alone bytes z x (wrong a b) e = absurd cc
  row_alone bytes z x (no_body a b c) e = absurd cc
  row_alone bytes z x (value v a b c) e = subst (λ (y : V × ℕ). IsAlone bytes y) (same_done _ _ e) (value_alone bytes v a b c)

  pub value_at-alone : (bytes : List ℕ) (x : V × ℕ) → value_at test value_of bytes ≡ Ok x → IsAlone bytes x
  value_at-alone bytes x e = row_alone bytes _ x (row bytes) e
