-- The format of meta entries: its bodies are read exactly as they are spelled, and so its frames are.
use Rattle.std.proofs.Common.{◌≡◌, ◌≢◌, ℕ, ◌+◌, ◌^◌, ◌<◌, ◌≤◌, ◌⊎◌, inl, inr, Bool, true, false, cond, ◌||◌, List, [], ◌∷◌, ◌++◌, length, drop, Option, Some, None, Ok, Err, refl, ap, ◌∙◌, subst, length-drop, arith}
use Rattle.std.specs.Prelude.{slice_index, ◌==◌, ◌↔◌}
use Rattle.std.specs.Int.{w32, w64, to_be_bytes}
use Rattle.std.proofs.lemmas.Bool.{ltb-true, leb-true, le-leb, lt-ltb, eqb-true}
use Rattle.std.proofs.lemmas.List.{nil_from_length, append-nil}
use Rattle.std.proofs.lemmas.Nat.{from_be_bytes-to_be_bytes_4, from_be_bytes-to_be_bytes_8}
use Rattle.tx_model.specs.declared.meta.Meta.{Meta}
use Rattle.tx_model.specs.declared.meta.Meta.TheVariants.{Promise, Adopt, Low, Roll, Value}
use Rattle.tx_model.specs.Spelling.{meta_body, IsMeta, IsNextPlace, SpellsMetaBody, SpellsMeta}
use Rattle.record_frame.specs.declared.fault.FrameFault.TheVariants.{Short, Bad, Memory}
use Rattle.tx_model.specs.Reading.{number, is_meta_length, is_place, is_next_place, is_count, promise_in, low_in, value_in, one_number, is_roll, roll_of, roll_in, is_adopt, adopt_of, adopt_in, meta_in}
use Rattle.record_frame.specs.Reading.{meta_at, BeginsWith}
use Rattle.record_frame.specs.Faults.{IsMetaLength, IsMetaBody, IsShort, IsBadAt}
use Rattle.record_frame.proofs.Names.{and_2}
use Rattle.record_frame.proofs.Parts.{IsBytes, front, split_8, split_4, number-below_4, place-tells, place-passes}
use Rattle.record_frame.proofs.Values.{tested, IsFormat, value_at-read, value_at-spelled, value_at-alone, IsAlone, one_spelling, short_exactly, bad_exactly, never_memory}

-- the row of a table that gave the answer
chosen : {A : Type 0} (b : Bool) (x y z : A) → cond b x y ≡ z → ((b ≡ true) × (x ≡ z)) ⊎ ((b ≡ false) × (y ≡ z))
chosen true x y z e = inl (refl, e)
chosen false x y z e = inr (refl, e)

next_place-tells : (n : ℕ) → is_next_place n ≡ true → IsNextPlace n
next_place-tells n e = let a = and_2 _ _ e in record { some = leb-true _ _ a.0; within = leb-true _ _ a.1 }

next_place-passes : (n : ℕ) → IsNextPlace n → is_next_place n ≡ true
next_place-passes n is = rw (le-leb _ _ is.some, le-leb _ _ is.within) refl

-- ---- what is read is spelled so

-- the byte in front
kind-spelled : (body : List ℕ) (kind : ℕ) → 1 ≤ length body → slice_index body 0 ≡ kind → body ≡ kind ∷ drop 1 body
kind-spelled body kind long e = front body long ∙ ap (λ (k : ℕ). k ∷ drop 1 body) e

-- the last number
last_8 : (at : ℕ) (body : List ℕ) → at + 8 ≡ length body → IsBytes body → drop at body ≡ to_be_bytes w64 (number w64 at body)
last_8 at body long fits =
    let nothing : drop (at + 8) body ≡ [] = nil_from_length _ (omega (arith, length-drop (at + 8) body)) in
    split_8 at body (omega arith) fits ∙ ap (λ (l : List ℕ). to_be_bytes w64 (number w64 at body) ++ l) nothing ∙ append-nil (to_be_bytes w64 (number w64 at body))

one_number-spelled : (body : List ℕ) (m : Meta) → length body ≡ 9 → IsBytes body → one_number (slice_index body 0) (number w64 1 body) ≡ Some m → SpellsMetaBody body m
one_number-spelled body m long fits e =
    let kind = slice_index body 0 in
    let n = number w64 1 body in
    let whole : (k : ℕ) → slice_index body 0 ≡ k → body ≡ k ∷ to_be_bytes w64 n = λ k is. kind-spelled body k (omega arith) is ∙ ap (λ (l : List ℕ). k ∷ l) (last_8 1 body (omega arith) fits) in
    let others : Option Meta = cond (kind == 5) (value_in n) None in
    elim (chosen (kind == 1) (promise_in n) (cond (kind == 3) (low_in n) others) (Some m) e) [
      | inl a ↦ let t = tested (is_place n) (Promise n) m a.1 in subst (λ (x : Meta). SpellsMetaBody body x) t.1 (record { valid = place-tells n t.0; spelled = whole 1 (eqb-true _ _ a.0) })
      | inr a ↦ elim (chosen (kind == 3) (low_in n) others (Some m) a.1) [
        | inl b ↦ let t = tested (is_count n) (Low n) m b.1 in subst (λ (x : Meta). SpellsMetaBody body x) t.1 (record { valid = ltb-true _ _ t.0; spelled = whole 3 (eqb-true _ _ b.0) })
        | inr b ↦ elim (chosen (kind == 5) (value_in n) None (Some m) b.1) [
          | inl c ↦ let t = tested (is_count n) (Value n) m c.1 in subst (λ (x : Meta). SpellsMetaBody body x) t.1 (record { valid = ltb-true _ _ t.0; spelled = whole 5 (eqb-true _ _ c.0) })
          | inr c ↦ absurd (cc (c.1))
        ]
      ]
    ]

roll-spelled : (body : List ℕ) → length body ≡ 13 → is_roll body ≡ true → IsBytes body → SpellsMetaBody body (roll_of body)
roll-spelled body long e fits =
    let a = and_2 _ _ e in
    record {
      valid = (number-below_4 1 body fits, next_place-tells _ a.1);
      spelled = kind-spelled body 4 (omega arith) (eqb-true _ _ a.0) ∙ ap (λ (l : List ℕ). 4 ∷ l) (split_4 1 body (omega arith) fits
          ∙ ap (λ (l : List ℕ). to_be_bytes w32 (number w32 1 body) ++ l) (last_8 5 body (omega arith) fits));
    }

adopt-spelled : (body : List ℕ) → length body ≡ 29 → is_adopt body ≡ true → IsBytes body → SpellsMetaBody body (adopt_of body)
adopt-spelled body long e fits =
    let a = and_2 _ _ e in
    let b = and_2 _ _ a.1 in
    let c = and_2 _ _ b.1 in
    record {
      valid = (place-tells _ b.0, next_place-tells _ c.0, number-below_4 17 body fits, ltb-true _ _ c.1);
      spelled = kind-spelled body 2 (omega arith) (eqb-true _ _ a.0) ∙ ap (λ (l : List ℕ). 2 ∷ l) (split_8 1 body (omega arith) fits
          ∙ ap (λ (l : List ℕ). to_be_bytes w64 (number w64 1 body) ++ l) (split_8 9 body (omega arith) fits
          ∙ ap (λ (l : List ℕ). to_be_bytes w64 (number w64 9 body) ++ l) (split_4 17 body (omega arith) fits
          ∙ ap (λ (l : List ℕ). to_be_bytes w32 (number w32 17 body) ++ l) (last_8 21 body (omega arith) fits))));
    }

meta_in-spelled : (body : List ℕ) (m : Meta) → meta_in body ≡ Some m → IsBytes body → SpellsMetaBody body m
unfolding meta_in
meta_in-spelled body m e fits =
    let adopt : Option Meta = cond (length body == 29) (adopt_in body) None in
    elim (chosen (length body == 9) (one_number (slice_index body 0) (number w64 1 body)) (cond (length body == 13) (roll_in body) adopt) (Some m) e) [
      | inl a ↦ one_number-spelled body m (eqb-true _ _ a.0) fits a.1
      | inr a ↦ elim (chosen (length body == 13) (roll_in body) adopt (Some m) a.1) [
        | inl b ↦ let t = tested (is_roll body) (roll_of body) m b.1 in subst (λ (x : Meta). SpellsMetaBody body x) t.1 (roll-spelled body (eqb-true _ _ b.0) t.0 fits)
        | inr b ↦ elim (chosen (length body == 29) (adopt_in body) None (Some m) b.1) [
          | inl c ↦ let t = tested (is_adopt body) (adopt_of body) m c.1 in subst (λ (x : Meta). SpellsMetaBody body x) t.1 (adopt-spelled body (eqb-true _ _ c.0) t.0 fits)
          | inr c ↦ absurd (cc (c.1))
        ]
      ]
    ]

-- ---- what is spelled is read

meta_in-read : (m : Meta) → IsMeta m → meta_in (meta_body m) ≡ Some m
unfolding meta_in
meta_in-read (Promise s) is = rw (from_be_bytes-to_be_bytes_8 s (omega (arith, is.below)), place-passes s is) refl
meta_in-read (Adopt s first file count) is = rw (from_be_bytes-to_be_bytes_8 s (omega (arith, is.0.below)), from_be_bytes-to_be_bytes_8 first (omega (arith, is.1.within)), from_be_bytes-to_be_bytes_4 file is.2, from_be_bytes-to_be_bytes_8 count (omega (arith, is.3)), place-passes s is.0, next_place-passes first is.1, lt-ltb _ _ is.3) refl
meta_in-read (Low low) is = rw (from_be_bytes-to_be_bytes_8 low (omega (arith, is)), lt-ltb _ _ is) refl
meta_in-read (Roll file first) is = rw (from_be_bytes-to_be_bytes_4 file is.0, from_be_bytes-to_be_bytes_8 first (omega (arith, is.1.within)), next_place-passes first is.1) refl
meta_in-read (Value n) is = rw (from_be_bytes-to_be_bytes_8 n (omega (arith, is)), lt-ltb _ _ is) refl

meta_fits : (m : Meta) → IsMetaLength (length (meta_body m))
meta_fits (Promise s) = inl refl
meta_fits (Adopt s first file count) = inr (inr refl)
meta_fits (Low low) = inl refl
meta_fits (Roll file first) = inr (inl refl)
meta_fits (Value n) = inl refl

meta_passes : (n : ℕ) → IsMetaLength n → is_meta_length n ≡ true
meta_passes n (inl e) = rw e refl
meta_passes n (inr (inl e)) = rw e refl
meta_passes n (inr (inr e)) = rw e refl

or_tells : (a b : Bool) → (a || b) ≡ true → (a ≡ true) ⊎ (b ≡ true)
or_tells true b e = inl refl
or_tells false b e = inr e

meta_tells : (n : ℕ) → is_meta_length n ≡ true → IsMetaLength n
meta_tells n e = elim (or_tells (n == 9) ((n == 13) || (n == 29)) e) [
  | inl a ↦ inl (eqb-true _ _ a)
  | inr a ↦ elim (or_tells (n == 13) (n == 29) a) [ inl b ↦ inr (inl (eqb-true _ _ b)) | inr b ↦ inr (inr (eqb-true _ _ b)) ]
]

meta_below : (n : ℕ) → IsMetaLength n → n < 2 ^ 32
meta_below n (inl e) = omega arith
meta_below n (inr (inl e)) = omega arith
meta_below n (inr (inr e)) = omega arith

pub meta_format : IsFormat IsMetaLength IsMeta meta_body is_meta_length meta_in
meta_format = record {
  passes = meta_passes;
  tells = meta_tells;
  below = meta_below;
  fits = λ m is. meta_fits m;
  spelled = meta_in-spelled;
  read = meta_in-read;
}

-- ---- meta entries in frames

pub meta_at-read : (m : Meta) (spelled rest : List ℕ) → SpellsMeta spelled m → meta_at (spelled ++ rest) ≡ Ok (m, length spelled)
meta_at-read = value_at-read IsMetaLength IsMeta meta_body is_meta_length meta_in meta_format

pub meta_at-spelled : (bytes : List ℕ) (x : Meta × ℕ) → meta_at bytes ≡ Ok x → IsBytes bytes → BeginsWith SpellsMeta bytes x.0 x.1
meta_at-spelled = value_at-spelled IsMetaLength IsMeta meta_body is_meta_length meta_in meta_format

pub meta_at-alone : (bytes : List ℕ) (x : Meta × ℕ) → meta_at bytes ≡ Ok x → IsAlone IsMetaLength IsMeta meta_body is_meta_length meta_in meta_format bytes x
meta_at-alone = value_at-alone IsMetaLength IsMeta meta_body is_meta_length meta_in meta_format

pub meta_spellings-apart : (a b x y : List ℕ) (m n : Meta) → SpellsMeta a m → SpellsMeta b n → a ++ x ≡ b ++ y → (m ≡ n) × (a ≡ b)
meta_spellings-apart = one_spelling IsMetaLength IsMeta meta_body is_meta_length meta_in meta_format

pub meta_at-short : (bytes : List ℕ) → (meta_at bytes ≡ Err Short) ↔ IsShort IsMetaLength bytes
meta_at-short = short_exactly IsMetaLength IsMeta meta_body is_meta_length meta_in meta_format

pub meta_at-bad : (bytes : List ℕ) (at : ℕ) → IsBytes bytes → (meta_at bytes ≡ Err (Bad at)) ↔ IsBadAt IsMetaLength IsMetaBody bytes at
meta_at-bad = bad_exactly IsMetaLength IsMeta meta_body is_meta_length meta_in meta_format

pub meta_at-memory : (bytes : List ℕ) → meta_at bytes ≢ Err Memory
meta_at-memory = never_memory IsMetaLength IsMeta meta_body is_meta_length meta_in meta_format
