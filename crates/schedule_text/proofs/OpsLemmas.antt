-- Ops to the end of a line.
use Rattle.std.proofs.Common.{◌≡◌, ◌≢◌, ℕ, ◌≤◌, Bool, true, List, [], ◌∷◌, length, arith, refl, sym, ◌∙◌, ap, subst, codes, leb, ◌⊎◌, inl, inr}
use Rattle.std.specs.Prelude.{◌&&◌, ◌↔◌, IsTrue}
use Rattle.std.specs.List.{AllByRecursion, list_all}
use Rattle.std.proofs.lemmas.Bool.{and_parts, and_from, cases_Bool, false≢true}
use Rattle.std.proofs.lemmas.Bool.Decides.{nat_tests}
use Rattle.std.proofs.lemmas.Slice.Eq.{bytes_eq-Decides}
use Rattle.std.specs.Str.{bytes_eq}
use Rattle.schedule_text.specs.Lists.{AreOps, IsOpsByte, ops_word, SpellsOpsWord, IsOpsWord}

abbrev pub is_ops_byte : ℕ → Bool
is_ops_byte b = leb 32 b && leb b 126

pub ops_bytes : (bytes : List ℕ) → list_all is_ops_byte bytes ≡ true → AllByRecursion IsOpsByte bytes
ops_bytes [] are = tt
ops_bytes (b ∷ bytes) are =
    let parts = and_parts (is_ops_byte b) (list_all is_ops_byte bytes) are in
    let byte = and_parts (leb 32 b) (leb b 126) parts.0 in
    (record { least = grind (arith, nat_tests); most = grind (arith, nat_tests) }, ops_bytes bytes parts.1)

pub test_from_ops : (bytes : List ℕ) → AllByRecursion IsOpsByte bytes → list_all is_ops_byte bytes ≡ true
test_from_ops [] are = refl
test_from_ops (b ∷ bytes) are =
    let least = are.0.least in
    let most = are.0.most in
    and_from (is_ops_byte b) (list_all is_ops_byte bytes) (and_from (leb 32 b) (leb b 126) (grind (arith, nat_tests)) (grind (arith, nat_tests))) (test_from_ops bytes are.1)

-- bytes other than a hyphen alone are themselves the ops
pub SpellsOpsWord-itself : (word : List ℕ) → 1 ≤ length word → word ≢ codes "-" → list_all is_ops_byte word ≡ true → SpellsOpsWord word word
SpellsOpsWord-itself [] some other are = absurd (omega arith)
SpellsOpsWord-itself (b ∷ bytes) some other are = record { valid = record { bytes = ops_bytes (b ∷ bytes) are; other = other }; text = refl }

pub SpellsOpsWord-none : SpellsOpsWord (codes "-") []
SpellsOpsWord-none = record { valid = record { bytes = tt; other = λ e. cc }; text = refl }

pub hyphen_or_not : (word : List ℕ) → (word ≡ codes "-") ⊎ (word ≢ codes "-")
hyphen_or_not word = elim (cases_Bool (bytes_eq word (codes "-"))) [
  | inl same ↦ inl ((bytes_eq-Decides word (codes "-")).0 same)
  | inr other ↦ inr (λ e. false≢true (sym other ∙ (bytes_eq-Decides word (codes "-")).1 e))
]

-- a word that is not empty is some ops where all its bytes are such bytes
pub tells_ops : (word : List ℕ) (r : Bool) → 1 ≤ length word → r ≡ list_all is_ops_byte word → IsTrue r ↔ IsOpsWord word
tells_ops word r some is = (found, λ ops. is ∙ passes ops)
  where
    found : IsTrue r → IsOpsWord word
    found passed = elim (hyphen_or_not word) [
      | inl hyphen ↦ ([], subst (λ (w : List ℕ). SpellsOpsWord w []) (sym hyphen) SpellsOpsWord-none)
      | inr other ↦ (word, SpellsOpsWord-itself word some other (sym is ∙ passed))
    ]

    passes : IsOpsWord word → list_all is_ops_byte word ≡ true
    passes ([], spelled) = ap (list_all is_ops_byte) spelled.text
    passes (b ∷ bytes, spelled) = ap (list_all is_ops_byte) spelled.text ∙ test_from_ops (b ∷ bytes) spelled.valid.bytes

pub ops_word_injective : (a b : List ℕ) → AreOps a → AreOps b → ops_word a ≡ ops_word b → a ≡ b
ops_word_injective [] [] p q same = refl
ops_word_injective [] (b ∷ bytes) p q same = absurd (q.other (sym same))
ops_word_injective (a ∷ bytes) [] p q same = absurd (p.other same)
ops_word_injective (a ∷ bytes) (b ∷ others) p q same = same
