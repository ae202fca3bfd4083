-- The first words of the forms: they have no space, and tell the form.
use Rattle.std.proofs.Common.{◌≡◌, ℕ, zero, suc, ◌<◌, true, ltb, cond, List, [], ◌∷◌, length, get_or, arith, refl, sym, ◌∙◌, ap, subst, inl, inr, Some}
use Rattle.std.specs.List.{list_all}
use Rattle.std.specs.Str.{bytes_eq}
use Rattle.std.proofs.lemmas.Bool.{and_parts, cases_Bool}
use Rattle.std.proofs.lemmas.Bool.Decides.{nat_tests}
use Rattle.std.proofs.lemmas.Slice.Eq.{bytes_eq-Decides}
use Rattle.schedule_text.specs.declared.lines.form.Form.{Form}
use Rattle.schedule_text.specs.declared.lines.form.Form.TheVariants as form
use Rattle.schedule_text.specs.Words.{HasNoSpace}
use Rattle.schedule_text.specs.Forms.{row_of, form_named, IsAmong}

no_space : (word : List ℕ) → list_all (λ b. ltb 32 b) word ≡ true → HasNoSpace word
no_space [] plain = tt
no_space (b ∷ word) plain =
    let parts = and_parts (ltb 32 b) (list_all (λ x. ltb 32 x) word) plain in
    let above : 32 < b = grind (arith, nat_tests) in
    ((λ e. absurd (omega (arith, e))), no_space word parts.1)

plain_word : (f : Form) → list_all (λ b. ltb 32 b) (row_of f).word ≡ true
plain_word form.Cluster = refl
plain_word _ = refl

pub HasNoSpace-word : (f : Form) → HasNoSpace (row_of f).word
HasNoSpace-word f = no_space (row_of f).word (plain_word f)

-- ---- the form of a word

-- a form that is found has the word
pub word_of_named : (forms : List Form) (word : List ℕ) (f : Form) → form_named forms word ≡ Some f → (row_of f).word ≡ word
word_of_named [] word f is = absurd cc
word_of_named (g ∷ forms) word f is = elim (cases_Bool (bytes_eq (row_of g).word word)) [
  | inl same ↦
      let found : Some g ≡ Some f = sym (ap (λ b. cond b (Some g) (form_named forms word)) same) ∙ is in
      let one : g ≡ f = cc in
      subst (λ h. (row_of h).word ≡ word) one ((bytes_eq-Decides (row_of g).word word).0 same)
  | inr not ↦ word_of_named forms word f (sym (ap (λ b. cond b (Some g) (form_named forms word)) not) ∙ is)
]

-- a form that is found is among the forms
pub among_by_name : (forms : List Form) (word : List ℕ) (f : Form) → form_named forms word ≡ Some f → IsAmong forms f
among_by_name forms word f is = ap (form_named forms) (word_of_named forms word f is) ∙ is

-- there are two forms of one word only where they are one
pub one_form : (forms : List Form) (f g : Form) → IsAmong forms f → IsAmong forms g → (row_of f).word ≡ (row_of g).word → f ≡ g
one_form forms f g p q same = let both : Some f ≡ Some g = sym p ∙ (ap (form_named forms) same ∙ q) in cc

-- each form of the list is found by its word, or one with the same word is
pub found_at : (forms : List Form) (k : ℕ) (d : Form) → k < length forms → (f : Form) × (form_named forms (row_of (get_or forms k d)).word ≡ Some f)
found_at [] k d within = absurd (omega arith)
found_at (g ∷ forms) zero d within = (g, ap (λ b. cond b (Some g) (form_named forms (row_of g).word)) ((bytes_eq-Decides (row_of g).word (row_of g).word).1 refl))
found_at (g ∷ forms) (suc k) d within =
    let word : List ℕ = (row_of (get_or forms k d)).word in
    let later = found_at forms k d (omega arith) in
    elim (cases_Bool (bytes_eq (row_of g).word word)) [
      | inl same ↦ (g, ap (λ b. cond b (Some g) (form_named forms word)) same)
      | inr not ↦ (later.0, ap (λ b. cond b (Some g) (form_named forms word)) not ∙ later.1)
    ]

-- the place of a form that is found
pub place_of : (forms : List Form) (word : List ℕ) (f : Form) → form_named forms word ≡ Some f → (k : ℕ) × (k < length forms) × ((d : Form) → (row_of (get_or forms k d)).word ≡ word)
place_of [] word f is = absurd cc
place_of (g ∷ forms) word f is = elim (cases_Bool (bytes_eq (row_of g).word word)) [
  | inl same ↦ (0, omega arith, λ d. (bytes_eq-Decides (row_of g).word word).0 same)
  | inr not ↦
      let later = place_of forms word f (sym (ap (λ b. cond b (Some g) (form_named forms word)) not) ∙ is) in
      (suc later.0, omega (arith, later.1), later.2)
]
