-- What begins some line in one of the forms, and which lines are in one of them.
use Rattle.std.proofs.Common.{◌≡◌, ◌≢◌, ℕ, List, [], ◌∷◌, ◌++◌, length, refl, sym, ◌∙◌, ap, subst, append_assoc, inl, inr, Some, None}
use Rattle.std.proofs.lemmas.List.{append-nil}
use Rattle.schedule_text.specs.declared.lines.form.Form.{Form}
use Rattle.schedule_text.specs.Words.{HasNoSpace, EndsWord, IsCut}
use Rattle.schedule_text.specs.Forms.{row_of, form_named}
use Rattle.schedule_text.specs.Lines.{Parts, HasForm, line_text, rest_text, Spells}
use Rattle.schedule_text.specs.Found.{BeginsSome, BeginsRest, BeginsWord, HasAny}
use Rattle.schedule_text.proofs.WordLemmas.{cut_unique, front_of_word, has_space}
use Rattle.schedule_text.proofs.FormLemmas.{HasNoSpace-word, word_of_named, among_by_name, one_form}
use Rattle.schedule_text.proofs.NumberFronts.{zeros, blank, zeros_fit, EndsWord-rest}

-- some line of a form
abbrev sample : Form → Parts
sample f = record { form = f; numbers = zeros (length (row_of f).names); lists = blank (row_of f).lists }

sample_fits : (f : Form) → HasForm (sample f)
sample_fits f = zeros_fit (length (row_of f).names) (row_of f).lists

abbrev sample_rest : Form → List ℕ
sample_rest f = rest_text (zeros (length (row_of f).names)) (blank (row_of f).lists)

pub BeginsSome-nothing : (forms : List Form) → HasAny forms → BeginsSome forms []
BeginsSome-nothing forms some = (sample some.0, some.1, record { form = sample_fits some.0; more = line_text (sample some.0); text = refl })

-- ---- a text that is one word

pub BeginsSome-word : (forms : List Form) (text word rest : List ℕ) → IsCut text word rest → rest ≡ [] → BeginsWord forms word → BeginsSome forms text
BeginsSome-word forms text word rest cut none begins = (
  sample begins.form,
  begins.among,
  record {
    form = sample_fits begins.form;
    more = begins.more ++ sample_rest begins.form;
    text =
        let same : text ≡ word = cut.text_is ∙ (ap (λ t. word ++ t) none ∙ append-nil word) in
        ap (λ t. t ++ sample_rest begins.form) begins.text ∙ (append_assoc word begins.more (sample_rest begins.form) ∙ ap (λ t. t ++ (begins.more ++ sample_rest begins.form)) (sym same));
  },
)

pub BeginsWord-some : (forms : List Form) (text word rest : List ℕ) → IsCut text word rest → rest ≡ [] → BeginsSome forms text → BeginsWord forms word
BeginsWord-some forms text word rest cut none begins =
    let p = begins.0 in
    let same : text ≡ word = cut.text_is ∙ (ap (λ t. word ++ t) none ∙ append-nil word) in
    let whole : (row_of p.form).word ++ rest_text p.numbers p.lists ≡ word ++ begins.2.more = begins.2.text ∙ ap (λ t. t ++ begins.2.more) same in
    elim (front_of_word (row_of p.form).word (rest_text p.numbers p.lists) word begins.2.more (EndsWord-rest p.numbers p.lists) whole) [
      | inl m ↦ record { form = p.form; among = begins.1; more = m.0; text = m.1 }
      | inr r ↦ absurd (has_space (row_of p.form).word r.0 (subst HasNoSpace r.1 cut.plain))
    ]

-- ---- a word and more

ends_more : (rest more : List ℕ) → rest ≢ [] → EndsWord rest → EndsWord (rest ++ more)
ends_more [] more some ends = absurd (some refl)
ends_more (s ∷ rest) more some ends = ends

-- the parts of a line with this word in front
pub word_and_rest :
    (p : Parts) (text word rest more : List ℕ) → IsCut text word rest → rest ≢ [] → line_text p ≡ text ++ more →
    ((row_of p.form).word ≡ word) × (rest_text p.numbers p.lists ≡ rest ++ more)
word_and_rest p text word rest more cut some same =
    cut_unique (row_of p.form).word (rest_text p.numbers p.lists) word (rest ++ more) (HasNoSpace-word p.form) (EndsWord-rest p.numbers p.lists) cut.plain (ends_more rest more some cut.ends)
    (same ∙ (ap (λ t. t ++ more) cut.text_is ∙ append_assoc word rest more))

pub BeginsSome-rest :
    (forms : List Form) (text word rest : List ℕ) (f : Form) → IsCut text word rest → form_named forms word ≡ Some f →
    BeginsRest (length (row_of f).names) (row_of f).lists rest → BeginsSome forms text
BeginsSome-rest forms text word rest f cut named begins = (
  record { form = f; numbers = begins.numbers; lists = begins.lists },
  among_by_name forms word f named,
  record {
    form = begins.fits;
    more = begins.more;
    text =
        ap (λ w. w ++ rest_text begins.numbers begins.lists) (word_of_named forms word f named) ∙ (ap (λ t. word ++ t) begins.text ∙ (sym (append_assoc word rest begins.more) ∙ ap (λ t. t ++ begins.more) (sym cut.text_is)));
  },
)

abbrev RestBegins : List ℕ → Form → Type 0
RestBegins rest f = BeginsRest (length (row_of f).names) (row_of f).lists rest

pub BeginsRest-some :
    (forms : List Form) (text word rest : List ℕ) (f : Form) → IsCut text word rest → rest ≢ [] → form_named forms word ≡ Some f →
    BeginsSome forms text → BeginsRest (length (row_of f).names) (row_of f).lists rest
BeginsRest-some forms text word rest f cut some named begins =
    let p = begins.0 in
    let parts = word_and_rest p text word rest begins.2.more cut some begins.2.text in
    let one : p.form ≡ f = one_form forms p.form f begins.1 (among_by_name forms word f named) (parts.0 ∙ sym (word_of_named forms word f named)) in
    let here : RestBegins rest p.form = record { numbers = p.numbers; lists = p.lists; fits = begins.2.form; more = begins.2.more; text = parts.1 } in
    subst (RestBegins rest) one here

pub BeginsSome-unnamed : (forms : List Form) (text word rest : List ℕ) → IsCut text word rest → rest ≢ [] → form_named forms word ≡ None → BeginsSome forms text → ⊥
BeginsSome-unnamed forms text word rest cut some none begins =
    let parts = word_and_rest begins.0 text word rest begins.2.more cut some begins.2.text in
    let both : Some begins.0.form ≡ None = sym begins.1 ∙ (ap (form_named forms) parts.0 ∙ none) in
    cc

-- ---- a whole line

-- the parts of a line with this word in front
pub word_of_line : (p : Parts) (line word rest : List ℕ) → IsCut line word rest → line ≡ line_text p → ((row_of p.form).word ≡ word) × (rest_text p.numbers p.lists ≡ rest)
word_of_line p line word rest cut same =
    cut_unique (row_of p.form).word (rest_text p.numbers p.lists) word rest (HasNoSpace-word p.form) (EndsWord-rest p.numbers p.lists) cut.plain cut.ends (sym same ∙ cut.text_is)

pub form_of_line : (forms : List Form) (p : Parts) (line word rest : List ℕ) → IsCut line word rest → Spells forms line p → form_named forms word ≡ Some p.form
form_of_line forms p line word rest cut is = sym (ap (form_named forms) (word_of_line p line word rest cut is.text).0) ∙ is.among
