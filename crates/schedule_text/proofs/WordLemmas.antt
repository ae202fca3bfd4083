-- Words with single spaces between them, and numbers as words.
use Rattle.std.proofs.Common.{◌≡◌, ◌≢◌, ℕ, ◌+◌, ◌<◌, ◌^◌, List, [], ◌∷◌, ◌++◌, length, take, get_or, arith, refl, sym, ◌∙◌, ap, decimal, ◌⊎◌, inl, inr, Bool, true, false, eqb}
use Rattle.std.specs.Str.Parse.{AllDigits}
use Rattle.std.proofs.lemmas.Str.Parse.{numerals_by_value, tells_digits, digit_from_value}
use Rattle.std.proofs.lemmas.Fmt.{digits_decimal, decimal_injective}
use Rattle.std.proofs.lemmas.List.{take_more}
use Rattle.std.proofs.lemmas.Bool.Decides.{nat_tests}
use Rattle.schedule_text.specs.Words.{HasNoSpace, EndsWord}
use Rattle.schedule_text.specs.Lines.{number_text}

pub HasNoSpace-push : (xs : List ℕ) (byte : ℕ) → HasNoSpace xs → byte ≢ 32 → HasNoSpace (xs ++ byte ∷ [])
HasNoSpace-push [] byte p q = (q, tt)
HasNoSpace-push (x ∷ xs) byte p q = (p.0, HasNoSpace-push xs byte p.1 q)

HasNoSpace-digits : (ds : List ℕ) → AllDigits 10 ds → HasNoSpace ds
HasNoSpace-digits [] p = tt
HasNoSpace-digits (d ∷ ds) p = let range = digit_from_value d p.0 in ((λ e. absurd (omega (arith, range, e))), HasNoSpace-digits ds p.1)

pub HasNoSpace-decimal : (n : ℕ) → n < 2 ^ 64 → HasNoSpace (decimal n)
HasNoSpace-decimal n small = HasNoSpace-digits (decimal n) (digits_decimal (numerals_by_value (AllDigits 10) tells_digits) n small)

-- a text is cut at its first space in one way
pub parts_unique : (a b c d : List ℕ) → HasNoSpace a → HasNoSpace c → a ++ 32 ∷ b ≡ c ++ 32 ∷ d → (a ≡ c) × (b ≡ d)
parts_unique [] b [] d p q e = (refl, cc)
parts_unique [] b (y ∷ c) d p q e = absurd (q.0 cc)
parts_unique (x ∷ a) b [] d p q e = absurd (p.0 cc)
parts_unique (x ∷ a) b (y ∷ c) d p q e = let h = parts_unique a b c d p.1 q.1 cc in (cc, h.1)

pub has_space : (xs ys : List ℕ) → HasNoSpace (xs ++ 32 ∷ ys) → ⊥
has_space [] ys p = p.0 refl
has_space (x ∷ xs) ys p = has_space xs ys p.1

pub HasNoSpace-more : (text : List ℕ) (at : ℕ) → at < length text → HasNoSpace (take at text) → get_or text at 0 ≢ 32 → HasNoSpace (take (at + 1) text)
HasNoSpace-more text at within p q = rw (take_more text at 0 within) (HasNoSpace-push (take at text) (get_or text at 0) p q)

-- a text is cut before its first space in one way
pub cut_unique : (a b c d : List ℕ) → HasNoSpace a → EndsWord b → HasNoSpace c → EndsWord d → a ++ b ≡ c ++ d → (a ≡ c) × (b ≡ d)
cut_unique [] b [] d p q r s e = (refl, e)
cut_unique [] [] (y ∷ c) d p q r s e = absurd cc
cut_unique [] (x ∷ b) (y ∷ c) d p q r s e = let same : x ≡ y = cc in absurd (r.0 (sym same ∙ q))
cut_unique (x ∷ a) b [] [] p q r s e = absurd cc
cut_unique (x ∷ a) b [] (y ∷ d) p q r s e = let same : x ≡ y = cc in absurd (p.0 (same ∙ s))
cut_unique (x ∷ a) b (y ∷ c) d p q r s e = let h = cut_unique a b c d p.1 q r.1 s cc in (cc, h.1)

-- a beginning of a word and what follows it lies in the word, or has the word and a space in front
pub front_of_word : (word rest front more : List ℕ) → EndsWord rest → word ++ rest ≡ front ++ more → ((m : List ℕ) × (word ≡ front ++ m)) ⊎ ((r : List ℕ) × (front ≡ word ++ 32 ∷ r))
front_of_word word rest [] more ends e = inl (word, refl)
front_of_word [] [] (f ∷ front) more ends e = absurd cc
front_of_word [] (x ∷ rest) (f ∷ front) more ends e = let same : f ≡ 32 = let first : x ≡ f = cc in sym first ∙ ends in inr (front, ap (λ b. b ∷ front) same)
front_of_word (x ∷ word) rest (f ∷ front) more ends e =
    let first : x ≡ f = cc in
    elim (front_of_word word rest front more ends cc) [
      | inl m ↦ inl (m.0, let same = m.1 in cc)
      | inr r ↦ inr (r.0, let same = r.1 in cc)
    ]

-- a number and what follows it
pub one_number : (m n : ℕ) (rest more : List ℕ) → m < 2 ^ 64 → n < 2 ^ 64 → EndsWord rest → EndsWord more → number_text m ++ rest ≡ number_text n ++ more → (m ≡ n) × (rest ≡ more)
one_number m n rest more small lesser ends stops same =
    let parts = cut_unique (decimal m) rest (decimal n) more (HasNoSpace-decimal m small) ends (HasNoSpace-decimal n lesser) stops cc in
    (decimal_injective m n small lesser parts.0, parts.1)

-- behind a space
pub same_behind : (a b : List ℕ) → 32 ∷ a ≡ 32 ∷ b → a ≡ b
same_behind a b same = cc

-- ---- the empty text

pub nil_by_test : {A : Type 0} (xs : List A) (r : Bool) → r ≡ eqb (length xs) 0 → r ≡ true → xs ≡ []
nil_by_test [] r is passed = refl
nil_by_test (x ∷ xs) r is passed = absurd (grind (arith, nat_tests))

pub not_nil_by_test : {A : Type 0} (xs : List A) (r : Bool) → r ≡ eqb (length xs) 0 → r ≡ false → xs ≢ []
not_nil_by_test xs r is failed none = let zero_long : length xs ≡ 0 = ap length none in grind (arith, nat_tests)

pub test_by_nil : {A : Type 0} (xs : List A) (r : Bool) → r ≡ eqb (length xs) 0 → xs ≡ [] → r ≡ true
test_by_nil xs r is none = let zero_long : length xs ≡ 0 = ap length none in grind (arith, nat_tests)
