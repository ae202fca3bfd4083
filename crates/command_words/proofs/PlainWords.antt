-- Plain words, and what `clap` makes of one or two of them.
use Rattle.std.proofs.Common.{◌≡◌, ◌∙◌, ◌≢◌, ◌==◌, ◌<◌, ◌+◌, ◌^◌, ℕ, List, [], ◌∷◌, Some, None, inl, inr, arith, ap, codes, decimal, false, length, get_or, map, refl, subst, sym, take, true}
use Rattle.std.specs.List.{AllByRecursion}
use Rattle.std.specs.Str.Parse.{AllDigits, digits_value}
use Rattle.std.proofs.lemmas.Bool.Decides.{eqb_tells}
use Rattle.std.proofs.lemmas.Fmt.{decimal_nonempty, digits_decimal}
use Rattle.std.proofs.lemmas.List.{length-map, map-append}
use Rattle.std.proofs.lemmas.Str.Parse.{IsNumeralModel, numerals_by_value, tells_digits, not_in_digits}
use Rattle.std.specs.Str.{bytes_eq}
use Rattle.clap.specs.Words.{Row, Text, fault_of, is_simple_and_free, matches_of}
use Rattle.clap.specs.Kinds.{Kinds}
use Rattle.clap.specs.declared.error.kind.ErrorKind.{ErrorKind}
use Rattle.clap.specs.declared.error.kind.ErrorKind.TheVariants.{MissingRequiredArgument, UnknownArgument}
use Rattle.clap.specs.declared.builder.value_parser.Reading.TheVariants.{AsWritten}
use Rattle.clap.specs.declared.parser.matches.ValueSource.TheVariants.{CommandLine}
use Rattle.clap.proofs.OnLiterals.{clap_on_literals}
use Rattle.command_words.specs.Reading.{ArePlain, AreTaken, IsPlain, one_argument, two_arguments}
use Rattle.command_words.proofs.NumberWords.{all_at, all_more, nth_map, take_next}

-- ---- plain words

module _ {W : Type 0} (f : W → Text) (words : List W) (at : ℕ) (w : W) (below : at < length words) where
  pub plain_at : ArePlain (map f words) → IsPlain (f (get_or words at w))
  plain_at all = subst IsPlain (nth_map f words at w [] below) (all_at IsPlain (map f words) at [] all (let n = length-map words f in omega (arith, n, below)))

  pub plain_next : ArePlain (map f (take at words)) → IsPlain (f (get_or words at w)) → ArePlain (map f (take (at + 1) words))
  plain_next all is =
      let more = ap (map f) (take_next words at w below) ∙ map-append f (take at words) (get_or words at w ∷ []) in
      subst ArePlain (sym more) (all_more IsPlain (map f (take at words)) (f (get_or words at w)) all is)

digits : IsNumeralModel (AllDigits 10) (digits_value 10)
digits = numerals_by_value (AllDigits 10) tells_digits

plain_text : (t : Text) → 0 < length t → get_or t 0 0 ≢ 45 → IsPlain t
plain_text [] some other = absurd (omega (arith, some))
plain_text (x ∷ xs) some other = elim (eqb_tells x 45) [
  | inl same ↦ absurd (other same.1)
  | inr apart ↦ apart.0
]

-- the text of a number is plain
pub plain_number : (n : ℕ) → n < 2 ^ 64 → IsPlain (decimal n)
plain_number n small = plain_text (decimal n) (decimal_nonempty n small)
    (not_in_digits digits (decimal n) 45 (digits_decimal digits n small) (λ r. absurd (omega (arith, r))) 0 (decimal_nonempty n small))

pub plain_numbers : (P : ℕ → Type 0) → ((n : ℕ) → P n → n < 2 ^ 64) → (ns : List ℕ) → AllByRecursion P ns → ArePlain (map decimal ns)
plain_numbers P small [] all = tt
plain_numbers P small (n ∷ ns) all = (plain_number n (small n all.0), plain_numbers P small ns all.1)

-- ---- what is found

pub some_fault : (k : ErrorKind) (kinds : Kinds) → kinds ≡ k ∷ [] → kinds ≡ [] → ⊥
some_fault k kinds is none = let n : 1 ≡ 0 = ap length (sym is ∙ none) in absurd (omega (arith, n))

abbrev pub row : Text → List Text → Row
row id values = record { id = id; values = values; count = None; source = Some CommandLine; reading = AsWritten }

-- ---- one value

pub port_simple : is_simple_and_free (one_argument (codes "port")) ≡ true
unfolding clap_on_literals
port_simple = refl

port_none : fault_of (one_argument (codes "port")) [] ≡ MissingRequiredArgument ∷ []
unfolding clap_on_literals
port_none = refl

port_more : (x y : ℕ) (xs ys : Text) (words : List Text) → (x == 45) ≡ false → (y == 45) ≡ false → fault_of (one_argument (codes "port")) ((x ∷ xs) ∷ (y ∷ ys) ∷ words) ≡ UnknownArgument ∷ []
unfolding clap_on_literals
port_more x y xs ys words p q = simp (p, q) refl

port_taken : (x : ℕ) (xs : Text) → (x == 45) ≡ false → fault_of (one_argument (codes "port")) ((x ∷ xs) ∷ []) ≡ []
unfolding clap_on_literals
port_taken x xs p = simp p refl

port_row : (x : ℕ) (xs : Text) → (x == 45) ≡ false → matches_of (one_argument (codes "port")) ((x ∷ xs) ∷ []) ≡ row (codes "port") ((x ∷ xs) ∷ []) ∷ []
unfolding clap_on_literals
port_row x xs p = simp p refl

-- what is taken is one word
pub port_read : (words : List Text) → AreTaken (one_argument (codes "port")) words → (w : Text) × (words ≡ w ∷ []) × (matches_of (one_argument (codes "port")) words ≡ row (codes "port") (w ∷ []) ∷ [])
port_read [] are = absurd (some_fault _ _ port_none are.faultless)
port_read ([] ∷ words) are = absurd are.plain.0
port_read ((x ∷ xs) ∷ []) are = (x ∷ xs, refl, port_row x xs are.plain.0)
port_read ((x ∷ xs) ∷ ([] ∷ words)) are = absurd are.plain.1.0
port_read ((x ∷ xs) ∷ ((y ∷ ys) ∷ words)) are = absurd (some_fault _ _ (port_more x y xs ys words are.plain.0 are.plain.1.0) are.faultless)

pub port_good : (w : Text) → IsPlain w → AreTaken (one_argument (codes "port")) (w ∷ [])
port_good [] is = absurd is
port_good (x ∷ xs) is = record { plain = (is, tt); faultless = port_taken x xs is }

-- ---- two values: a number, and one under any other name

pub pair_simple : (second : Text) → is_simple_and_free (two_arguments (codes "number") second) ≡ true
unfolding clap_on_literals
pair_simple second = refl

module _ (second : Text) (same : bytes_eq second second ≡ true) (after : bytes_eq (codes "number") second ≡ false) (no_help : bytes_eq second (codes "help") ≡ false) where
  pair_none : fault_of (two_arguments (codes "number") second) [] ≡ MissingRequiredArgument ∷ []
  unfolding clap_on_literals
  pair_none = refl

  pair_one : (x : ℕ) (xs : Text) → (x == 45) ≡ false → fault_of (two_arguments (codes "number") second) ((x ∷ xs) ∷ []) ≡ MissingRequiredArgument ∷ []
  unfolding clap_on_literals
  pair_one x xs p = simp (p, after) refl

  pair_more : (x y z : ℕ) (xs ys zs : Text) (words : List Text) → (x == 45) ≡ false → (y == 45) ≡ false → (z == 45) ≡ false
      → fault_of (two_arguments (codes "number") second) ((x ∷ xs) ∷ (y ∷ ys) ∷ (z ∷ zs) ∷ words) ≡ UnknownArgument ∷ []
  unfolding clap_on_literals
  pair_more x y z xs ys zs words p q r = simp (p, q, r, after) refl

  pair_taken : (x y : ℕ) (xs ys : Text) → (x == 45) ≡ false → (y == 45) ≡ false → fault_of (two_arguments (codes "number") second) ((x ∷ xs) ∷ (y ∷ ys) ∷ []) ≡ []
  unfolding clap_on_literals
  pair_taken x y xs ys p q = simp (p, q, same, after, no_help) refl

  pair_rows : (x y : ℕ) (xs ys : Text) → (x == 45) ≡ false → (y == 45) ≡ false
      → matches_of (two_arguments (codes "number") second) ((x ∷ xs) ∷ (y ∷ ys) ∷ []) ≡ row (codes "number") ((x ∷ xs) ∷ []) ∷ row second ((y ∷ ys) ∷ []) ∷ []
  unfolding clap_on_literals
  pair_rows x y xs ys p q = simp (p, q, same, after, no_help) refl

  -- what is taken is two words
  pub pair_read : (words : List Text) → AreTaken (two_arguments (codes "number") second) words → (v : Text) × (w : Text) × (words ≡ v ∷ w ∷ [])
      × (matches_of (two_arguments (codes "number") second) words ≡ row (codes "number") (v ∷ []) ∷ row second (w ∷ []) ∷ [])
  pair_read [] are = absurd (some_fault _ _ pair_none are.faultless)
  pair_read ([] ∷ words) are = absurd are.plain.0
  pair_read ((x ∷ xs) ∷ []) are = absurd (some_fault _ _ (pair_one x xs are.plain.0) are.faultless)
  pair_read ((x ∷ xs) ∷ ([] ∷ words)) are = absurd are.plain.1.0
  pair_read ((x ∷ xs) ∷ ((y ∷ ys) ∷ [])) are = (x ∷ xs, y ∷ ys, refl, pair_rows x y xs ys are.plain.0 are.plain.1.0)
  pair_read ((x ∷ xs) ∷ ((y ∷ ys) ∷ ([] ∷ words))) are = absurd are.plain.1.1.0
  pair_read ((x ∷ xs) ∷ ((y ∷ ys) ∷ ((z ∷ zs) ∷ words))) are =
      absurd (some_fault _ _ (pair_more x y z xs ys zs words are.plain.0 are.plain.1.0 are.plain.1.1.0) are.faultless)

  pub pair_good : (v w : Text) → IsPlain v → IsPlain w → AreTaken (two_arguments (codes "number") second) (v ∷ w ∷ [])
  pair_good [] w p q = absurd p
  pair_good (x ∷ xs) [] p q = absurd q
  pair_good (x ∷ xs) (y ∷ ys) p q = record { plain = (p, (q, tt)); faultless = pair_taken x y xs ys p q }
