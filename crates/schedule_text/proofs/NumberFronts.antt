-- What begins the text of a number, and the numbers of a line.
use Rattle.std.proofs.Common.{◌≡◌, ◌≢◌, ◌⊎◌, ℕ, zero, suc, ◌+◌, ◌<◌, ◌≤◌, ◌^◌, Bool, true, false, List, [], ◌∷◌, ◌++◌, length, take, get_or, arith, refl, sym, ◌∙◌, ap, subst, append_assoc, length-append, decimal, inl, inr, lit<, Option, Some, None, flat_map}
use Rattle.std.specs.List.{AllByRecursion}
use Rattle.tx_model.specs.Applications.{IsKey}
use Rattle.std.specs.Str.Parse.{AllDigits, digits_value}
use Rattle.std.proofs.lemmas.Str.Parse.{numerals_by_value, tells_digits, digits_value-take-le, IsNumeralModel}
use Rattle.std.proofs.lemmas.Fmt.{digits_decimal, digits_value-decimal, decimal-digits_value, first_decimal, decimal_digit}
use Rattle.std.proofs.lemmas.List.{take_at, append-nil}
use Rattle.schedule_text.specs.Words.{EndsWord}
use Rattle.schedule_text.specs.Lines.{Lists, AreNumbers, HasLists, FitsRest, number_text, lists_text, rest_text}
use Rattle.schedule_text.specs.Fronts.{IsNumberThen, IsNoNumberThen}
use Rattle.schedule_text.specs.Lists.{ops_word, AreOps}
use Rattle.schedule_text.specs.Found.{BeginsRest, BeginsLists, keys_text}
use Rattle.schedule_text.proofs.WordLemmas.{one_number, front_of_word}

own : IsNumeralModel (AllDigits 10) (digits_value 10)
own = numerals_by_value (AllDigits 10) tells_digits

AllDigits-front : (xs ys : List ℕ) → AllDigits 10 (xs ++ ys) → AllDigits 10 xs
AllDigits-front [] ys p = tt
AllDigits-front (x ∷ xs) ys p = (p.0, AllDigits-front xs ys p.1)

zero_alone : (n : ℕ) → n < 2 ^ 64 → get_or (decimal n) 0 0 ≡ 48 → length (decimal n) ≡ 1
zero_alone zero h e = ap length (decimal_digit 0 (omega arith))
zero_alone (suc n) h e = absurd (omega (arith, first_decimal (suc n) (omega arith) h, e))

-- what a number's text begins with is a number's text, or nothing
pub number_begins : (n : ℕ) (front more : List ℕ) → n < 2 ^ 64 → decimal n ≡ front ++ more → (front ≡ []) ⊎ ((k : ℕ) × (k < 2 ^ 64) × (front ≡ decimal k))
number_begins n [] more small e = inl refl
number_begins n (d ∷ ds) more small e =
    let digits : AllDigits 10 (d ∷ ds) = AllDigits-front (d ∷ ds) more (rw e at (digits_decimal own n small)) in
    let value : digits_value 10 (decimal n) ≡ n = digits_value-decimal own n small in
    let less : digits_value 10 (take (length (d ∷ ds)) (decimal n)) ≤ digits_value 10 (decimal n) = digits_value-take-le 10 (decimal n) (length (d ∷ ds)) (omega arith) in
    let cut : take (length (d ∷ ds)) (decimal n) ≡ d ∷ ds = rw e (take_at (d ∷ ds) more (length (d ∷ ds)) refl) in
    let fits : digits_value 10 (d ∷ ds) < 2 ^ 64 = omega (arith, value, rw cut at less, small) in
    let lone : get_or (d ∷ ds) 0 0 ≡ 48 → length (d ∷ ds) ≡ 1 = λ zero_first.
    let first : get_or (decimal n) 0 0 ≡ 48 = rw e zero_first in
    omega (arith, zero_alone n small first, simp length-append at (ap length e)) in
    inr (digits_value 10 (d ∷ ds), fits, sym (decimal-digits_value own (d ∷ ds) digits (omega arith) lone fits))

-- ---- some line of each form

abbrev pub no_lists : Lists
no_lists = record { writes = []; reads = []; ops = [] }

abbrev pub blank : Bool → Option Lists
blank false = None
blank true = Some no_lists

pub blank_fits : (b : Bool) → HasLists b (blank b)
blank_fits false = tt
blank_fits true = record { write_keys = tt; read_keys = tt; ops_bytes = record { bytes = tt; other = λ e. cc } }

abbrev pub zeros : ℕ → List ℕ
zeros zero = []
zeros (suc n) = 0 ∷ zeros n

zeros_small : (n : ℕ) → AreNumbers (zeros n)
zeros_small zero = tt
zeros_small (suc n) = (lit< tt, zeros_small n)

zeros_length : (n : ℕ) → length (zeros n) ≡ n
zeros_length zero = refl
zeros_length (suc n) = omega (arith, zeros_length n)

pub zeros_fit : (count : ℕ) (b : Bool) → FitsRest count b (zeros count) (blank b)
zeros_fit count b = record { count_is = zeros_length count; small = zeros_small count; lists_fit = blank_fits b }

pub EndsWord-rest : (numbers : List ℕ) (lists : Option Lists) → EndsWord (rest_text numbers lists)
EndsWord-rest [] None = tt
EndsWord-rest [] (Some l) = refl
EndsWord-rest (n ∷ numbers) lists = refl

pub rest_cons : (n : ℕ) (numbers : List ℕ) (lists : Option Lists) → rest_text (n ∷ numbers) lists ≡ number_text n ++ rest_text numbers lists
rest_cons n numbers lists = append_assoc (number_text n) (flat_map number_text numbers) (lists_text lists)

-- ---- what begins the rest of a line

pub BeginsRest-nothing : (count : ℕ) (b : Bool) → BeginsRest count b []
BeginsRest-nothing count b = record { numbers = zeros count; lists = blank b; fits = zeros_fit count b; more = rest_text (zeros count) (blank b); text = refl }

-- behind a number
behind :
    (count k : ℕ) (b : Bool) (n s : ℕ) (text rest : List ℕ) → count ≡ k + 1 → IsNumberThen text n (s ∷ rest) →
    (numbers : List ℕ) (lists : Option Lists) → FitsRest count b numbers lists → (more : List ℕ) →
    rest_text numbers lists ≡ text ++ more → BeginsRest k b (s ∷ rest)
behind count k b n s text rest e taken [] lists fits more same = absurd (omega (arith, fits.count_is))
behind count k b n s text rest e taken (m ∷ numbers) lists fits more same =
    let whole : number_text m ++ rest_text numbers lists ≡ number_text n ++ ((s ∷ rest) ++ more) =
    sym (rest_cons m numbers lists) ∙ (same ∙ (ap (λ t. t ++ more) taken.text_is ∙ append_assoc (number_text n) (s ∷ rest) more)) in
    let parts = one_number m n (rest_text numbers lists) ((s ∷ rest) ++ more) fits.small.0 taken.fits (EndsWord-rest numbers lists) taken.ends whole in
    record {
      numbers = numbers;
      lists = lists;
      fits = record { count_is = omega (arith, fits.count_is); small = fits.small.1; lists_fit = fits.lists_fit };
      more = more;
      text = parts.1;
    }

pub BeginsRest-behind : (count k : ℕ) (b : Bool) (n : ℕ) (text rest : List ℕ) → count ≡ k + 1 → IsNumberThen text n rest → BeginsRest count b text → BeginsRest k b rest
BeginsRest-behind count k b n text [] e taken begins = BeginsRest-nothing k b
BeginsRest-behind count k b n text (s ∷ rest) e taken begins = behind count k b n s text rest e taken begins.numbers begins.lists begins.fits begins.more begins.text

pub BeginsRest-before : (count k : ℕ) (b : Bool) (n : ℕ) (text rest : List ℕ) → count ≡ k + 1 → IsNumberThen text n rest → BeginsRest k b rest → BeginsRest count b text
BeginsRest-before count k b n text rest e taken begins = record {
  numbers = n ∷ begins.numbers;
  lists = begins.lists;
  fits = record { count_is = omega (arith, begins.fits.count_is); small = (taken.fits, begins.fits.small); lists_fit = begins.fits.lists_fit };
  more = begins.more;
  text = rest_cons n begins.numbers begins.lists ∙ (ap (λ t. number_text n ++ t) begins.text ∙ (sym (append_assoc (number_text n) rest begins.more) ∙ ap (λ t. t ++ begins.more) (sym taken.text_is)));
}

-- no number is in front
stops :
    (count k : ℕ) (b : Bool) (t : ℕ) (front : List ℕ) → count ≡ k + 1 → IsNoNumberThen (t ∷ front) →
    (numbers : List ℕ) (lists : Option Lists) → FitsRest count b numbers lists → (more : List ℕ) →
    rest_text numbers lists ≡ (t ∷ front) ++ more → t ∷ front ≡ 32 ∷ []
stops count k b t front e none [] lists fits more same = absurd (omega (arith, fits.count_is))
stops count k b t front e none (m ∷ numbers) lists fits more same =
    let whole : number_text m ++ rest_text numbers lists ≡ (t ∷ front) ++ more = sym (rest_cons m numbers lists) ∙ same in
    let first : 32 ≡ t = cc in
    elim (front_of_word (decimal m) (rest_text numbers lists) front more (EndsWord-rest numbers lists) cc) [
      | inl x ↦ elim (number_begins m front x.0 fits.small.0 x.1) [
        | inl empty ↦ cc
        | inr k ↦ let text = k.2 in let nil = append-nil (decimal k.0) in absurd (none k.0 [] k.1 tt (cc))
      ]
      | inr r ↦ let text = r.1 in absurd (none m (32 ∷ r.0) fits.small.0 refl (cc))
    ]

pub BeginsRest-stops : (count k : ℕ) (b : Bool) (text : List ℕ) → count ≡ k + 1 → text ≢ [] → IsNoNumberThen text → BeginsRest count b text → text ≡ 32 ∷ []
BeginsRest-stops count k b [] e some none begins = absurd (some refl)
BeginsRest-stops count k b (t ∷ front) e some none begins = stops count k b t front e none begins.numbers begins.lists begins.fits begins.more begins.text

pub BeginsRest-space : (count k : ℕ) (b : Bool) → count ≡ k + 1 → BeginsRest count b (32 ∷ [])
BeginsRest-space count k b e = record {
  numbers = 0 ∷ zeros k;
  lists = blank b;
  fits = record { count_is = omega (arith, zeros_length k); small = (lit< tt, zeros_small k); lists_fit = blank_fits b };
  more = decimal 0 ++ rest_text (zeros k) (blank b);
  text = rest_cons 0 (zeros k) (blank b);
}

-- behind the numbers: two lists of keys and ops
two_lists : (l : Lists) → flat_map keys_text (l.writes ∷ l.reads ∷ []) ++ 32 ∷ ops_word l.ops ≡ lists_text (Some l)
two_lists l =
    append_assoc (keys_text l.writes) (keys_text l.reads ++ []) (32 ∷ ops_word l.ops) ∙ ap (λ t. keys_text l.writes ++ t) (append_assoc (keys_text l.reads) [] (32 ∷ ops_word l.ops))

ends :
    (count : ℕ) (b : Bool) (t : ℕ) (front : List ℕ) → count ≡ 0 → (numbers : List ℕ) (lists : Option Lists) →
    FitsRest count b numbers lists → (more : List ℕ) → rest_text numbers lists ≡ (t ∷ front) ++ more →
    (b ≡ true) × BeginsLists 2 (t ∷ front)
ends count b t front e (n ∷ numbers) lists fits more same = absurd (omega (arith, fits.count_is))
ends count false t front e [] None fits more same = absurd cc
ends count false t front e [] (Some l) fits more same = absurd fits.lists_fit
ends count true t front e [] None fits more same = absurd fits.lists_fit
ends count true t front e [] (Some l) fits more same = (
  refl,
  record {
    lists = l.writes ∷ l.reads ∷ [];
    count_is = refl;
    are = (fits.lists_fit.write_keys, (fits.lists_fit.read_keys, tt));
    ops = l.ops;
    ops_are = fits.lists_fit.ops_bytes;
    more = more;
    text = two_lists l ∙ same;
  },
)

pub BeginsRest-ends : (count : ℕ) (b : Bool) (text : List ℕ) → count ≡ 0 → text ≢ [] → BeginsRest count b text → (b ≡ true) × BeginsLists 2 text
BeginsRest-ends count b [] e some begins = absurd (some refl)
BeginsRest-ends count b (t ∷ front) e some begins = ends count b t front e begins.numbers begins.lists begins.fits begins.more begins.text

lists_begin :
    (text : List ℕ) (lists : List (List (List ℕ))) → length lists ≡ 2 → AllByRecursion (AllByRecursion IsKey) lists →
    (ops : List ℕ) → AreOps ops → (more : List ℕ) → flat_map keys_text lists ++ 32 ∷ ops_word ops ≡ text ++ more →
    BeginsRest 0 true text
lists_begin text [] count are ops ops_are more same = absurd (omega arith)
lists_begin text (writes ∷ []) count are ops ops_are more same = absurd (omega arith)
lists_begin text (writes ∷ reads ∷ []) count are ops ops_are more same =
    let l : Lists = record { writes = writes; reads = reads; ops = ops } in
    record {
      numbers = [];
      lists = Some l;
      fits = record { count_is = refl; small = tt; lists_fit = record { write_keys = are.0; read_keys = are.1.0; ops_bytes = ops_are } };
      more = more;
      text = sym (two_lists l) ∙ same;
    }
lists_begin text (writes ∷ reads ∷ other ∷ lists) count are ops ops_are more same = absurd (omega arith)

pub BeginsRest-lists : (count : ℕ) (b : Bool) (text : List ℕ) → count ≡ 0 → b ≡ true → BeginsLists 2 text → BeginsRest count b text
BeginsRest-lists count b text e has begins =
    subst (λ n. BeginsRest n b text) (sym e) (subst (λ x. BeginsRest 0 x text) (sym has) (lists_begin text begins.lists begins.count_is begins.are begins.ops begins.ops_are begins.more begins.text))
