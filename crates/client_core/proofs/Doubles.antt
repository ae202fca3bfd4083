-- Names that stand twice, by the test and by their places.
use Rattle.std.proofs.Common.{◌≡◌, ℕ, zero, suc, ◌+◌, ◌<◌, Bool, true, false, ◌||◌, bytes_eq, List, [], ◌∷◌, ◌++◌, length, drop, get_or, slice_get, Contains, Some, refl, sym, ap, ◌∙◌, subst, arith, add-one, ◌⊎◌, inl, inr}
use Rattle.std.specs.List.{list_any}
use Rattle.std.proofs.lemmas.Slice.Eq.{bytes_eq-Decides}
use Rattle.std.proofs.lemmas.List.{append-nil}
use Rattle.std.proofs.Math.Seq.{drop-cons}
use Rattle.std.proofs.Math.ListN.{drop_of_length-le}
use Rattle.tx_model.specs.Transactions.{is_among, HasDouble}
use Rattle.tx_model.proofs.Names.{Contains-from_is_among, is_among-from_Contains, list_any-is_among}
use Rattle.client_core.specs.Building.{has_double}
use Rattle.client_core.proofs.Orders.{here, later}

or_later : (a b : Bool) → b ≡ true → (a || b) ≡ true
or_later true b is = refl
or_later false b is = is

or_first : (a b : Bool) → a ≡ true → (a || b) ≡ true
or_first true b is = refl
or_first false b is = absurd cc

-- ---- by places

among_at : (name : List ℕ) (names : List (List ℕ)) (k : ℕ) → slice_get names k ≡ Some name → is_among name names ≡ true
among_at name [] k at = absurd cc
among_at name (n ∷ names) zero at =
    let same : n ≡ name = cc in
    is_among-from_Contains name (n ∷ names) (subst (λ x. Contains (n ∷ names) x) same (here n names))
among_at name (n ∷ names) (suc k) at =
    is_among-from_Contains name (n ∷ names) (later n name names (Contains-from_is_among name names (among_at name names k at)))

place_of : (name : List ℕ) (names : List (List ℕ)) → is_among name names ≡ true → (k : ℕ) × (slice_get names k ≡ Some name)
unfolding is_among
place_of name [] is = absurd cc
place_of name (n ∷ names) is =
    elim (bytes_eq name n) as (λ b. bytes_eq name n ≡ b → (b || is_among name names) ≡ true → (k : ℕ) × (slice_get (n ∷ names) k ≡ Some name)) [
      | true ↦ λ same _. (0, ap (λ (x : List ℕ). Some x) (sym ((bytes_eq-Decides name n).0 same)))
      | false ↦ λ _ rest. let found = place_of name names rest in (suc found.0, found.1)
    ] refl is

pub double_tested : (names : List (List ℕ)) → HasDouble names → has_double names ≡ true
double_tested names double = go names double.name double.first double.second double.later double.at_first double.at_second
  where
    go : (names : List (List ℕ)) (name : List ℕ) (first second : ℕ) → first < second → slice_get names first ≡ Some name → slice_get names second ≡ Some name → has_double names ≡ true
    go [] name first second less a b = absurd cc
    go (n ∷ names) name zero zero less a b = absurd (omega (arith, less))
    go (n ∷ names) name zero (suc k) less a b =
        let same : name ≡ n = cc in
        or_first (is_among n names) (has_double names) (subst (λ x. is_among x names ≡ true) same (among_at name names k b))
    go (n ∷ names) name (suc i) zero less a b = absurd (omega (arith, less))
    go (n ∷ names) name (suc i) (suc j) less a b = or_later (is_among n names) (has_double names) (go names name i j (omega (arith, less)) a b)

pub double_from_test : (names : List (List ℕ)) → has_double names ≡ true → HasDouble names
double_from_test [] is = absurd cc
double_from_test (n ∷ names) is =
    elim (is_among n names) as (λ b. is_among n names ≡ b → (b || has_double names) ≡ true → HasDouble (n ∷ names)) [
      | true ↦ λ among _. let found = place_of n names among in record { name = n; first = 0; second = suc found.0; later = omega arith; at_first = refl; at_second = found.1 }
      | false ↦ λ _ rest.
          let double = double_from_test names rest in
          let less = double.later in
          record { name = double.name; first = suc double.first; second = suc double.second; later = omega (arith, less); at_first = double.at_first; at_second = double.at_second }
    ] refl is

-- ---- one name after another

is_among-append : (name : List ℕ) (names others : List (List ℕ)) → is_among name (names ++ others) ≡ (is_among name names || is_among name others)
unfolding is_among
is_among-append name [] others = refl
is_among-append name (n ∷ names) others = ap (λ b. bytes_eq name n || b) (is_among-append name names others) ∙ sym (or_assoc (bytes_eq name n) (is_among name names) (is_among name others))
  where
    or_assoc : (a b c : Bool) → ((a || b) || c) ≡ (a || (b || c))
    or_assoc true b c = refl
    or_assoc false b c = refl

front_is : (names : List (List ℕ)) (place : ℕ) (name : List ℕ) → place < length names → name ≡ get_or names place name → drop place names ≡ name ∷ drop (place + 1) names
front_is names place name lt at = rw add-one (drop-cons names place name lt ∙ ap (λ (x : List ℕ). x ∷ drop (suc place) names) (sym at))

-- the name at a place, and whether it stands again
pub front_test : (names others : List (List ℕ)) (place : ℕ) (name : List ℕ) → place < length names → name ≡ get_or names place name → has_double (drop place names ++ others) ≡ ((list_any (λ x. bytes_eq x name) (drop (place + 1) names) || list_any (λ x. bytes_eq x name) others) || has_double (drop (place + 1) names ++ others))
front_test names others place name lt at =
    ap (λ (xs : List (List ℕ)). has_double (xs ++ others)) (front_is names place name lt at)
    ∙ ap (λ b. b || has_double (drop (place + 1) names ++ others)) (is_among-append name (drop (place + 1) names) others
    ∙ (ap (λ b. b || is_among name others) (sym (list_any-is_among name (drop (place + 1) names)))
    ∙ ap (λ b. list_any (λ x. bytes_eq x name) (drop (place + 1) names) || b) (sym (list_any-is_among name others))))

pub no_front : (names others : List (List ℕ)) (place : ℕ) → length names ≡ place → has_double (drop place names ++ others) ≡ has_double others
no_front names others place over = ap (λ (xs : List (List ℕ)). has_double (xs ++ others)) (drop_of_length-le names (omega (arith, over)))

either_true : (a b rest : Bool) → (a ≡ true) ⊎ (b ≡ true) → true ≡ ((a || b) || rest)
either_true true b rest h = refl
either_true false true rest h = refl
either_true false false rest (inl h) = absurd cc
either_true false false rest (inr h) = absurd cc

neither : (a b rest : Bool) → a ≡ false → b ≡ false → ((a || b) || rest) ≡ rest
neither false false rest p q = refl
neither true b rest p q = absurd cc
neither false true rest p q = absurd cc

-- the name at a place stands again
pub stands_again : (names others : List (List ℕ)) (place : ℕ) (name : List ℕ) → place < length names → name ≡ get_or names place name → has_double (names ++ others) ≡ has_double (drop place names ++ others) → (list_any (λ x. bytes_eq x name) (drop (place + 1) names) ≡ true) ⊎ (list_any (λ x. bytes_eq x name) others ≡ true) → true ≡ has_double (names ++ others)
stands_again names others place name lt at left again =
    either_true _ _ (has_double (drop (place + 1) names ++ others)) again ∙ sym (left ∙ front_test names others place name lt at)

-- it does not
pub stands_once : (names others : List (List ℕ)) (place : ℕ) (name : List ℕ) → place < length names → name ≡ get_or names place name → has_double (names ++ others) ≡ has_double (drop place names ++ others) → list_any (λ x. bytes_eq x name) (drop (place + 1) names) ≡ false → list_any (λ x. bytes_eq x name) others ≡ false → has_double (names ++ others) ≡ has_double (drop (place + 1) names ++ others)
stands_once names others place name lt at left one two =
    left ∙ (front_test names others place name lt at ∙ neither _ _ (has_double (drop (place + 1) names ++ others)) one two)

has_double-append : (names others : List (List ℕ)) → has_double others ≡ true → has_double (names ++ others) ≡ true
has_double-append [] others is = is
has_double-append (n ∷ names) others is = or_later (is_among n (names ++ others)) (has_double (names ++ others)) (has_double-append names others is)

-- a name that stands twice among the others
pub double_behind : (names others : List (List ℕ)) (test : Bool) → test ≡ true → test ≡ has_double (others ++ []) → test ≡ has_double (names ++ others)
double_behind names others test holds is = holds ∙ sym (has_double-append names others (subst (λ (xs : List (List ℕ)). has_double xs ≡ true) (append-nil others) (sym is ∙ holds)))
