-- Names in order: lists of names that rise, and what puts a list in order.
use Rattle.std.proofs.Common.{◌≡◌, ℕ, zero, suc, true, false, List, [], ◌∷◌, Contains, IsPermutation, refl, sym, ap, ◌∙◌, ◌⊎◌, inl, inr, if◌then◌else◌, arith}
use Rattle.std.specs.List.{AllByRecursion, IsDistinct}
use Rattle.std.specs.List.Sorted.{IsStrictlySortedBy}
use Rattle.std.specs.declared.cmp.Ordering.{Ordering}
use Rattle.std.specs.declared.cmp.Ordering.TheVariants.{Less, Equal, Greater}
use Rattle.std.specs.Ordering.{is_lt, is_eq, eq_by_cmp, ordering_reverse}
use Rattle.std.proofs.lemmas.Cmp.{nat_list_cmp_total, tied_itself}
use Rattle.std.proofs.lemmas.Map.Keys.{IsDistinct-IsPermutation, IsDistinct-from_sorted, IsDistinct-head, IsDistinct-tail}
use Rattle.std.proofs.lemmas.Map.Lookups.{exact_bytes}
use Rattle.std.proofs.lemmas.List.Sorted.{IsPermutation-refl, IsPermutation-cons, IsPermutation-sym, IsPermutation-trans, IsPermutation-middle, Contains-permutation}
use Rattle.tx_model.specs.Transactions.{AreLocks, is_before}
use Rattle.tx_model.specs.Applications.{name_cmp}
use Rattle.tx_model.proofs.Names.{IsStrictlySortedBy-RiseFrom}
use Rattle.client_core.specs.Clients.{with_name, in_order}

-- ---- two names

-- where neither the one nor equal comes first
before_flips : (a b : List ℕ) (o : Ordering) → name_cmp b a ≡ o → is_lt o ≡ false → eq_by_cmp name_cmp a b ≡ false → name_cmp a b ≡ Less
before_flips a b Less e h ne = absurd cc
before_flips a b Equal e h ne = absurd (cc (ap is_eq (nat_list_cmp_total.antisymm a b ∙ ap ordering_reverse e), ne))
before_flips a b Greater e h ne = nat_list_cmp_total.antisymm a b ∙ ap ordering_reverse e

before_is : (o : Ordering) → is_lt o ≡ true → o ≡ Less
before_is Less h = refl
before_is Equal h = absurd cc
before_is Greater h = absurd cc

both_before : (a b : List ℕ) → name_cmp a b ≡ Less → name_cmp b a ≡ Less → ⊥
both_before a b ab ba = cc (ab, nat_list_cmp_total.antisymm a b, ba)

pub not_before_itself : (a : List ℕ) → name_cmp a a ≡ Less → ⊥
not_before_itself a h = cc (h, tied_itself nat_list_cmp_total a)

pub not_before : (a b : List ℕ) → name_cmp a b ≡ Less → is_before b a ≡ false
not_before a b less = ap is_lt (nat_list_cmp_total.antisymm b a ∙ ap ordering_reverse less)

pub not_before_same : (a : List ℕ) → is_before a a ≡ false
not_before_same a = ap is_lt (tied_itself nat_list_cmp_total a)

-- two names, neither before the other, are one
pub same_unless_before : (a b : List ℕ) → is_before a b ≡ false → is_before b a ≡ false → a ≡ b
same_unless_before a b ab ba = same_by (name_cmp a b) refl ab
  where
    same_by : (o : Ordering) → name_cmp a b ≡ o → is_lt o ≡ false → a ≡ b
    same_by Less e h = absurd cc
    same_by Equal e h = exact_bytes a b e
    same_by Greater e h = absurd (cc (ba, ap is_lt (nat_list_cmp_total.antisymm b a ∙ ap ordering_reverse e)))

-- ---- a name put into its place

-- what holds of the name and of the others holds of all of them
all_with_name : (P : List ℕ → Type 0) (name : List ℕ) (names : List (List ℕ)) → P name → AllByRecursion P names → AllByRecursion P (with_name name names)
all_with_name P name [] here all = (here, tt)
all_with_name P name (other ∷ others) here all =
    elim (is_before other name) as (λ b. AllByRecursion P (if b then other ∷ with_name name others else name ∷ other ∷ others)) [
      | true ↦ (all.0, all_with_name P name others here all.1)
      | false ↦ (here, all)
    ]

all_in_order : (P : List ℕ → Type 0) (names : List (List ℕ)) → AllByRecursion P names → AllByRecursion P (in_order names)
all_in_order P [] all = tt
all_in_order P (name ∷ names) all = all_with_name P name (in_order names) all.0 (all_in_order P names all.1)

all_further : (a b : List ℕ) (names : List (List ℕ)) → name_cmp a b ≡ Less → AllByRecursion (λ y. name_cmp b y ≡ Less) names → AllByRecursion (λ y. name_cmp a y ≡ Less) names
all_further a b [] less all = tt
all_further a b (n ∷ names) less all = (nat_list_cmp_total.trans a b n less all.0, all_further a b names less all.1)

strict_with_name : (name : List ℕ) (names : List (List ℕ)) → IsStrictlySortedBy name_cmp names → AllByRecursion (λ y. eq_by_cmp name_cmp name y ≡ false) names → IsStrictlySortedBy name_cmp (with_name name names)
unfolding IsStrictlySortedBy
strict_with_name name [] rise apart = (tt, tt)
strict_with_name name (other ∷ others) rise apart =
    elim (is_before other name) as (λ b. is_before other name ≡ b → IsStrictlySortedBy name_cmp (if b then other ∷ with_name name others else name ∷ other ∷ others)) [
      | true ↦ λ before.
          (all_with_name (λ y. name_cmp other y ≡ Less) name others (before_is _ before) rise.0, strict_with_name name others rise.1 apart.1)
      | false ↦ λ after.
          let less : name_cmp name other ≡ Less = before_flips name other _ refl after apart.0 in
          ((less, all_further name other others less rise.0), rise)
    ] refl

strict_in_order : (names : List (List ℕ)) → IsDistinct (eq_by_cmp name_cmp) names → IsStrictlySortedBy name_cmp (in_order names)
unfolding IsStrictlySortedBy
strict_in_order [] distinct = tt
strict_in_order (name ∷ names) distinct =
    strict_with_name name (in_order names) (strict_in_order names (IsDistinct-tail (eq_by_cmp name_cmp) name names distinct))
    (all_in_order (λ y. eq_by_cmp name_cmp name y ≡ false) names (IsDistinct-head (eq_by_cmp name_cmp) name names distinct))

-- ---- the same names

moves_with_name : (name : List ℕ) (names : List (List ℕ)) → IsPermutation (name ∷ names) (with_name name names)
moves_with_name name [] = IsPermutation-refl (name ∷ [])
moves_with_name name (other ∷ others) =
    elim (is_before other name) as (λ b. IsPermutation (name ∷ other ∷ others) (if b then other ∷ with_name name others else name ∷ other ∷ others)) [
      | true ↦
          IsPermutation-trans (name ∷ other ∷ others) (other ∷ name ∷ others) (other ∷ with_name name others)
          (IsPermutation-middle (name ∷ []) other others) (IsPermutation-cons other _ _ (moves_with_name name others))
      | false ↦ IsPermutation-refl (name ∷ other ∷ others)
    ]

moves_in_order : (names : List (List ℕ)) → IsPermutation names (in_order names)
moves_in_order [] = IsPermutation-refl []
moves_in_order (name ∷ names) =
    IsPermutation-trans (name ∷ names) (name ∷ in_order names) (in_order (name ∷ names))
    (IsPermutation-cons name _ _ (moves_in_order names)) (moves_with_name name (in_order names))

-- ---- two lists that rise and have the same names are one list

pub none_in_none : (q : List ℕ) → Contains [] q → ⊥
none_in_none q (k, lt, same) = absurd (omega arith)

pub here : (x : List ℕ) (xs : List (List ℕ)) → Contains (x ∷ xs) x
here x xs = (zero, omega arith, refl)

pub later : (x q : List ℕ) (xs : List (List ℕ)) → Contains xs q → Contains (x ∷ xs) q
later x q xs (k, lt, same) = (suc k, omega arith, same)

pub where_in : (x q : List ℕ) (xs : List (List ℕ)) → Contains (x ∷ xs) q → (x ≡ q) ⊎ Contains xs q
where_in x q xs (zero, lt, same) = inl same
where_in x q xs (suc k, lt, same) = inr (k, omega arith, same)

pub less_in : (x q : List ℕ) (xs : List (List ℕ)) → AllByRecursion (λ y. name_cmp x y ≡ Less) xs → Contains xs q → name_cmp x q ≡ Less
less_in x q [] all is = absurd (none_in_none q is)
less_in x q (y ∷ ys) all is = elim (where_in y q ys is) [
  | inl same ↦ rw same at all.0
  | inr among ↦ less_in x q ys all.1 among
]

abbrev AllIn : List (List ℕ) → List (List ℕ) → Type 0
AllIn xs ys = (q : List ℕ) → Contains xs q → Contains ys q

same_heads : (x y : List ℕ) (xs ys : List (List ℕ)) → AllByRecursion (λ z. name_cmp x z ≡ Less) xs → AllByRecursion (λ z. name_cmp y z ≡ Less) ys → Contains (y ∷ ys) x → Contains (x ∷ xs) y → x ≡ y
same_heads x y xs ys above_x above_y x_in y_in = elim (where_in y x ys x_in) [
  | inl same ↦ sym same
  | inr x_later ↦ elim (where_in x y xs y_in) [
    | inl same ↦ same
    | inr y_later ↦ absurd (both_before x y (less_in x y xs above_x y_later) (less_in y x ys above_y x_later))
  ]
]

rest_in : (x y : List ℕ) (xs ys : List (List ℕ)) → x ≡ y → AllByRecursion (λ z. name_cmp x z ≡ Less) xs → AllIn (x ∷ xs) (y ∷ ys) → AllIn xs ys
rest_in x y xs ys same above all q is = elim (where_in y q ys (all q (later x q xs is))) [
  | inl first ↦
      let less : name_cmp x q ≡ Less = less_in x q xs above is in
      absurd (not_before_itself x (rw (← (same ∙ first)) at less))
  | inr among ↦ among
]

same_names : (xs ys : List (List ℕ)) → IsStrictlySortedBy name_cmp xs → IsStrictlySortedBy name_cmp ys → AllIn xs ys → AllIn ys xs → xs ≡ ys
unfolding IsStrictlySortedBy
same_names [] [] rise_x rise_y to from = refl
same_names [] (y ∷ ys) rise_x rise_y to from = absurd (none_in_none y (from y (here y ys)))
same_names (x ∷ xs) [] rise_x rise_y to from = absurd (none_in_none x (to x (here x xs)))
same_names (x ∷ xs) (y ∷ ys) rise_x rise_y to from =
    let head : x ≡ y = same_heads x y xs ys rise_x.0 rise_y.0 (to x (here x xs)) (from y (here y ys)) in
    let rest : xs ≡ ys = same_names xs ys rise_x.1 rise_y.1 (rest_in x y xs ys head rise_x.0 to) (rest_in y x ys xs (sym head) rise_y.0 from) in
    cc

-- a list of locks is the list in order of any list that has their names
pub in_order_is : (names locks : List (List ℕ)) → IsPermutation names locks → AreLocks locks → locks ≡ in_order names
in_order_is names locks moved rise =
    let strict : IsStrictlySortedBy name_cmp locks = IsStrictlySortedBy-RiseFrom [] locks rise in
    let distinct : IsDistinct (eq_by_cmp name_cmp) names = IsDistinct-IsPermutation (eq_by_cmp name_cmp) flips locks names (IsPermutation-sym names locks moved) (IsDistinct-from_sorted name_cmp locks strict) in
    let ordered : IsPermutation names (in_order names) = moves_in_order names in
    same_names locks (in_order names) strict (strict_in_order names distinct)
    (λ q is. Contains-permutation names (in_order names) q ordered (Contains-permutation locks names q (IsPermutation-sym names locks moved) is))
    (λ q is. Contains-permutation names locks q moved (Contains-permutation (in_order names) names q (IsPermutation-sym names (in_order names) ordered) is))
  where
    reversed : (o : Ordering) → is_eq (ordering_reverse o) ≡ is_eq o
    reversed Less = refl
    reversed Equal = refl
    reversed Greater = refl

    flips : (x y : List ℕ) → eq_by_cmp name_cmp x y ≡ eq_by_cmp name_cmp y x
    flips x y = ap is_eq (nat_list_cmp_total.antisymm x y) ∙ reversed (name_cmp y x)
