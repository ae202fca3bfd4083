-- Names in order, names in two lists, and names that stand twice.
use Rattle.std.proofs.Common.{◌≡◌, ◌≢◌, ℕ, zero, suc, ◌+◌, ◌-◌, ◌<◌, ◌≤◌, Bool, true, false, ◌&&◌, ◌||◌, not, bytes_eq, List, [], ◌∷◌, ◌++◌, length, get_or, drop, Some, Contains, All, IsPermutation, IsSorted, refl, sym, ap, ◌∙◌, inl, inr, ◌⊎◌, arith, add-one, length-append}
use Rattle.std.specs.Bool.{OnTrue, OnFalse}
use Rattle.std.specs.List.{AllAdjacentBelow, AllPairs, AllByRecursion, list_any}
use Rattle.std.specs.List.Sorted.{IsStrictlySortedBy}
use Rattle.std.specs.declared.cmp.Ordering.{Ordering}
use Rattle.std.specs.declared.cmp.Ordering.TheVariants.{Less, Equal, Greater}
use Rattle.std.specs.Ordering.{nat_cmp, is_lt, ordering_reverse}
use Rattle.std.specs.Cmp.Lexicographic.{slice_cmp, nat_list_eq_equiv}
use Rattle.tx_model.specs.Transactions.{Transaction, IsTransaction, named_locks, IsName, IsBefore, RiseFrom, AreLocks, is_among, are_apart, HasDouble}
use Rattle.std.proofs.lemmas.Cmp.{nat_list_cmp_total, tied_itself}
use Rattle.std.proofs.lemmas.Map.Keys.{Less-from_sorted, IsDistinct-IsPermutation}
use Rattle.std.proofs.lemmas.Map.Lookups.{exact_bytes}
use Rattle.std.proofs.lemmas.Slice.Eq.{bytes_eq-Decides}
use Rattle.std.proofs.Math.Bool.{or-true}
use Rattle.std.proofs.Math.Seq.{drop-cons}
use Rattle.std.proofs.Math.ListN.{get_or-append, drop_of_length-le}
use Rattle.std.proofs.Math.Seq.{get_or-append_right}
use Rattle.std.proofs.lemmas.List.{get_or-append-add, get_or_default, places}
use Rattle.std.proofs.lemmas.List.Elements.{All-append}
use Rattle.std.proofs.lemmas.List.Kept.{AllPairs-cons}
use Rattle.std.proofs.lemmas.List.Sorted.{IsPermutation-append, IsPermutation-sym}
use Rattle.std.proofs.lemmas.Bool.{cases_lt}
use Rattle.std.proofs.lemmas.Map.Made.{AllPairs-from_IsDistinct, IsDistinct-from_AllPairs}
use Rattle.std.proofs.lemmas.Option.{slice_get_within, get_or_from_slice_get, slice_get-get_or}

-- ---- names that rise

-- the names from a place on
pub drop-next : (names : List (List ℕ)) (i : ℕ) (name : List ℕ) → i < length names → name ≡ get_or names i name → drop i names ≡ name ∷ drop (i + 1) names
drop-next names i name lt at = rw add-one (drop-cons names i name lt ∙ ap (λ x. x ∷ drop (suc i) names) (sym at))

-- one more name rises
pub RiseFrom-more : (last name : List ℕ) (names : List (List ℕ)) (i : ℕ) → i < length names → name ≡ get_or names i name → IsName name → IsBefore last name → RiseFrom name (drop (i + 1) names) → RiseFrom last (drop i names)
unfolding RiseFrom
RiseFrom-more last name names i lt at is before rest = let place = drop-next names i name lt at in rw place (is, before, rest)

pub RiseFrom-none : (last : List ℕ) (names : List (List ℕ)) (i : ℕ) → length names ≤ i → RiseFrom last (drop i names)
unfolding RiseFrom
RiseFrom-none last names i le = let none : drop i names ≡ [] = drop_of_length-le names le in rw none tt

-- the name at a place is the last before the next place
pub get_or-next : (first name : List ℕ) (names : List (List ℕ)) (i : ℕ) → i < length names → name ≡ get_or names i name → name ≡ get_or (first ∷ names) (i + 1) first
get_or-next first name names i lt at = grind (arith, places)

-- ---- names that rise are in order, and no two are the same

Less-from_is_lt : (o : Ordering) → is_lt o ≡ true → o ≡ Less
Less-from_is_lt Less h = refl
Less-from_is_lt Equal h = absurd cc
Less-from_is_lt Greater h = absurd cc

pub below_all : (name last : List ℕ) (names : List (List ℕ)) → slice_cmp nat_cmp name last ≡ Less → RiseFrom last names → AllByRecursion (λ y. slice_cmp nat_cmp name y ≡ Less) names
unfolding RiseFrom
below_all name last [] less rise = tt
below_all name last (n ∷ names) less rise =
    let further : slice_cmp nat_cmp name n ≡ Less = nat_list_cmp_total.trans name last n less (Less-from_is_lt _ rise.1) in
    (further, below_all name n names further rise.2)

pub above_all : (last : List ℕ) (names : List (List ℕ)) → RiseFrom last names → AllByRecursion (λ y. slice_cmp nat_cmp last y ≡ Less) names
unfolding RiseFrom
above_all last [] rise = tt
above_all last (n ∷ names) rise = (Less-from_is_lt _ rise.1, below_all last n names (Less-from_is_lt _ rise.1) rise.2)

pub IsStrictlySortedBy-RiseFrom : (last : List ℕ) (names : List (List ℕ)) → RiseFrom last names → IsStrictlySortedBy (slice_cmp nat_cmp) names
unfolding RiseFrom IsStrictlySortedBy
IsStrictlySortedBy-RiseFrom last [] rise = tt
IsStrictlySortedBy-RiseFrom last (n ∷ names) rise = (above_all n names rise.2, IsStrictlySortedBy-RiseFrom n names rise.2)

pub AllPairs-AreLocks : (names : List (List ℕ)) → AreLocks names → AllPairs (λ x y. x ≢ y) names
AllPairs-AreLocks names locks i j d before within same =
    let less : slice_cmp nat_cmp (get_or names i d) (get_or names j d) ≡ Less = Less-from_sorted (slice_cmp nat_cmp) names i j d (IsStrictlySortedBy-RiseFrom [] names locks) before within in
    cc (less, ap (λ x. slice_cmp nat_cmp x (get_or names j d)) same, tied_itself nat_list_cmp_total (get_or names j d))

-- ---- names in order, no two of them the same, rise

is_before-or : (a b : List ℕ) (o : Ordering) → slice_cmp nat_cmp b a ≡ o → is_lt o ≡ false → a ≢ b → IsBefore a b
is_before-or a b Less e h ne = absurd cc
is_before-or a b Equal e h ne = absurd (ne (sym (exact_bytes b a e)))
is_before-or a b Greater e h ne = cc (nat_list_cmp_total.antisymm a b, ap ordering_reverse e)

pub AllAdjacent-from_sorted : (names : List (List ℕ)) → IsSorted (slice_cmp nat_cmp) names → AllPairs (λ x y. x ≢ y) names → AllAdjacentBelow IsBefore names (length names)
AllAdjacent-from_sorted names sorted pairs k d within =
    is_before-or _ _ _ refl (sorted k d (omega arith) within) (pairs k (k + 1) d (omega arith) within)

-- ---- a name among others

or_cases : (a b : Bool) → (a || b) ≡ true → (a ≡ true) ⊎ (b ≡ true)
or_cases true b h = inl refl
or_cases false b h = inr h

is_among-here : (name n : List ℕ) (names : List (List ℕ)) → n ≡ name → is_among name (n ∷ names) ≡ true
unfolding is_among
is_among-here name n names same = let here : bytes_eq name n ≡ true = (bytes_eq-Decides name n).1 (sym same) in rw here refl

is_among-later : (name n : List ℕ) (names : List (List ℕ)) → is_among name names ≡ true → is_among name (n ∷ names) ≡ true
unfolding is_among
is_among-later name n names later = rw later (or-true (bytes_eq name n))

pub Contains-from_is_among : (name : List ℕ) (names : List (List ℕ)) → is_among name names ≡ true → Contains names name
unfolding is_among
Contains-from_is_among name [] h = absurd cc
Contains-from_is_among name (n ∷ names) h = elim (or_cases (bytes_eq name n) (is_among name names) h) [
  | inl here ↦ (zero, omega arith, sym ((bytes_eq-Decides name n).0 here))
  | inr later ↦ let found = Contains-from_is_among name names later in (suc found.0, omega (arith, found.1), found.2)
]

pub is_among-from_Contains : (name : List ℕ) (names : List (List ℕ)) → Contains names name → is_among name names ≡ true
is_among-from_Contains name [] (k, lt, same) = absurd (omega arith)
is_among-from_Contains name (n ∷ names) (zero, lt, same) = is_among-here name n names same
is_among-from_Contains name (n ∷ names) (suc k, lt, same) = is_among-later name n names (is_among-from_Contains name names (k, omega arith, same))

-- ---- two lists that share no name

and_parts : (a b : Bool) → (not a && b) ≡ true → (a ≡ false) × (b ≡ true)
and_parts true b h = absurd cc
and_parts false b h = (refl, h)

apart_at : (reads writes : List (List ℕ)) (name : List ℕ) (k : ℕ) → are_apart reads writes ≡ true → Contains reads name → k < length writes → get_or writes k name ≡ name → ⊥
unfolding are_apart
apart_at reads [] name k apart in_reads lt same = absurd (omega arith)
apart_at reads (w ∷ writes) name zero apart in_reads lt same =
    let parts = and_parts (is_among w reads) (are_apart reads writes) apart in
    cc (parts.0, same, is_among-from_Contains name reads in_reads)
apart_at reads (w ∷ writes) name (suc k) apart in_reads lt same =
    let parts = and_parts (is_among w reads) (are_apart reads writes) apart in
    apart_at reads writes name k parts.1 in_reads (omega arith) same

-- no name stands in both of two lists that are apart
pub are_apart-Contains : (reads writes : List (List ℕ)) (name : List ℕ) → are_apart reads writes ≡ true → Contains reads name → Contains writes name → ⊥
are_apart-Contains reads writes name apart in_reads (k, lt, same) = apart_at reads writes name k apart in_reads lt same

apart_with : (reads : List (List ℕ)) (w : List ℕ) (writes : List (List ℕ)) → is_among w reads ≡ false → are_apart reads writes ≡ true → are_apart reads (w ∷ writes) ≡ true
unfolding are_apart
apart_with reads w writes none apart = rw (none, apart) refl

Contains-later : (w : List ℕ) (writes : List (List ℕ)) (name : List ℕ) → Contains writes name → Contains (w ∷ writes) name
Contains-later w writes name (k, lt, same) = (suc k, omega arith, same)

pub not_true : (b : Bool) → (b ≡ true → ⊥) → b ≡ false
not_true true h = absurd (h refl)
not_true false h = refl

-- two lists that share no name are apart
pub are_apart-from_none : (reads writes : List (List ℕ)) → ((name : List ℕ) → Contains reads name → Contains writes name → ⊥) → are_apart reads writes ≡ true
unfolding are_apart
are_apart-from_none reads [] none = refl
are_apart-from_none reads (w ∷ writes) none =
    apart_with reads w writes
    (not_true (is_among w reads) (λ h. none w (Contains-from_is_among w reads h) (zero, omega arith, refl)))
    (are_apart-from_none reads writes (λ name in_reads in_writes. none name in_reads (Contains-later w writes name in_writes)))

-- ---- the same test as a search makes it

pub list_any-is_among : (name : List ℕ) (names : List (List ℕ)) → list_any (λ other. bytes_eq other name) names ≡ is_among name names
unfolding is_among
list_any-is_among name [] = refl
list_any-is_among name (n ∷ names) = rw (nat_list_eq_equiv.symm n name, list_any-is_among name names) refl

-- ---- names that are all different

-- names of two lists, all different, are different in each, and no name stands in both
pub AllPairs-front : (xs ys : List (List ℕ)) → AllPairs (λ x y. x ≢ y) (xs ++ ys) → AllPairs (λ x y. x ≢ y) xs
AllPairs-front xs ys pairs i j d before within same =
    pairs i j d before (omega (arith, length-append xs ys)) (get_or-append xs ys d i (omega arith) ∙ same ∙ sym (get_or-append xs ys d j within))

pub AllPairs-back : (xs ys : List (List ℕ)) → AllPairs (λ x y. x ≢ y) (xs ++ ys) → AllPairs (λ x y. x ≢ y) ys
AllPairs-back xs ys pairs i j d before within same =
    pairs (length xs + i) (length xs + j) d (omega arith) (omega (arith, length-append xs ys)) (get_or-append-add xs ys i d ∙ same ∙ sym (get_or-append-add xs ys j d))

pub AllPairs-none : (xs ys : List (List ℕ)) → AllPairs (λ x y. x ≢ y) (xs ++ ys) → (name : List ℕ) → Contains xs name → Contains ys name → ⊥
AllPairs-none xs ys pairs name (i, i_within, i_same) (j, j_within, j_same) =
    pairs i (length xs + j) name (omega arith) (omega (arith, length-append xs ys)) (get_or-append xs ys name i i_within ∙ i_same ∙ sym (get_or-append-add xs ys j name ∙ j_same))

pub AllPairs-append : (xs ys : List (List ℕ)) → AllPairs (λ x y. x ≢ y) xs → AllPairs (λ x y. x ≢ y) ys → ((name : List ℕ) → Contains xs name → Contains ys name → ⊥) → AllPairs (λ x y. x ≢ y) (xs ++ ys)
AllPairs-append xs ys front back none i j d before within same =
    let total : length (xs ++ ys) ≡ length xs + length ys = length-append xs ys in
    elim (cases_lt j (length xs)) [
      | inl j_front ↦
          front i j d before j_front (sym (get_or-append xs ys d i (omega arith)) ∙ same ∙ get_or-append xs ys d j j_front)
      | inr j_back ↦ elim (cases_lt i (length xs)) [
        | inl i_front ↦
            none (get_or xs i d) (i, i_front, get_or_default xs i (get_or xs i d) d i_front)
            (j - length xs, omega arith, get_or_default ys (j - length xs) (get_or xs i d) d (omega arith) ∙ sym (get_or-append_right xs ys j d j_back) ∙ sym same ∙ get_or-append xs ys d i i_front)
        | inr i_back ↦
            back (i - length xs) (j - length xs) d (omega arith) (omega arith) (sym (get_or-append_right xs ys i d i_back) ∙ same ∙ get_or-append_right xs ys j d j_back)
      ]
    ]

-- locks that are apart are all different
pub AllPairs-locks : (reads writes : List (List ℕ)) → AreLocks reads → AreLocks writes → are_apart reads writes ≡ true → AllPairs (λ x y. x ≢ y) (reads ++ writes)
AllPairs-locks reads writes read_locks write_locks apart =
    AllPairs-append reads writes (AllPairs-AreLocks reads read_locks) (AllPairs-AreLocks writes write_locks) (λ name. are_apart-Contains reads writes name apart)

-- names stay different when they change places
pub AllPairs-IsPermutation : (xs ys : List (List ℕ)) → IsPermutation xs ys → AllPairs (λ x y. x ≢ y) xs → AllPairs (λ x y. x ≢ y) ys
AllPairs-IsPermutation xs ys moved pairs =
    AllPairs-from_IsDistinct bytes_eq-Decides ys (IsDistinct-IsPermutation bytes_eq nat_list_eq_equiv.symm xs ys moved (IsDistinct-from_AllPairs bytes_eq-Decides xs pairs))

-- ---- a name that stands twice

pub HasDouble-AllPairs : (names : List (List ℕ)) → HasDouble names → AllPairs (λ x y. x ≢ y) names → ⊥
HasDouble-AllPairs names double pairs =
    pairs double.first double.second [] double.later (slice_get_within names double.second double.name double.at_second)
    (get_or_from_slice_get names double.first double.name [] double.at_first ∙ sym (get_or_from_slice_get names double.second double.name [] double.at_second))

HasDouble-here : (n : List ℕ) (names : List (List ℕ)) → Contains names n → HasDouble (n ∷ names)
HasDouble-here n names (k, lt, same) = record {
  name = n;
  first = zero;
  second = suc k;
  later = omega arith;
  at_first = refl;
  at_second = slice_get-get_or names k n lt ∙ ap (λ x. Some x) same;
}

HasDouble-later : (n : List ℕ) (names : List (List ℕ)) → HasDouble names → HasDouble (n ∷ names)
HasDouble-later n names double = record {
  name = double.name;
  first = suc double.first;
  second = suc double.second;
  later = let later = double.later in omega arith;
  at_first = double.at_first;
  at_second = double.at_second;
}

AllPairs-with : (n : List ℕ) (names : List (List ℕ)) → is_among n names ≡ false → AllPairs (λ x y. x ≢ y) names → AllPairs (λ x y. x ≢ y) (n ∷ names)
AllPairs-with n names none pairs =
    AllPairs-cons (λ x y. x ≢ y) n names (λ k d lt same. cc (none, is_among-from_Contains n names (k, lt, get_or_default names k n d lt ∙ sym same))) pairs

-- names are all different, or one stands twice
pub double_or : (names : List (List ℕ)) → AllPairs (λ x y. x ≢ y) names ⊎ HasDouble names
double_or [] = inl (λ i j d before within. absurd (omega arith))
double_or (n ∷ names) = double_with n names (is_among n names) refl (double_or names)
  where
    double_with : (n : List ℕ) (names : List (List ℕ)) (b : Bool) → is_among n names ≡ b → AllPairs (λ x y. x ≢ y) names ⊎ HasDouble names → AllPairs (λ x y. x ≢ y) (n ∷ names) ⊎ HasDouble (n ∷ names)
    double_with n names b e (inr double) = inr (HasDouble-later n names double)
    double_with n names true e (inl pairs) = inr (HasDouble-here n names (Contains-from_is_among n names e))
    double_with n names false e (inl pairs) = inl (AllPairs-with n names e pairs)

-- ---- two lists, and the same lists in order

-- lists in order that are locks came from names without a double if they are apart
pub none_double : {reads writes read_locks write_locks : List (List ℕ)} → IsPermutation reads read_locks → IsPermutation writes write_locks → AreLocks read_locks → AreLocks write_locks → (b : Bool) → b ≡ are_apart read_locks write_locks → OnTrue b (¬ HasDouble (reads ++ writes))
none_double reads_moved writes_moved reads_rise writes_rise false apart = tt
none_double {reads} {writes} {read_locks} {write_locks} reads_moved writes_moved reads_rise writes_rise true apart = λ double.
    let moved : IsPermutation (read_locks ++ write_locks) (reads ++ writes) = IsPermutation-sym _ _ (IsPermutation-append reads read_locks writes write_locks reads_moved writes_moved) in
    HasDouble-AllPairs (reads ++ writes) double (AllPairs-IsPermutation (read_locks ++ write_locks) (reads ++ writes) moved (AllPairs-locks read_locks write_locks reads_rise writes_rise (sym apart)))

-- lists in order that do not rise strictly, or are not apart, came from names with a double
pub some_double : {reads writes read_names write_names : List (List ℕ)} → IsPermutation reads read_names → IsPermutation writes write_names → IsSorted (slice_cmp nat_cmp) read_names → IsSorted (slice_cmp nat_cmp) write_names → (AllAdjacentBelow IsBefore read_names (length read_names) → AllAdjacentBelow IsBefore write_names (length write_names) → are_apart read_names write_names ≡ true → ⊥) → HasDouble (reads ++ writes)
some_double {reads} {writes} {read_names} {write_names} reads_moved writes_moved reads_sorted writes_sorted fails = elim (double_or (reads ++ writes)) [
  | inr double ↦ double
  | inl pairs ↦
      let moved : AllPairs (λ x y. x ≢ y) (read_names ++ write_names) = AllPairs-IsPermutation (reads ++ writes) (read_names ++ write_names) (IsPermutation-append reads read_names writes write_names reads_moved writes_moved) pairs in
      absurd (fails (AllAdjacent-from_sorted read_names reads_sorted (AllPairs-front read_names write_names moved)) (AllAdjacent-from_sorted write_names writes_sorted (AllPairs-back read_names write_names moved)) (are_apart-from_none read_names write_names (AllPairs-none read_names write_names moved)))
]

pub double_unless : {reads writes read_names write_names : List (List ℕ)} → IsPermutation reads read_names → IsPermutation writes write_names → IsSorted (slice_cmp nat_cmp) read_names → IsSorted (slice_cmp nat_cmp) write_names → (b : Bool) → b ≡ are_apart read_names write_names → OnFalse b (HasDouble (reads ++ writes))
double_unless reads_moved writes_moved reads_sorted writes_sorted true apart = tt
double_unless reads_moved writes_moved reads_sorted writes_sorted false apart = some_double reads_moved writes_moved reads_sorted writes_sorted (λ reads writes h. cc (apart, h))

-- ---- transactions

pub AreLocks-All : (last : List ℕ) (names : List (List ℕ)) → RiseFrom last names → All IsName names
unfolding RiseFrom
AreLocks-All last [] rise k d lt = absurd (omega arith)
AreLocks-All last (n ∷ names) rise zero d lt = rise.0
AreLocks-All last (n ∷ names) rise (suc k) d lt = AreLocks-All n names rise.2 k d (omega arith)

-- no name is at two places of a transaction
pub AllPairs-named_locks : (tx : Transaction) → IsTransaction tx → AllPairs (λ x y. x ≢ y) (named_locks tx)
AllPairs-named_locks tx is = AllPairs-locks tx.reads tx.writes is.reads is.writes is.apart

pub HasDouble-named_locks : (tx : Transaction) → IsTransaction tx → HasDouble (named_locks tx) → ⊥
HasDouble-named_locks tx is double = HasDouble-AllPairs (named_locks tx) double (AllPairs-named_locks tx is)

pub length-named_locks : (tx : Transaction) → IsTransaction tx → length (named_locks tx) ≤ 64
length-named_locks tx is = let count = is.count in omega (arith, length-append tx.reads tx.writes)

pub All-named_locks : (tx : Transaction) → IsTransaction tx → All IsName (named_locks tx)
All-named_locks tx is = All-append IsName tx.reads tx.writes (AreLocks-All [] tx.reads is.reads) (AreLocks-All [] tx.writes is.writes)
