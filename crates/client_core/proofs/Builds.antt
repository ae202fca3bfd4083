-- What a client builds, and the keys that its ops name.
use Rattle.std.proofs.Common.{◌≡◌, ℕ, Bool, true, false, cond, not, bytes_eq, ◌&&◌, T, List, [], ◌∷◌, map, Contains, find, Option, Some, None, refl, sym, ap, subst, ◌∙◌, inl, inr}
use Rattle.std.specs.List.{AllByRecursion, list_any}
use Rattle.std.specs.FinMap as finite
use Rattle.std.specs.FinMap.{entries_sorted}
use Rattle.std.specs.FinMap.Entries.{is_sorted, below_all}
use Rattle.std.specs.declared.cmp.Ordering.{Ordering}
use Rattle.std.specs.declared.cmp.Ordering.TheVariants.{Less, Equal, Greater}
use Rattle.std.specs.Ordering.{is_lt}
use Rattle.std.specs.List.Sorted.{IsStrictlySortedBy}
use Rattle.tx_model.specs.declared.op.Op.{Op}
use Rattle.tx_model.specs.Transactions.{Transaction, Says, is_before, is_among}
use Rattle.tx_model.specs.Applications.{name_cmp, ops_of, op_key, key_set, SpellsOps}
use Rattle.tx_model.proofs.Names.{Contains-from_is_among, is_among-from_Contains, list_any-is_among}
use Rattle.kv_app.specs.Touches.{touched_keys}
use Rattle.kv_app.proofs.WordTexts.{ops_of-SpellsOps}
use Rattle.client_core.specs.Clients.{in_order}
use Rattle.client_core.specs.Building.{keys_of, named_keys, IsLeastUnlocked, unlocked_key}
use Rattle.client_core.proofs.Orders.{in_order_is, here, later, where_in, less_in, not_before, not_before_same}

-- what says this is this transaction
pub built_is : (tx : Transaction) (client request mark : ℕ) (reads writes : List (List ℕ)) (ops : List ℕ) → Says tx client request mark reads writes ops → tx ≡ record { client = client; request = request; mark = mark; reads = in_order reads; writes = in_order writes; payload = ops }
built_is tx client request mark reads writes ops says =
    let same_reads : tx.reads ≡ in_order reads = in_order_is reads tx.reads says.same_reads says.valid.reads in
    let same_writes : tx.writes ≡ in_order writes = in_order_is writes tx.writes says.same_writes says.valid.writes in
    λ i. record { client = says.same_client i; request = says.same_request i; mark = says.same_mark i; reads = same_reads i; writes = same_writes i; payload = says.same_payload i }

-- ---- the first key that is no write lock

abbrev pub is_free : List (List ℕ) → List ℕ → Bool
is_free writes key = not (is_among key writes)

not_in : (writes : List (List ℕ)) (key : List ℕ) → is_free writes key ≡ true → ¬ Contains writes key
not_in writes key free is = cc (free, is_among-from_Contains key writes is)

is_in : (writes : List (List ℕ)) (key : List ℕ) → is_free writes key ≡ false → Contains writes key
is_in writes key held = Contains-from_is_among key writes (flipped (is_among key writes) held)
  where
    flipped : (b : Bool) → not b ≡ false → b ≡ true
    flipped true h = refl
    flipped false h = absurd cc

first_is_least : (writes keys : List (List ℕ)) (k : List ℕ) → IsStrictlySortedBy name_cmp (k ∷ keys) → is_free writes k ≡ true → IsLeastUnlocked writes (k ∷ keys) k
unfolding IsStrictlySortedBy
first_is_least writes keys k rise free = record {
  named = here k keys;
  unlocked = not_in writes k free;
  least = λ other is out. elim (where_in k other keys is) [
    | inl same ↦ subst (λ x. is_before x k ≡ false) same (not_before_same k)
    | inr among ↦ not_before k other (less_in k other keys rise.0 among)
  ];
}

later_is_least : (writes keys : List (List ℕ)) (k key : List ℕ) → is_free writes k ≡ false → IsLeastUnlocked writes keys key → IsLeastUnlocked writes (k ∷ keys) key
later_is_least writes keys k key held least = record {
  named = later k key keys least.named;
  unlocked = least.unlocked;
  least = λ other is out. elim (where_in k other keys is) [
    | inl same ↦ absurd (out (subst (λ x. Contains writes x) same (is_in writes k held)))
    | inr among ↦ least.least other among out
  ];
}

find_is_least : (writes keys : List (List ℕ)) (key : List ℕ) → IsStrictlySortedBy name_cmp keys → find (is_free writes) keys ≡ Some key → IsLeastUnlocked writes keys key
unfolding IsStrictlySortedBy
find_is_least writes [] key rise found = absurd cc
find_is_least writes (k ∷ keys) key rise found =
    elim (is_free writes k) as (λ b. is_free writes k ≡ b → cond b (Some k) (find (is_free writes) keys) ≡ Some key → IsLeastUnlocked writes (k ∷ keys) key) [
      | true ↦ λ free first. let same : k ≡ key = cc in subst (λ x. IsLeastUnlocked writes (k ∷ keys) x) same (first_is_least writes keys k rise free)
      | false ↦ λ held rest. later_is_least writes keys k key held (find_is_least writes keys key rise.1 rest)
    ] refl found

-- ---- the keys of a payload

rises : (es : List (List ℕ × Unit {0})) → T (is_sorted name_cmp es) → IsStrictlySortedBy name_cmp (map (λ (e : List ℕ × Unit {0}). e.0) es)
unfolding IsStrictlySortedBy
rises [] sorted = tt
rises (e ∷ es) sorted = (all_below e.0 es (first_true _ _ sorted), rises es (second_true _ _ sorted))
  where
    first_true : (a b : Bool) → T (a && b) → T a
    first_true true b h = tt
    first_true false b h = h

    second_true : (a b : Bool) → T (a && b) → T b
    second_true true b h = h
    second_true false b h = absurd h

    less_of : (o : Ordering) → T (is_lt o) → o ≡ Less
    less_of Less h = refl
    less_of Equal h = absurd h
    less_of Greater h = absurd h

    all_below : (k : List ℕ) (es : List (List ℕ × Unit {0})) → T (below_all name_cmp k es) → AllByRecursion (λ y. name_cmp k y ≡ Less) (map (λ (e : List ℕ × Unit {0}). e.0) es)
    all_below k [] h = tt
    all_below k (e ∷ es) h = (less_of _ (first_true _ _ h), all_below k es (second_true _ _ h))

named_keys_rise : (payload : List ℕ) → IsStrictlySortedBy name_cmp (named_keys payload)
unfolding IsStrictlySortedBy
named_keys_rise payload = go (ops_of payload)
  where
    go : (ops : Option (List Op)) → IsStrictlySortedBy name_cmp (keys_of ops)
    go None = tt
    go (Some ops) = rises (finite.entries (key_set (map op_key ops))) (entries_sorted (key_set (map op_key ops)))

pub unlocked_is_least : (writes : List (List ℕ)) (payload key : List ℕ) → unlocked_key writes payload ≡ Some key → IsLeastUnlocked writes (named_keys payload) key
unlocked_is_least writes payload key found = find_is_least writes (named_keys payload) key (named_keys_rise payload) found

find_same : (f g : List ℕ → Bool) (keys : List (List ℕ)) → ((key : List ℕ) → f key ≡ g key) → find f keys ≡ find g keys
find_same f g [] same = refl
find_same f g (k ∷ keys) same = ap (λ b. cond b (Some k) (find f keys)) (same k) ∙ ap (cond (g k) (Some k)) (find_same f g keys same)

-- the keys of a payload are those of its ops
pub key_found : (writes : List (List ℕ)) (payload : List ℕ) (ops : List Op) (keys : List (List ℕ)) (key : Option (List ℕ)) → SpellsOps payload ops → keys ≡ touched_keys ops → key ≡ find (λ key. not (list_any (λ write. bytes_eq write key) writes)) keys → key ≡ unlocked_key writes payload
key_found writes payload ops keys key spells are is =
    is ∙ (find_same (λ key. not (list_any (λ write. bytes_eq write key) writes)) (is_free writes) keys (λ key. ap not (list_any-is_among key writes)) ∙ ap (find (is_free writes)) (are ∙ sym (ap keys_of (ops_of-SpellsOps payload ops spells))))
