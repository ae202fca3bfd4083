-- Keys in byte order, each once.
use Rattle.std.proofs.Common.{◌≡◌, ◌⊎◌, ◌↔◌, ℕ, zero, suc, Bool, true, false, ◌||◌, cond, bytes_eq, List, [], ◌∷◌, length, map, Some, None, Contains, IsPermutation, IsSorted, refl, sym, ◌∙◌, ap, subst, arith, inl, inr}
use Rattle.std.specs.FinMap as finite
use Rattle.std.specs.FinMap.{put, get-empty, get-insert, entries-insert, len-entries, len-empty, same_map}
use Rattle.std.specs.List.{AllByRecursion, list_any, dedup}
use Rattle.std.specs.List.Sorted.{IsStrictlySortedBy}
use Rattle.std.specs.declared.cmp.Ordering.{Ordering}
use Rattle.std.specs.declared.cmp.Ordering.TheVariants.{Less, Equal, Greater}
use Rattle.std.specs.Ordering.{nat_cmp, is_eq}
use Rattle.std.specs.Cmp.Lexicographic.{slice_cmp, nat_list_eq_equiv, texts_ties}
use Rattle.std.proofs.lemmas.Cmp.{nat_list_cmp_total, tied_itself}
use Rattle.std.proofs.lemmas.Map.Lookups.{exact_bytes}
use Rattle.std.proofs.lemmas.Slice.Eq.{bytes_eq-Decides}
use Rattle.std.proofs.lemmas.List.Kept.{Contains-dedup, Contains-from_dedup, IsStrictlySortedBy-dedup}
use Rattle.std.proofs.lemmas.List.Sorted.{IsPermutation-sym, Contains-permutation}
use Rattle.tx_model.specs.Applications.{name_cmp}
use Rattle.kv_app.specs.Touches.{key_set}

is_eq-Equal : (o : Ordering) → is_eq o ≡ true → o ≡ Equal
is_eq-Equal Less h = absurd cc
is_eq-Equal Equal h = refl
is_eq-Equal Greater h = absurd cc

or_cases : (a b : Bool) → (a || b) ≡ true → (a ≡ true) ⊎ (b ≡ true)
or_cases true b h = inl refl
or_cases false b h = inr h

or_later : (a : Bool) → (a || true) ≡ true
or_later true = refl
or_later false = refl

abbrev is_in : List ℕ → List (List ℕ) → Bool
is_in q keys = list_any (λ key. is_eq (name_cmp q key)) keys

Contains-from_is_in : (q : List ℕ) (keys : List (List ℕ)) → is_in q keys ≡ true → Contains keys q
Contains-from_is_in q [] h = absurd cc
Contains-from_is_in q (key ∷ keys) h = elim (or_cases (is_eq (name_cmp q key)) (is_in q keys) h) [
  | inl here ↦ (zero, omega arith, sym (exact_bytes q key (is_eq-Equal _ here)))
  | inr later ↦ let found = Contains-from_is_in q keys later in (suc found.0, omega (arith, found.1), found.2)
]

is_in-from_Contains : (q : List ℕ) (keys : List (List ℕ)) → Contains keys q → is_in q keys ≡ true
is_in-from_Contains q [] (k, lt, same) = absurd (omega arith)
is_in-from_Contains q (key ∷ keys) (zero, lt, same) =
    let here : is_eq (name_cmp q key) ≡ true = ap (λ k. is_eq (name_cmp q k)) same ∙ ap is_eq (tied_itself nat_list_cmp_total q) in
    rw here refl
is_in-from_Contains q (key ∷ keys) (suc k, lt, same) = rw (is_in-from_Contains q keys (k, omega arith, same)) (or_later (is_eq (name_cmp q key)))

get-key_set : (keys : List (List ℕ)) (q : List ℕ) → finite.get (key_set keys) q ≡ cond (is_in q keys) (Some tt) None
get-key_set [] q = get-empty name_cmp q
get-key_set (key ∷ keys) q = get-insert nat_list_cmp_total (key_set keys) key tt q ∙ go (is_eq (name_cmp q key)) (get-key_set keys q)
  where
    go : (b : Bool) → finite.get (key_set keys) q ≡ cond (is_in q keys) (Some tt) None → cond b (Some tt) (finite.get (key_set keys) q) ≡ cond (b || is_in q keys) (Some tt) None
    go true e = refl
    go false e = e

same_bool : (a b : Bool) → (a ≡ true → b ≡ true) → (b ≡ true → a ≡ true) → a ≡ b
same_bool true b to from = sym (to refl)
same_bool false true to from = from refl
same_bool false false to from = refl

pub same_key_set : (xs ys : List (List ℕ)) → ((q : List ℕ) → Contains xs q ↔ Contains ys q) → key_set xs ≡ key_set ys
same_key_set xs ys same = same_map nat_list_cmp_total exact_bytes (key_set xs) (key_set ys) (λ q.
    let both : is_in q xs ≡ is_in q ys = same_bool (is_in q xs) (is_in q ys)
    (λ h. is_in-from_Contains q ys ((same q).0 (Contains-from_is_in q xs h)))
    (λ h. is_in-from_Contains q xs ((same q).1 (Contains-from_is_in q ys h))) in
    get-key_set xs q ∙ (ap (λ b. cond b (Some tt) None) both ∙ sym (get-key_set ys q)))

abbrev paired : List (List ℕ) → List (List ℕ × Unit {0})
paired [] = []
paired (key ∷ keys) = (key, tt) ∷ paired keys

put_first : (key : List ℕ) (keys : List (List ℕ)) → AllByRecursion (λ k. name_cmp key k ≡ Less) keys → put name_cmp key tt (paired keys) ≡ (key, tt) ∷ paired keys
put_first key [] below = refl
put_first key (k ∷ keys) below = rw below.0 refl

nil_of_length : {A : Type 0} (xs : List A) → length xs ≡ 0 → xs ≡ []
nil_of_length [] e = refl
nil_of_length (x ∷ xs) e = absurd (omega arith)

entries-key_set : (keys : List (List ℕ)) → IsStrictlySortedBy name_cmp keys → finite.entries (key_set keys) ≡ paired keys
unfolding IsStrictlySortedBy
entries-key_set [] sorted = nil_of_length (finite.entries (key_set [])) (sym (len-entries (key_set [])) ∙ len-empty name_cmp (Unit {0}))
entries-key_set (key ∷ keys) sorted =
    entries-insert nat_list_cmp_total (key_set keys) key tt
    ∙ (ap (put name_cmp key tt) (entries-key_set keys sorted.1) ∙ put_first key keys sorted.0)

firsts-paired : (keys : List (List ℕ)) → map (λ (e : List ℕ × Unit {0}). e.0) (paired keys) ≡ keys
firsts-paired [] = refl
firsts-paired (key ∷ keys) = ap (λ (ks : List (List ℕ)). key ∷ ks) (firsts-paired keys)

-- keys that rise and are the same as others are the keys of their set
pub keys_of_set : (xs ys : List (List ℕ)) → IsStrictlySortedBy name_cmp ys → ((q : List ℕ) → Contains ys q ↔ Contains xs q) → ys ≡ finite.keys (key_set xs)
keys_of_set xs ys sorted same =
    sym (ap finite.keys (sym (same_key_set ys xs same)) ∙ (ap (map (λ (e : List ℕ × Unit {0}). e.0)) (entries-key_set ys sorted) ∙ firsts-paired ys))

same_bytes : (x y : List ℕ) → bytes_eq x y ≡ true → x ≡ y
same_bytes x y h = (bytes_eq-Decides x y).0 h

pub dedup_rises : (ys : List (List ℕ)) → IsSorted (slice_cmp nat_cmp) ys → IsStrictlySortedBy name_cmp (dedup bytes_eq ys)
dedup_rises ys sorted = IsStrictlySortedBy-dedup nat_list_cmp_total texts_ties ys sorted

pub dedup_same : (xs ys : List (List ℕ)) → IsPermutation xs ys → (q : List ℕ) → Contains (dedup bytes_eq ys) q ↔ Contains xs q
dedup_same xs ys permuted q = (
  (λ h. Contains-permutation ys xs q (IsPermutation-sym xs ys permuted) (Contains-from_dedup bytes_eq ys q h)),
  (λ h. Contains-dedup nat_list_eq_equiv same_bytes ys q (Contains-permutation xs ys q permuted h)),
)

pub rises_at : (ys zs : List (List ℕ)) → zs ≡ dedup bytes_eq ys → IsSorted (slice_cmp nat_cmp) ys → IsStrictlySortedBy name_cmp zs
rises_at ys zs is sorted = subst (IsStrictlySortedBy name_cmp) (sym is) (dedup_rises ys sorted)

pub same_at : (named xs ys zs : List (List ℕ)) → xs ≡ named → zs ≡ dedup bytes_eq ys → IsPermutation xs ys → (q : List ℕ) → Contains zs q ↔ Contains named q
same_at named xs ys zs e is permuted q =
    let both = dedup_same xs ys permuted q in
    let P : List (List ℕ) → Type 0 = λ ks. Contains ks q in
    ((λ h. subst P e (both.0 (subst P is h))), (λ h. subst P (sym is) (both.1 (subst P (sym e) h))))
