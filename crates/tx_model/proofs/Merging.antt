-- Two lists of names that rise, read together from the front.
use Rattle.std.proofs.Common.{◌≡◌, ℕ, Bool, true, false, bytes_eq, List, [], ◌∷◌, ◌+◌, ◌<◌, ◌≤◌, length, drop, get_or, refl, sym, ap, ◌∙◌}
use Rattle.std.specs.List.{AllByRecursion}
use Rattle.std.specs.declared.cmp.Ordering.TheVariants.{Less, Equal, Greater}
use Rattle.std.specs.Ordering.{nat_cmp, ordering_reverse}
use Rattle.std.specs.Cmp.Lexicographic.{slice_cmp, nat_list_eq_equiv}
use Rattle.tx_model.specs.Transactions.{RiseFrom, is_among, are_apart}
use Rattle.tx_model.proofs.Names.{below_all, drop-next}
use Rattle.std.proofs.Math.ListN.{drop_of_length-le}
use Rattle.std.proofs.lemmas.Cmp.{nat_list_cmp_total, tied_itself}
use Rattle.std.proofs.lemmas.Map.Lookups.{exact_bytes}
use Rattle.std.proofs.lemmas.Slice.Eq.{bytes_eq-Decides}

abbrev pub IsLess : List ℕ → List ℕ → Type 0
IsLess a b = slice_cmp nat_cmp a b ≡ Less

-- ---- names that are not the same

is_false : (b : Bool) → (b ≡ true → ⊥) → b ≡ false
is_false true h = absurd (h refl)
is_false false h = refl

bytes_eq-less : (a b : List ℕ) → IsLess a b → bytes_eq a b ≡ false
bytes_eq-less a b less = is_false (bytes_eq a b) (λ same. cc (less, ap (λ x. slice_cmp nat_cmp x b) ((bytes_eq-Decides a b).0 same), tied_itself nat_list_cmp_total b))

is_among-above : (name : List ℕ) (names : List (List ℕ)) → AllByRecursion (IsLess name) names → is_among name names ≡ false
unfolding is_among
is_among-above name [] less = refl
is_among-above name (n ∷ names) less = rw (bytes_eq-less name n less.0, is_among-above name names less.1) refl

are_apart-above : (read : List ℕ) (reads writes : List (List ℕ)) → AllByRecursion (IsLess read) writes → are_apart (read ∷ reads) writes ≡ are_apart reads writes
unfolding are_apart is_among
are_apart-above read reads [] less = refl
are_apart-above read reads (w ∷ writes) less =
    rw (nat_list_eq_equiv.symm w read, bytes_eq-less read w less.0, are_apart-above read reads writes less.1) refl

-- ---- a merge: what is left of both lists decides

abbrev pub Rises : List (List ℕ) → Type 0
Rises names = (last : List ℕ) × RiseFrom last names

-- these are what is left of two lists
pub record IsMerge (apart : Bool) (reads writes : List (List ℕ)) : Type 0 where
  pub reads_rise : Rises reads
  pub writes_rise : Rises writes
  pub same : are_apart reads writes ≡ apart

pub merge-less : (apart : Bool) (read write : List ℕ) (reads writes : List (List ℕ)) → IsMerge apart (read ∷ reads) (write ∷ writes) → IsLess read write → IsMerge apart reads (write ∷ writes)
unfolding RiseFrom
merge-less apart read write reads writes m less = record {
  reads_rise = (read, m.reads_rise.1.2);
  writes_rise = m.writes_rise;
  same = sym (are_apart-above read reads (write ∷ writes) (less, below_all read write writes less m.writes_rise.1.2)) ∙ m.same;
}

pub merge-greater : (apart : Bool) (read write : List ℕ) (reads writes : List (List ℕ)) → IsMerge apart (read ∷ reads) (write ∷ writes) → slice_cmp nat_cmp read write ≡ Greater → IsMerge apart (read ∷ reads) writes
unfolding RiseFrom are_apart
merge-greater apart read write reads writes m greater =
    let less : IsLess write read = nat_list_cmp_total.antisymm write read ∙ ap ordering_reverse greater in
    let none : is_among write (read ∷ reads) ≡ false = is_among-above write (read ∷ reads) (less, below_all write read reads less m.reads_rise.1.2) in
    record {
      reads_rise = m.reads_rise;
      writes_rise = (write, m.writes_rise.1.2);
      same = rw none at m.same;
    }

pub merge-equal : (apart : Bool) (read write : List ℕ) (reads writes : List (List ℕ)) → IsMerge apart (read ∷ reads) (write ∷ writes) → slice_cmp nat_cmp read write ≡ Equal → false ≡ apart
unfolding are_apart is_among
merge-equal apart read write reads writes m equal =
    let same : bytes_eq write read ≡ true = (bytes_eq-Decides write read).1 (sym (exact_bytes read write equal)) in
    rw same at m.same

are_apart-none : (writes : List (List ℕ)) → are_apart [] writes ≡ true
unfolding are_apart is_among
are_apart-none [] = refl
are_apart-none (w ∷ writes) = are_apart-none writes

pub merge-no_reads : (apart : Bool) (writes : List (List ℕ)) → IsMerge apart [] writes → true ≡ apart
merge-no_reads apart writes m = sym (are_apart-none writes) ∙ m.same

pub merge-no_writes : (apart : Bool) (reads : List (List ℕ)) → IsMerge apart reads [] → true ≡ apart
unfolding are_apart
merge-no_writes apart reads m = m.same

-- ---- the same from a place of each list on

-- the first names of what is left
pub record AreFirst (reads writes : List (List ℕ)) (i j : ℕ) (read write : List ℕ) : Type 0 where
  pub in_reads : i < length reads
  pub in_writes : j < length writes
  pub is_read : read ≡ get_or reads i read
  pub is_write : write ≡ get_or writes j write

first_merge : {reads writes : List (List ℕ)} {i j : ℕ} {read write : List ℕ} {apart : Bool} → AreFirst reads writes i j read write → IsMerge apart (drop i reads) (drop j writes) → IsMerge apart (read ∷ drop (i + 1) reads) (write ∷ drop (j + 1) writes)
first_merge {reads} {writes} {i} {j} {read} {write} first m =
    rw (drop-next reads i read first.in_reads first.is_read, drop-next writes j write first.in_writes first.is_write) at m

pub less_at : {reads writes : List (List ℕ)} {i j : ℕ} {read write : List ℕ} {apart : Bool} → AreFirst reads writes i j read write → IsMerge apart (drop i reads) (drop j writes) → IsLess read write → IsMerge apart (drop (i + 1) reads) (drop j writes)
less_at {reads} {writes} {i} {j} {read} {write} {apart} first m less =
    rw (drop-next writes j write first.in_writes first.is_write) (merge-less apart read write _ _ (first_merge first m) less)

pub greater_at : {reads writes : List (List ℕ)} {i j : ℕ} {read write : List ℕ} {apart : Bool} → AreFirst reads writes i j read write → IsMerge apart (drop i reads) (drop j writes) → slice_cmp nat_cmp read write ≡ Greater → IsMerge apart (drop i reads) (drop (j + 1) writes)
greater_at {reads} {writes} {i} {j} {read} {write} {apart} first m greater =
    rw (drop-next reads i read first.in_reads first.is_read) (merge-greater apart read write _ _ (first_merge first m) greater)

pub equal_at : {reads writes : List (List ℕ)} {i j : ℕ} {read write : List ℕ} {apart : Bool} → AreFirst reads writes i j read write → IsMerge apart (drop i reads) (drop j writes) → slice_cmp nat_cmp read write ≡ Equal → false ≡ apart
equal_at {reads} {writes} {i} {j} {read} {write} {apart} first m equal = merge-equal apart read write _ _ (first_merge first m) equal

pub no_reads_at : (reads writes : List (List ℕ)) (i j : ℕ) {apart : Bool} → length reads ≤ i → IsMerge apart (drop i reads) (drop j writes) → true ≡ apart
no_reads_at reads writes i j {apart} le m =
    let none : drop i reads ≡ [] = drop_of_length-le reads le in
    merge-no_reads apart (drop j writes) (rw none at m)

pub no_writes_at : (reads writes : List (List ℕ)) (i j : ℕ) {apart : Bool} → length writes ≤ j → IsMerge apart (drop i reads) (drop j writes) → true ≡ apart
no_writes_at reads writes i j {apart} le m =
    let none : drop j writes ≡ [] = drop_of_length-le writes le in
    merge-no_writes apart (drop i reads) (rw none at m)
