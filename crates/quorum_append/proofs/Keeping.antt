-- What is kept of acknowledgements is enough for the commit mark.
use Rattle.std.proofs.Common.{◌≡◌, ℕ, ◌<◌, ◌≤◌, Bool, true, false, List, Option, None, Some, slice_index_or, refl, arith}
use Rattle.std.proofs.lemmas.Bool.Decides.{nat_tests}
use Rattle.proto_model.specs.Quorums.{count, quorum, reached}
use Rattle.quorum_append.specs.Acknowledgements.{Ack, IsCommitMark}
use Rattle.quorum_append.specs.Kept.{Kept, or_zero, reaches, has_kept, AreKept, AreKeptWithin}
use Rattle.quorum_append.proofs.Counts.{Tests, IsMark, mark_from_each, mark_of_all, mark_found, none_counted, one_mark}

abbrev is_some : Option ℕ → Bool
is_some None = false
is_some (Some len) = true

parts_of : (heard : Option ℕ) (k : ℕ) → reaches heard k ≡ true → (is_some heard ≡ true) × (k ≤ or_zero heard)
parts_of None k e = absurd (let f : false ≡ true = e in cc)
parts_of (Some len) k e = (refl, grind (arith, nat_tests, e))

whole_of : (heard : Option ℕ) (k : ℕ) → is_some heard ≡ true → k ≤ or_zero heard → reaches heard k ≡ true
whole_of None k e h = absurd (let f : false ≡ true = e in cc)
whole_of (Some len) k e h = grind (arith, nat_tests, h)

kept_tests : (kept : Kept) → Tests (has_kept kept) (λ i. is_some (slice_index_or kept.lens i None)) (λ i. or_zero (slice_index_or kept.lens i None))
kept_tests kept = record {
  parts = λ k i e. parts_of (slice_index_or kept.lens i None) k e;
  whole = λ k i e h. whole_of (slice_index_or kept.lens i None) k e h;
}

-- the marks that each node's length allows, where it has one
each_some : (n : ℕ) (kept : Kept) (m : ℕ) (heard : Option ℕ) → is_some heard ≡ true →
    ((len : ℕ) → heard ≡ Some len → quorum n ≤ count (has_kept kept len) n → len ≤ m) →
    quorum n ≤ count (has_kept kept (or_zero heard)) n → or_zero heard ≤ m
each_some n kept m None e most q = absurd (let f : false ≡ true = e in cc)
each_some n kept m (Some len) e most q = most len refl q

-- what is true of a mark that is found among what each node has
pub mark_kept : (kept : Kept) (m : ℕ) → (0 < m → quorum kept.nodes ≤ count (has_kept kept m) kept.nodes) →
    ((j : ℕ) → 1 ≤ j → j ≤ kept.nodes → (len : ℕ) → slice_index_or kept.lens j None ≡ Some len →
    quorum kept.nodes ≤ count (has_kept kept len) kept.nodes → len ≤ m) → IsMark kept.nodes (has_kept kept) m
mark_kept kept m held most =
    mark_from_each (has_kept kept) (λ i. is_some (slice_index_or kept.lens i None)) (λ i. or_zero (slice_index_or kept.lens i None))
    kept.nodes m (kept_tests kept) held (λ j p q e. each_some kept.nodes kept m (slice_index_or kept.lens j None) e (most j p q))

pub mark_of_kept : (kept : Kept) (acks : List Ack) (m : ℕ) → AreKept acks kept → IsMark kept.nodes (has_kept kept) m → IsCommitMark kept.nodes acks m
mark_of_kept kept acks m are mark = mark_of_all (has_kept kept) kept.nodes acks m are mark

-- ---- no node has more than the bound

missed : (heard : Option ℕ) (bound k : ℕ) → or_zero heard ≤ bound → bound < k → reaches heard k ≡ false
missed None bound k low less = refl
missed (Some len) bound k low less = grind (arith, nat_tests, low, less)

few_above : (kept : Kept) (bound : ℕ) → AreKeptWithin bound kept → (k : ℕ) → bound < k → count (has_kept kept k) kept.nodes < quorum kept.nodes
few_above kept bound low k less =
    let none = none_counted (has_kept kept k) kept.nodes (λ j p q. missed (slice_index_or kept.lens j None) bound k (low j) less) in
    omega (arith, none)

-- the mark is what the search down from the bound finds
pub mark_searched : (kept : Kept) (m bound : ℕ) → IsMark kept.nodes (has_kept kept) m → AreKeptWithin bound kept → m ≡ reached kept.nodes (has_kept kept) bound
mark_searched kept m bound mark low =
    one_mark kept.nodes (has_kept kept) m (reached kept.nodes (has_kept kept) bound) mark
    (mark_found kept.nodes (has_kept kept) bound (few_above kept bound low))
