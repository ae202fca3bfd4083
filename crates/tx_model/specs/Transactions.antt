-- What a transaction says, and when there is one.
use Rattle.std.specs.Prelude.{◌≡◌, ℕ, ◌+◌, ◌≤◌, ◌<◌, ◌^◌, Bool, true, false, ◌&&◌, ◌||◌, not, bytes_eq, List, [], ◌∷◌, ◌++◌, length, slice_get, Some, IsPermutation}
use Rattle.std.specs.Ordering.{nat_cmp, is_lt}
use Rattle.std.specs.Cmp.Lexicographic.{slice_cmp}

-- a transaction as clauses see it: a lock is the bytes of its name
pub record Transaction : Type 0 where
  pub client : ℕ
  pub request : ℕ
  -- the client's high-water mark when it built the transaction
  pub mark : ℕ
  pub reads : List (List ℕ)
  pub writes : List (List ℕ)
  pub payload : List ℕ

-- the transaction of these parts
abbrev pub transaction_of : ℕ → ℕ → ℕ → List (List ℕ) → List (List ℕ) → List ℕ → Transaction
transaction_of client request mark reads writes payload =
    record { client = client; request = request; mark = mark; reads = reads; writes = writes; payload = payload }

-- the locks that a transaction named: its read locks, then its write locks
abbrev pub named_locks : Transaction → List (List ℕ)
named_locks tx = tx.reads ++ tx.writes

-- the locks that it holds once it stands in the log
abbrev pub held_locks : Transaction → List (List ℕ)
held_locks tx = tx.writes

-- the name of a lock
pub record IsName (bytes : List ℕ) : Type 0 where
  pub some : 1 ≤ length bytes
  pub short : length bytes ≤ 64

-- in byte order, and not the same
abbrev pub is_before : List ℕ → List ℕ → Bool
is_before a b = is_lt (slice_cmp nat_cmp a b)

abbrev pub IsBefore : List ℕ → List ℕ → Type 0
IsBefore a b = is_before a b ≡ true

-- names that rise strictly, the first from above the last. The empty list of bytes is before every name
unfoldable pub RiseFrom : List ℕ → List (List ℕ) → Type 0
RiseFrom last [] = Unit {0}
RiseFrom last (name ∷ names) = IsName name × (is_before last name ≡ true) × RiseFrom name names

abbrev pub AreLocks : List (List ℕ) → Type 0
AreLocks names = RiseFrom [] names

unfoldable pub is_among : List ℕ → List (List ℕ) → Bool
is_among name [] = false
is_among name (other ∷ others) = bytes_eq name other || is_among name others

-- no name stands in both lists
unfoldable pub are_apart : List (List ℕ) → List (List ℕ) → Bool
are_apart reads [] = true
are_apart reads (name ∷ names) = not (is_among name reads) && are_apart reads names

-- what a transaction is
pub record IsTransaction (tx : Transaction) : Type 0 where
  pub client : tx.client < 2 ^ 64
  pub request : tx.request < 2 ^ 64
  pub mark : tx.mark < 2 ^ 64
  pub reads : AreLocks tx.reads
  pub writes : AreLocks tx.writes
  pub apart : are_apart tx.reads tx.writes ≡ true
  pub count : length tx.reads + length tx.writes ≤ 64
  pub payload : length tx.payload ≤ 65536

-- some name stands at two places
pub record HasDouble (names : List (List ℕ)) : Type 0 where
  pub name : List ℕ
  pub first : ℕ
  pub second : ℕ
  pub later : first < second
  pub at_first : slice_get names first ≡ Some name
  pub at_second : slice_get names second ≡ Some name

-- the transaction says this, with both lists put in byte order
pub record Says (tx : Transaction) (client request mark : ℕ) (reads writes : List (List ℕ)) (payload : List ℕ) : Type 0 where
  pub same_client : tx.client ≡ client
  pub same_request : tx.request ≡ request
  pub same_mark : tx.mark ≡ mark
  pub same_reads : IsPermutation reads tx.reads
  pub same_writes : IsPermutation writes tx.writes
  pub same_payload : tx.payload ≡ payload
  pub valid : IsTransaction tx
