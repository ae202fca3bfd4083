-- Clean logs: what a client that appended at a mark may rely on.
use Rattle.std.specs.Prelude.{◌≡◌, ℕ, zero, suc, ◌<◌, Contains, List, slice_get, Option, Some, None}
use Rattle.tx_model.specs.declared.record.Record.{Record}
use Rattle.tx_model.specs.Transactions.{Transaction, named_locks, held_locks}

-- the record at a place of a log. Places are counted from 1
abbrev pub record_at : List Record → ℕ → Option Record
record_at log zero = None
record_at log (suc k) = slice_get log k

-- No record strictly between a record's mark and its place holds a lock that it named.
pub record IsClean (log : List Record) : Type 0 where
  pub below : (t : ℕ) (later : Record) → record_at log t ≡ Some later → later.tx.mark < t
  pub apart : (t u : ℕ) (later earlier : Record) (lock : List ℕ) →
      record_at log t ≡ Some later → record_at log u ≡ Some earlier → later.tx.mark < u → u < t →
      Contains (held_locks earlier.tx) lock → ¬ Contains (named_locks later.tx) lock

-- no record of a log above its mark holds a lock that a transaction names
abbrev pub NamesNoHeldLock : List Record → Transaction → Type 0
NamesNoHeldLock log tx = (place : ℕ) (earlier : Record) (lock : List ℕ) →
    record_at log place ≡ Some earlier → tx.mark < earlier.id →
    Contains (held_locks earlier.tx) lock → ¬ Contains (named_locks tx) lock
