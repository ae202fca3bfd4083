-- What a client gains: what it read still stands where its transaction is placed, and no request with a write lock is placed twice.
use Rattle.std.specs.Prelude.{◌≡◌, ◌<◌, ℕ, ◌-◌, List, [], Contains, Some}
use Rattle.std.specs.FinMap as finite
use Rattle.tx_model.specs.declared.record.Record.{Record}
use Rattle.tx_model.specs.Transactions.{named_locks}
use Rattle.tx_model.specs.Logs.{record_at}
use Rattle.tx_model.specs.Applications.{serial}

-- what a key that a transaction named has at the transaction's mark, it has just before the transaction's place
abbrev pub HasValidReads : List Record → Type 0
HasValidReads log =
    (place : ℕ) (r : Record) (key : List ℕ) → record_at log place ≡ Some r → Contains (named_locks r.tx) key →
    finite.get (serial log (place - 1)) key ≡ finite.get (serial log r.tx.mark) key

-- two places with one client's request hold one transaction, which has no write lock
abbrev pub HasNoRepeats : List Record → Type 0
HasNoRepeats log =
    (u t : ℕ) (earlier later : Record) → u < t → record_at log u ≡ Some earlier → record_at log t ≡ Some later →
    earlier.tx.client ≡ later.tx.client → earlier.tx.request ≡ later.tx.request →
    (earlier.tx ≡ later.tx) × (later.tx.writes ≡ [])
