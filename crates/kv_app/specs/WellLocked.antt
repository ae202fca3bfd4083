-- Records whose write locks are the keys that their ops name, and more.
use Rattle.std.specs.Prelude.{◌≡◌, ℕ, List, Contains, Some}
use Rattle.tx_model.specs.declared.record.Record.{Record}
use Rattle.tx_model.specs.Transactions.{Transaction, held_locks}
use Rattle.tx_model.specs.Logs.{record_at}
use Rattle.tx_model.specs.Applications.{named_keys}

-- each key that the ops of a payload name is among the locks
abbrev pub Covers : List (List ℕ) → List ℕ → Type 0
Covers locks payload = (key : List ℕ) → Contains (named_keys payload) key → Contains locks key

-- the transaction holds each key that it changes
abbrev pub IsCovered : Transaction → Type 0
IsCovered tx = Covers (held_locks tx) tx.payload

abbrev pub IsWellLocked : List Record → Type 0
IsWellLocked log = (t : ℕ) (r : Record) → record_at log t ≡ Some r → IsCovered r.tx
