-- A lock table as clauses see it, and what it stands for.
use Rattle.std.specs.Prelude.{◌≡◌, ℕ, ◌+◌, ◌-◌, ◌*◌, ◌<◌, ◌≤◌, max, if◌then◌else◌, List, length, slice_index, Option}
use Rattle.tx_model.specs.declared.record.Record.{Record}
use Rattle.tx_model.specs.Transactions.{Transaction, named_locks}
use Rattle.tx_model.specs.Hashes.{slot_of}
use Rattle.tx_model.specs.Probes.{Shape, Conflict, has_slot, slot_mark, least, first_above}

-- the entries stand row after row
pub record Table : Type 0 where
  pub rows : ℕ
  pub slots : ℕ
  pub entries : List ℕ

pub record IsTable (t : Table) : Type 0 where
  pub some_rows : 1 ≤ t.rows
  pub few_rows : t.rows ≤ 8
  pub some_slots : 1 ≤ t.slots
  pub few_slots : t.slots ≤ 4096
  pub full : length t.entries ≡ t.rows * t.slots

abbrev pub table_shape : Table → Shape
table_shape t = record { rows = t.rows; slots = t.slots }

-- the entry of a slot in a row
abbrev pub entry_of : Table → ℕ → ℕ → ℕ
entry_of t row slot = slice_index t.entries (row * t.slots + slot)

-- the table holds what a scan of the log finds: each slot's greatest id above start, or start
pub record TableStandsFor (t : Table) (start : ℕ) (log : List Record) : Type 0 where
  pub valid : IsTable t
  pub each : (row slot : ℕ) → row < t.rows → slot < t.slots → entry_of t row slot ≡ slot_mark t.slots row slot start log

-- ---- what it answers

-- the least of a lock's entries
abbrev pub probe_of : Table → List ℕ → ℕ
probe_of t lock = least (λ row. entry_of t row (slot_of t.slots row lock)) (t.rows - 1)

-- the first named lock whose least entry is above the transaction's mark
abbrev pub conflict_of : Table → Transaction → Option Conflict
conflict_of t tx = first_above (probe_of t) tx.mark 0 (named_locks tx)

-- the entries of the locks' slots are raised to the id, and the others stay
pub record AreRaised (id : ℕ) (locks : List (List ℕ)) (old new : Table) : Type 0 where
  pub shape : table_shape new ≡ table_shape old
  pub as_long : length new.entries ≡ length old.entries
  pub each : (row slot : ℕ) → row < old.rows → slot < old.slots →
      entry_of new row slot ≡ (if has_slot old.slots row slot locks then max id (entry_of old row slot) else entry_of old row slot)
