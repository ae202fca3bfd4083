use Rattle.std.proofs.Common.{◌≡◌, ◌<◌, ◌+◌, ◌*◌, ℕ, nat_lt, max, if◌then◌else◌, [], ◌∷◌, length, slice_index}
use Rattle.tx_model.specs.Probes.{has_slot}
use Rattle.lock_table.specs.Tables.{entry_of}
use Rattle.lock_table.proofs.table.LockTable.raise.Given as goal

-- the rows so far are raised, and the others are as they were
abbrev pub invariant-loop-row : goal.invariant-loop-row
invariant-loop-row l = record {
  rows : l.self-inside.rows ≡ l.fn.self.rows;
  slots : l.self-inside.slots ≡ l.fn.self.slots;
  full : length l.self-inside.entries.items ≡ l.self-inside.rows * l.self-inside.slots;
  each : (row slot : ℕ) → row < l.fn.self.rows → slot < l.fn.self.slots → slice_index l.self-inside.entries.items (row * l.fn.self.slots + slot) ≡
      (if nat_lt row l.row then (if has_slot l.fn.self.slots row slot (l.lock ∷ []) then max l.id (entry_of l.fn.self row slot) else entry_of l.fn.self row slot) else entry_of l.fn.self row slot);
}
