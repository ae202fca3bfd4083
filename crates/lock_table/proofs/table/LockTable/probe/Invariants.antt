use Rattle.std.proofs.Common.{◌≡◌, ◌+◌, ◌-◌, ◌*◌, slice_index}
use Rattle.tx_model.specs.Hashes.{slot_of}
use Rattle.tx_model.specs.Probes.{least}
use Rattle.lock_table.proofs.table.LockTable.probe.Given as goal

-- the least over the rows so far, at a step for each
abbrev pub invariant-loop-row : goal.invariant-loop-row
invariant-loop-row g l = record {
  least : l.least ≡ least (λ row. slice_index l.self-inside.entries.items (row * l.self-inside.slots + slot_of l.self-inside.slots row l.lock)) (l.row - 1);
  cost : l.steps ≡ l.fn.steps + l.row;
}
