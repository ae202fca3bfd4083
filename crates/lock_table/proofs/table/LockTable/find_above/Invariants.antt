use Rattle.std.proofs.Common.{◌≡◌, ◌≤◌, ◌+◌, ◌*◌, drop}
use Rattle.tx_model.specs.Probes.{first_above}
use Rattle.lock_table.specs.Tables.{probe_of}
use Rattle.lock_table.proofs.table.LockTable.find_above.Given as goal

-- the locks that are left answer for all
abbrev pub invariant-loop-lock : goal.invariant-loop-lock
invariant-loop-lock g l = record {
  place : l.place ≡ l.from + l.lock-index;
  rest : first_above (probe_of l.self) l.mark l.place (drop l.lock-index l.locks) ≡ first_above (probe_of l.self) l.mark l.from l.locks;
  cost : l.steps ≤ l.fn.steps + l.self.rows * l.lock-index;
}
