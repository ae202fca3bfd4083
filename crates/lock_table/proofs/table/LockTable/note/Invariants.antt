use Rattle.std.proofs.Common.{take}
use Rattle.lock_table.specs.Tables.{AreRaised}
use Rattle.lock_table.proofs.table.LockTable.note.Given as goal

-- the locks so far are raised
abbrev pub invariant-loop-lock : goal.invariant-loop-lock
invariant-loop-lock l = AreRaised l.id (take l.lock-index l.lock-items) l.fn.self l.self
