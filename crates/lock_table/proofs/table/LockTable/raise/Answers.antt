use Rattle.std.proofs.Common.{arith}
use Rattle.std.proofs.lemmas.Grind.{common_steps}
use Rattle.lock_table.specs.Tables.{entry_of}
use Rattle.lock_table.proofs.Tables.{one_row_raised}
use Rattle.lock_table.proofs.table.LockTable.raise.Goals as goal

pub loop-row-preserved : goal.loop-row-preserved
loop-row-preserved c =
    let t = c.args.self.now in
    record {
      rows = c.loop-row.invariant.rows;
      slots = c.loop-row.invariant.slots;
      full = grind (arith, common_steps);
      each = one_row_raised c.loop-row.self-inside.entries.items (entry_of t) t.rows t.slots c.loop-row.row c.args.id c.find_entry-at.result c.max.result c.args.lock.now (omega arith) (grind (arith, common_steps)) (grind (arith, common_steps)) c.loop-row.invariant.each;
    }
