use Rattle.std.proofs.Common.{◌≡◌, ◌∙◌, arith}
use Rattle.std.proofs.lemmas.Grind.{common_steps}
use Rattle.lock_table.specs.Tables.{probe_of}
use Rattle.lock_table.proofs.Tables.{probe_stands}
use Rattle.lock_table.proofs.table.LockTable.probe.Goals as goal

pub returns-clause-stands : goal.returns-clause-stands
returns-clause-stands g c = λ start log stands.
    let here : c.loop-row.least ≡ probe_of c.args.self.now c.args.lock.now = grind (arith, common_steps) in
    here ∙ probe_stands c.args.self.now c.args.lock.now start log stands
