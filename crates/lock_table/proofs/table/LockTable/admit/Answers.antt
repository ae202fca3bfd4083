use Rattle.std.proofs.Common.{◌≡◌, ◌∙◌, None}
use Rattle.tx_model.specs.Probes.{first_above}
use Rattle.lock_table.specs.Tables.{probe_of}
use Rattle.lock_table.proofs.Tables.{conflict_stands, conflict_of-reads, conflict_of-writes}
use Rattle.lock_table.proofs.table.LockTable.admit.Goals as goal

pub returns-in-Some-clause-err : goal.returns-in-Some-clause-err
returns-in-Some-clause-err g c = conflict_of-reads c.args.self.now c.args.tx.now _ (cc c.in-Some.ensures.some)

pub returns-in-Some-clause-stands_err : goal.returns-in-Some-clause-stands_err
returns-in-Some-clause-stands_err g c = λ start log stands.
    conflict_stands c.args.self.now c.args.tx.now start log stands ∙ returns-in-Some-clause-err g c

pub returns-in-Some-find_above-clause-err : goal.returns-in-Some-find_above-clause-err
returns-in-Some-find_above-clause-err g c =
    let t = c.args.self.now in
    let tx = c.args.tx.now in
    let none : first_above (probe_of t) tx.mark 0 tx.reads ≡ None = cc c.in_default.ensures.none in
    conflict_of-writes t tx none ∙ cc c.in-Some-find_above.ensures.some

pub returns-in-Some-find_above-clause-stands_err : goal.returns-in-Some-find_above-clause-stands_err
returns-in-Some-find_above-clause-stands_err g c = λ start log stands.
    conflict_stands c.args.self.now c.args.tx.now start log stands ∙ returns-in-Some-find_above-clause-err g c

pub returns-in-None-clause-ok : goal.returns-in-None-clause-ok
returns-in-None-clause-ok g c =
    let t = c.args.self.now in
    let tx = c.args.tx.now in
    let none : first_above (probe_of t) tx.mark 0 tx.reads ≡ None = cc c.in_default.ensures.none in
    conflict_of-writes t tx none ∙ cc c.in-None.ensures.none

pub returns-in-None-clause-stands_ok : goal.returns-in-None-clause-stands_ok
returns-in-None-clause-stands_ok g c = λ start log stands.
    conflict_stands c.args.self.now c.args.tx.now start log stands ∙ returns-in-None-clause-ok g c
