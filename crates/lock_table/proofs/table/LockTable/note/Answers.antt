use Rattle.std.proofs.Common.{◌≡◌, ap, subst, rules, take, List, ℕ}
use Rattle.std.proofs.lemmas.List.{take_all}
use Rattle.tx_model.specs.Transactions.{held_locks}
use Rattle.lock_table.specs.Tables.{AreRaised}
use Rattle.lock_table.proofs.Tables.{stands_for_more, next_raised}
use Rattle.lock_table.proofs.table.LockTable.note.Goals as goal

pub loop-lock-preserved : goal.loop-lock-preserved
loop-lock-preserved c =
    next_raised c.args.id c.loop-lock.lock-index c.writes-lock-items.result.now c.lock-item.result _ _ _ c.loop-lock-test.true c.lock-item.is c.loop-lock.invariant c.raise.ensures

pub returns-clause-raised : goal.returns-clause-raised
returns-clause-raised c =
    let P : List (List ℕ) → Type 0 = λ locks. AreRaised c.args.id locks c.args.self.now c.loop-lock.self in
    let all : take c.loop-lock.lock-index c.writes-lock-items.result.now ≡ held_locks c.args.tx.now = search (rules, take_all {A = List ℕ}) in
    subst P all c.loop-lock.invariant

pub returns-clause-stands : goal.returns-clause-stands
returns-clause-stands c = λ start log r same_id same_tx stands.
    stands_for_more c.args.self.now c.loop-lock.self c.args.id (held_locks c.args.tx.now) (returns-clause-raised c) start log r same_id (ap held_locks same_tx) stands
