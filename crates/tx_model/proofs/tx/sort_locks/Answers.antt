use Rattle.tx_model.proofs.Names.{none_double, some_double, double_unless}
use Rattle.tx_model.proofs.tx.sort_locks.Goals as goal

pub returns-then-not-are_locks-clause-double : goal.returns-then-not-are_locks-clause-double
returns-then-not-are_locks-clause-double c =
    let reads = c.sort_unstable.ensures in
    let writes = c.sort_unstable-2.ensures in
    some_double reads.permutation writes.permutation reads.sorted writes.sorted (λ rise _ _. c.if-not-are_locks.ensures.stall rise)

pub returns-then-not-are_locks-2-clause-double : goal.returns-then-not-are_locks-2-clause-double
returns-then-not-are_locks-2-clause-double c =
    let reads = c.sort_unstable.ensures in
    let writes = c.sort_unstable-2.ensures in
    some_double reads.permutation writes.permutation reads.sorted writes.sorted (λ _ rise _. c.if-not-are_locks-2.ensures.stall rise)

pub returns-clause-once : goal.returns-clause-once
returns-clause-once c =
    none_double c.sort_unstable.ensures.permutation c.sort_unstable-2.ensures.permutation c.if-not-are_locks.ensures.rise c.if-not-are_locks-2.ensures.rise c.are_apart.result c.are_apart.ensures

pub returns-clause-double : goal.returns-clause-double
returns-clause-double c =
    let reads = c.sort_unstable.ensures in
    let writes = c.sort_unstable-2.ensures in
    double_unless reads.permutation writes.permutation reads.sorted writes.sorted c.are_apart.result c.are_apart.ensures
