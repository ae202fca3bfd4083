use Rattle.std.proofs.Common.{◌+◌, ◌-◌, drop, length}
use Rattle.tx_model.specs.Transactions.{are_apart}
use Rattle.tx_model.proofs.Merging.{IsMerge}
use Rattle.tx_model.proofs.tx.are_apart.Given as goal

abbrev pub invariant-loop-read : goal.invariant-loop-read
invariant-loop-read l = IsMerge (are_apart l.reads l.writes) (drop l.read l.reads) (drop l.write l.writes)

abbrev pub decreases-loop-read : goal.decreases-loop-read
decreases-loop-read l = (length l.reads - l.read) + (length l.writes - l.write)
