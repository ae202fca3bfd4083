use Rattle.std.proofs.Common.{◌≤◌, ◌^◌}
use Rattle.std.specs.Vec.{vec_len, vec_capacity}
use Rattle.partition_store.proofs.Chains.{IsCutting}
use Rattle.partition_store.proofs.closing.cut.Given as goal

abbrev pub invariant-newest : goal.invariant-newest
invariant-newest l = (vec_len l.closed ≤ vec_capacity l.closed) × (l.end ≤ 2 ^ 48) × IsCutting l.len l.fn.closed.items l.closed.items l.end

abbrev pub decreases-newest : goal.decreases-newest
decreases-newest l = vec_len l.closed
