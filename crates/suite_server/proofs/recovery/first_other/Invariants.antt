use Rattle.std.proofs.Common.{◌≡◌}
use Rattle.suite_server.proofs.recovery.first_other.Given as goal

abbrev pub invariant-loop-at : goal.invariant-loop-at
invariant-loop-at l = l.recovery.known.nodes ≡ 3
