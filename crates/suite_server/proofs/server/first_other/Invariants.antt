use Rattle.std.proofs.Common.{◌≡◌}
use Rattle.suite_server.proofs.server.first_other.Given as goal

abbrev pub invariant-loop-at : goal.invariant-loop-at
invariant-loop-at l = l.server.known.nodes ≡ 3
