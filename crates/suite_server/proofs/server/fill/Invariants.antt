use Rattle.std.proofs.Common.{◌≡◌}
use Rattle.suite_server.proofs.server.fill.Given as goal

abbrev pub invariant-loop-id : goal.invariant-loop-id
invariant-loop-id l = l.server.known.nodes ≡ 3
