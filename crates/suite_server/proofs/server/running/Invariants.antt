use Rattle.std.proofs.Common.{◌≡◌}
use Rattle.suite_server.proofs.server.running.Given as goal

abbrev pub invariant-loop-node : goal.invariant-loop-node
invariant-loop-node l = l.server.known.nodes ≡ 3
