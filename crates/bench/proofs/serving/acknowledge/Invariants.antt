use Rattle.std.proofs.Common.{◌≡◌}
use Rattle.bench.proofs.serving.acknowledge.Given as goal

abbrev pub invariant-nodes : goal.invariant-nodes
invariant-nodes l = l.server.known.nodes ≡ 3
