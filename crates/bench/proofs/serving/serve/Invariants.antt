use Rattle.std.proofs.Common.{◌≡◌}
use Rattle.bench.proofs.serving.serve.Given as goal

abbrev pub invariant-rounds : goal.invariant-rounds
invariant-rounds l = l.server.known.nodes ≡ 3
