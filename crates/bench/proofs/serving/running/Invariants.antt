use Rattle.std.proofs.Common.{◌≡◌}
use Rattle.bench.proofs.serving.running.Given as goal

abbrev pub invariant-opened : goal.invariant-opened
invariant-opened l = l.server.known.nodes ≡ 3

abbrev pub invariant-adopted : goal.invariant-adopted
invariant-adopted l = l.server.known.nodes ≡ 3
