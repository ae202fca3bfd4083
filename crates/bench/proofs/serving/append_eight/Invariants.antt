use Rattle.std.proofs.Common.{◌≡◌}
use Rattle.bench.proofs.serving.append_eight.Given as goal

abbrev pub invariant-appends : goal.invariant-appends
invariant-appends l = l.server.known.nodes ≡ 3
