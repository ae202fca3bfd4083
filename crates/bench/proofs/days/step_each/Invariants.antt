use Rattle.std.proofs.Common.{◌≡◌}
use Rattle.bench.proofs.days.step_each.Given as goal

abbrev pub invariant-events : goal.invariant-events
invariant-events l = record {
  cluster : l.world.system.cluster ≡ l.fn.world.system.cluster;
  stepped : l.world.stepped ≡ l.at;
}
