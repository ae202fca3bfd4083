use Rattle.std.proofs.Common.{◌≡◌, length}
use Rattle.std.specs.List.{AllByRecursion}
use Rattle.proto_model.specs.Servers.{idle_server}
use Rattle.partition_server.specs.Held.{Held, state_of}
use Rattle.world_core.specs.Fit.{HasConfig}
use Rattle.world_core.proofs.servers.idle_servers.Given as goal

abbrev pub invariant-loop-i : goal.invariant-loop-i
invariant-loop-i l = record {
  size : length l.servers.items ≡ l.i;
  idle : AllByRecursion (λ (h : Held). state_of h ≡ idle_server) l.servers.items;
  configs : AllByRecursion (HasConfig l.cluster) l.servers.items;
}
