use Rattle.std.proofs.Common.{◌≡◌, ◌≤◌, length, map, filter}
use Rattle.world_core.specs.Deliveries.{pair_envelope, is_to_client}
use Rattle.world_core.proofs.deliver.told.Given as goal

abbrev pub invariant-loop-client : goal.invariant-loop-client
invariant-loop-client l = record {
  made : l.made.items ≡ map (pair_envelope l.v) (filter (is_to_client l.cluster.clients) l.yielded);
  few : length l.made.items ≤ length l.yielded;
}
