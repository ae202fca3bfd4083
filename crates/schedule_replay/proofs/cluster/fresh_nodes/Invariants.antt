use Rattle.std.proofs.Common.{◌≡◌, length}
use Rattle.schedule_replay.specs.Seen.{IsFreshStore, Each}
use Rattle.schedule_replay.proofs.cluster.fresh_nodes.Given as goal

abbrev pub invariant-loop-i : goal.invariant-loop-i
invariant-loop-i l = record {
  size : length l.nodes.items ≡ l.i;
  fresh : Each l.nodes.items (λ n. IsFreshStore n.store n.shown);
}
