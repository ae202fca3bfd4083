use Rattle.std.proofs.Common.{◌≡◌, ◌-◌, ◌≤◌}
use Rattle.proto_model.specs.Quorums.{count}
use Rattle.quorum_append.specs.Kept.{has_kept}
use Rattle.quorum_append.proofs.acks.Acks.held.Given as goal

abbrev pub invariant-loop-node : goal.invariant-loop-node
invariant-loop-node l = record {
  counted : l.held ≡ count (has_kept (record { nodes = l.self.nodes; lens = l.self.lens }) l.k) (l.node - 1);
  few : l.held ≤ l.node - 1;
}
