use Rattle.std.proofs.Common.{◌≡◌, ◌≤◌, ◌<◌, ℕ, Some, None, slice_index_or}
use Rattle.proto_model.specs.Quorums.{count, quorum}
use Rattle.quorum_append.specs.Kept.{has_kept}
use Rattle.quorum_append.proofs.acks.Acks.mark.Given as goal

abbrev pub invariant-loop-node : goal.invariant-loop-node
invariant-loop-node l = record {
  held : 0 < l.mark → quorum l.self.nodes ≤ count (has_kept (record { nodes = l.self.nodes; lens = l.self.lens }) l.mark) l.self.nodes;
  most : (j : ℕ) → 1 ≤ j → j < l.node → (len : ℕ) → slice_index_or l.self.lens j None ≡ Some len →
      quorum l.self.nodes ≤ count (has_kept (record { nodes = l.self.nodes; lens = l.self.lens }) len) l.self.nodes → len ≤ l.mark;
}
