use Rattle.std.proofs.Common.{◌∙◌, ◌≤◌, map, sym, subst}
use Rattle.world_core.specs.Kept.{nodes_of}
use Rattle.world_core.proofs.Casting.{votes_more}
use Rattle.world_core.proofs.one_log.note_nodes.Goals as goal

pub loop-i-preserved : goal.loop-i-preserved
loop-i-preserved g c = record {
  rows = c.note_vote.ensures.rows;
  size = c.note_vote.ensures.size ∙ c.loop-i.invariant.size;
  votes = λ s k i known.
      votes_more (nodes_of (map g.R.Replica.state c.args.nodes.now.items)) c.loop-i.i s k i c.node_status-status.result.adopted c.node_status-status.result.length _ _ _
      (c.loop-i.invariant.votes s k i known) (c.note_vote.ensures.votes s k i (subst (λ m. s ≤ m) (sym c.loop-i.invariant.size) known)) c.node_status-status.ensures.adopted c.node_status-status.ensures.length;
  entries = c.note_vote.ensures.entries ∙ c.loop-i.invariant.entries;
}
