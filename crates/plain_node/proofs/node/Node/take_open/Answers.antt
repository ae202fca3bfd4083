use Rattle.std.proofs.Common.{arith}
use Rattle.plain_node.proofs.NodeLemmas.{IsReplica-unstaged}
use Rattle.plain_node.proofs.node.Node.take_open.Goals as goal
use Rattle.plain_node.proofs.node.Node.take_open.Goals.{then-self-session, else-self-session}

pub invariant_of-self : goal.invariant_of-self
invariant_of-self c = elim c.if-self-session.branch [
  | then-self-session w ↦ rw w.self-inside-is (IsReplica-unstaged _ c.requires (let old = c.self.invariant.adopted in let later = w.if-self-session.true in omega (arith, old, later)) c.self.invariant.within c.self.invariant.log w.clear.ensures.items)
  | else-self-session w ↦ rw w.self-inside-is c.self.invariant
]
