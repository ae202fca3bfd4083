use Rattle.plain_node.proofs.NodeLemmas.{reply_valid}
use Rattle.plain_node.proofs.node.Node.step.Goals as goal

pub returns-clause-valid : goal.returns-clause-valid
returns-clause-valid c = reply_valid _ c.args.self.now c.args.m.now c.take.result c.self.view_is c.self.invariant c.take.ensures.reply
