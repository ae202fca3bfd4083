use Rattle.proto_model.specs.Replicas.{fresh_replica}
use Rattle.world_core.proofs.Rows.{seen_at}
use Rattle.world_core.proofs.Going.{going_set, sets_node}
use Rattle.world_core.proofs.nodes.step_node.Goals as goal

pub returns-in-Ok-clause-nodes : goal.returns-in-Ok-clause-nodes
returns-in-Ok-clause-nodes g c =
    sets_node g.R.Replica.state g.R.Replica.files c.args.nodes.now.items c.args.i c.index_mut-node.result.now c.step.new.self c.requires.node.0 c.requires.node.1 c.index_mut-node.ensures.value _ (λ at. rw at (c.in-Ok.ensures.state g.met.R.Crashing.telling))

pub returns-in-Ok-clause-reply : goal.returns-in-Ok-clause-reply
returns-in-Ok-clause-reply g c =
    let at = seen_at fresh_replica g.R.Replica.state c.args.nodes.now.items c.args.i c.index_mut-node.result.now c.requires.node.0 c.requires.node.1 c.index_mut-node.ensures.value in
    rw at (c.in-Ok.ensures.reply g.met.R.Crashing.telling)

pub returns-in-Ok-clause-going : goal.returns-in-Ok-clause-going
returns-in-Ok-clause-going g c =
    λ most all. going_set g.R.Replica.is_faultless g.R.Replica.shown most c.args.nodes.now.items c.args.i c.index_mut-node.result.now c.step.new.self c.requires.node.0 c.requires.node.1 c.index_mut-node.ensures.value (λ ok. c.step.ensures.faultless ok) c.step.ensures.file.1 all
