use Rattle.proto_model.specs.Replicas.{fresh_replica}
use Rattle.world_core.specs.Fit.{max_events}
use Rattle.world_core.proofs.Rows.{seen_at}
use Rattle.world_core.proofs.Going.{is_going_at, going_set, sets_node, shows}
use Rattle.world_core.proofs.nodes.crash_node.Goals as goal

pub returns-in-Ok-clause-nodes : goal.returns-in-Ok-clause-nodes
returns-in-Ok-clause-nodes g c =
    let going = is_going_at g.R.Replica.is_faultless g.R.Replica.shown max_events c.args.nodes.now.items c.args.i c.index_mut-node.result.now c.requires.node.0 c.requires.node.1 c.index_mut-node.ensures.value c.requires.going in
    sets_node g.R.Replica.state g.R.Replica.files c.args.nodes.now.items c.args.i c.index_mut-node.result.now c.crash.new.self c.requires.node.0 c.requires.node.1 c.index_mut-node.ensures.value _ (λ at. rw at (c.in-Ok.ensures.stopped (g.met.R.Replica.going c.index_mut-node.result.now going.faultless)))

pub returns-in-Ok-clause-status : goal.returns-in-Ok-clause-status
returns-in-Ok-clause-status g c =
    let tells = g.met.R.Crashing.telling in
    let going = is_going_at g.R.Replica.is_faultless g.R.Replica.shown max_events c.args.nodes.now.items c.args.i c.index_mut-node.result.now c.requires.node.0 c.requires.node.1 c.index_mut-node.ensures.value c.requires.going in
    let at = seen_at fresh_replica g.R.Replica.state c.args.nodes.now.items c.args.i c.index_mut-node.result.now c.requires.node.0 c.requires.node.1 c.index_mut-node.ensures.value in
    let stopped = c.in-Ok.ensures.stopped (g.met.R.Replica.going c.index_mut-node.result.now going.faultless) in
    let standing = g.met.R.Replica.standing c.crash.new.self tells c.in-Ok.ensures.on in
    rw at (shows _ _ _ _ stopped c.status-status.ensures standing.0)

pub returns-in-Ok-clause-going : goal.returns-in-Ok-clause-going
returns-in-Ok-clause-going g c =
    λ most all. going_set g.R.Replica.is_faultless g.R.Replica.shown most c.args.nodes.now.items c.args.i c.index_mut-node.result.now c.crash.new.self c.requires.node.0 c.requires.node.1 c.index_mut-node.ensures.value (λ ok. c.in-Ok.ensures.faultless ok) c.crash.ensures.file.1 all
