use Rattle.std.proofs.Common.{refl}
use Rattle.proto_model.specs.Replicas.{fresh_replica}
use Rattle.world_core.proofs.Rows.{seen_at}
use Rattle.world_core.proofs.Going.{going_set, sets_node}
use Rattle.world_core.proofs.nodes.tear_node.Goals as goal

pub returns-in-Ok-clause-torn : goal.returns-in-Ok-clause-torn
returns-in-Ok-clause-torn g c =
    let tells = g.met.R.Crashing.telling in
    let at = seen_at fresh_replica g.R.Replica.state c.args.nodes.now.items c.args.i c.index_mut-node.result.now c.requires.node.0 c.requires.node.1 c.index_mut-node.ensures.value in
    let standing = g.met.R.Replica.standing c.step_torn.new.self tells c.in-Ok.ensures.on in (
      g.R.Replica.state c.step_torn.new.self,
      rw at c.in-Ok.ensures.torn,
      sets_node g.R.Replica.state g.R.Replica.files c.args.nodes.now.items c.args.i c.index_mut-node.result.now c.step_torn.new.self c.requires.node.0 c.requires.node.1 c.index_mut-node.ensures.value _ (λ at. refl),
      rw c.status-status.ensures standing.0,
    )

pub returns-in-Ok-clause-going : goal.returns-in-Ok-clause-going
returns-in-Ok-clause-going g c =
    λ most all. going_set g.R.Replica.is_faultless g.R.Replica.shown most c.args.nodes.now.items c.args.i c.index_mut-node.result.now c.step_torn.new.self c.requires.node.0 c.requires.node.1 c.index_mut-node.ensures.value (λ ok. c.in-Ok.ensures.faultless ok) c.step_torn.ensures.file.1 all
