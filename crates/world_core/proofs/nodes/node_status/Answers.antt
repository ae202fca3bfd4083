use Rattle.proto_model.specs.Replicas.{fresh_replica}
use Rattle.world_core.proofs.Rows.{seen_at, all_at}
use Rattle.world_core.proofs.nodes.node_status.Goals as goal

pub returns : goal.returns
returns g c =
    let tells = g.met.R.Crashing.telling in
    let faultless = all_at g.R.Replica.is_faultless c.args.nodes.now.items c.args.i c.index-node.result.now c.requires.node.0 c.requires.node.1 c.index-node.ensures c.requires.faultless in
    let at = seen_at fresh_replica g.R.Replica.state c.args.nodes.now.items c.args.i c.index-node.result.now c.requires.node.0 c.requires.node.1 c.index-node.ensures in
    let standing = g.met.R.Replica.standing c.index-node.result.now tells (g.met.R.Replica.going c.index-node.result.now faultless) in
    rw (at, c.status.ensures) standing.0
