use Rattle.world_core.specs.Kept.{no_files}
use Rattle.world_core.proofs.Rows.{seen_at}
use Rattle.world_core.proofs.nodes.dump_node.Goals as goal

pub returns : goal.returns
returns g c =
    let at = seen_at no_files g.R.Replica.files c.args.nodes.now.items c.args.i c.index-node.result.now c.requires.0 c.requires.1 c.index-node.ensures in
    rw at c.in_ok-outcome.ensures
