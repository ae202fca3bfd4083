use Rattle.std.proofs.Common.{refl}
use Rattle.world_core.proofs.Fits.{node_listed, stays}
use Rattle.world_core.proofs.Events.{dumped_happens}
use Rattle.world_core.proofs.system.System.dump.Goals as goal

pub dump_node-requires : goal.dump_node-requires
dump_node-requires g c =
    let ready = rw (← c.self.view_is) at c.requires.ready in
    let within = rw (← c.self.view_is) at c.requires.node in
    node_listed _ _ _ _ ready within

pub returns : goal.returns
returns g c =
    rw (← c.self.view_is) (record {
      cluster_same = refl;
      happens_so = dumped_happens _ c.args.i c.args.file c.args.at _ c.in_ok-outcome.ensures;
      system = λ n is. stays _ _ n _ is;
    })
