use Rattle.std.proofs.Common.{refl}
use Rattle.world_core.proofs.Going.{all_faultless}
use Rattle.world_core.proofs.Fits.{node_listed, stays}
use Rattle.world_core.proofs.Events.{showed_happens}
use Rattle.world_core.proofs.system.System.show.Goals as goal

pub node_status-s-requires-clause-node : goal.node_status-s-requires-clause-node
node_status-s-requires-clause-node g c =
    let ready = rw (← c.self.view_is) at c.requires.ready in
    let within = rw (← c.self.view_is) at c.requires.node in
    node_listed _ _ _ _ ready within

pub node_status-s-requires-clause-faultless : goal.node_status-s-requires-clause-faultless
node_status-s-requires-clause-faultless g c =
    let ready = rw (← c.self.view_is) at c.requires.ready in
    all_faultless _ _ _ _ ready.system.going

pub returns : goal.returns
returns g c =
    rw (← c.self.view_is) (record {
      cluster_same = refl;
      happens_so = showed_happens _ c.args.i c.node_status-s.result c.node_status-s.ensures;
      system = λ n is. stays _ _ n _ is;
    })
