use Rattle.std.proofs.Common.{◌+◌, refl}
use Rattle.world_core.proofs.Fits.{node_listed, going_on, nodes_change}
use Rattle.world_core.proofs.Events.{crashed_happens}
use Rattle.world_core.proofs.system.System.crash.Goals as goal

pub crash_node-requires-clause-node : goal.crash_node-requires-clause-node
crash_node-requires-clause-node g c =
    let ready = rw (← c.self.view_is) at c.requires.ready in
    let within = rw (← c.self.view_is) at c.requires.node in
    node_listed _ _ _ _ ready within

pub crash_node-requires-clause-going : goal.crash_node-requires-clause-going
crash_node-requires-clause-going g c =
    let ready = rw (← c.self.view_is) at c.requires.ready in
    going_on _ _ _ ready

pub returns : goal.returns
returns g c =
    let set = c.in_ok-s.ensures.nodes in
    rw (← c.self.view_is) (record {
      cluster_same = refl;
      happens_so = crashed_happens _ _ _ set.bytes c.args.i c.in_ok-s.s set.states set.files c.in_ok-s.ensures.status;
      system = λ n is. nodes_change _ _ n _ _ c.in_ok-s.ensures.size (c.in_ok-s.ensures.going (n + 1) is.going) is;
    })
