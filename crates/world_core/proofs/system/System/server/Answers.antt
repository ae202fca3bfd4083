use Rattle.std.proofs.Common.{refl}
use Rattle.world_core.proofs.Fits.{server_listed, stays}
use Rattle.world_core.proofs.Events.{server_happens}
use Rattle.world_core.proofs.system.System.server.Goals as goal

pub show_server-requires-clause-server : goal.show_server-requires-clause-server
show_server-requires-clause-server g c =
    let ready = rw (← c.self.view_is) at c.requires.ready in
    let within = rw (← c.self.view_is) at c.requires.server in
    server_listed _ _ _ _ ready within

pub show_server-requires-clause-configs : goal.show_server-requires-clause-configs
show_server-requires-clause-configs g c =
    let ready = rw (← c.self.view_is) at c.requires.ready in
    ready.system.configs

pub returns : goal.returns
returns g c =
    rw (← c.self.view_is) (record {
      cluster_same = refl;
      happens_so = server_happens _ c.args.v _ c.show_server.ensures;
      system = λ n is. stays _ _ n _ is;
    })
