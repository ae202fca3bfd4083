use Rattle.std.proofs.Common.{refl}
use Rattle.world_core.proofs.Fits.{server_listed, kept_listed, counts_none, registers}
use Rattle.world_core.proofs.Events.{restarted_happens}
use Rattle.world_core.proofs.system.System.restart.Goals as goal

pub restart_server-requires-clause-server : goal.restart_server-requires-clause-server
restart_server-requires-clause-server g c =
    let ready = rw (← c.self.view_is) at c.requires.ready in
    let within = rw (← c.self.view_is) at c.requires.server in
    server_listed _ _ _ _ ready within

pub keep-requires : goal.keep-requires
keep-requires g c =
    let ready = rw (← c.self.view_is) at c.requires.ready in
    let within = rw (← c.self.view_is) at c.requires.server in
    kept_listed _ _ _ _ ready within

pub restart_server-requires-clause-range : goal.restart_server-requires-clause-range
restart_server-requires-clause-range g c =
    let ready = rw (← c.self.view_is) at c.requires.ready in
    ready.system.range

pub restart_server-requires-clause-configs : goal.restart_server-requires-clause-configs
restart_server-requires-clause-configs g c =
    let ready = rw (← c.self.view_is) at c.requires.ready in
    ready.system.configs

pub returns : goal.returns
returns g c =
    rw (← c.self.view_is) (record {
      cluster_same = refl;
      happens_so = restarted_happens _ _ _ c.args.v c.in_ok-restart_server.ensures.servers c.keep.ensures.numbers;
      system = λ n is. registers _ _ n _ _ _ _ is.number c.keep.ensures.size (counts_none _ _ c.args.v c.keep.ensures.numbers is.kept) c.in_ok-restart_server.ensures.size c.in_ok-restart_server.ensures.configs c.in_ok-restart_server.ensures.few is;
    })
