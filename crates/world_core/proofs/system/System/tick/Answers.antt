use Rattle.std.proofs.Common.{length, map, refl, arith}
use Rattle.partition_server.specs.Held.{state_of}
use Rattle.world_core.specs.Kept.{servers_of}
use Rattle.world_core.proofs.Fits.{server_listed, room, sends_more, few_ticked}
use Rattle.world_core.proofs.Events.{ticked_happens}
use Rattle.world_core.proofs.system.System.tick.Goals as goal

pub messages-requires-clause-server : goal.messages-requires-clause-server
messages-requires-clause-server g c =
    let ready = rw (← c.self.view_is) at c.requires.ready in
    let within = rw (← c.self.view_is) at c.requires.server in
    server_listed _ _ _ _ ready within

pub messages-requires-clause-configs : goal.messages-requires-clause-configs
messages-requires-clause-configs g c =
    let ready = rw (← c.self.view_is) at c.requires.ready in
    ready.system.configs

pub send_all-requires : goal.send_all-requires
send_all-requires g c =
    let ready = rw (← c.self.view_is) at c.requires.ready in
    let few = few_ticked _ _ _ c.args.v (servers_of (map state_of c.self.inside.servers.items) c.args.v) c.in_ok-made.made.items ready c.in_ok-made.ensures.made in
    room _ _ _ (length c.in_ok-made.made.items) ready (omega (arith, few))

pub returns : goal.returns
returns g c =
    let ready = rw (← c.self.view_is) at c.requires.ready in
    rw (← c.self.view_is, c.in_ok-outcome.ensures.pool) (record {
      cluster_same = refl;
      happens_so = ticked_happens _ _ c.in_ok-made.made.items c.args.v c.in_ok-outcome.outcome c.in_ok-made.ensures.made refl c.in_ok-outcome.ensures.outcome;
      system = λ n is. sends_more _ _ n _ _ c.in_ok-made.made.items refl is.numbers c.in_ok-made.ensures.fit (few_ticked _ _ _ c.args.v (servers_of (map state_of c.self.inside.servers.items) c.args.v) c.in_ok-made.made.items ready c.in_ok-made.ensures.made) is;
    })
