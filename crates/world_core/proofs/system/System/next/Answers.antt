use Rattle.std.proofs.Common.{◌+◌, length, refl, arith}
use Rattle.world_core.specs.Deliveries.{made_by}
use Rattle.world_core.proofs.Fits.{going_on, room, below_last, stays, parties_change, found_fit}
use Rattle.world_core.proofs.Events.{next_happens, no_next_happens, moved}
use Rattle.world_core.proofs.system.System.next.Goals as goal

pub deliver-requires-clause-node_count : goal.deliver-requires-clause-node_count
deliver-requires-clause-node_count g c =
    let ready = rw (← c.self.view_is) at c.requires.ready in
    ready.system.node_count

pub deliver-requires-clause-server_count : goal.deliver-requires-clause-server_count
deliver-requires-clause-server_count g c =
    let ready = rw (← c.self.view_is) at c.requires.ready in
    ready.system.server_count

pub deliver-requires-clause-client_count : goal.deliver-requires-clause-client_count
deliver-requires-clause-client_count g c =
    let ready = rw (← c.self.view_is) at c.requires.ready in
    ready.system.client_count

pub deliver-requires-clause-going : goal.deliver-requires-clause-going
deliver-requires-clause-going g c =
    let ready = rw (← c.self.view_is) at c.requires.ready in
    going_on _ _ _ ready

pub deliver-requires-clause-configs : goal.deliver-requires-clause-configs
deliver-requires-clause-configs g c =
    let ready = rw (← c.self.view_is) at c.requires.ready in
    ready.system.configs

pub deliver-requires-clause-numbers : goal.deliver-requires-clause-numbers
deliver-requires-clause-numbers g c =
    let ready = rw (← c.self.view_is) at c.requires.ready in
    ready.system.numbers

pub deliver-requires-clause-fit : goal.deliver-requires-clause-fit
deliver-requires-clause-fit g c =
    let ready = rw (← c.self.view_is) at c.requires.ready in
    found_fit c.self.inside.pool _ c.in-Some.envelope.now ready.system.fit c.in-Some.ensures.some

pub finish-requires : goal.finish-requires
finish-requires g c =
    let ready = rw (← c.self.view_is) at c.requires.ready in
    let on = moved c.self.inside.pool c.in-Some.envelope.now (rw c.cursor-number.ensures.value at c.in-Some.ensures.some) (below_last _ _ _ ready) in
    let few = c.in_ok-given.ensures.few in
    rw (c.advance.ensures, on) (room _ _ _ (length (made_by c.in_ok-given.given)) ready (omega (arith, few)))

pub returns-in_default : goal.returns-in_default
returns-in_default g c =
    rw (← c.self.view_is) (record {
      cluster_same = refl;
      happens_so = no_next_happens _ (rw c.cursor-number.ensures.value at (rw c.in_default.is at c.get.ensures.none));
      system = λ n is. stays _ _ n _ is;
    })

pub returns : goal.returns
returns g c =
    let ready = rw (← c.self.view_is) at c.requires.ready in
    let on = moved c.self.inside.pool c.in-Some.envelope.now (rw c.cursor-number.ensures.value at c.in-Some.ensures.some) (below_last _ _ _ ready) in
    rw (← c.self.view_is, c.in_ok-outcome.ensures.pool, c.advance.ensures, on) (record {
      cluster_same = refl;
      happens_so = next_happens _ _ _ c.in-Some.envelope.now c.in_ok-given.given c.in_ok-outcome.outcome (rw c.cursor-number.ensures.value at c.in-Some.ensures.some) c.in_ok-given.ensures.delivers refl (rw (c.advance.ensures, on) at c.in_ok-outcome.ensures.outcome);
      system = λ n is. parties_change _ _ n _ _ _ _ (made_by c.in_ok-given.given) _ c.in_ok-given.ensures.node_count c.in_ok-given.ensures.server_count c.in_ok-given.ensures.client_count (c.in_ok-given.ensures.going (n + 1) is.going) c.in_ok-given.ensures.configs c.in_ok-given.ensures.numbers c.in_ok-given.ensures.delivers.fit c.in_ok-given.ensures.few is;
    })
