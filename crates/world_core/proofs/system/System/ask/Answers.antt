use Rattle.std.proofs.Common.{refl, arith}
use Rattle.world_core.proofs.Fits.{client_listed, room_for_one, sends_more}
use Rattle.world_core.proofs.Events.{asked_happens}
use Rattle.world_core.proofs.system.System.ask.Goals as goal

pub next_ask-m-requires : goal.next_ask-m-requires
next_ask-m-requires g c =
    let ready = rw (← c.self.view_is) at c.requires.ready in
    let within = rw (← c.self.view_is) at c.requires.client in
    client_listed _ _ _ _ ready within

pub send_one-requires : goal.send_one-requires
send_one-requires g c =
    let ready = rw (← c.self.view_is) at c.requires.ready in
    room_for_one _ _ _ ready

pub returns : goal.returns
returns g c =
    rw (← c.self.view_is, c.in_ok-outcome.ensures.pool) (record {
      cluster_same = refl;
      happens_so = asked_happens _ _ c.args.c c.args.v c.next_ask-m.result c.in_ok-outcome.outcome c.next_ask-m.ensures refl c.in_ok-outcome.ensures.outcome;
      system = λ n is. sends_more _ _ n _ _ _ refl is.numbers (tt, tt) (omega arith) is;
    })
