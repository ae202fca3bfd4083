use Rattle.std.proofs.Common.{refl, arith}
use Rattle.world_core.proofs.Fits.{room_for_one, sends_more}
use Rattle.world_core.proofs.Events.{flushed_happens}
use Rattle.world_core.proofs.system.System.flush.Goals as goal

pub send_one-requires : goal.send_one-requires
send_one-requires g c =
    let ready = rw (← c.self.view_is) at c.requires.ready in
    room_for_one _ _ _ ready

pub returns : goal.returns
returns g c =
    rw (← c.self.view_is, c.in_ok-outcome.ensures.pool) (record {
      cluster_same = refl;
      happens_so = flushed_happens _ _ c.args.c c.args.v c.in_ok-outcome.outcome refl c.in_ok-outcome.ensures.outcome;
      system = λ n is. sends_more _ _ n _ _ _ refl is.numbers (tt, tt) (omega arith) is;
    })
