use Rattle.std.proofs.Common.{refl}
use Rattle.world_core.proofs.Fits.{client_listed, stays}
use Rattle.world_core.proofs.Events.{app_happens}
use Rattle.world_core.proofs.system.System.app.Goals as goal

pub show_app-requires : goal.show_app-requires
show_app-requires g c =
    let ready = rw (← c.self.view_is) at c.requires.ready in
    let within = rw (← c.self.view_is) at c.requires.client in
    client_listed _ _ _ _ ready within

pub returns : goal.returns
returns g c =
    rw (← c.self.view_is) (record {
      cluster_same = refl;
      happens_so = app_happens _ c.args.c _ c.in_ok-outcome.ensures;
      system = λ n is. stays _ _ n _ is;
    })
