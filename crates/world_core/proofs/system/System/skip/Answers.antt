use Rattle.std.proofs.Common.{refl}
use Rattle.world_core.proofs.Fits.{below_last, stays, moves_on}
use Rattle.world_core.proofs.Events.{no_skip_happens, skipped_happens, moved}
use Rattle.world_core.proofs.system.System.skip.Goals as goal

pub returns-in_default : goal.returns-in_default
returns-in_default g c =
    rw (← c.self.view_is) (record {
      cluster_same = refl;
      happens_so = no_skip_happens _ (rw c.cursor-number.ensures.value at (rw c.in_default.is at c.get.ensures.none));
      system = λ n is. stays _ _ n _ is;
    })

pub returns : goal.returns
returns g c =
    let ready = rw (← c.self.view_is) at c.requires.ready in
    let on = moved c.self.inside.pool c.in-Some.field-0.now (rw c.cursor-number.ensures.value at c.in-Some.ensures.some) (below_last _ _ _ ready) in
    rw (← c.self.view_is, c.advance.ensures, on, c.cursor-number.ensures.value) (record {
      cluster_same = refl;
      happens_so = skipped_happens _ _ (rw c.cursor-number.ensures.value at c.in-Some.ensures.some);
      system = λ n is. moves_on _ _ n _ _ is;
    })
