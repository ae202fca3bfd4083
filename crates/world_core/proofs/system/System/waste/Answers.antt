use Rattle.std.proofs.Common.{◌∙◌, refl, sym, ap}
use Rattle.session_register.specs.Registers.{number_after}
use Rattle.world_core.proofs.Fits.{kept_listed, counts_none, count_after, stays, keeps}
use Rattle.world_core.proofs.Events.{unwasted_happens, wasted_happens}
use Rattle.world_core.proofs.system.System.waste.Goals as goal

pub number_of-kept-requires : goal.number_of-kept-requires
number_of-kept-requires g c =
    let ready = rw (← c.self.view_is) at c.requires.ready in
    let within = rw (← c.self.view_is) at c.requires.server in
    kept_listed _ _ _ _ ready within

pub keep-requires : goal.keep-requires
keep-requires g c =
    let ready = rw (← c.self.view_is) at c.requires.ready in
    let within = rw (← c.self.view_is) at c.requires.server in
    kept_listed _ _ _ _ ready within

pub compare_and_set-requires : goal.compare_and_set-requires
compare_and_set-requires g c =
    let ready = rw (← c.self.view_is) at c.requires.ready in
    ready.system.kept c.args.v c.in-Some.from (sym c.number_of-kept.ensures ∙ c.in-Some.is)

pub returns-in_default : goal.returns-in_default
returns-in_default g c =
    rw (← c.self.view_is) (record {
      cluster_same = refl;
      happens_so = unwasted_happens _ c.args.v (sym c.number_of-kept.ensures ∙ c.in_default.is);
      system = λ n is. stays _ _ n _ is;
    })

pub returns : goal.returns
returns g c =
    rw (← c.self.view_is, c.read_number-number.ensures.same, c.read_number-number.ensures.value) (record {
      cluster_same = refl;
      happens_so = wasted_happens _ _ c.args.v c.in-Some.from _ (sym c.number_of-kept.ensures ∙ c.in-Some.is) (c.compare_and_set.ensures.number ∙ ap (number_after c.self.inside.register) c.compare_and_set.ensures.answer) c.keep.ensures.numbers;
      system = λ n is. keeps _ _ n _ _ _ (rw c.compare_and_set.ensures.number (count_after _ _ is.number c.compare_and_set.ensures.range)) c.keep.ensures.size (counts_none _ _ c.args.v c.keep.ensures.numbers is.kept) is;
    })
