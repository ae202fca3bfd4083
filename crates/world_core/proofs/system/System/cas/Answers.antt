use Rattle.std.proofs.Common.{◌∙◌, refl, sym, ap}
use Rattle.session_register.specs.Registers.{number_after}
use Rattle.world_core.proofs.Fits.{server_listed, kept_listed, counts_none, count_after, stays, registers, keeps}
use Rattle.world_core.proofs.Events.{unread_happens, won_happens, lost_happens, exhausted_happens}
use Rattle.world_core.proofs.system.System.cas.Goals as goal

pub number_of-kept-requires : goal.number_of-kept-requires
number_of-kept-requires g c =
    let ready = rw (← c.self.view_is) at c.requires.ready in
    let within = rw (← c.self.view_is) at c.requires.server in
    kept_listed _ _ _ _ ready within

pub keep-requires : goal.keep-requires
keep-requires g c =
    let ready = rw (← c.self.view_is) at c.requires.ready in
    let within = rw (← c.self.view_is) at c.requires.server in
    kept_listed _ _ _ _ ready within

pub draw-requires-clause-server : goal.draw-requires-clause-server
draw-requires-clause-server g c =
    let ready = rw (← c.self.view_is) at c.requires.ready in
    let within = rw (← c.self.view_is) at c.requires.server in
    server_listed _ _ _ _ ready within

pub compare_and_set-answer-requires : goal.compare_and_set-answer-requires
compare_and_set-answer-requires g c =
    let ready = rw (← c.self.view_is) at c.requires.ready in
    ready.system.kept c.args.v c.in-Some.from (sym c.number_of-kept.ensures ∙ c.in-Some.is)

pub draw-requires-clause-session : goal.draw-requires-clause-session
draw-requires-clause-session g c =
    rw c.in-Won.is at c.compare_and_set-answer.ensures.range

pub draw-requires-clause-configs : goal.draw-requires-clause-configs
draw-requires-clause-configs g c =
    let ready = rw (← c.self.view_is) at c.requires.ready in
    ready.system.configs

pub returns-in_default : goal.returns-in_default
returns-in_default g c =
    rw (← c.self.view_is) (record {
      cluster_same = refl;
      happens_so = unread_happens _ c.args.v (sym c.number_of-kept.ensures ∙ c.in_default.is);
      system = λ n is. stays _ _ n _ is;
    })

pub returns-in-Won : goal.returns-in-Won
returns-in-Won g c =
    rw (← c.self.view_is) (record {
      cluster_same = refl;
      happens_so = won_happens _ _ _ c.args.v c.in-Some.from c.in-Won.session _ (sym c.number_of-kept.ensures ∙ c.in-Some.is) (sym c.in-Won.is ∙ c.compare_and_set-answer.ensures.answer) (c.compare_and_set-answer.ensures.number ∙ ap (number_after c.self.inside.register) c.in-Won.is) c.keep.ensures.numbers c.draw.ensures.servers;
      system = λ n is. registers _ _ n _ _ _ _ (rw c.compare_and_set-answer.ensures.number (count_after _ _ is.number c.compare_and_set-answer.ensures.range)) c.keep.ensures.size (counts_none _ _ c.args.v c.keep.ensures.numbers is.kept) c.draw.ensures.size c.draw.ensures.configs c.draw.ensures.few is;
    })

pub returns-in-Lost : goal.returns-in-Lost
returns-in-Lost g c =
    rw (← c.self.view_is) (record {
      cluster_same = refl;
      happens_so = lost_happens _ _ c.args.v c.in-Some.from c.in-Lost.number _ (sym c.number_of-kept.ensures ∙ c.in-Some.is) (sym c.in-Lost.is ∙ c.compare_and_set-answer.ensures.answer) (c.compare_and_set-answer.ensures.number ∙ ap (number_after c.self.inside.register) c.in-Lost.is) c.keep.ensures.numbers;
      system = λ n is. keeps _ _ n _ _ _ (rw c.compare_and_set-answer.ensures.number (count_after _ _ is.number c.compare_and_set-answer.ensures.range)) c.keep.ensures.size (counts_none _ _ c.args.v c.keep.ensures.numbers is.kept) is;
    })

pub returns-in-Exhausted : goal.returns-in-Exhausted
returns-in-Exhausted g c =
    rw (← c.self.view_is) (record {
      cluster_same = refl;
      happens_so = exhausted_happens _ _ c.args.v c.in-Some.from _ (sym c.number_of-kept.ensures ∙ c.in-Some.is) (sym c.in-Exhausted.is ∙ c.compare_and_set-answer.ensures.answer) (c.compare_and_set-answer.ensures.number ∙ ap (number_after c.self.inside.register) c.in-Exhausted.is) c.keep.ensures.numbers;
      system = λ n is. keeps _ _ n _ _ _ (rw c.compare_and_set-answer.ensures.number (count_after _ _ is.number c.compare_and_set-answer.ensures.range)) c.keep.ensures.size (counts_none _ _ c.args.v c.keep.ensures.numbers is.kept) is;
    })
