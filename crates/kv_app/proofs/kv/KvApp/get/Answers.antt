use Rattle.std.proofs.Common.{ap, sym, ◌∙◌}
use Rattle.std.specs.FinMap as finite
use Rattle.kv_app.proofs.NumberLemmas.{get-found, get-absent}
use Rattle.kv_app.proofs.kv.KvApp.get.Goals as goal

pub returns-in-Some : goal.returns-in-Some
returns-in-Some c =
    get-found (λ k. k.items) c.self.inside.numbers.entries c.args.key.now c.in-Some.number.now (sym c.in-Some.ensures.value) ∙ ap (λ app. finite.get app c.args.key.now) c.self.view_is

pub returns-in-None : goal.returns-in-None
returns-in-None c =
    get-absent (λ k. k.items) c.self.inside.numbers.entries c.args.key.now (sym c.in-None.ensures.value) ∙ ap (λ app. finite.get app c.args.key.now) c.self.view_is
