use Rattle.std.proofs.Common.{sym, ◌∙◌, ap, Some}
use Rattle.kv_app.proofs.NumberLemmas.{application_swept}
use Rattle.kv_app.proofs.Empties.{empty_swept}
use Rattle.kv_app.proofs.numbers.drop_empty.Goals as goal

pub returns-in-Some-None-clause-same : goal.returns-in-Some-None-clause-same
returns-in-Some-None-clause-same c =
    application_swept (λ k. k.items) c.args.numbers.now c.remove.new.self c.args.key.now c.remove.ensures.updates
    (sym c.in-Some-None.ensures.value ∙ ap Some c.in-Some-None.field-0-is)

pub returns-in-Some-None-clause-empty : goal.returns-in-Some-None-clause-empty
returns-in-Some-None-clause-empty c q empty =
    empty_swept (λ k. k.items) c.args.numbers.now c.remove.new.self c.args.key.now c.remove.ensures.updates q empty
