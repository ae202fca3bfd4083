use Rattle.std.proofs.Common.{◌≡◌, ◌≢◌, ◌+◌, None, inl, sym, ◌∙◌, arith, rules}
use Rattle.proto_model.specs.Replicas.{next_staged}
use Rattle.tx_model.specs.Records.{first_id}
use Rattle.proto_model.specs.declared.message.ToNode.TheVariants.{Stage}
use Rattle.partition_store.specs.Stores.{state_by, staged_count}
use Rattle.storage_node.proofs.Taken.{stage-needs, stage-none}
use Rattle.storage_node.proofs.Stepped.{step-err}
use Rattle.storage_node.proofs.steps.stage.Goals as goal

pub returns-in-Err-clause-step : goal.returns-in-Err-clause-step
returns-in-Err-clause-step g c =
    let H = g.D.Disk.history in
    let old = c.args.store.now in
    let e = c.stage.ensures in
    let r = state_by H old in
    let batch = c.args.batch.now in
    let other : old.status.adopted ≢ c.args.session = search rules in
    let next : first_id batch ≡ old.status.low + staged_count old.staged + 1 = search rules in
    let promised = λ (t : g.D.Disk.tells). c.requires.current ∙ (c.requires.steady.standing t c.requires.on).promised in
    let not = λ (t : g.D.Disk.tells) (same : (state_by H old).adopted ≡ c.args.session). other ((c.requires.steady.standing t c.requires.on).adopted ∙ same) in
    let place = λ (t : g.D.Disk.tells). (let is = c.requires.steady.standing t c.requires.on in let it : first_id batch ≡ next_staged (state_by H old) = omega (arith, next, is.low, is.staged) in it) in
    let none = λ (t : g.D.Disk.tells) (is : old.staged ≡ None). sym (c.requires.steady.standing t c.requires.on).staged ∙ sym c.staged.ensures.value ∙ c.staged.ensures.none.1 is in
    step-err g.D.Disk.tells g.D.Disk.plain H (Stage c.args.session batch) old c.stage.new.self c.requires.on c.requires.steady _ e.any_moment (λ t s is. inl is)
    e.durable c.stage.result c.in-Err.fault c.in-Err.is e.answer (λ t. e.never)
    (λ full. (λ t. stage-needs (state_by H old) c.args.session batch (promised t) (not t) (place t) (none t (e.full full).0), (e.full full).1))
    (λ t needs max. e.no_file c.requires.on (c.staged.ensures.none.0 (c.staged.ensures.value ∙ (c.requires.steady.standing t c.requires.on).staged ∙ stage-none (state_by H old) c.args.session batch needs)) max)
