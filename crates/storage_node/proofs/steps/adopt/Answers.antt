use Rattle.std.proofs.Common.{◌≡◌, ◌≢◌, ◌+◌, ◌∙◌, arith, rules}
use Rattle.proto_model.specs.Replicas.{next_staged}
use Rattle.proto_model.specs.Parts.{adopted_to}
use Rattle.proto_model.specs.declared.message.ToNode.TheVariants.{Adopt}
use Rattle.partition_store.specs.Stores.{state_by, staged_count}
use Rattle.storage_node.proofs.Taken.{adopts, adopt-needs}
use Rattle.storage_node.proofs.Stepped.{crash-either, step-err}
use Rattle.storage_node.proofs.steps.adopt.Goals as goal

pub returns-in-Err-clause-step : goal.returns-in-Err-clause-step
returns-in-Err-clause-step g c =
    let H = g.D.Disk.history in
    let old = c.args.store.now in
    let e = c.adopt.ensures in
    let other : old.status.adopted ≢ c.args.session = search rules in
    let next : c.args.length ≡ old.status.low + staged_count old.staged = search rules in
    let promised = λ (t : g.D.Disk.tells). c.requires.current ∙ (c.requires.steady.standing t c.requires.on).promised in
    let not = λ (t : g.D.Disk.tells) (same : (state_by H old).adopted ≡ c.args.session). other ((c.requires.steady.standing t c.requires.on).adopted ∙ same) in
    let place = λ (t : g.D.Disk.tells). (let is = c.requires.steady.standing t c.requires.on in let it : c.args.length + 1 ≡ next_staged (state_by H old) = omega (arith, next, is.low, is.staged) in it) in
    step-err g.D.Disk.tells g.D.Disk.plain H (Adopt c.args.session c.args.length) old c.adopt.new.self c.requires.on c.requires.steady _ e.any_moment
    (λ t. crash-either (state_by H old) (adopted_to (state_by H old) c.args.session) (Adopt c.args.session c.args.length) (adopts (state_by H old) c.args.session c.args.length (promised t) (not t) (place t)))
    e.durable c.adopt.result c.in-Err.fault c.in-Err.is e.answer (λ t. e.never) (λ full. (λ t. adopt-needs (state_by H old) c.args.session c.args.length (promised t) (not t) (place t), e.full full)) (λ t needs max. e.no_file c.requires.on max)
