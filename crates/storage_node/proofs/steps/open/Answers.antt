use Rattle.std.proofs.Common.{◌≢◌, arith, rules}
use Rattle.proto_model.specs.Parts.{promised_to}
use Rattle.proto_model.specs.declared.message.ToNode.TheVariants.{Open}
use Rattle.partition_store.specs.Stores.{state_by}
use Rattle.storage_node.proofs.Taken.{opens}
use Rattle.storage_node.proofs.Stepped.{crash-either, step-err}
use Rattle.storage_node.proofs.steps.open.Goals as goal

pub returns-in-Err-clause-step : goal.returns-in-Err-clause-step
returns-in-Err-clause-step g c =
    let H = g.D.Disk.history in
    let old = c.args.store.now in
    let e = c.promise.ensures in
    let other : c.args.session ≢ old.status.promised = search rules in
    step-err g.D.Disk.tells g.D.Disk.plain H (Open c.args.session) old c.promise.new.self c.requires.on c.requires.steady _ e.any_moment
    (λ t. crash-either (state_by H old) (promised_to (state_by H old) c.args.session) (Open c.args.session)
    (opens (state_by H old) c.args.session (let same = (c.requires.steady.standing t c.requires.on).promised in omega (arith, same, other, c.requires.current))))
    e.durable c.promise.result c.in-Err.fault c.in-Err.is e.answer (λ t. e.never.1) (λ full. absurd (e.never.0 full)) (λ t needs. absurd (cc needs))
