use Rattle.std.proofs.Common.{◌≡◌, ◌+◌, ◌≤◌, sym, ◌∙◌, arith, rules}
use Rattle.tx_model.specs.Records.{first_id}
use Rattle.proto_model.specs.declared.message.ToNode.TheVariants.{Append}
use Rattle.partition_store.specs.Stores.{state_by}
use Rattle.storage_node.proofs.Stepped.{crash-some, step-err}
use Rattle.storage_node.proofs.steps.append.Goals as goal

pub returns-in-Err-clause-step : goal.returns-in-Err-clause-step
returns-in-Err-clause-step g c =
    let H = g.D.Disk.history in
    let old = c.args.store.now in
    let e = c.append.ensures in
    let same : old.status.adopted ≡ c.args.session = search rules in
    let on : first_id c.args.batch.now ≤ old.status.length + 1 = search rules in
    step-err g.D.Disk.tells g.D.Disk.plain H (Append c.args.session c.args.batch.now) old c.append.new.self c.requires.on c.requires.steady _ e.any_moment
    (λ t. let is = c.requires.steady.standing t c.requires.on in
    crash-some (state_by H old) c.args.session c.args.batch.now (c.requires.current ∙ is.promised) (sym is.adopted ∙ same) (omega (arith, on, is.length)))
    e.durable c.append.result c.in-Err.fault c.in-Err.is e.answer (λ t. e.never.1) (λ full. absurd (e.never.0 full)) (λ t needs. absurd (cc needs))
