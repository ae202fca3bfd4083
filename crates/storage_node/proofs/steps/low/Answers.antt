use Rattle.std.proofs.Common.{◌≡◌, ◌<◌, ◌≤◌, sym, ◌∙◌, arith, rules}
use Rattle.proto_model.specs.Parts.{lowered_to}
use Rattle.proto_model.specs.declared.message.ToNode.TheVariants.{Low}
use Rattle.partition_store.specs.Stores.{state_by}
use Rattle.storage_node.proofs.Taken.{lowers}
use Rattle.storage_node.proofs.Stepped.{crash-either, step-err}
use Rattle.storage_node.proofs.steps.low.Goals as goal

pub returns-in-Err-clause-step : goal.returns-in-Err-clause-step
returns-in-Err-clause-step g c =
    let H = g.D.Disk.history in
    let old = c.args.store.now in
    let e = c.low.ensures in
    let same : old.status.adopted ≡ c.args.session = search rules in
    let within : c.args.mark ≤ old.status.length = search rules in
    let above : old.status.low < c.args.mark = search rules in
    step-err g.D.Disk.tells g.D.Disk.plain H (Low c.args.session c.args.mark) old c.low.new.self c.requires.on c.requires.steady _ e.any_moment
    (λ t. let is = c.requires.steady.standing t c.requires.on in
    crash-either (state_by H old) (lowered_to (state_by H old) c.args.mark) (Low c.args.session c.args.mark)
    (lowers (state_by H old) c.args.session c.args.mark (c.requires.current ∙ is.promised) (sym is.adopted ∙ same) (omega (arith, within, is.length)) (omega (arith, above, is.low))))
    e.durable c.low.result c.in-Err.fault c.in-Err.is e.answer (λ t. e.never.1) (λ full. absurd (e.never.0 full)) (λ t needs. absurd (cc needs))
