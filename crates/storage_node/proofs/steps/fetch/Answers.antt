use Rattle.std.proofs.Common.{◌≤◌, inl, arith, rules}
use Rattle.tx_model.proofs.Batches.{IsBatch-from_RiseByOne}
use Rattle.proto_model.specs.declared.message.ToNode.TheVariants.{Fetch}
use Rattle.storage_node.proofs.Stepped.{step-err}
use Rattle.storage_node.proofs.steps.fetch.Goals as goal

pub of_records-requires : goal.of_records-requires
of_records-requires g c =
    let within : c.args.from ≤ c.args.store.now.status.length = search rules in
    let count = c.in-Ok.ensures.count in
    IsBatch-from_RiseByOne c.args.from c.in-Ok.records.items (omega (arith, count, within, c.requires.valid.2.some)) (omega (arith, count, c.requires.valid.2.few)) c.in-Ok.ensures.found

pub returns-in-Err-clause-step : goal.returns-in-Err-clause-step
returns-in-Err-clause-step g c =
    let e = c.get_run.ensures in
    step-err g.D.Disk.tells g.D.Disk.plain g.D.Disk.history (Fetch c.args.session c.args.from c.args.max) c.args.store.now c.get_run.new.self c.requires.on c.requires.steady _ e.any_moment (λ t s is. inl is)
    e.durable c.get_run.result c.in-Err.fault c.in-Err.is e.answer e.undamaged (λ full. absurd (e.never full)) (λ t needs. absurd (cc needs))
