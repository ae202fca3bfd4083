use Rattle.std.proofs.Common.{◌≡◌, ◌++◌, ℕ, ap, subst}
use Rattle.tx_model.specs.Contents.{records_in}
use Rattle.disk_model.specs.History.{EachMoment}
use Rattle.segment_store.specs.Index.{Index}
use Rattle.partition_store.proofs.Begun.{first_in, aside_then}
use Rattle.partition_store.proofs.staging.begin.Goals as goal

pub returns-clause-records : goal.returns-clause-records
returns-clause-records g c = λ t.
    let H = g.D.Disk.history in
    let same : c.new-segment.result.file ≡ c.args.file = ap (λ (i : Index). i.file) c.new-segment.ensures.none in
    first_in ((H c.prepare.new.disk).now c.args.file) (records_in ((H c.stage.new.disk).now c.args.file).reads) c.args.records.now (c.in_ok-prepare.ensures.empty t)
    (subst (λ (q : ℕ). records_in ((H c.stage.new.disk).now q).reads ≡ records_in ((H c.prepare.new.disk).now q).reads ++ c.args.records.now) same (c.in_ok-stage.ensures.records t))

pub returns-in_err-stage-clause-others : goal.returns-in_err-stage-clause-others
returns-in_err-stage-clause-others g c = λ t.
    let H = g.D.Disk.history in
    let same : c.new-segment.result.file ≡ c.args.file = ap (λ (i : Index). i.file) c.new-segment.ensures.none in
    aside_then c.args.file _ _ (H c.args.disk.now) (H c.prepare.new.disk) (H c.stage.new.disk) (c.prepare.ensures.others t)
    (subst (λ (q : ℕ). EachMoment q (λ f. Unit {0}) (H c.prepare.new.disk) (H c.stage.new.disk)) same (c.stage.ensures.others t))

pub returns-clause-others : goal.returns-clause-others
returns-clause-others g c = λ t.
    let H = g.D.Disk.history in
    let same : c.new-segment.result.file ≡ c.args.file = ap (λ (i : Index). i.file) c.new-segment.ensures.none in
    aside_then c.args.file _ _ (H c.args.disk.now) (H c.prepare.new.disk) (H c.stage.new.disk) (c.prepare.ensures.others t)
    (subst (λ (q : ℕ). EachMoment q (λ f. Unit {0}) (H c.prepare.new.disk) (H c.stage.new.disk)) same (c.stage.ensures.others t))
