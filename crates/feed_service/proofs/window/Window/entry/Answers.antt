use Rattle.std.proofs.Common.{◌≡◌, ◌<◌, ◌≤◌, ◌+◌, List, length, get_or, sym, subst, rules}
use Rattle.tx_model.specs.declared.record.Record.{Record}
use Rattle.tx_model.specs.Records.{IsRecord}
use Rattle.tx_model.proofs.Batches.{RiseByOne-All}
use Rattle.feed_service.proofs.Parts.{none_at}
use Rattle.feed_service.proofs.window.Window.entry.Goals as goal

pub returns-in_ok-copy-in-Some-get-clause-valid : goal.returns-in_ok-copy-in-Some-get-clause-valid
returns-in_ok-copy-in-Some-get-clause-valid c =
    let log : List Record = c.self.inside.records.items in
    let less : c.in-Some.place < length log = search rules in
    let is : c.in_ok-copy-in-Some-get.copy ≡ get_or log c.in-Some.place c.in_ok-copy-in-Some-get.copy = search rules in
    subst IsRecord (sym is) (RiseByOne-All 1 log c.self.invariant c.in-Some.place c.in_ok-copy-in-Some-get.copy less)

pub returns-in-None-clause-value : goal.returns-in-None-clause-value
returns-in-None-clause-value c =
    let next : c.args.id ≡ c.in-Some.place + 1 = search rules in
    let past : length c.args.self.now.log ≤ c.in-Some.place = search rules in
    sym (none_at c.args.self.now.log c.args.id c.in-Some.place next past)
