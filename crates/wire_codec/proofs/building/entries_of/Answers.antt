use Rattle.std.proofs.Common.{◌+◌}
use Rattle.wire_codec.specs.Reading.{is_entry, after_entry, entry_of}
use Rattle.wire_codec.proofs.Runs.{is_next, goes_on, is_done}
use Rattle.wire_codec.proofs.Formats.{is_entry_tells}
use Rattle.wire_codec.proofs.building.entries_of.Goals as goal

pub entry_at-requires-clause-long : goal.entry_at-requires-clause-long
entry_at-requires-clause-long c = (is_entry_tells _ c.loop.rest.now (is_next is_entry after_entry c.loop.invariant.form.0 c.args.count c.loop.counter c.loop.rest.now c.loop-test.true c.loop.invariant.form.1).one).long

pub entry_at-requires-clause-body : goal.entry_at-requires-clause-body
entry_at-requires-clause-body c = (is_entry_tells _ c.loop.rest.now (is_next is_entry after_entry c.loop.invariant.form.0 c.args.count c.loop.counter c.loop.rest.now c.loop-test.true c.loop.invariant.form.1).one).body

pub loop-preserved : goal.loop-preserved
loop-preserved c =
    let next = is_next is_entry after_entry c.loop.invariant.form.0 c.args.count c.loop.counter c.loop.rest.now c.loop-test.true c.loop.invariant.form.1 in
    record {
      form = (c.loop.invariant.form.0 + 1, cc (next.others, c.in_ok-entry.ensures.1));
      same = goes_on entry_of after_entry c.args.count c.loop.counter c.loop.rest.now c.in_ok-entry.after.now c.loop.records.items c.push.new.self.items _ c.in_ok-entry.entry c.loop-test.true c.in_ok-push.ensures.items c.in_ok-entry.ensures.0 c.in_ok-entry.ensures.1 c.loop.invariant.same;
    }

pub returns : goal.returns
returns c = is_done entry_of after_entry c.args.count c.loop.counter c.loop.rest.now c.loop.records.items _ c.loop-test.false c.loop.invariant.same
