use Rattle.std.proofs.Common.{◌+◌}
use Rattle.wire_codec.specs.Reading.{is_head, after_head, head_of}
use Rattle.wire_codec.proofs.Runs.{is_next, goes_on, is_done}
use Rattle.wire_codec.proofs.Formats.{is_head_tells}
use Rattle.wire_codec.proofs.building.some_heads_of.Goals as goal

pub head_at-requires-clause-long : goal.head_at-requires-clause-long
head_at-requires-clause-long c = (is_head_tells _ c.loop.rest.now (is_next is_head after_head c.loop.invariant.form.0 c.args.count c.loop.counter c.loop.rest.now c.loop-test.true c.loop.invariant.form.1).one).long

pub head_at-requires-clause-lists : goal.head_at-requires-clause-lists
head_at-requires-clause-lists c = (is_head_tells _ c.loop.rest.now (is_next is_head after_head c.loop.invariant.form.0 c.args.count c.loop.counter c.loop.rest.now c.loop-test.true c.loop.invariant.form.1).one).lists

pub loop-preserved : goal.loop-preserved
loop-preserved c =
    let next = is_next is_head after_head c.loop.invariant.form.0 c.args.count c.loop.counter c.loop.rest.now c.loop-test.true c.loop.invariant.form.1 in
    record {
      form = (c.loop.invariant.form.0 + 1, cc (next.others, c.in_ok-head.ensures.1));
      same = goes_on head_of after_head c.args.count c.loop.counter c.loop.rest.now c.in_ok-head.after.now c.loop.heads.items c.push.new.self.items _ c.in_ok-head.head c.loop-test.true c.in_ok-push.ensures.items c.in_ok-head.ensures.0 c.in_ok-head.ensures.1 c.loop.invariant.same;
    }

pub returns : goal.returns
returns c = is_done head_of after_head c.args.count c.loop.counter c.loop.rest.now c.loop.heads.items _ c.loop-test.false c.loop.invariant.same
