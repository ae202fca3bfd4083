use Rattle.std.proofs.Common.{sym, ◌∙◌, arith}
use Rattle.std.proofs.lemmas.Bool.Decides.{nat_tests}
use Rattle.wire_codec.specs.Reading.{is_head, after_head}
use Rattle.wire_codec.proofs.Runs.{are_items-next, past_items-next, are_items-none, past_items-none}
use Rattle.wire_codec.proofs.lists.after_some_heads.Goals as goal

pub returns-in_default-clause-none : goal.returns-in_default-clause-none
returns-in_default-clause-none c = grind (arith, nat_tests, are_items-next is_head after_head c.loop.id c.args.count c.loop.counter c.loop.rest.now c.loop-test.true, c.loop.invariant.form, c.in_default.ensures.none)

pub loop-preserved : goal.loop-preserved
loop-preserved c = record {
  at = omega (arith, c.loop.invariant.at);
  form = grind (arith, nat_tests, are_items-next is_head after_head c.loop.id c.args.count c.loop.counter c.loop.rest.now c.loop-test.true, c.loop.invariant.form, c.in-Some.ensures.some);
  past = grind (arith, nat_tests, past_items-next after_head c.args.count c.loop.counter c.loop.rest.now c.loop-test.true, c.loop.invariant.past, c.in-Some.ensures.some);
}

pub returns-clause-some : goal.returns-clause-some
returns-clause-some c = (sym c.loop.invariant.form ∙ are_items-none is_head after_head c.loop.id c.args.count c.loop.counter c.loop.rest.now c.loop-test.false, sym (past_items-none after_head c.args.count c.loop.counter c.loop.rest.now c.loop-test.false) ∙ c.loop.invariant.past)
