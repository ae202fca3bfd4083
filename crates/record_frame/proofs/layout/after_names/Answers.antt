use Rattle.std.proofs.Common.{arith}
use Rattle.std.proofs.Common.{sym, ◌∙◌}
use Rattle.std.proofs.lemmas.Bool.Decides.{nat_tests}
use Rattle.record_frame.proofs.Names.{are_names-next, past_names-next, are_names-none, past_names-none}
use Rattle.record_frame.proofs.layout.after_names.Goals as goal

pub returns-then-not-is_name-clause-none : goal.returns-then-not-is_name-clause-none
returns-then-not-is_name-clause-none c = grind (arith, nat_tests, are_names-next c.loop.last.now c.args.count c.loop.counter c.loop.rest.now c.loop-test.true, c.loop.invariant.form, c.is_name.ensures)

pub returns-then-not-is_before-clause-none : goal.returns-then-not-is_before-clause-none
returns-then-not-is_before-clause-none c = grind (arith, nat_tests, are_names-next c.loop.last.now c.args.count c.loop.counter c.loop.rest.now c.loop-test.true, c.loop.invariant.form, c.is_name.ensures, c.split_name.ensures.name, c.split_name.ensures.after)

pub loop-preserved : goal.loop-preserved
loop-preserved c = record {
  form = grind (arith, nat_tests, are_names-next c.loop.last.now c.args.count c.loop.counter c.loop.rest.now c.loop-test.true, c.loop.invariant.form, c.is_name.ensures, c.split_name.ensures.name, c.split_name.ensures.after);
  past = grind (arith, nat_tests, past_names-next c.args.count c.loop.counter c.loop.rest.now c.loop-test.true, c.loop.invariant.past, c.is_name.ensures, c.split_name.ensures.name, c.split_name.ensures.after);
}

pub returns-clause-some : goal.returns-clause-some
returns-clause-some c = (sym c.loop.invariant.form ∙ are_names-none c.loop.last.now c.args.count c.loop.counter c.loop.rest.now c.loop-test.false, sym (past_names-none c.args.count c.loop.counter c.loop.rest.now c.loop-test.false) ∙ c.loop.invariant.past)
