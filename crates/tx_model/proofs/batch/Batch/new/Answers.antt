use Rattle.std.proofs.Common.{arith, rules}
use Rattle.tx_model.proofs.Batches.{RiseByOne-from_steps, none_gap}
use Rattle.tx_model.proofs.batch.Batch.new.Goals as goal

pub invariant_of-result : goal.invariant_of-result
invariant_of-result c = record {
  some = search rules;
  few = omega arith;
  rise = RiseByOne-from_steps c.args.records.items c.requires (λ k other some lt. c.loop-at.invariant k other some (omega arith));
}

pub returns-clause-gap : goal.returns-clause-gap
returns-clause-gap c = λ at. (λ e. absurd cc, λ gap. absurd (none_gap c.args.records.items (λ k other some lt. c.loop-at.invariant k other some (omega arith)) at gap.1))
