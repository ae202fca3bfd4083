use Rattle.tx_model.proofs.Batches.{StepByOne}
use Rattle.tx_model.proofs.batch.Batch.new.Given as goal

abbrev pub invariant-loop-at : goal.invariant-loop-at
invariant-loop-at l = StepByOne l.records.items l.at
