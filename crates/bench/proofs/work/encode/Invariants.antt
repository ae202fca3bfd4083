use Rattle.tx_model.specs.Records.{IsRecord}
use Rattle.bench.proofs.work.encode.Given as goal

abbrev pub invariant-loop-turn : goal.invariant-loop-turn
invariant-loop-turn l = IsRecord l.entry
