use Rattle.std.proofs.Common.{All}
use Rattle.tx_model.specs.Records.{IsRecord}
use Rattle.suite_values.proofs.transactions.entries.Given as goal

abbrev pub invariant-loop-id : goal.invariant-loop-id
invariant-loop-id l = All IsRecord l.records.items
