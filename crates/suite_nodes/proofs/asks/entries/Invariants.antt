use Rattle.std.proofs.Common.{All}
use Rattle.tx_model.specs.Records.{IsRecord}
use Rattle.suite_nodes.proofs.asks.entries.Given as goal

abbrev pub invariant-loop-k : goal.invariant-loop-k
invariant-loop-k l = All IsRecord l.records.items
