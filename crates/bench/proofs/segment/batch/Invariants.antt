use Rattle.std.proofs.Common.{◌≡◌, length}
use Rattle.tx_model.specs.Records.{RiseByOne}
use Rattle.bench.proofs.segment.batch.Given as goal

abbrev pub invariant-loop-k : goal.invariant-loop-k
invariant-loop-k l = record { ids : RiseByOne l.first l.records.items; count : length l.records.items ≡ l.k }
