use Rattle.std.proofs.Common.{◌≡◌, length}
use Rattle.tx_model.specs.Records.{RiseByOne}
use Rattle.suite_disk.proofs.records.entries.Given as goal

abbrev pub invariant-loop-k : goal.invariant-loop-k
invariant-loop-k l = record { ids : RiseByOne l.first l.records.items; count : length l.records.items ≡ l.k }
