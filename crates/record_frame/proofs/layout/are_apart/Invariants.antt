use Rattle.std.proofs.Common.{◌+◌}
use Rattle.tx_model.specs.Transactions.{are_apart}
use Rattle.tx_model.specs.Reading.{names_of}
use Rattle.record_frame.proofs.Merges.{AreLeft}
use Rattle.record_frame.proofs.layout.are_apart.Given as goal

abbrev pub invariant-loop-reads : goal.invariant-loop-reads
invariant-loop-reads l = AreLeft (are_apart (names_of l.initial.reads l.initial.read_bytes) (names_of l.initial.writes l.initial.write_bytes)) l.reads l.read_bytes l.writes l.write_bytes

abbrev pub decreases-loop-reads : goal.decreases-loop-reads
decreases-loop-reads l = l.reads + l.writes
