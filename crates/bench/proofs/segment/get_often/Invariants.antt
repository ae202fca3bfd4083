use Rattle.std.proofs.Common.{◌≡◌}
use Rattle.disk_model.specs.MemDisk.{mem_history}
use Rattle.bench.proofs.segment.get_often.Given as goal

abbrev pub invariant-reads : goal.invariant-reads
invariant-reads l = mem_history l.disk ≡ mem_history l.fn.disk
