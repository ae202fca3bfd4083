use Rattle.std.proofs.Common.{◌≡◌}
use Rattle.disk_model.specs.MemDisk.{mem_history}
use Rattle.bench.proofs.segment.get_each.Given as goal

abbrev pub invariant-ids : goal.invariant-ids
invariant-ids l = mem_history l.disk ≡ mem_history l.initial.disk
