use Rattle.std.proofs.Common.{◌≡◌}
use Rattle.disk_model.specs.MemDisk.{mem_history}
use Rattle.segment_store.specs.Index.{IsTidy}
use Rattle.bench.proofs.segment.append_all.Given as goal

abbrev pub invariant-batches : goal.invariant-batches
invariant-batches l = record { tidy : IsTidy l.segment ((mem_history l.disk).now l.segment.file); first : l.segment.first ≡ 1 }
