use Rattle.std.proofs.Common.{◌≡◌, ◌+◌, length, sym, ◌∙◌, ap, subst}
use Rattle.tx_model.specs.Records.{RiseByOne}
use Rattle.disk_model.specs.MemDisk.{MemState, mem_history}
use Rattle.disk_model.specs.Replay.{replay}
use Rattle.segment_store.specs.Index.{Index, count_of}
use Rattle.suite_disk.proofs.segments.staged.Goals as goal

pub stage-requires-clause-all : goal.stage-requires-clause-all
unfolding replay
stage-requires-clause-all c t =
    let none : length ((mem_history c.new-disk.result).now c.new-segment.result.file).reads ≡ 0 = ap (λ (d : MemState). length ((mem_history d).now c.new-segment.result.file).reads) c.new-disk.ensures in
    record { index = c.new-segment.ensures.index _; ends = ap (λ (i : Index). i.end) c.new-segment.ensures.none ∙ sym none }

pub stage-requires-clause-ids : goal.stage-requires-clause-ids
stage-requires-clause-ids c = subst (λ (i : Index). RiseByOne (i.first + count_of i) c.deref.result.now) (sym c.new-segment.ensures.none) (subst (RiseByOne 1) (sym c.deref.ensures.value) c.in_ok-records.ensures)
