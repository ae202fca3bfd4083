use Rattle.disk_model.proofs.Kept.{fresh_agrees}
use Rattle.disk_model.proofs.memory.MemDisk.failing.Goals as goal

pub invariant_of-result : goal.invariant_of-result
invariant_of-result c = fresh_agrees c.new.result c.new-2.result.items c.new.ensures.empty c.new-2.ensures.items
