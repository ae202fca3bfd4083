use Rattle.std.proofs.Common.{◌≡◌, ◌++◌, map, take}
use Rattle.world_law.specs.Outcomes.{entry_of}
use Rattle.world_core.proofs.tally.add_batch.Given as goal

abbrev pub invariant-loop-r : goal.invariant-loop-r
invariant-loop-r l = l.entries.items ≡ l.fn.entries.items ++ map entry_of (take l.r-index l.fresh)
