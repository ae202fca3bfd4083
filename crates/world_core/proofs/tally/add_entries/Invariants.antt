use Rattle.std.proofs.Common.{◌≡◌, ◌-◌, length}
use Rattle.world_core.specs.Tallies.{continued}
use Rattle.world_core.proofs.tally.add_entries.Given as goal

abbrev pub invariant-loop-entries : goal.invariant-loop-entries
invariant-loop-entries l = continued l.entries.items l.server.log ≡ continued l.fn.entries.items l.server.log

abbrev pub decreases-loop-entries : goal.decreases-loop-entries
decreases-loop-entries l = length l.server.log - length l.entries.items
