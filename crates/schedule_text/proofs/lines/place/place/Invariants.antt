use Rattle.std.proofs.Common.{◌≤◌, ◌-◌, length, take}
use Rattle.schedule_text.specs.Found.{BeginsSome}
use Rattle.schedule_text.proofs.lines.place.place.Given as goal

abbrev pub invariant-loop-at : goal.invariant-loop-at
invariant-loop-at l = record { within : l.at ≤ length l.front; holds : BeginsSome l.forms (take l.at l.front) }

abbrev pub decreases-loop-at : goal.decreases-loop-at
decreases-loop-at l = length l.front - l.at
