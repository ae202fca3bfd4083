use Rattle.std.proofs.Common.{◌≡◌, ◌++◌, take}
use Rattle.std.specs.List.{flat_map}
use Rattle.schedule_text.specs.Outcomes.{entry_text}
use Rattle.schedule_text.proofs.print.add_entries.Given as goal

abbrev pub invariant-loop-entry : goal.invariant-loop-entry
invariant-loop-entry l = l.line.items ≡ l.initial.line.items ++ flat_map entry_text (take l.entry-index l.entries)
