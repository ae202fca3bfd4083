use Rattle.std.proofs.Common.{◌≡◌, ◌++◌, take}
use Rattle.std.specs.List.{flat_map}
use Rattle.schedule_text.specs.Outcomes.{next_item}
use Rattle.schedule_text.proofs.print.add_more.Given as goal

abbrev pub invariant-loop-item : goal.invariant-loop-item
invariant-loop-item l = l.line.items ≡ l.initial.line.items ++ flat_map next_item (take l.item-index l.items)
