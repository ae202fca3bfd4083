use Rattle.std.proofs.Common.{◌≡◌, ◌-◌, ◌+◌}
use Rattle.wire_codec.specs.Runs.{are_items, past_items}
use Rattle.wire_codec.specs.Reading.{is_entry, after_entry}
use Rattle.wire_codec.proofs.lists.after_entries.Given as goal

abbrev pub invariant-loop : goal.invariant-loop
invariant-loop l = record {
  at : l.id ≡ l.first + l.counter;
  form : are_items is_entry after_entry l.id (l.count - l.counter) l.rest ≡ are_items is_entry after_entry l.first l.count l.bytes;
  past : past_items after_entry (l.count - l.counter) l.rest ≡ past_items after_entry l.count l.bytes;
}
