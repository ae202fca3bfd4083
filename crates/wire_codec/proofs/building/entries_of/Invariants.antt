use Rattle.std.proofs.Common.{◌≡◌, ◌-◌, ◌++◌, true, ℕ}
use Rattle.wire_codec.specs.Runs.{are_items, items_of}
use Rattle.wire_codec.specs.Reading.{is_entry, after_entry, entry_of}
use Rattle.wire_codec.proofs.building.entries_of.Given as goal

abbrev pub invariant-loop : goal.invariant-loop
invariant-loop l = record {
  form : (id : ℕ) × (are_items is_entry after_entry id (l.count - l.counter) l.rest ≡ true);
  same : l.records.items ++ items_of entry_of after_entry (l.count - l.counter) l.rest ≡ items_of entry_of after_entry l.count l.bytes;
}
