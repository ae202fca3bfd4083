use Rattle.std.proofs.Common.{◌≡◌, ◌-◌, ◌++◌, true, ℕ}
use Rattle.wire_codec.specs.Runs.{are_items, items_of}
use Rattle.wire_codec.specs.Reading.{is_head, after_head, head_of}
use Rattle.wire_codec.proofs.building.some_heads_of.Given as goal

abbrev pub invariant-loop : goal.invariant-loop
invariant-loop l = record {
  form : (id : ℕ) × (are_items is_head after_head id (l.count - l.counter) l.rest ≡ true);
  same : l.heads.items ++ items_of head_of after_head (l.count - l.counter) l.rest ≡ items_of head_of after_head l.count l.bytes;
}
