use Rattle.std.proofs.Common.{◌≡◌, ◌-◌, ◌+◌}
use Rattle.wire_codec.specs.Runs.{are_items, past_items}
use Rattle.wire_codec.specs.Reading.{is_head, after_head}
use Rattle.wire_codec.proofs.lists.after_some_heads.Given as goal

abbrev pub invariant-loop : goal.invariant-loop
invariant-loop l = record {
  at : l.id ≡ l.first + l.counter;
  form : are_items is_head after_head l.id (l.count - l.counter) l.rest ≡ are_items is_head after_head l.first l.count l.bytes;
  past : past_items after_head (l.count - l.counter) l.rest ≡ past_items after_head l.count l.bytes;
}
