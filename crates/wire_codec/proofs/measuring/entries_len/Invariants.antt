use Rattle.std.proofs.Common.{◌≡◌, ◌≤◌, ◌*◌, take, length}
use Rattle.std.specs.List.{flat_map}
use Rattle.wire_codec.specs.Spelling.{spelled_entry}
use Rattle.wire_codec.proofs.measuring.entries_len.Given as goal

abbrev pub invariant-loop-entry : goal.invariant-loop-entry
invariant-loop-entry l = record {
  len : l.len ≡ length (flat_map spelled_entry (take l.entry-index l.entries));
  short : l.len ≤ 69747 * l.entry-index;
}
