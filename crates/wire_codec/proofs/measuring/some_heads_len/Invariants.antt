use Rattle.std.proofs.Common.{◌≡◌, ◌≤◌, ◌*◌, take, length}
use Rattle.std.specs.List.{flat_map}
use Rattle.wire_codec.specs.Spelling.{spelled_head}
use Rattle.wire_codec.proofs.measuring.some_heads_len.Given as goal

abbrev pub invariant-loop-head : goal.invariant-loop-head
invariant-loop-head l = record {
  len : l.len ≡ length (flat_map spelled_head (take l.head-index l.heads));
  short : l.len ≤ 4186 * l.head-index;
}
