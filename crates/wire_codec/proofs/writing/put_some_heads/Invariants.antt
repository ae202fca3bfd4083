use Rattle.std.proofs.Common.{◌≡◌, ◌++◌, take}
use Rattle.std.specs.List.{flat_map}
use Rattle.wire_codec.specs.Spelling.{spelled_head}
use Rattle.wire_codec.proofs.writing.put_some_heads.Given as goal

abbrev pub invariant-loop-head : goal.invariant-loop-head
invariant-loop-head l = l.into.items ≡ l.fn.into.items ++ flat_map spelled_head (take l.head-index l.heads)
