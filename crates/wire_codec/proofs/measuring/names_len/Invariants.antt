use Rattle.std.proofs.Common.{◌≡◌, ◌≤◌, ◌*◌, take, length}
use Rattle.tx_model.specs.Spelling.{spelled_names}
use Rattle.wire_codec.proofs.measuring.names_len.Given as goal

abbrev pub invariant-loop-lock : goal.invariant-loop-lock
invariant-loop-lock l = record {
  len : l.len ≡ length (spelled_names (take l.lock-index l.locks));
  short : l.len ≤ 65 * l.lock-index;
}
