use Rattle.std.proofs.Common.{◌≡◌, ◌≤◌, take, true}
use Rattle.tx_model.specs.Applications.{are_key_bytes}
use Rattle.kv_app.proofs.key.key_len.Given as goal

abbrev pub invariant-loop-len : goal.invariant-loop-len
invariant-loop-len l = record {
  short : l.len ≤ 64;
  bytes : are_key_bytes (take l.len l.text) ≡ true;
}
