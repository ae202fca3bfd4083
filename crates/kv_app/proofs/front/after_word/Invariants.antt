use Rattle.std.proofs.Common.{◌≡◌, ◌≤◌, length, take}
use Rattle.kv_app.proofs.front.after_word.Given as goal

abbrev pub invariant-loop-len : goal.invariant-loop-len
invariant-loop-len l = record {
  fits : l.len ≤ length l.text;
  same : take l.len l.text ≡ take l.len l.word;
}
