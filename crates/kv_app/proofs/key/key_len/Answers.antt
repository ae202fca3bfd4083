use Rattle.std.proofs.Common.{sym, arith, take, get_or}
use Rattle.std.proofs.lemmas.List.{take_more}
use Rattle.kv_app.proofs.KeyLemmas.{more_key_bytes}
use Rattle.kv_app.proofs.key.key_len.Goals as goal

pub loop-len-preserved : goal.loop-len-preserved
loop-len-preserved c = record {
  short = omega arith;
  bytes = rw (take_more c.args.text.now c.loop-len.len 0 c.loop-len-test.true) (more_key_bytes (take c.loop-len.len c.args.text.now) (get_or c.args.text.now c.loop-len.len 0) c.loop-len.invariant.bytes (sym c.if-not-is_key_byte.ensures));
}
