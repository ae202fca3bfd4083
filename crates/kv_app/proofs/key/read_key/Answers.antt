use Rattle.std.proofs.Common.{arith, inl, inr}
use Rattle.kv_app.proofs.KeyLemmas.{StopsAt-key, whole_key}
use Rattle.kv_app.proofs.key.read_key.Goals as goal

pub returns-then-len-eq0-clause-err : goal.returns-then-len-eq0-clause-err
returns-then-len-eq0-clause-err c =
    let told = c.key_len-len.ensures in
    StopsAt-key c.args.text.now c.key_len-len.result (record { within = told.within; short = told.short; bytes = told.bytes; ends = told.ends }) (inl (omega arith))

pub returns-then-len-text-clause-err : goal.returns-then-len-text-clause-err
returns-then-len-text-clause-err c =
    let told = c.key_len-len.ensures in
    StopsAt-key c.args.text.now c.key_len-len.result (record { within = told.within; short = told.short; bytes = told.bytes; ends = told.ends }) (inr c.if-len-text.true)

pub returns-clause-ok : goal.returns-clause-ok
returns-clause-ok c =
    let told = c.key_len-len.ensures in
    whole_key c.args.text.now c.key_len-len.result (record { within = told.within; short = told.short; bytes = told.bytes; ends = told.ends }) (omega arith) c.if-len-text.false
