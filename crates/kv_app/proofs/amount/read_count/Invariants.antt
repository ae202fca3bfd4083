use Rattle.kv_app.proofs.AmountLemmas.{IsRead}
use Rattle.kv_app.proofs.amount.read_count.Given as goal

-- the value of the digits so far
abbrev pub invariant-loop-len : goal.invariant-loop-len
invariant-loop-len l = IsRead l.least l.text l.len l.value
