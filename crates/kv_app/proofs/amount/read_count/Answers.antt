use Rattle.std.proofs.Common.{refl, arith}
use Rattle.std.proofs.lemmas.Bool.Decides.{nat_tests}
use Rattle.kv_app.proofs.AmountLemmas.{IsRead-start, IsRead-more, IsRead-most, IsRead-zero, IsRead-none, IsRead-whole, StopsAt-no_count}
use Rattle.kv_app.proofs.amount.read_count.Goals as goal

pub loop-len-init : goal.loop-len-init
loop-len-init c = IsRead-start c.args.least c.args.text.now

pub returns-then-value-eq0-clause-err : goal.returns-then-value-eq0-clause-err
returns-then-value-eq0-clause-err c =
    IsRead-zero c.args.least c.args.text.now c.loop-len.len c.loop-len.value c.requires c.loop-len-test.true c.loop-len.invariant c.if-len-gt0.true c.if-value-eq0.true

pub with_digit-requires : goal.with_digit-requires
with_digit-requires c = IsRead-most c.args.least c.args.text.now c.loop-len.len c.loop-len.value c.loop-len.invariant

pub returns-in-None-clause-err : goal.returns-in-None-clause-err
returns-in-None-clause-err c =
    IsRead-none c.args.least c.args.text.now c.loop-len.len c.loop-len.value c.requires c.loop-len-test.true c.loop-len.invariant (c.in-None.ensures.none refl)

pub loop-len-preserved : goal.loop-len-preserved
loop-len-preserved c =
    IsRead-more c.args.least c.args.text.now c.loop-len.len c.loop-len.value c.in-Some.next c.loop-len-test.true c.loop-len.invariant c.else-len-gt0.either c.in-Some.ensures.some

pub returns-then-is_empty-clause-err : goal.returns-then-is_empty-clause-err
returns-then-is_empty-clause-err c = StopsAt-no_count c.args.least c.args.text.now c.requires (grind (arith, nat_tests))

pub returns-clause-ok : goal.returns-clause-ok
returns-clause-ok c = IsRead-whole c.args.least c.args.text.now c.loop-len.len c.loop-len.value (omega arith) c.loop-len.invariant (grind (arith, nat_tests))
