use Rattle.std.proofs.Common.{ap, ◌∙◌}
use Rattle.std.specs.Ordering.{is_lt}
use Rattle.tx_model.proofs.Names.{RiseFrom-more, RiseFrom-none, get_or-next}
use Rattle.tx_model.proofs.tx.are_locks.Goals as goal

pub loop-lock-preserved : goal.loop-lock-preserved
loop-lock-preserved c =
    let same = c.bytes-name.ensures.value in
    record {
      last = same ∙ get_or-next _ c.lock-item.result c.args.locks.now c.loop-lock.lock-index c.loop-lock-test.true c.lock-item.is;
      rise = λ rest. c.loop-lock.invariant.rise (RiseFrom-more _ c.lock-item.result c.args.locks.now c.loop-lock.lock-index c.loop-lock-test.true c.lock-item.is c.bytes-name.ensures.name (cc (ap is_lt c.cmp.ensures)) (rw same at rest));
    }

pub returns-clause-rise : goal.returns-clause-rise
returns-clause-rise c = c.loop-lock.invariant.rise (RiseFrom-none _ _ c.loop-lock.lock-index c.loop-lock-test.false)
