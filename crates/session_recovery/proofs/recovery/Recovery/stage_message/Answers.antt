use Rattle.std.proofs.Common.{List, take, sym, subst}
use Rattle.tx_model.specs.declared.record.Record.{Record}
use Rattle.tx_model.specs.Records.{RiseByOne}
use Rattle.tx_model.proofs.Batches.{RiseByOne-take}
use Rattle.session_recovery.proofs.recovery.Recovery.stage_message.Goals as goal

pub after-requires-clause-rise : goal.after-requires-clause-rise
after-requires-clause-rise c =
    subst (λ (log : List Record). RiseByOne 1 (take c.args.upto log)) (sym c.deref.ensures.value)
    (RiseByOne-take 1 c.self.inside.log.items c.args.upto c.self.invariant.is.sound.rise)
