use Rattle.std.proofs.Common.{length, subst}
use Rattle.tx_model.specs.Records.{RiseByOne}
use Rattle.partition_server.specs.Held.{Held, config_of, state_of}
use Rattle.partition_server.specs.Waits.{WaitUpTo}
use Rattle.partition_server.proofs.Answering.{heard_valid, result_valid}
use Rattle.partition_server.proofs.server.Server.receive.Goals as goal

pub returns-clause-valid : goal.returns-clause-valid
returns-clause-valid c =
    let s : Held = c.args.self.now in
    let rise : RiseByOne 1 s.log = subst (λ (h : Held). RiseByOne 1 h.log) c.self.view_is c.self.invariant.is.sound.rise in
    let wait : WaitUpTo (length s.log) s.waiting = subst (λ (h : Held). WaitUpTo (length h.log) h.waiting) c.self.view_is c.self.invariant.is.waiting in
    result_valid (λ v. v.items) c.take_reply.result _ c.take_reply.ensures.answers (heard_valid (config_of s) (state_of s) c.args.node c.args.m rise wait)
