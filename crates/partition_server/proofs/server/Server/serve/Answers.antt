use Rattle.std.proofs.Common.{subst, sym}
use Rattle.tx_model.specs.Records.{RiseByOne}
use Rattle.proto_model.specs.Validity.{IsValidToServer, IsValidFromServer}
use Rattle.partition_server.specs.Held.{Held, config_of, state_of}
use Rattle.partition_server.proofs.Answering.{feed_valid, get_valid, flush_valid}
use Rattle.partition_server.proofs.server.Server.serve.Goals as goal

pub returns-in_ok-answer_feed-in-Feed-clause-valid : goal.returns-in_ok-answer_feed-in-Feed-clause-valid
returns-in_ok-answer_feed-in-Feed-clause-valid c = λ valid.
    let s : Held = c.args.self.now in
    let rise : RiseByOne 1 s.log = subst (λ (h : Held). RiseByOne 1 h.log) c.self.view_is c.self.invariant.is.sound.rise in
    let asked = subst IsValidToServer c.in-Feed.is valid in
    subst IsValidFromServer (sym c.in_ok-answer_feed-in-Feed.ensures.answer) (feed_valid (config_of s) (state_of s) _ _ rise asked.0 asked.1)

pub returns-in_ok-answer_get-in-Get-clause-valid : goal.returns-in_ok-answer_get-in-Get-clause-valid
returns-in_ok-answer_get-in-Get-clause-valid c = λ valid.
    let s : Held = c.args.self.now in
    let rise : RiseByOne 1 s.log = subst (λ (h : Held). RiseByOne 1 h.log) c.self.view_is c.self.invariant.is.sound.rise in
    subst IsValidFromServer (sym c.in_ok-answer_get-in-Get.ensures.answer) (get_valid (config_of s) (state_of s) _ rise)

pub returns-in-Flush-clause-valid : goal.returns-in-Flush-clause-valid
returns-in-Flush-clause-valid c = λ valid.
    let s : Held = c.args.self.now in
    let rise : RiseByOne 1 s.log = subst (λ (h : Held). RiseByOne 1 h.log) c.self.view_is c.self.invariant.is.sound.rise in
    subst IsValidFromServer (sym c.answer_flush.ensures.answer) (flush_valid (config_of s) (state_of s) rise)
