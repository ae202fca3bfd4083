use Rattle.std.proofs.Common.{◌≡◌, ◌∙◌, ap, sym, length, Some, rules}
use Rattle.session_recovery.specs.declared.draft.Draft.TheVariants.{Message, Stage}
use Rattle.session_recovery.specs.Drafts.{drafted}
use Rattle.session_recovery.specs.Recovering.{Recovering, config_of, state_of}
use Rattle.session_recovery.specs.contracts.recovery.Recovery.{the_view}
use Rattle.session_recovery.proofs.Recoveries.{message_valid, draft_of}
use Rattle.session_recovery.proofs.recovery.Recovery.next_for.Goals as goal

pub returns-in-None-clause-value : goal.returns-in-None-clause-value
returns-in-None-clause-value c =
    let h : Recovering = the_view c.self.inside in
    let x : Recovering = c.args.self.now in
    let last : c.len.result ≡ length h.log = search rules in
    let all = draft_of h x c.len.result c.args.node c.next_for.result c.self.view_is last c.next_for.ensures.value in
    ap (drafted (config_of x) (state_of x) c.args.node) (sym c.in-None.is) ∙ all

pub returns-in-Some-Message-clause-value : goal.returns-in-Some-Message-clause-value
returns-in-Some-Message-clause-value c =
    let h : Recovering = the_view c.self.inside in
    let x : Recovering = c.args.self.now in
    let last : c.len.result ≡ length h.log = search rules in
    let all = draft_of h x c.len.result c.args.node c.next_for.result c.self.view_is last c.next_for.ensures.value in
    let is : c.next_for.result ≡ Some (Message c.in-Some-Message.m) = search rules in
    ap (drafted (config_of x) (state_of x) c.args.node) (sym is) ∙ all

pub returns-in-Some-Message-clause-valid : goal.returns-in-Some-Message-clause-valid
returns-in-Some-Message-clause-valid c =
    let h : Recovering = the_view c.self.inside in
    let x : Recovering = c.args.self.now in
    let last : c.len.result ≡ length h.log = search rules in
    let all = draft_of h x c.len.result c.args.node c.next_for.result c.self.view_is last c.next_for.ensures.value in
    let is : c.next_for.result ≡ Some (Message c.in-Some-Message.m) = search rules in
    message_valid h x c.args.node (Some c.in-Some-Message.m) c.self.view_is c.self.invariant.is (ap (drafted (config_of x) (state_of x) c.args.node) (sym is) ∙ all)

pub returns-in_ok-m-in-Some-Stage-clause-value : goal.returns-in_ok-m-in-Some-Stage-clause-value
returns-in_ok-m-in-Some-Stage-clause-value c =
    let h : Recovering = the_view c.self.inside in
    let x : Recovering = c.args.self.now in
    let last : c.len.result ≡ length h.log = search rules in
    let all = draft_of h x c.len.result c.args.node c.next_for.result c.self.view_is last c.next_for.ensures.value in
    let is : c.next_for.result ≡ Some (Stage c.in-Some-Stage.from c.in-Some-Stage.upto) = search rules in
    ap (λ m. Some m) c.in_ok-m-in-Some-Stage.ensures ∙ (ap (drafted (config_of x) (state_of x) c.args.node) (sym is) ∙ all)

pub returns-in_ok-m-in-Some-Stage-clause-valid : goal.returns-in_ok-m-in-Some-Stage-clause-valid
returns-in_ok-m-in-Some-Stage-clause-valid c =
    let h : Recovering = the_view c.self.inside in
    let x : Recovering = c.args.self.now in
    let last : c.len.result ≡ length h.log = search rules in
    let all = draft_of h x c.len.result c.args.node c.next_for.result c.self.view_is last c.next_for.ensures.value in
    let is : c.next_for.result ≡ Some (Stage c.in-Some-Stage.from c.in-Some-Stage.upto) = search rules in
    message_valid h x c.args.node (Some c.in_ok-m-in-Some-Stage.m) c.self.view_is c.self.invariant.is
    (ap (λ m. Some m) c.in_ok-m-in-Some-Stage.ensures ∙ (ap (drafted (config_of x) (state_of x) c.args.node) (sym is) ∙ all))

pub returns-in-Some-Adopted-clause-valid : goal.returns-in-Some-Adopted-clause-valid
returns-in-Some-Adopted-clause-valid c =
    message_valid (the_view c.self.inside) c.args.self.now c.args.node c.low_message.result c.self.view_is c.self.invariant.is c.low_message.ensures
