use Rattle.std.proofs.Common.{◌≡◌, ◌∙◌, ap, sym, Some, rules}
use Rattle.session_recovery.specs.declared.draft.Draft.TheVariants.{Message, Stage, Adopted}
use Rattle.session_recovery.specs.Drafts.{drafted}
use Rattle.partition_server.specs.Held.{Held, config_of, state_of}
use Rattle.partition_server.specs.Layout.{held_by}
use Rattle.partition_server.proofs.Helds.{draft_of, view_valid}
use Rattle.partition_server.proofs.Answering.{next_is, next_valid, some_valid}
use Rattle.partition_server.proofs.server.Server.next_for.Goals as goal

pub returns-in-None-clause-value : goal.returns-in-None-clause-value
returns-in-None-clause-value c =
    let x : Held = c.args.self.now in
    let all = draft_of (held_by c.self.inside) x c.len.result c.args.node c.next_for.result c.self.view_is c.len.ensures.value c.next_for.ensures.value in
    ap (drafted (config_of x) (state_of x) c.args.node) (sym c.in-None.is) ∙ all

pub returns-in-Some-Message-clause-value : goal.returns-in-Some-Message-clause-value
returns-in-Some-Message-clause-value c =
    let x : Held = c.args.self.now in
    let all = draft_of (held_by c.self.inside) x c.len.result c.args.node c.next_for.result c.self.view_is c.len.ensures.value c.next_for.ensures.value in
    let is : c.next_for.result ≡ Some (Message c.in-Some-Message.m) = search rules in
    ap (drafted (config_of x) (state_of x) c.args.node) (sym is) ∙ all

pub returns-in-Some-Message-clause-valid : goal.returns-in-Some-Message-clause-valid
returns-in-Some-Message-clause-valid c =
    let x : Held = c.args.self.now in
    let all = draft_of (held_by c.self.inside) x c.len.result c.args.node c.next_for.result c.self.view_is c.len.ensures.value c.next_for.ensures.value in
    let is : c.next_for.result ≡ Some (Message c.in-Some-Message.m) = search rules in
    some_valid (config_of x) (state_of x) c.args.node c.in-Some-Message.m (view_valid (held_by c.self.inside) x c.self.inside.locks c.self.view_is c.self.invariant)
    (ap (drafted (config_of x) (state_of x) c.args.node) (sym is) ∙ all)

pub returns-in_ok-m-in-Some-Stage-clause-value : goal.returns-in_ok-m-in-Some-Stage-clause-value
returns-in_ok-m-in-Some-Stage-clause-value c =
    let x : Held = c.args.self.now in
    let all = draft_of (held_by c.self.inside) x c.len.result c.args.node c.next_for.result c.self.view_is c.len.ensures.value c.next_for.ensures.value in
    let is : c.next_for.result ≡ Some (Stage c.in-Some-Stage.from c.in-Some-Stage.upto) = search rules in
    ap (λ m. Some m) c.in_ok-m-in-Some-Stage.ensures ∙ (ap (drafted (config_of x) (state_of x) c.args.node) (sym is) ∙ all)

pub returns-in_ok-m-in-Some-Stage-clause-valid : goal.returns-in_ok-m-in-Some-Stage-clause-valid
returns-in_ok-m-in-Some-Stage-clause-valid c =
    let x : Held = c.args.self.now in
    let all = draft_of (held_by c.self.inside) x c.len.result c.args.node c.next_for.result c.self.view_is c.len.ensures.value c.next_for.ensures.value in
    let is : c.next_for.result ≡ Some (Stage c.in-Some-Stage.from c.in-Some-Stage.upto) = search rules in
    some_valid (config_of x) (state_of x) c.args.node c.in_ok-m-in-Some-Stage.m (view_valid (held_by c.self.inside) x c.self.inside.locks c.self.view_is c.self.invariant)
    (ap (λ m. Some m) c.in_ok-m-in-Some-Stage.ensures ∙ (ap (drafted (config_of x) (state_of x) c.args.node) (sym is) ∙ all))

pub returns-in-Some-Adopted-clause-value : goal.returns-in-Some-Adopted-clause-value
returns-in-Some-Adopted-clause-value c =
    let x : Held = c.args.self.now in
    let all = draft_of (held_by c.self.inside) x c.len.result c.args.node c.next_for.result c.self.view_is c.len.ensures.value c.next_for.ensures.value in
    let is : c.next_for.result ≡ Some Adopted = search rules in
    next_is c.append_message.result (ap (drafted (config_of x) (state_of x) c.args.node) (sym is) ∙ all) c.append_message.ensures

pub returns-in-Some-Adopted-clause-valid : goal.returns-in-Some-Adopted-clause-valid
returns-in-Some-Adopted-clause-valid c =
    let x : Held = c.args.self.now in
    let all = draft_of (held_by c.self.inside) x c.len.result c.args.node c.next_for.result c.self.view_is c.len.ensures.value c.next_for.ensures.value in
    let is : c.next_for.result ≡ Some Adopted = search rules in
    next_valid (config_of x) (state_of x) c.args.node c.append_message.result (view_valid (held_by c.self.inside) x c.self.inside.locks c.self.view_is c.self.invariant)
    (next_is c.append_message.result (ap (drafted (config_of x) (state_of x) c.args.node) (sym is) ∙ all) c.append_message.ensures)
