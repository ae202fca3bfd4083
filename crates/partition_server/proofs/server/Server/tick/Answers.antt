use Rattle.std.proofs.Common.{◌∙◌, ◌++◌, ap, append-nil, sym, subst, ◌-◌, arith}
use Rattle.std.specs.List.{AllByRecursion}
use Rattle.proto_model.specs.Validity.{IsValidToNode}
use Rattle.partition_server.proofs.Helds.{view_valid}
use Rattle.partition_server.proofs.Answering.{all_next_valid}
use Rattle.proto_model.specs.Sending.{one_message}
use Rattle.partition_server.specs.Held.{config_of, state_of}
use Rattle.partition_server.proofs.Messages.{messages_with}
use Rattle.partition_server.proofs.server.Server.tick.Goals as goal
use Rattle.partition_server.proofs.server.Server.tick.Goals.{in-Some+in_ok-push, in_default}

pub loop-node-preserved : goal.loop-node-preserved
loop-node-preserved c =
    let s = c.args.self.now in
    let i = c.loop-node.node in
    let all = messages_with (config_of s) (state_of s) i c.in_ok-m.field-0 c.loop-node.sent.items (omega arith) c.in_ok-m.ensures.value c.loop-node.invariant in
    elim c.match-branch-2.branch [
      | in-Some+in_ok-push w ↦ ap (λ v. v.items) w.sent-is ∙ (w.in_ok-push.ensures.items ∙ (ap (λ o. c.loop-node.sent.items ++ one_message i o) (sym w.in-Some.is) ∙ all))
      | in_default w ↦ ap (λ v. v.items) w.sent-is ∙ (sym (append-nil c.loop-node.sent.items) ∙ (ap (λ o. c.loop-node.sent.items ++ one_message i o) (sym w.in_default.is) ∙ all))
    ]

pub returns-clause-valid : goal.returns-clause-valid
returns-clause-valid c =
    let s = c.args.self.now in
    subst (λ l. AllByRecursion (λ a. IsValidToNode a.1) l) (sym c.loop-node.invariant)
    (all_next_valid (config_of s) (state_of s) (c.loop-node.node - 1) (view_valid _ s _ c.self.view_is c.self.invariant))
