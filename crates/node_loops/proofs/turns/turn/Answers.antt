use Rattle.node_loops.specs.Serving.{failed, unsent}
use Rattle.node_loops.proofs.Turning.{made_turn, ended_turn, untaken_turn, failed_turn, unsent_turn}
use Rattle.node_loops.proofs.Counted.{ok_counts_none, request_cause, ended_cause, memory_cause, failing_cause}
use Rattle.std.proofs.Common.{refl, ◌∙◌}
use Rattle.node_loops.proofs.turns.turn.Goals as goal

pub returns-in-Err-clause-turn : goal.returns-in-Err-clause-turn
returns-in-Err-clause-turn g c t = untaken_turn _ _ _ _ _ _ _ _ c.in-Err.end (c.in-Err.ensures.untaken t) (c.next_request.ensures.answers t)

pub returns-in-Ok-send-clause-turn : goal.returns-in-Ok-send-clause-turn
returns-in-Ok-send-clause-turn g c t =
    ended_turn _ _ _ _ _ c.is_bye-bye.result c.end.result c.end_after.result c.end_after.ensures c.end.ensures.value
    (made_turn _ c.in-Ok.asked _ _ _ _ _ _ _ _ _ _ (c.in-Ok.ensures.taken t) (c.next_request.ensures.answers t) (c.send.ensures.coming t) (c.in-Ok-send.ensures.answers t) c.is_bye-bye.ensures c.in-Ok-reply_to.ensures.replied)

pub returns-in-Ok-reply_to-clause-turn : goal.returns-in-Ok-reply_to-clause-turn
returns-in-Ok-reply_to-clause-turn g c t =
    unsent (unsent_turn _ c.in-Ok.asked _ _ _ _ _ _ _ _ _ (c.in-Ok.ensures.taken t) (c.next_request.ensures.answers t) (c.send.ensures.coming t) (c.in-Err-send.ensures.none t) c.in-Ok-reply_to.ensures.replied)

pub returns-clause-turn : goal.returns-clause-turn
returns-clause-turn g c t =
    failed c.in-Err-reply_to.end (failed_turn _ c.in-Ok.asked _ _ _ _ _ _ _ (c.in-Ok.ensures.taken t) (c.next_request.ensures.answers t) c.in-Err-reply_to.ensures.failed)

pub returns-in-Err-clause-cause : goal.returns-in-Err-clause-cause
returns-in-Err-clause-cause g c =
    request_cause _ _ _ _ _ _ _ c.in-Err.end c.in-Err.is c.in-Err.ensures.ends c.next_request.ensures.peer refl

pub returns-in-Ok-send-clause-cause : goal.returns-in-Ok-send-clause-cause
returns-in-Ok-send-clause-cause g c =
    ended_cause _ _ _ _ _ _ c.is_bye-bye.result c.end.result c.end_after.result c.end_after.ensures c.end.ensures.ends c.end.ensures.own
    (c.send.ensures.faults ∙ ok_counts_none _ _ _ _ _ c.in-Ok.is c.next_request.ensures.peer)
    (ok_counts_none _ _ _ _ _ c.in-Ok-reply_to.is c.reply_to.ensures.disk)

pub returns-in-Ok-reply_to-clause-cause : goal.returns-in-Ok-reply_to-clause-cause
returns-in-Ok-reply_to-clause-cause g c =
    memory_cause _ _ _ _ _ _
    (c.send.ensures.faults ∙ ok_counts_none _ _ _ _ _ c.in-Ok.is c.next_request.ensures.peer)
    (ok_counts_none _ _ _ _ _ c.in-Ok-reply_to.is c.reply_to.ensures.disk)

pub returns-clause-cause : goal.returns-clause-cause
returns-clause-cause g c =
    failing_cause _ _ _ _ _ _ _ c.in-Err-reply_to.end c.in-Err-reply_to.is c.in-Err-reply_to.ensures.ends c.reply_to.ensures.disk
    c.in-Err-reply_to.ensures.own c.in-Err-reply_to.ensures.is_blind
    (ok_counts_none _ _ _ _ _ c.in-Ok.is c.next_request.ensures.peer)
