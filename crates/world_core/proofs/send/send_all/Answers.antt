use Rattle.std.proofs.Common.{ap, ◌∙◌, ◌++◌, ◌∷◌, []}
use Rattle.world_core.proofs.Sent.{SentSo-more}
use Rattle.world_core.proofs.send.send_all.Goals as goal

pub loop-envelope-preserved : goal.loop-envelope-preserved
loop-envelope-preserved c =
    SentSo-more _ _ _ _ _ _ _ c.loop-envelope.invariant c.in_ok-item.ensures.pool
    (c.in_ok-push.ensures.items ∙ ap (λ i. c.loop-envelope.items.items ++ i ∷ []) c.in_ok-item.ensures.item)
