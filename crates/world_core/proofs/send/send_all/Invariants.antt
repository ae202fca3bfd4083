use Rattle.world_core.proofs.Sent.{SentSo}
use Rattle.world_core.proofs.send.send_all.Given as goal

abbrev pub invariant-loop-envelope : goal.invariant-loop-envelope
invariant-loop-envelope l = SentSo l.yielded l.fn.pool l.pool l.items.items
