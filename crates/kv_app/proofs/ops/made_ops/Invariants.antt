use Rattle.std.proofs.Common.{length, drop}
use Rattle.kv_app.proofs.PieceRuns.{pieces_of}
use Rattle.kv_app.proofs.Makings.{Makes}
use Rattle.kv_app.proofs.ops.made_ops.Given as goal

-- what is made so far, and the pieces that are left
abbrev pub invariant-loop-text : goal.invariant-loop-text
invariant-loop-text l = Makes l.payload l.ops.items (drop (length l.yielded) (pieces_of l.payload))
