use Rattle.std.proofs.Common.{length, drop}
use Rattle.kv_app.proofs.PieceRuns.{Leads, pieces_of}
use Rattle.kv_app.proofs.check.first_fault.Given as goal

-- what is left to read
abbrev pub invariant-loop-piece : goal.invariant-loop-piece
invariant-loop-piece l = Leads l.payload l.from (drop (length l.yielded) (pieces_of l.payload))
