use Rattle.std.proofs.Common.{◌≡◌, length}
use Rattle.wire_codec.specs.declared.reading.TheConstants.{MAX_FRAME}
use Rattle.node_loops.specs.declared.end.End.{End}
use Rattle.node_loops.specs.Serving.{Desk, desk, InARow, GoesOn}
use Rattle.node_loops.proofs.turns.take_turns.Given as goal

abbrev pub invariant-loop-count : goal.invariant-loop-count
invariant-loop-count g l = record {
  turns : g.P.Port.tells → InARow (Desk g.row.S.Denot) (GoesOn g.row.S.Denot g.S.Serving.replies g.S.Serving.over)
      (desk (g.P.Port.coming l.fn.port) (g.P.Port.answers l.fn.port) l.fn.served) l.count
      (desk (g.P.Port.coming l.port) (g.P.Port.answers l.port) l.served);
  works : g.S.Serving.works l.served;
  room : length l.room ≡ MAX_FRAME;
  same : g.S.Serving.faults l.served ≡ g.S.Serving.faults l.fn.served;
  port_same : g.P.Port.faults l.port ≡ g.P.Port.faults l.fn.port;
  blind : (end : End) → g.S.Serving.blind l.served end → g.S.Serving.blind l.fn.served end;
}
