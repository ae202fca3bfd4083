use Rattle.std.proofs.Common.{◌≡◌, length}
use Rattle.wire_codec.specs.declared.reading.TheConstants.{MAX_FRAME}
use Rattle.server_loop.specs.Exchanges.{Grows}
use Rattle.server_loop.specs.Turns.{Desk, desk, InARow}
use Rattle.server_loop.specs.Serving.{Standing, standing, GoesOn}
use Rattle.server_loop.proofs.turns.take_turns.Given as goal

abbrev pub invariant-loop-count : goal.invariant-loop-count
invariant-loop-count g l = record {
  turns : g.L.Link.tells → g.P.Port.tells → InARow (Desk Standing) (GoesOn (g.H.Driven.config l.fn.host) l.fn.ports)
      (desk (g.P.Port.coming l.fn.port) (g.P.Port.answers l.fn.port) (standing (g.H.Driven.state l.fn.host) (g.L.Link.transcript l.fn.link))) l.count
      (desk (g.P.Port.coming l.port) (g.P.Port.answers l.port) (standing (g.H.Driven.state l.host) (g.L.Link.transcript l.link)));
  config : g.H.Driven.config l.host ≡ g.H.Driven.config l.fn.host;
  room : length l.room ≡ MAX_FRAME;
  grows : g.L.Link.tells → Grows (g.L.Link.transcript l.fn.link) (g.L.Link.transcript l.link);
  same : g.P.Port.faults l.port ≡ g.P.Port.faults l.fn.port;
}
