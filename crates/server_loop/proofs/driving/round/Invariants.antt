use Rattle.std.proofs.Common.{◌≡◌, length}
use Rattle.wire_codec.specs.declared.reading.TheConstants.{MAX_FRAME}
use Rattle.server_loop.specs.Drives.{driving, work, IsInRound, IsLess}
use Rattle.server_loop.specs.Failures.{HasCounted}
use Rattle.server_loop.proofs.driving.round.Given as goal

abbrev pub invariant-loop-before : goal.invariant-loop-before
invariant-loop-before g l = record {
  round : g.L.Link.tells → IsInRound (g.S.Driven.config l.fn.server) l.fn.ports
      (driving (g.S.Driven.state l.fn.server) l.fn.outs (g.L.Link.transcript l.fn.link)) l.before l.sent
      (driving (g.S.Driven.state l.server) l.outs (g.L.Link.transcript l.link));
  config : g.S.Driven.config l.server ≡ g.S.Driven.config l.fn.server;
  room : length l.room ≡ MAX_FRAME;
  counted : HasCounted (g.L.Link.faults l.fn.link) (g.L.Link.faults l.link) l.fn.outs l.outs;
  less : IsLess l.sent (work l.fn.outs (g.S.Driven.lack l.fn.server)) (work l.outs (g.S.Driven.lack l.server));
}
