use Rattle.std.proofs.Common.{◌≡◌, length}
use Rattle.wire_codec.specs.declared.reading.TheConstants.{MAX_FRAME}
use Rattle.server_loop.specs.Drives.{driving, work, AreRounds}
use Rattle.server_loop.specs.Failures.{HasCounted}
use Rattle.server_loop.proofs.driving.drive.Given as goal

abbrev pub invariant-rounds : goal.invariant-rounds
invariant-rounds g l = record {
  rounds : g.L.Link.tells → AreRounds (g.S.Driven.config l.fn.server) l.fn.ports
      (driving (g.S.Driven.state l.fn.server) l.fn.outs (g.L.Link.transcript l.fn.link))
      (driving (g.S.Driven.state l.server) l.outs (g.L.Link.transcript l.link));
  config : g.S.Driven.config l.server ≡ g.S.Driven.config l.fn.server;
  room : length l.room ≡ MAX_FRAME;
  counted : HasCounted (g.L.Link.faults l.fn.link) (g.L.Link.faults l.link) l.fn.outs l.outs;
}

abbrev pub decreases-rounds : goal.decreases-rounds
decreases-rounds g l = work l.outs (g.S.Driven.lack l.server)
