use Rattle.std.proofs.Common.{◌≡◌, ℕ, List, Option}
use Rattle.std.specs.Io.KnownBytes.{prepend_known}
use Rattle.io_core.specs.Links.{Exchange}
use Rattle.client_core.specs.States.{client_state}
use Rattle.client_loop.specs.Scripts.{seat}
use Rattle.client_loop.specs.Runs.{Going}
use Rattle.client_loop.proofs.script.go_on.Given as goal

abbrev pub invariant-loop-line : goal.invariant-loop-line
invariant-loop-line g l = record {
  going : (past : List Exchange) (left held : Option (List ℕ)) → Going g.L.Link.tells l.id l.port past left (prepend_known l.fn.worker.input.pending (g.S.Source.left l.fn.source)) (g.S.Source.before l.fn.source) (g.S.Source.left l.fn.source) held (g.W.Sink.contents l.fn.sink) (seat (client_state l.fn.worker.client) (g.L.Link.transcript l.fn.link)) 0 → Going g.L.Link.tells l.id l.port past left (prepend_known l.worker.input.pending (g.S.Source.left l.source)) (g.S.Source.before l.source) (g.S.Source.left l.source) held (g.W.Sink.contents l.sink) (seat (client_state l.worker.client) (g.L.Link.transcript l.link)) l.line;
  same : l.worker.client.client ≡ l.id;
  read : g.S.Source.faults l.source ≡ g.S.Source.faults l.fn.source;
  write : g.W.Sink.faults l.sink ≡ g.W.Sink.faults l.fn.sink;
  peer : g.L.Link.faults l.link ≡ g.L.Link.faults l.fn.link;
  wants : g.W.Sink.wants l.sink ≡ g.W.Sink.wants l.fn.sink;
}
