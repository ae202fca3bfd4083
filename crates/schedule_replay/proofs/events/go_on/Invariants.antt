use Rattle.std.proofs.Common.{◌≡◌, ◌<◌, ◌≤◌, ◌+◌, ℕ, List, Option, length}
use Rattle.std.specs.Io.KnownBytes.{prepend_known}
use Rattle.schedule_replay.specs.Steps.{Going}
use Rattle.schedule_replay.proofs.events.go_on.Given as goal

abbrev pub invariant-loop-event : goal.invariant-loop-event
invariant-loop-event g l = record {
  going : (left held : Option (List ℕ)) → Going g.P.Play.shows g.P.Play.cluster_of left (prepend_known l.fn.input.pending (g.S.Source.left l.fn.source)) (g.S.Source.before l.fn.source) (g.S.Source.left l.fn.source) held (g.W.Sink.contents l.fn.sink) l.fn.output.waiting.items l.fn.play 1 → Going g.P.Play.shows g.P.Play.cluster_of left (prepend_known l.input.pending (g.S.Source.left l.source)) (g.S.Source.before l.source) (g.S.Source.left l.source) held (g.W.Sink.contents l.sink) l.output.waiting.items l.play (l.event + 1);
  steps : g.P.Play.steps l.play ≤ l.event;
  few : length l.output.waiting.items < 65536;
  read : g.S.Source.faults l.source ≡ g.S.Source.faults l.fn.source;
  write : g.W.Sink.faults l.sink ≡ g.W.Sink.faults l.fn.sink;
  wants : g.W.Sink.wants l.sink ≡ g.W.Sink.wants l.fn.sink;
}
