use Rattle.std.proofs.Common.{◌≡◌}
use Rattle.schedule_replay.specs.Numbered.{numbered_text, state_after}
use Rattle.schedule_replay.specs.Writing.{Writes}
use Rattle.schedule_replay.proofs.generating.write_lines.Given as goal

abbrev pub invariant-loop-line : goal.invariant-loop-line
invariant-loop-line g l = record {
  writes : Writes (g.W.Sink.contents l.fn.sink) (g.W.Sink.contents l.sink) l.output.waiting.items (numbered_text l.number l.line);
  state : l.draws.state ≡ state_after l.number l.line;
  faults : g.W.Sink.faults l.sink ≡ g.W.Sink.faults l.fn.sink;
  wants : g.W.Sink.wants l.sink ≡ g.W.Sink.wants l.fn.sink;
}
