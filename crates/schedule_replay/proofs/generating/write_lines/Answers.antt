use Rattle.std.proofs.Common.{◌+◌, arith, rules, refl, ◌∙◌}
use Rattle.schedule_replay.specs.Drawing.{event_of}
use Rattle.schedule_replay.proofs.WritingLemmas.{writes_first, writes_moved, writes_part, writes_broken, writes_event, state_event, writes_err, unchanged}
use Rattle.schedule_replay.proofs.generating.write_lines.Goals as goal

pub loop-line-init : goal.loop-line-init
loop-line-init g c = record {
  writes = writes_first c.args.number (g.W.Sink.contents c.args.sink.now) c.add_cluster.new.self.waiting.items (search rules);
  state = search rules;
  faults = refl;
  wants = refl;
}

pub loop-line-preserved : goal.loop-line-preserved
loop-line-preserved g c = record {
  writes = writes_moved _ _ _ _ _ _
      (writes_event c.args.number c.loop-line.line _ _ c.loop-line.output.waiting.items c.add_event.new.self.waiting.items (event_of c.next-event.result) c.loop-line.draws.state
      c.loop-line.invariant.writes c.loop-line.invariant.state c.next-event.ensures.event (search rules)) c.in-Ok-write_much.ensures.written;
  state = state_event c.args.number c.loop-line.line c.loop-line.draws.state c.next-event.new.self.state c.loop-line.invariant.state c.next-event.ensures.state;
  faults = unchanged _ _ _ _ _ c.in-Ok-write_much.is c.write_much.ensures.faults ∙ c.loop-line.invariant.faults;
  wants = unchanged _ _ _ _ _ c.in-Ok-write_much.is c.write_much.ensures.wants ∙ c.loop-line.invariant.wants;
}

pub returns-in-Err-add_event-clause-broken : goal.returns-in-Err-add_event-clause-broken
returns-in-Err-add_event-clause-broken g c =
    writes_part c.args.number c.loop-line.line c.args.events (omega arith) _ _ _ c.loop-line.invariant.writes

pub returns-in-Err-write_much-clause-broken : goal.returns-in-Err-write_much-clause-broken
returns-in-Err-write_much-clause-broken g c =
    writes_broken c.args.number (c.loop-line.line + 1) c.args.events (omega arith) _ _ _ _ _
    (writes_event c.args.number c.loop-line.line _ _ c.loop-line.output.waiting.items c.add_event.new.self.waiting.items (event_of c.next-event.result) c.loop-line.draws.state
    c.loop-line.invariant.writes c.loop-line.invariant.state c.next-event.ensures.event (search rules))
    (writes_err _ _ _ _ c.in-Err-write_much.fault c.in-Err-write_much.ensures.written)
