use Rattle.std.proofs.Common.{◌+◌, arith, rules, ap, Err}
use Rattle.std.specs.Io.KnownBytes.{prepend_known}
use Rattle.schedule_replay.proofs.Going.{going_written, going_more, turn_more, turn_over}
use Rattle.schedule_replay.proofs.Ending.{going_write_ends, going_turn_ends, going_over, going_last}
use Rattle.schedule_replay.proofs.events.go_on.Goals as goal

pub loop-event-preserved : goal.loop-event-preserved
loop-event-preserved g c = record {
  going = λ left held start.
      let before_turn = going_written _ g.P.Play.shows g.P.Play.cluster_of _ _ _ _ _ _ _ _ _ _ _ (c.loop-event.invariant.going left held start) c.in-Ok.ensures.written in
      let more = turn_more _ g.P.Play.shows g.P.Play.cluster_of (prepend_known c.loop-event.input.pending (g.S.Source.left c.loop-event.source)) (prepend_known c.turn.new.input.pending (g.S.Source.left c.turn.new.source)) c.loop-event.play c.turn.new.play c.write_before_reading.new.output.waiting.items c.turn.new.output.waiting.items (c.loop-event.event + 2) c.in-Ok-More.field-0 c.in-Ok-More.field-0-is c.in-Ok-More.ensures.turn in
      let after_turn = going_more _ g.P.Play.shows g.P.Play.cluster_of g.met.P.Play.standing g.S.Source.left g.S.Source.before _ _ _ _ _ _ _ _ _ _ _ _ (omega arith) (omega arith) before_turn more c.turn.ensures.reads in
      going_written _ g.P.Play.shows g.P.Play.cluster_of _ _ _ _ _ _ _ _ _ _ _ after_turn c.in-Ok-write_much.ensures.written;
  steps = let count = c.in-Ok-More.ensures.count in let before = c.loop-event.invariant.steps in omega (arith, count, before);
  few = c.write_much.ensures.few;
  read = search rules;
  write = search rules;
  wants = search rules;
}

pub returns-in-Err-clause-reaches : goal.returns-in-Err-clause-reaches
returns-in-Err-clause-reaches g c left held start =
    going_write_ends _ g.P.Play.shows g.P.Play.cluster_of _ _ _ _ _ _ _ _ _ _ _ _ _ (omega arith) (c.loop-event.invariant.going left held start) c.in-Err.ensures.written (search rules)

pub returns-in-Ok-Over-clause-reaches : goal.returns-in-Ok-Over-clause-reaches
returns-in-Ok-Over-clause-reaches g c left held start =
    let before_turn = going_written _ g.P.Play.shows g.P.Play.cluster_of _ _ _ _ _ _ _ _ _ _ _ (c.loop-event.invariant.going left held start) c.in-Ok.ensures.written in
    let over = turn_over _ g.P.Play.shows g.P.Play.cluster_of (prepend_known c.loop-event.input.pending (g.S.Source.left c.loop-event.source)) (prepend_known c.turn.new.input.pending (g.S.Source.left c.turn.new.source)) c.loop-event.play c.turn.new.play c.write_before_reading.new.output.waiting.items c.turn.new.output.waiting.items (c.loop-event.event + 2) c.in-Ok-Over.field-0 c.in-Ok-Over.field-0-is c.in-Ok-Over.ensures.turn in
    going_over _ g.P.Play.shows g.P.Play.cluster_of g.S.Source.left g.S.Source.before _ _ _ _ _ _ _ c.turn.new.input.pending _ _ c.loop-event.play _ (omega arith) (omega arith) before_turn over.0 over.1

pub returns-in-Err-turn-clause-reaches : goal.returns-in-Err-turn-clause-reaches
returns-in-Err-turn-clause-reaches g c left held start =
    let before_turn = going_written _ g.P.Play.shows g.P.Play.cluster_of _ _ _ _ _ _ _ _ _ _ _ (c.loop-event.invariant.going left held start) c.in-Ok.ensures.written in
    going_turn_ends _ g.P.Play.shows g.P.Play.cluster_of g.S.Source.left g.S.Source.before _ _ _ _ _ _ _ c.turn.new.input.pending _ _ c.loop-event.play c.turn.new.play _ _ _ (omega arith) (omega arith) (omega arith) before_turn c.in-Err-turn.ensures.turn (λ e. c.in-Err-turn.ensures.empty (ap Err e)) c.turn.ensures.reads

pub returns-in-Err-write_much-clause-reaches : goal.returns-in-Err-write_much-clause-reaches
returns-in-Err-write_much-clause-reaches g c left held start =
    let before_turn = going_written _ g.P.Play.shows g.P.Play.cluster_of _ _ _ _ _ _ _ _ _ _ _ (c.loop-event.invariant.going left held start) c.in-Ok.ensures.written in
    let more = turn_more _ g.P.Play.shows g.P.Play.cluster_of (prepend_known c.loop-event.input.pending (g.S.Source.left c.loop-event.source)) (prepend_known c.turn.new.input.pending (g.S.Source.left c.turn.new.source)) c.loop-event.play c.turn.new.play c.write_before_reading.new.output.waiting.items c.turn.new.output.waiting.items (c.loop-event.event + 2) c.in-Ok-More.field-0 c.in-Ok-More.field-0-is c.in-Ok-More.ensures.turn in
    let after_turn = going_more _ g.P.Play.shows g.P.Play.cluster_of g.met.P.Play.standing g.S.Source.left g.S.Source.before _ _ _ _ _ _ _ _ _ _ _ _ (omega arith) (omega arith) before_turn more c.turn.ensures.reads in
    going_write_ends _ g.P.Play.shows g.P.Play.cluster_of _ _ _ _ _ _ _ _ _ _ _ _ _ (omega arith) after_turn c.in-Err-write_much.ensures.written (search rules)

pub returns-clause-reaches : goal.returns-clause-reaches
returns-clause-reaches g c left held start =
    going_last _ g.P.Play.shows g.P.Play.cluster_of g.S.Source.left g.S.Source.before _ _ _ _ _ _ _ _ c.end_after_all.new.input.pending _ _ _ _ _ (omega arith) (c.loop-event.invariant.going left held start) c.end_after_all.ensures.ends (search rules) c.end_after_all.ensures.reads c.end_after_all.ensures.alone (search rules)
