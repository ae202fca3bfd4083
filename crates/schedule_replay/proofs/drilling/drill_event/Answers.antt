use Rattle.std.proofs.Common.{◌∙◌}
use Rattle.schedule_replay.proofs.WritingLemmas.{state_event}
use Rattle.schedule_replay.proofs.DrillLemmas.{drilled_numbered, drilled_fits, drilled_more, event_in_range, event_is}
use Rattle.schedule_replay.proofs.drilling.drill_event.Goals as goal

pub step-requires-clause-in_range : goal.step-requires-clause-in_range
step-requires-clause-in_range g c =
    event_in_range (g.P.Play.cluster_of c.args.play.now) c.args.events c.args.draws.now.state c.in_ok-event.event c.requires.cluster c.requires.few (c.in_ok-event.ensures ∙ c.next.ensures.event)

pub note-requires-clause-numbered : goal.note-requires-clause-numbered
note-requires-clause-numbered g c =
    drilled_numbered _ g.P.Play.shows c.args.number c.args.events c.args.play.now c.step.new.self c.args.tally.now c.in_ok-event.event c.in_ok-outcome.outcome
    c.requires.drilled c.in_ok-outcome.ensures.leads

pub note-requires-clause-fits : goal.note-requires-clause-fits
note-requires-clause-fits g c = drilled_fits _ g.P.Play.shows c.args.number c.args.events c.args.play.now c.args.tally.now c.requires.drilled

pub returns-clause-state : goal.returns-clause-state
returns-clause-state g c = state_event c.args.number c.args.events c.args.draws.now.state c.next.new.self.state c.requires.state c.next.ensures.state

pub returns-clause-drilled : goal.returns-clause-drilled
returns-clause-drilled g c =
    drilled_more _ g.P.Play.shows c.args.number c.args.events c.args.play.now c.step.new.self c.args.tally.now c.note.new.self c.in_ok-event.event c.in_ok-outcome.outcome
    g.met.P.Play.standing c.requires.drilled
    (event_is c.args.number c.args.events c.args.draws.now.state c.in_ok-event.event c.requires.state (c.in_ok-event.ensures ∙ c.next.ensures.event))
    c.in_ok-outcome.ensures.leads c.note.ensures.envelopes c.note.ensures.refused
