use Rattle.schedule_replay.proofs.DrillLemmas.{summed, still_shown}
use Rattle.schedule_replay.proofs.drilling.sum_up.Goals as goal

pub sessions-requires-clause-shown : goal.sessions-requires-clause-shown
sessions-requires-clause-shown g c =
    still_shown _ g.P.Play.shows c.args.number c.args.events c.drill_events.new.play c.committed.new.play c.in_ok-tally.tally _ c.in_ok-tally.ensures.drilled c.in_ok-committed.ensures.told

pub returns : goal.returns
returns g c =
    summed _ g.P.Play.shows c.args.number c.args.events c.drill_events.new.play c.committed.new.play c.in_ok-tally.tally c.in_ok-committed.committed c.in_ok-sessions.sessions
    c.in_ok-tally.ensures.drilled c.in_ok-committed.ensures.told c.in_ok-sessions.ensures
