use Rattle.std.proofs.Common.{arith, rules}
use Rattle.schedule_replay.proofs.DrillLemmas.{drilled_first}
use Rattle.schedule_replay.proofs.drilling.drill_events.Goals as goal

pub loop-event-init : goal.loop-event-init
loop-event-init g c = record {
  drilled = drilled_first _ g.P.Play.shows c.args.number c.args.play.now _ g.met.P.Play.standing c.requires.shown (search rules) (search rules);
  state = search rules;
  cluster = c.requires.cluster;
  steps = let fresh = c.requires.fresh in omega (arith, fresh);
}
