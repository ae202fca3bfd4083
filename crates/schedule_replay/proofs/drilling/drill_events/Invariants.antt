use Rattle.std.proofs.Common.{◌≡◌, ◌≤◌}
use Rattle.schedule_replay.specs.Numbered.{numbered_cluster, state_after}
use Rattle.schedule_replay.specs.Drilling.{Drilled}
use Rattle.schedule_replay.proofs.drilling.drill_events.Given as goal

abbrev pub invariant-loop-event : goal.invariant-loop-event
invariant-loop-event g l = record {
  drilled : Drilled g.P.Play.shows l.number l.event l.play l.tally;
  state : l.draws.state ≡ state_after l.number l.event;
  cluster : g.P.Play.cluster_of l.play ≡ numbered_cluster;
  steps : g.P.Play.steps l.play ≤ l.event;
}
