use Rattle.std.proofs.Common.{rules, refl}
use Rattle.schedule_replay.proofs.Going.{going_first}
use Rattle.schedule_replay.proofs.Ending.{first_ends}
use Rattle.schedule_replay.proofs.events.reach.Goals as goal

pub returns-in-Ok-clause-reaches : goal.returns-in-Ok-clause-reaches
returns-in-Ok-clause-reaches g c =
    c.go_on.ensures.reaches _ _ (going_first _ g.P.Play.shows g.P.Play.cluster_of g.met.P.Play.standing _ _ _ _ _ _ _ _ c.new-input.ensures c.requires c.in-Ok.ensures.begins)

pub returns-clause-reaches : goal.returns-clause-reaches
returns-clause-reaches g c =
    first_ends _ g.P.Play.shows g.P.Play.cluster_of _ _ _ _ _ _ _ c.begin.new.input.pending _ _ c.new-input.ensures c.requires refl c.in-Err.ensures.begins (search rules)
