use Rattle.std.proofs.Common.{refl, ◌∙◌}
use Rattle.server_loop.specs.Drives.{none, round}
use Rattle.server_loop.proofs.Counting.{none_counted, counted_both}
use Rattle.server_loop.proofs.driving.drive.Goals as goal

pub rounds-init : goal.rounds-init
rounds-init g c = record { rounds = λ told. none; config = refl; room = c.requires.room; counted = none_counted _ _ }

pub rounds-preserved : goal.rounds-preserved
rounds-preserved g c = record {
  rounds = λ told. round _ _ (c.rounds.invariant.rounds told) (rw (c.if-branch.true, c.rounds.invariant.config) at (c.in_ok-round.ensures.round told));
  config = c.round.ensures.config ∙ c.rounds.invariant.config;
  room = c.round.ensures.room ∙ c.rounds.invariant.room;
  counted = counted_both _ _ _ _ _ _ c.rounds.invariant.counted c.in_ok-round.ensures.counted;
}
