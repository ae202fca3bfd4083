use Rattle.std.proofs.Common.{refl, sym, ◌∙◌}
use Rattle.server_loop.specs.Drives.{at_start, visited}
use Rattle.server_loop.proofs.Counting.{none_counted, counted_both}
use Rattle.server_loop.proofs.Moving.{less_both}
use Rattle.server_loop.proofs.driving.round.Goals as goal

pub loop-before-init : goal.loop-before-init
loop-before-init g c = record { round = λ told. at_start; config = refl; room = c.requires.room; counted = none_counted _ _; less = refl }

pub loop-before-preserved : goal.loop-before-preserved
loop-before-preserved g c = record {
  round = λ told. rw c.either-sent.ensures (visited _ _ _ _ _ (c.loop-before.invariant.round told) (sym c.is_closed.ensures ∙ c.if-is_closed.false) (rw c.loop-before.invariant.config at (c.in_ok-more.ensures.visit told)));
  config = c.visit.ensures.config ∙ c.loop-before.invariant.config;
  room = c.visit.ensures.room ∙ c.loop-before.invariant.room;
  counted = counted_both _ _ _ _ _ _ c.loop-before.invariant.counted c.in_ok-more.ensures.counted;
  less = rw c.either-sent.ensures (less_both _ _ _ _ _ c.loop-before.invariant.less c.in_ok-more.ensures.less);
}
