use Rattle.std.proofs.Common.{◌∙◌, refl, inl, inr, arith, rules}
use Rattle.std.proofs.lemmas.Bool.Decides.{nat_tests}
use Rattle.server_loop.specs.Turns.{none, one_more}
use Rattle.server_loop.proofs.Causes.{unrisen}
use Rattle.server_loop.proofs.Growing.{stays, grows_both}
use Rattle.server_loop.proofs.turns.take_turns.Goals as goal

pub loop-count-init : goal.loop-count-init
loop-count-init g c = record { turns = λ t u. none; config = refl; room = c.requires.room; grows = λ t. stays _; same = refl }

pub loop-count-preserved : goal.loop-count-preserved
loop-count-preserved g c = record {
  turns = λ t u. one_more _ _ _ (c.loop-count.invariant.turns t u) (rw c.loop-count.invariant.config at (c.in_default.ensures.turn t u));
  config = c.turn.ensures.config ∙ c.loop-count.invariant.config;
  room = c.turn.ensures.room ∙ c.loop-count.invariant.room;
  grows = λ t. grows_both _ _ _ (c.loop-count.invariant.grows t) (c.in_default.ensures.grows t);
  same = unrisen _ _ c.turn.result c.turn.ensures.later c.turn.ensures.peer_told (search rules) ∙ c.loop-count.invariant.same;
}

pub returns-in-Some-clause-serves : goal.returns-in-Some-clause-serves
returns-in-Some-clause-serves g c t u = record {
  count = c.loop-count.count;
  before = _;
  turns = c.loop-count.invariant.turns t u;
  ends = inl (grind (arith, nat_tests), rw c.loop-count.invariant.config at (c.in-Some.ensures.turn t u));
}

pub returns-clause-serves : goal.returns-clause-serves
returns-clause-serves g c t u = record {
  count = c.loop-count.count;
  before = _;
  turns = c.loop-count.invariant.turns t u;
  ends = inr (refl, grind (arith, nat_tests), refl);
}

pub returns-in-Some-clause-grows : goal.returns-in-Some-clause-grows
returns-in-Some-clause-grows g c t = grows_both _ _ _ (c.loop-count.invariant.grows t) (c.in-Some.ensures.grows t)

pub returns-clause-grows : goal.returns-clause-grows
returns-clause-grows g c t = c.loop-count.invariant.grows t
