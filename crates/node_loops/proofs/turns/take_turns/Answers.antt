use Rattle.std.proofs.Common.{arith, rules, refl, inl, inr, ◌∙◌}
use Rattle.std.proofs.lemmas.Bool.Decides.{nat_tests}
use Rattle.node_loops.specs.Serving.{none, one_more}
use Rattle.node_loops.proofs.Counted.{cause_from, turns_cause}
use Rattle.node_loops.proofs.turns.take_turns.Goals as goal

pub loop-count-init : goal.loop-count-init
loop-count-init g c = record {
  turns = λ told. none;
  works = c.requires.works;
  room = c.requires.room;
  same = refl;
  port_same = refl;
  blind = λ end b. b;
}

pub loop-count-preserved : goal.loop-count-preserved
loop-count-preserved g c = record {
  turns = λ told. one_more _ _ _ (c.loop-count.invariant.turns told) (c.in_default.ensures.turn told);
  works = c.in_default.ensures.works (search rules);
  room = search rules;
  same = c.turn.ensures.same (search rules) ∙ c.loop-count.invariant.same;
  port_same = c.turn.ensures.port_same (search rules) ∙ c.loop-count.invariant.port_same;
  blind = λ end b. c.loop-count.invariant.blind end (c.turn.ensures.blind (search rules) end b);
}

pub returns-in-Some-clause-serves : goal.returns-in-Some-clause-serves
returns-in-Some-clause-serves g c t = record {
  count = c.loop-count.count;
  before = _;
  turns = c.loop-count.invariant.turns t;
  ends = inl (grind (arith, nat_tests), c.in-Some.ensures.turn t);
}

pub returns-clause-serves : goal.returns-clause-serves
returns-clause-serves g c t = record {
  count = c.loop-count.count;
  before = _;
  turns = c.loop-count.invariant.turns t;
  ends = inr (refl, grind (arith, nat_tests), refl);
}

pub returns-in-Some-clause-cause : goal.returns-in-Some-clause-cause
returns-in-Some-clause-cause g c =
    cause_from _ _ _ _ _ _ _ _ _ c.in-Some.end c.loop-count.invariant.port_same c.loop-count.invariant.same
    (c.loop-count.invariant.blind c.in-Some.end) c.in-Some.ensures.cause

pub returns-clause-cause : goal.returns-clause-cause
returns-clause-cause g c = turns_cause _ _ _ _ _ _ c.loop-count.invariant.port_same c.loop-count.invariant.same
