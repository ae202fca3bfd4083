use Rattle.std.proofs.Common.{◌∙◌, rules, arith, refl, sym, ap, Bor, List, ℕ, map, ◌∷◌, [], length-append}
use Rattle.std.proofs.lemmas.Bool.Decides.{nat_tests}
use Rattle.std.proofs.lemmas.List.{take_all}
use Rattle.command_words.specs.Commands.{IsPort}
use Rattle.command_words.proofs.NumberWords.{no_port, again, one_more, all_more, different_more}
use Rattle.command_words.proofs.words.node_ports.Goals as goal

abbrev text : Bor (List ℕ) → List ℕ
text s = s.now

pub loop-at-init : goal.loop-at-init
loop-at-init c = record {
  texts = rw c.new-ports.ensures.items refl;
  count = rw c.new-ports.ensures.items refl;
  each = rw c.new-ports.ensures.items tt;
  different = rw c.new-ports.ensures.items (λ i below. absurd (omega (arith, below)));
}

pub returns-in_default : goal.returns-in_default
returns-in_default c = record {
  ports = no_port text c.args.words.now c.loop-at.at _ (grind (arith, nat_tests))
      c.in_default.ensures.none;
}

pub returns-then-contains : goal.returns-then-contains
returns-then-contains c = record {
  ports = again text c.args.words.now c.loop-at.at _ (grind (arith, nat_tests))
      c.in-Some.port c.loop-at.ports.items c.in-Some.ensures.some.0
      c.in-Some.ensures.some.1
      c.loop-at.invariant.each c.loop-at.invariant.texts (search rules);
}

pub loop-at-preserved : goal.loop-at-preserved
loop-at-preserved c = record {
  texts = rw c.in_ok-push.ensures.items (one_more text c.args.words.now c.loop-at.at _ (grind (arith, nat_tests))
      c.in-Some.port c.loop-at.ports.items
      c.in-Some.ensures.some.1
      c.loop-at.invariant.texts);
  count = rw c.in_ok-push.ensures.items (omega (arith, length-append c.loop-at.ports.items (c.in-Some.port ∷ []), c.loop-at.invariant.count));
  each = rw c.in_ok-push.ensures.items (all_more IsPort c.loop-at.ports.items c.in-Some.port c.loop-at.invariant.each c.in-Some.ensures.some.0);
  different = rw c.in_ok-push.ensures.items (different_more c.loop-at.ports.items c.in-Some.port c.loop-at.invariant.different (search rules));
}

pub returns : goal.returns
returns c = record {
  ports = (
    record {
      count = record { from = grind (arith, nat_tests, c.loop-at.invariant.count); to = grind (arith, nat_tests, c.loop-at.invariant.count) };
      each = c.loop-at.invariant.each;
      different = c.loop-at.invariant.different;
    },
    ap (map text) (sym (take_all c.loop-at.at c.args.words.now (grind (arith, nat_tests)))) ∙ c.loop-at.invariant.texts,
  );
}
