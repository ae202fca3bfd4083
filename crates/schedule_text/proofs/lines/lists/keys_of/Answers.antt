use Rattle.std.proofs.Common.{◌≢◌, codes, rules, tests, sym, ◌∙◌, subst}
use Rattle.std.proofs.lemmas.Bool.{false≢true}
use Rattle.std.proofs.lemmas.Bool.Decides.{Decides-eqb}
use Rattle.std.proofs.lemmas.Slice.Eq.{slice_eq-Decides}
use Rattle.std.proofs.lemmas.Iterator.Consumers.{YieldsList-turn, YieldsList-end}
use Rattle.std.proofs.lemmas.Iterator.Splits.{YieldsList-from_slice_split}
use Rattle.schedule_text.specs.Lists.{SpellsKeys}
use Rattle.schedule_text.proofs.KeyLemmas.{is_comma, keys_are_parts, name_at}
use Rattle.schedule_text.proofs.lines.lists.keys_of.Goals as goal

pub of_name-requires : goal.of_name-requires
of_name-requires c =
    let word = c.args.word.now in
    let other : word ≢ codes "-" = λ same. false≢true (sym c.if-eq.false ∙ (slice_eq-Decides Decides-eqb word (codes "-") c.eq.result (search rules)).1 same) in
    let turn = YieldsList-turn (YieldsList-from_slice_split {s = c.into_iter-key-iterator.result} _ is_comma word (search rules) (search rules) (search rules) (λ x r q k. search (rules, tests))) c.loop-key.yielded _ c.loop-key.yielded_by _ c.next.new.self c.in-Some.key c.in-Some.is c.next.ensures.steps in
    name_at word _ c.in-Some.key.now other c.requires turn.0 turn.1

pub returns : goal.returns
returns c =
    let word = c.args.word.now in
    let other : word ≢ codes "-" = λ same. false≢true (sym c.if-eq.false ∙ (slice_eq-Decides Decides-eqb word (codes "-") c.eq.result (search rules)).1 same) in
    let all = YieldsList-end (YieldsList-from_slice_split {s = c.into_iter-key-iterator.result} _ is_comma word (search rules) (search rules) (search rules) (λ x r q k. search (rules, tests))) c.loop-key.yielded _ c.loop-key.yielded_by _ c.next.new.self c.in-None.is c.next.ensures.steps in
    subst (SpellsKeys word) (sym (c.new-2.ensures ∙ c.loop-key.invariant ∙ all.0)) (keys_are_parts word other c.requires)
