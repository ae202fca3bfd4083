use Rattle.std.proofs.Common.{◌∙◌, ap, arith, string_bytes, subst, sym}
use Rattle.std.proofs.lemmas.Bool.Decides.{nat_tests}
use Rattle.command_words.specs.Reading.{IsPlain}
use Rattle.command_words.proofs.PlainWords.{plain_at, plain_next}
use Rattle.command_words.proofs.arguments.are_plain.Goals as goal

pub returns-then-not-is_plain-clause-no : goal.returns-then-not-is_plain-clause-no
returns-then-not-is_plain-clause-no c all =
    c.if-not-is_plain.ensures.no (subst IsPlain (sym (c.as_str.ensures.value ∙ ap string_bytes c.index-words-at.is))
    (plain_at string_bytes c.args.words.now c.loop-at.at c.index-words-at.result (grind (arith, nat_tests)) all))

pub loop-at-preserved : goal.loop-at-preserved
loop-at-preserved c = record {
  plain = plain_next string_bytes c.args.words.now c.loop-at.at c.index-words-at.result (grind (arith, nat_tests)) c.loop-at.invariant.plain
      (subst IsPlain (c.as_str.ensures.value ∙ ap string_bytes c.index-words-at.is) c.if-not-is_plain.ensures.yes);
}
