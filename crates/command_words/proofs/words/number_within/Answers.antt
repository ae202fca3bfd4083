use Rattle.std.proofs.Common.{rules, arith}
use Rattle.std.proofs.lemmas.Bool.Decides.{nat_tests}
use Rattle.command_words.proofs.NumberWords.{other_number}
use Rattle.command_words.proofs.words.number_within.Goals as goal

pub returns-then-number-least-clause-none : goal.returns-then-number-least-clause-none
returns-then-number-least-clause-none c =
    other_number _ c.in_ok-number.number _ _ (search rules) c.ranges.most.fits (search rules) (λ w. grind (arith, nat_tests, w.from))

pub returns-then-most-number-clause-none : goal.returns-then-most-number-clause-none
returns-then-most-number-clause-none c =
    other_number _ c.in_ok-number.number _ _ (search rules) c.ranges.most.fits (search rules) (λ w. grind (arith, nat_tests, w.to))
