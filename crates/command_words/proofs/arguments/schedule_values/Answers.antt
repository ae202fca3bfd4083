use Rattle.std.proofs.Common.{rules, arith, codes, refl, subst, sym}
use Rattle.command_words.specs.Reading.{AreTaken, two_arguments}
use Rattle.command_words.proofs.PlainWords.{pair_good, pair_simple, plain_number}
use Rattle.command_words.proofs.Matches.{by_cases, schedule_given}
use Rattle.command_words.proofs.arguments.schedule_values.Goals as goal

pub returns : goal.returns
returns c = by_cases c.taken.result _ (two_arguments (codes "number") (codes "events")) _ _ _ (search rules) (pair_simple (codes "events"))
    (λ refused number events is e. refused (subst (AreTaken (two_arguments (codes "number") (codes "events"))) (sym e)
    (pair_good (codes "events") refl refl refl _ _ (plain_number number (omega (arith, is.0.to))) (plain_number events (omega (arith, is.1.to))))))
    (schedule_given _) c.taken.ensures
