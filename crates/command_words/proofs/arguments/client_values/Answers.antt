use Rattle.std.proofs.Common.{rules, arith, codes, refl, subst, sym}
use Rattle.command_words.specs.Reading.{AreTaken, two_arguments}
use Rattle.command_words.proofs.PlainWords.{pair_good, pair_simple, plain_number}
use Rattle.command_words.proofs.Matches.{by_cases, client_given}
use Rattle.command_words.proofs.arguments.client_values.Goals as goal

pub returns : goal.returns
returns c = by_cases c.taken.result _ (two_arguments (codes "number") (codes "server")) _ _ _ (search rules) (pair_simple (codes "server"))
    (λ refused id server first second e. refused (subst (AreTaken (two_arguments (codes "number") (codes "server"))) (sym e)
    (pair_good (codes "server") refl refl refl _ _ (plain_number id (omega (arith, first.to))) (plain_number server (omega (arith, second.to))))))
    (client_given _) c.taken.ensures
