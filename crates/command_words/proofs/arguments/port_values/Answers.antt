use Rattle.std.proofs.Common.{rules, arith, codes, subst, sym}
use Rattle.command_words.specs.Reading.{AreTaken, one_argument}
use Rattle.command_words.proofs.PlainWords.{plain_number, port_good, port_simple}
use Rattle.command_words.proofs.Matches.{by_cases, port_given}
use Rattle.command_words.proofs.arguments.port_values.Goals as goal

pub returns : goal.returns
returns c = by_cases c.taken.result _ (one_argument (codes "port")) _ _ _ (search rules) port_simple
    (λ refused n is e. refused (subst (AreTaken (one_argument (codes "port"))) (sym e) (port_good _ (plain_number n (omega (arith, is.to))))))
    (port_given _) c.taken.ensures
