use Rattle.std.proofs.Common.{rules, arith, decimal, subst, sym}
use Rattle.std.proofs.lemmas.List.{length-map}
use Rattle.command_words.specs.Commands.{IsPort}
use Rattle.command_words.specs.Reading.{AreTaken, server_arguments}
use Rattle.command_words.proofs.PlainWords.{plain_number, plain_numbers}
use Rattle.command_words.proofs.ServerWords.{server_good, server_simple}
use Rattle.command_words.proofs.Matches.{by_cases, server_given}
use Rattle.command_words.proofs.arguments.server_values.Goals as goal

pub returns : goal.returns
returns c = by_cases c.taken.result _ server_arguments _ _ _ (search rules) server_simple
    (λ refused s is e. refused (subst (AreTaken server_arguments) (sym e) (let n = length-map s.nodes.items decimal in server_good _ (
      plain_number s.port (omega (arith, is.port.to)),
      (
        plain_number s.register (omega (arith, is.register.to)),
        (
          plain_number s.rows (omega (arith, is.rows.to)),
          (plain_number s.slots (omega (arith, is.slots.to)), plain_numbers IsPort (λ p port. omega (arith, port.to)) s.nodes.items is.nodes.each),
        ),
      ),
    )
    (omega (arith, n, is.nodes.count.from)) (omega (arith, n, is.nodes.count.to)))))
    (server_given _) c.taken.ensures
