use Rattle.waltz_cli.specs.declared.end.End.TheVariants.{Usage}
use Rattle.waltz_cli.proofs.Printing.{finished}
use Rattle.waltz_cli.proofs.commands.usage.Goals as goal

pub returns-clause-few : goal.returns-clause-few
returns-clause-few g c = finished _ _ _ Usage _ c.finish.ensures.ends
