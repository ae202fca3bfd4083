use Rattle.client_core.proofs.Doubles.{double_behind}
use Rattle.client_core.proofs.refusing.has_double.Goals as goal

pub returns-then-stand_again : goal.returns-then-stand_again
returns-then-stand_again c = double_behind c.args.reads.now c.args.writes.now c.stand_again.result c.if-stand_again.true c.stand_again.ensures
