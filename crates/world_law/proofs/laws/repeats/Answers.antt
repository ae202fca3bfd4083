use Rattle.world_law.proofs.EnterOnce.{enter_once}
use Rattle.world_law.proofs.laws.repeats.Goals as goal

pub returns : goal.returns
returns c = enter_once
