use Rattle.world_law.proofs.SafeRuns.{every_run}
use Rattle.world_law.proofs.laws.every_run_is_safe.Goals as goal

pub returns : goal.returns
returns c = every_run
