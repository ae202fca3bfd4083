use Rattle.world_law.proofs.OneLogFound.{one_only}
use Rattle.world_law.proofs.SafeRuns as runs
use Rattle.world_law.proofs.laws.one_log_is_found.Goals as goal

pub returns : goal.returns
returns c = record { found = runs.log_found; one = one_only }
