use Rattle.world_law.proofs.SafeRuns as runs
use Rattle.world_law.proofs.laws.acceptance.Goals as goal

pub returns : goal.returns
returns c = record { numbered = runs.log_numbered; clean = runs.log_clean }
