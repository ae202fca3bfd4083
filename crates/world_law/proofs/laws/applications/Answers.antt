use Rattle.world_law.proofs.SafeRuns as runs
use Rattle.world_law.proofs.laws.applications.Goals as goal

pub returns : goal.returns
returns c = runs.clients_served
