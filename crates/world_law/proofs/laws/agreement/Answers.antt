use Rattle.world_law.proofs.SafeRuns as runs
use Rattle.world_law.proofs.laws.agreement.Goals as goal

pub returns : goal.returns
returns c = record { agree = runs.sessions_agree; grows = runs.log_grows }
