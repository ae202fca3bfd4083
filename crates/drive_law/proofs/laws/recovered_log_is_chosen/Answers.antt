use Rattle.drive_law.proofs.Recovered.{recovered}
use Rattle.drive_law.proofs.laws.recovered_log_is_chosen.Goals as goal

pub returns : goal.returns
returns c = recovered
