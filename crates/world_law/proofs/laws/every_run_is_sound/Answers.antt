use Rattle.world_law.proofs.SoundRuns.{every_run}
use Rattle.world_law.proofs.laws.every_run_is_sound.Goals as goal

pub returns : goal.returns
returns c = every_run
