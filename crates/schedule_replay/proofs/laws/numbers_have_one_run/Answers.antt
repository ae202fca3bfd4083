use Rattle.schedule_replay.proofs.NumberedLemmas.{numbers_have_one_run}
use Rattle.schedule_replay.proofs.laws.numbers_have_one_run.Goals as goal

pub returns : goal.returns
returns c = numbers_have_one_run
