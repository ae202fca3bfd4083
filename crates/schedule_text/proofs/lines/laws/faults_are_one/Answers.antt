use Rattle.schedule_text.proofs.LawLemmas.{faults_one}
use Rattle.schedule_text.proofs.lines.laws.faults_are_one.Goals as goal

pub returns : goal.returns
returns c = faults_one
