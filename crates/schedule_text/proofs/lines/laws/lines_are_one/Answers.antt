use Rattle.schedule_text.proofs.LawLemmas.{lines_one}
use Rattle.schedule_text.proofs.lines.laws.lines_are_one.Goals as goal

pub returns : goal.returns
returns c = lines_one
