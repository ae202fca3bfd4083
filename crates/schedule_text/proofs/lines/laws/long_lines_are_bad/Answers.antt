use Rattle.schedule_text.proofs.LawLemmas.{long_lines}
use Rattle.schedule_text.proofs.lines.laws.long_lines_are_bad.Goals as goal

pub returns : goal.returns
returns c = long_lines
