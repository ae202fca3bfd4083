use Rattle.schedule_text.proofs.RangeLemmas.{ranges_one}
use Rattle.schedule_text.proofs.lines.laws.ranges_are_one.Goals as goal

pub returns : goal.returns
returns c = ranges_one
