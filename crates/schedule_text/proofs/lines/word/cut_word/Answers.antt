use Rattle.std.proofs.Common.{rules}
use Rattle.schedule_text.proofs.WordLemmas.{HasNoSpace-more}
use Rattle.schedule_text.proofs.lines.word.cut_word.Goals as goal

pub loop-at-preserved : goal.loop-at-preserved
loop-at-preserved c = HasNoSpace-more _ _ (search rules) c.loop-at.invariant (search rules)
