use Rattle.std.proofs.Common.{take}
use Rattle.schedule_text.specs.Words.{HasNoSpace}
use Rattle.schedule_text.proofs.lines.word.cut_word.Given as goal

abbrev pub invariant-loop-at : goal.invariant-loop-at
invariant-loop-at l = HasNoSpace (take l.at l.text)
