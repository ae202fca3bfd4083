use Rattle.std.proofs.Common.{rules, refl, ap, Err}
use Rattle.schedule_text.proofs.Taken.{part_kept}
use Rattle.client_loop.proofs.Going.{line_does, never_read}
use Rattle.client_loop.proofs.script.take_line.Goals as goal

pub returns-in-Ok-Line-clause-does : goal.returns-in-Ok-Line-clause-does
returns-in-Ok-Line-clause-does g c =
    line_does _ _ _ _ _ _ _ _ _ _ c.in-Ok-Line.line c.do_line.result (search rules) (rw c.in-Ok-Line.field-0-is at c.in-Ok-Line.ensures.next) c.do_line.ensures.does c.do_line.ensures.fails c.do_line.ensures.ends

pub returns-in-Ok-Line-clause-empty : goal.returns-in-Ok-Line-clause-empty
returns-in-Ok-Line-clause-empty g c is = absurd (never_read c.do_line.result c.do_line.ensures.ends is)

pub returns-in-Ok-Line-clause-read_faults : goal.returns-in-Ok-Line-clause-read_faults
returns-in-Ok-Line-clause-read_faults g c = record {
  later = search rules;
  rose = λ is. absurd (never_read c.do_line.result c.do_line.ensures.ends is);
  same = λ _. search rules;
}

pub returns-in-Err-Failed-clause-does : goal.returns-in-Err-Failed-clause-does
returns-in-Err-Failed-clause-does g c =
    let failed = c.in-Err-Failed.ensures.failed (ap Err c.in-Err-Failed.field-0-is) in
    (part_kept _ _ _ _ failed.0 failed.1, refl)
