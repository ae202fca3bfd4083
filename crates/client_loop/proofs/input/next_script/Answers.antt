use Rattle.std.proofs.Common.{rules, Err, ap, refl}
use Rattle.io_core.proofs.LineLemmas.{TakesPart-open}
use Rattle.std.specs.Io.KnownBytes.{prepend_known}
use Rattle.client_loop.proofs.NextLines.{next_line_is, next_long_is, failed_fault}
use Rattle.client_loop.proofs.input.next_script.Goals as goal

pub returns-in-Ok-read_whole-clause-next : goal.returns-in-Ok-read_whole-clause-next
returns-in-Ok-read_whole-clause-next g c =
    next_line_is (prepend_known c.args.input.now.pending (g.S.Source.left c.args.source.now)) (prepend_known c.next_line.new.pending (g.S.Source.left c.next_line.new.source)) c.next_line.new.line.items c.in-Ok-read_whole.next (search rules) (search rules)

pub returns-in-Ok-clause-next : goal.returns-in-Ok-clause-next
returns-in-Ok-clause-next g c =
    next_long_is (prepend_known c.args.input.now.pending (g.S.Source.left c.args.source.now)) (prepend_known c.next_line.new.pending (g.S.Source.left c.next_line.new.source)) c.next_line.new.line.items c.in-Ok.next (search rules) (search rules) (search rules)

pub returns-in-Err-clause-failed : goal.returns-in-Err-clause-failed
returns-in-Err-clause-failed g c is =
    let failed = c.in-Err.ensures.failed (ap Err (failed_fault _ _ refl is)) in
    (failed.0, TakesPart-open _ _ _ _ failed.1)
