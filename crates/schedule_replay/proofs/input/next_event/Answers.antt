use Rattle.std.proofs.Common.{◌≡◌, rules, Err}
use Rattle.io_core.proofs.LineLemmas.{TakesPart-open}
use Rattle.io_core.specs.declared.fault.Fault.TheVariants.{Failed}
use Rattle.std.specs.Io.KnownBytes.{prepend_known}
use Rattle.schedule_text.proofs.Taken.{part_kept}
use Rattle.schedule_replay.proofs.Reading.{line_fault, long_fault}
use Rattle.schedule_replay.proofs.input.next_event.Goals as goal

pub returns-in-Err-clause-next : goal.returns-in-Err-clause-next
returns-in-Err-clause-next g c =
    line_fault (prepend_known c.args.input.now.pending (g.S.Source.left c.args.source.now)) (prepend_known c.next_line.new.pending (g.S.Source.left c.next_line.new.source)) c.args.cluster.now c.deref.result.now c.args.number c.in-Err.fault (search rules) c.in-Err.ensures

pub returns-in-Err-said-clause-next : goal.returns-in-Err-said-clause-next
returns-in-Err-said-clause-next g c =
    long_fault (prepend_known c.args.input.now.pending (g.S.Source.left c.args.source.now)) (prepend_known c.next_line.new.pending (g.S.Source.left c.next_line.new.source)) c.args.cluster.now c.deref-in-Ok-TooLong.result.now c.args.number c.in-Err-said.fault (search rules) (search rules) c.in-Err-said.ensures

pub returns-in-Err-Failed-clause-next : goal.returns-in-Err-Failed-clause-next
returns-in-Err-Failed-clause-next g c =
    let is : c.next_line.result ≡ Err Failed = cc in
    let failed = c.next_line.ensures.failed is in
    part_kept 512 _ _ c.next_line.new.pending failed.0 (TakesPart-open _ _ _ _ failed.1)
