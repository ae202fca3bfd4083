use Rattle.std.proofs.Common.{rules}
use Rattle.std.specs.Io.KnownBytes.{prepend_known}
use Rattle.schedule_replay.proofs.Reading.{first_line_is, long_first_fault, begun, some_long}
use Rattle.schedule_replay.proofs.input.read_first.Goals as goal

pub returns-in-Ok-Line-clause-first : goal.returns-in-Ok-Line-clause-first
returns-in-Ok-Line-clause-first g c =
    first_line_is (prepend_known c.args.input.now.pending (g.S.Source.left c.args.source.now)) (prepend_known c.next_line.new.pending (g.S.Source.left c.next_line.new.source)) c.deref.result.now c.first_said.result (search rules) c.first_said.ensures

pub returns-in-Err-clause-first : goal.returns-in-Err-clause-first
returns-in-Err-clause-first g c =
    long_first_fault (prepend_known c.args.input.now.pending (g.S.Source.left c.args.source.now)) (prepend_known c.next_line.new.pending (g.S.Source.left c.next_line.new.source)) c.deref-in-Ok-TooLong.result.now c.in-Err.fault (search rules) (search rules) c.in-Err.ensures

pub returns-in-Err-clause-begun : goal.returns-in-Err-clause-begun
returns-in-Err-clause-begun g c _ =
    begun g.S.Source.left g.S.Source.before c.args.source.now c.next_line.new.source c.args.input.now.pending c.next_line.new.pending c.next_line.new.line.items c.requires (some_long c.next_line.new.line.items (search rules)) (search rules)
