use Rattle.std.proofs.Common.{rules}
use Rattle.schedule_text.proofs.Taken.{byte_reads}
use Rattle.schedule_replay.proofs.input.read_last.Goals as goal

pub returns-in-Ok-Some-clause-reads : goal.returns-in-Ok-Some-clause-reads
returns-in-Ok-Some-clause-reads g c _ =
    byte_reads g.S.Source.left g.S.Source.before c.args.source.now c.next_byte.new.source c.args.input.now.pending c.next_byte.new.pending c.in-Ok-Some.field-0-0 c.next_byte.result (search rules) c.next_byte.ensures.ready c.next_byte.ensures.last (search rules)
