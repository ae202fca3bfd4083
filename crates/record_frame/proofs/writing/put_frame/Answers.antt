use Rattle.std.proofs.Common.{rules}
use Rattle.std.specs.Int.{w32, to_be_bytes}
use Rattle.record_frame.proofs.Puts.{keeps_after}
use Rattle.record_frame.proofs.writing.put_frame.Goals as goal

pub returns-in_err-put_record-clause-kept : goal.returns-in_err-put_record-clause-kept
returns-in_err-put_record-clause-kept c =
    keeps_after c.args.into.now.items (to_be_bytes w32 c.args.len) c.extend_from_slice.new.self.items c.put_record.new.into.items (search rules) c.put_record.ensures.kept
