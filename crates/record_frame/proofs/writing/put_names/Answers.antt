use Rattle.record_frame.proofs.Puts.{keeps_after}
use Rattle.record_frame.proofs.writing.put_names.Goals as goal

pub returns-in_err-put_name-clause-kept : goal.returns-in_err-put_name-clause-kept
returns-in_err-put_name-clause-kept c = keeps_after c.args.into.now.items _ c.loop-lock.into.items c.put_name.new.into.items c.loop-lock.invariant c.put_name.ensures.kept
