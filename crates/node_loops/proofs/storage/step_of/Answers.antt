use Rattle.std.proofs.Common.{refl}
use Rattle.node_loops.proofs.storage.step_of.Goals as goal

pub returns-in-Err-Disk-clause-failed : goal.returns-in-Err-Disk-clause-failed
returns-in-Err-Disk-clause-failed g c = record {
  message = c.args.m.now;
  asked_is = refl;
  fails = (rw c.in-Err-Disk.field-0-is at c.in-Err-Disk.ensures.broken) tt;
  shows = c.in-Err-Disk.ensures.shown;
}

pub returns-in-Err-Damaged-clause-failed : goal.returns-in-Err-Damaged-clause-failed
returns-in-Err-Damaged-clause-failed g c = record {
  message = c.args.m.now;
  asked_is = refl;
  fails = λ t. rw c.in-Err-Damaged.field-0-is at (c.in-Err-Damaged.ensures.undamaged t);
  shows = c.in-Err-Damaged.ensures.shown;
}
