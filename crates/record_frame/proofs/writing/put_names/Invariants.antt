use Rattle.std.proofs.Common.{◌≡◌, ◌++◌, take}
use Rattle.tx_model.specs.Spelling.{spelled_names}
use Rattle.record_frame.proofs.writing.put_names.Given as goal

abbrev pub invariant-loop-lock : goal.invariant-loop-lock
invariant-loop-lock l = l.into.items ≡ l.fn.into.items ++ spelled_names (take l.lock-index l.locks)
