use Rattle.std.proofs.Common.{◌≡◌, ◌-◌, ◌^◌, min, length, take}
use Rattle.tx_model.specs.Frames.{joined}
use Rattle.segment_store.specs.Records.{frames_of}
use Rattle.segment_store.proofs.appending.frames_len.Given as goal

abbrev pub invariant-loop-entry : goal.invariant-loop-entry
invariant-loop-entry l = l.len ≡ min (length (joined (frames_of (take l.entry-index l.records)))) (2 ^ 64 - 1)
