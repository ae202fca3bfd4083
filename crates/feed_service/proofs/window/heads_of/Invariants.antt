use Rattle.std.proofs.Common.{◌≡◌, map, take}
use Rattle.tx_model.specs.Records.{head_of}
use Rattle.feed_service.proofs.window.heads_of.Given as goal

abbrev pub invariant-loop-entry : goal.invariant-loop-entry
invariant-loop-entry l = l.heads.items ≡ map head_of (take l.entry-index l.records)
