use Rattle.std.proofs.Common.{◌≡◌, ◌≤◌, ◌-◌, List, ℕ, length}
use Rattle.std.specs.List.{AllByRecursion}
use Rattle.tx_model.specs.Records.{RiseByOne}
use Rattle.tx_model.specs.Framing.{record_len}
use Rattle.tx_model.specs.Frames.{IsFrame, joined}
use Rattle.segment_store.proofs.Got.{IsTaken}
use Rattle.segment_store.proofs.getting.records_from.Given as goal

abbrev pub invariant-frames : goal.invariant-frames
invariant-frames l = record {
  ids : RiseByOne l.first l.records.items;
  most : length l.records.items ≤ l.count;
  taken : (fs : List (List ℕ)) → AllByRecursion (IsFrame record_len) fs → l.bytes ≡ joined fs → length fs ≡ l.count → IsTaken fs l.records.items l.rest;
}

abbrev pub decreases-frames : goal.decreases-frames
decreases-frames l = l.count - length l.records.items
