use Rattle.std.proofs.Common.{◌≡◌, ◌+◌, ◌^◌, ◌<◌, length, take}
use Rattle.tx_model.specs.Frames.{joined}
use Rattle.segment_store.specs.Records.{frames_of}
use Rattle.segment_store.specs.Index.{starts_of}
use Rattle.segment_store.proofs.appending.encode_all.Given as goal

abbrev pub invariant-loop-entry : goal.invariant-loop-entry
invariant-loop-entry l = record {
  bytes : l.bytes.items ≡ joined (frames_of (take l.entry-index l.records));
  starts : l.at + length l.bytes.items < 2 ^ 64 → l.starts.items ≡ starts_of l.at (frames_of (take l.entry-index l.records));
  count : length l.starts.items ≡ l.entry-index;
}
