use Rattle.std.proofs.Common.{◌≡◌, ◌≤◌, ◌+◌, ◌-◌, ◌++◌, List, ℕ, length, drop}
use Rattle.segment_store.specs.Loading.{IsReadingOf, IsSameFile, IsFit}
use Rattle.segment_store.proofs.reading.Reading.note_all.Given as goal

abbrev pub invariant-frames : goal.invariant-frames
invariant-frames l = record {
  same : IsSameFile l.initial.self l.self;
  fit : IsFit l.self;
  later : l.initial.self.end ≤ l.self.end;
  used : l.self.end + length l.rest ≡ l.initial.self.end + length l.bytes;
  rest : l.rest ≡ drop (l.self.end - l.initial.self.end) l.bytes;
  reading : (all more : List ℕ) → drop l.initial.self.end all ≡ l.bytes ++ more → IsReadingOf l.initial.self all → IsReadingOf l.self all;
}

abbrev pub decreases-frames : goal.decreases-frames
decreases-frames l = length l.rest
