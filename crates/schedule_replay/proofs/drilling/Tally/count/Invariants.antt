use Rattle.std.proofs.Common.{◌≡◌, ◌≤◌, ◌+◌, take}
use Rattle.schedule_replay.specs.Drilling.{refusals_told}
use Rattle.schedule_replay.proofs.drilling.Tally.count.Given as goal

abbrev pub invariant-loop-item : goal.invariant-loop-item
invariant-loop-item l = record {
  envelopes : l.self.envelopes ≡ l.initial.self.envelopes + l.item-index;
  refused : l.self.refused ≡ l.initial.self.refused + refusals_told (take l.item-index l.items);
  fits : l.self.refused ≤ l.self.envelopes;
}
