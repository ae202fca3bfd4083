use Rattle.std.proofs.Common.{◌≡◌, ◌-◌, ◌++◌, true, List, ℕ}
use Rattle.tx_model.specs.Reading.{are_names, names_of, past_names}
use Rattle.record_frame.proofs.reading.locks_in.Given as goal

abbrev pub invariant-loop : goal.invariant-loop
invariant-loop l = record {
  form : (last : List ℕ) × (are_names last (l.count - l.counter) l.rest ≡ true);
  past : past_names (l.count - l.counter) l.rest ≡ past_names l.count l.bytes;
  rest : l.locks.items ++ names_of (l.count - l.counter) l.rest ≡ names_of l.count l.bytes;
}
