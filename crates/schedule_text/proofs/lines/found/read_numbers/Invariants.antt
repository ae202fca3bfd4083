use Rattle.std.proofs.Common.{◌≡◌, ◌++◌, length, take, flat_map}
use Rattle.schedule_text.specs.Words.{EndsWord}
use Rattle.schedule_text.specs.Lines.{AreNumbers, number_text}
use Rattle.schedule_text.proofs.lines.found.read_numbers.Given as goal

abbrev pub invariant-loop-i : goal.invariant-loop-i
invariant-loop-i l = record {
  room : length l.values ≡ 5;
  ends : EndsWord l.rest;
  small : AreNumbers (take l.i l.values);
  text : l.text ≡ flat_map number_text (take l.i l.values) ++ l.rest;
}
