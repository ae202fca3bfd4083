use Rattle.std.proofs.Common.{map, take, string_bytes}
use Rattle.command_words.specs.Reading.{ArePlain}
use Rattle.command_words.proofs.arguments.are_plain.Given as goal

abbrev pub invariant-loop-at : goal.invariant-loop-at
invariant-loop-at l = record {
  plain : ArePlain (map string_bytes (take l.at l.words));
}
