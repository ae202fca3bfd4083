use Rattle.std.proofs.Common.{◌≡◌, length, map, take, decimal}
use Rattle.std.specs.List.{AllByRecursion}
use Rattle.command_words.specs.Commands.{IsPort, AreDifferent}
use Rattle.command_words.proofs.words.node_ports.Given as goal

abbrev pub invariant-loop-at : goal.invariant-loop-at
invariant-loop-at l = record {
  texts : map (λ s. s.now) (take l.at l.words) ≡ map decimal l.ports.items;
  count : length l.ports.items ≡ l.at;
  each : AllByRecursion IsPort l.ports.items;
  different : AreDifferent l.ports.items;
}
