use Rattle.std.proofs.Common.{◌≡◌, map}
use Rattle.world_law.specs.Steps.{envelope_from}
use Rattle.world_core.proofs.servers.addressed.Given as goal

abbrev pub invariant-loop-node : goal.invariant-loop-node
invariant-loop-node l = l.made.items ≡ map (envelope_from l.v) l.yielded
