use Rattle.std.proofs.Common.{All}
use Rattle.net_model.specs.Events.{IsInRange}
use Rattle.bench.proofs.days.events_of.Given as goal

abbrev pub invariant-lines : goal.invariant-lines
invariant-lines l = All (IsInRange l.cluster) l.events.items
