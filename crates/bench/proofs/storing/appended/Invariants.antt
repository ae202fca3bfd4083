use Rattle.std.proofs.Common.{◌≡◌, ◌<◌, None}
use Rattle.bench.proofs.storing.appended.Given as goal

abbrev pub invariant-batches : goal.invariant-batches
invariant-batches l = record { adopted : 0 < l.store.status.adopted; none : l.store.staged ≡ None }
