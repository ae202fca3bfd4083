use Rattle.std.proofs.Common.{◌≡◌, ◌+◌, drop}
use Rattle.client_core.specs.Clients.{have_ids_from}
use Rattle.client_core.proofs.heads.have_ids_from.Given as goal

-- what is left decides
abbrev pub invariant-loop-place : goal.invariant-loop-place
invariant-loop-place l = have_ids_from l.from l.heads ≡ have_ids_from (l.from + l.place) (drop l.place l.heads)
