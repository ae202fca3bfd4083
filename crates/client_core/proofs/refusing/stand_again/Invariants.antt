use Rattle.std.proofs.Common.{◌≡◌, ◌++◌, drop}
use Rattle.client_core.specs.Building.{has_double}
use Rattle.client_core.proofs.refusing.stand_again.Given as goal

-- what is left decides
abbrev pub invariant-loop-place : goal.invariant-loop-place
invariant-loop-place l = has_double (l.names ++ l.others) ≡ has_double (drop l.place l.names ++ l.others)
