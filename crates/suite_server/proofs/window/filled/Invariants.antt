use Rattle.std.proofs.Common.{◌≡◌, length}
use Rattle.suite_server.proofs.window.filled.Given as goal

abbrev pub invariant-loop-place : goal.invariant-loop-place
invariant-loop-place l = length l.window.log ≡ l.place
