use Rattle.std.proofs.Common.{◌≡◌, map, take}
use Rattle.partition_server.specs.Answers.{addressed}
use Rattle.partition_server.proofs.waiting.WaitingRequests.due.Given as goal

abbrev pub invariant-loop-place : goal.invariant-loop-place
invariant-loop-place l = l.due.items ≡ map addressed (take l.place l.self)
