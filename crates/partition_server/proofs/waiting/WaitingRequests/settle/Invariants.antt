use Rattle.std.proofs.Common.{◌≡◌, drop}
use Rattle.partition_server.proofs.waiting.WaitingRequests.settle.Given as goal

abbrev pub invariant-loop : goal.invariant-loop
invariant-loop l = l.self ≡ drop l.counter l.fn.self
