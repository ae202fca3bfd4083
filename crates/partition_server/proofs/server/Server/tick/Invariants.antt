use Rattle.std.proofs.Common.{◌≡◌, ◌-◌}
use Rattle.proto_model.specs.Sending.{next_messages}
use Rattle.partition_server.specs.Held.{config_of, state_of}
use Rattle.partition_server.proofs.server.Server.tick.Given as goal

abbrev pub invariant-loop-node : goal.invariant-loop-node
invariant-loop-node l = l.sent.items ≡ next_messages (config_of l.self) (state_of l.self) (l.node - 1)
