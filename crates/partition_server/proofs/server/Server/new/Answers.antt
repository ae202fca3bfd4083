use Rattle.std.proofs.Common.{refl}
use Rattle.proto_model.specs.Servers.{idle_server}
use Rattle.partition_server.specs.Held.{Held, config_of}
use Rattle.partition_server.proofs.Servings.{idle_serves}
use Rattle.partition_server.proofs.Helds.{fresh_held}
use Rattle.partition_server.proofs.server.Server.new.Goals as goal

pub invariant_of-result : goal.invariant_of-result
invariant_of-result c =
    let h : Held = record {
      rows = c.in_ok-locks.locks.rows;
      slots = c.in_ok-locks.locks.slots;
      known = c.idle.result;
      kept = c.new-2.result;
      log = c.new-3.result.log;
      waiting = c.new-4.result;
    } in
    fresh_held h c.args.nodes idle_server c.in_ok-locks.locks c.requires.some_nodes c.requires.few_nodes c.idle.ensures.nodes
    c.new-2.ensures.value c.new-3.ensures c.new-4.ensures c.idle.ensures.value (λ i. refl) (idle_serves (config_of h) c.in_ok-locks.locks)
