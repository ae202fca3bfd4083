use Rattle.std.proofs.Common.{refl, arith}
use Rattle.proto_model.specs.Servers.{drawn}
use Rattle.partition_server.specs.Held.{Held, config_of}
use Rattle.partition_server.specs.Layout.{held_by}
use Rattle.partition_server.proofs.Servings.{drawn_serves}
use Rattle.partition_server.proofs.Helds.{fresh_held}
use Rattle.partition_server.proofs.server.Server.drew.Goals as goal

pub invariant_of-self : goal.invariant_of-self
invariant_of-self c =
    let h : Held = held_by (record c.self.inside { nodes = c.new-self-inside.result; acks = c.new-self-inside-2.result; log = c.clear.new.self; waiting = c.clear-2.new.self }) in
    let count = c.count-nodes.ensures in
    let some = c.self.invariant.some in
    let few = c.self.invariant.few in
    fresh_held h c.count-nodes.result (drawn c.args.session) c.self.inside.locks (omega (arith, count, some)) (omega (arith, count, few)) c.new-self-inside.ensures.nodes
    c.new-self-inside-2.ensures.value c.clear.ensures c.clear-2.ensures c.new-self-inside.ensures.value (λ i. refl) (drawn_serves (config_of h) c.args.session c.self.inside.locks c.requires)
