use Rattle.std.proofs.Common.{◌≡◌, ap, arith, rules}
use Rattle.proto_model.specs.Replicas.{ReplicaState}
use Rattle.plain_node.proofs.NodeLemmas.{IsReplica-adopted}
use Rattle.plain_node.proofs.node.Node.take_adopt.Goals as goal

pub invariant_of-self-2 : goal.invariant_of-self-2
invariant_of-self-2 c =
    let appended = c.in_ok-append.ensures in
    let promised : c.self.inside.promised ≡ c.args.self.now.promised = ap (λ (r : ReplicaState). r.promised) c.self.view_is in
    let taken : c.args.session ≡ c.self.inside.promised = search rules in
    rw (appended.items, c.truncate.ensures.items, c.in_ok-reserve.ensures.items, appended.other_items) (IsReplica-adopted _ c.args.session c.self.invariant (omega (arith, taken)))
