use Rattle.std.proofs.Common.{◌≡◌, ◌∙◌, sym, ap, map, refl, subst, false, arith}
use Rattle.proto_model.specs.Quorums.{is_within}
use Rattle.net_model.specs.declared.cluster.Cluster.{Cluster}
use Rattle.world_core.proofs.Delivering.{request_delivers}
use Rattle.world_core.proofs.Delivering.{request_lost}
use Rattle.world_core.proofs.Going.{going_more}
use Rattle.world_core.proofs.deliver.take_request.Goals as goal

pub returns-clause-delivers : goal.returns-clause-delivers
returns-clause-delivers g c = λ p cluster nodes files.
    let set = c.in_ok-reply.ensures.nodes in
    request_delivers p (map g.R.Replica.state c.step_node.new.nodes.items) (map g.R.Replica.files c.step_node.new.nodes.items) set.bytes c.args.from c.args.to c.in-Node.i c.args.m.now c.in_ok-reply.reply c.in_ok-made.made c.in-Node.is
    (ap (λ (k : Cluster). is_within k.nodes c.in-Node.i) cluster ∙ (sym c.within.ensures ∙ c.if-not-within.false))
    (rw nodes set.states) (rw files set.files) (rw nodes c.in_ok-reply.ensures.reply) c.in_ok-reply.ensures.valid c.in_ok-made.ensures

pub returns-in_default : goal.returns-in_default
returns-in_default g c = record {
  delivers = λ p cluster nodes files. request_lost p _ _ c.args.from c.args.to c.args.m.now c.new.result nodes files c.new.ensures.items (λ i is. absurd (c.in_default.not-Node i is));
  size = refl;
  going = λ most all. going_more g.R.Replica.is_faultless g.R.Replica.shown most c.args.nodes.now.items all;
  few = omega arith;
}

pub returns-then-not-within-clause-delivers : goal.returns-then-not-within-clause-delivers
returns-then-not-within-clause-delivers g c = λ p cluster nodes files.
    request_lost p _ _ c.args.from c.args.to c.args.m.now c.new-then-not-within.result nodes files c.new-then-not-within.ensures.items (λ i is. let its = c.in-Node.is in let eq : c.in-Node.i ≡ i = cc in ap (λ (k : Cluster). is_within k.nodes i) cluster ∙ subst (λ n. is_within c.args.cluster.nodes n ≡ false) eq (sym c.within.ensures ∙ c.if-not-within.true))

pub returns-then-not-within-clause-going : goal.returns-then-not-within-clause-going
returns-then-not-within-clause-going g c = λ most all. going_more g.R.Replica.is_faultless g.R.Replica.shown most c.args.nodes.now.items all
