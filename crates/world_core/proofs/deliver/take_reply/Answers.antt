use Rattle.std.proofs.Common.{◌≡◌, ◌∙◌, sym, ap, map, refl, subst, false, arith}
use Rattle.proto_model.specs.Quorums.{is_within}
use Rattle.partition_server.specs.Held.{state_of}
use Rattle.net_model.specs.declared.cluster.Cluster.{Cluster}
use Rattle.world_core.proofs.Delivering.{reply_delivers}
use Rattle.world_core.proofs.Delivering.{reply_lost, first_out, second_out}
use Rattle.world_core.proofs.deliver.take_reply.Goals as goal

pub returns-clause-delivers : goal.returns-clause-delivers
returns-clause-delivers c = λ p cluster servers.
    reply_delivers p (map state_of c.hear.new.servers.items) c.args.from c.args.to c.in-Node.i c.in-Server.v c.args.m.now c.in_ok-answers.answers.items c.in_ok-made.made c.in-Node.is c.in-Server.is
    (ap (λ (k : Cluster). is_within k.nodes c.in-Node.i) cluster ∙ (sym c.within.ensures ∙ c.if-not-within.false))
    (ap (λ (k : Cluster). is_within k.servers c.in-Server.v) cluster ∙ (sym c.within-2.ensures ∙ c.if-not-within-2.false))
    (rw (cluster, servers) c.in_ok-answers.ensures.servers) (rw (cluster, servers) c.in_ok-answers.ensures.answers) (rw cluster c.in_ok-made.ensures.made)

pub returns-in_default : goal.returns-in_default
returns-in_default c = record {
  delivers = λ p cluster servers. reply_lost p _ c.args.from c.args.to c.args.m.now c.new.result servers c.new.ensures.items (λ i v here there. absurd (c.in_default.not-Node i here));
  size = refl;
  configs = c.requires.configs;
  few = omega arith;
}

pub returns-in_default-to : goal.returns-in_default-to
returns-in_default-to c = record {
  delivers = λ p cluster servers. reply_lost p _ c.args.from c.args.to c.args.m.now c.new-in_default-to.result servers c.new-in_default-to.ensures.items (λ i v here there. absurd (c.in_default-to.not-Server v there));
  size = refl;
  configs = c.requires.configs;
  few = omega arith;
}

pub returns-then-not-within-clause-delivers : goal.returns-then-not-within-clause-delivers
returns-then-not-within-clause-delivers c = λ p cluster servers.
    reply_lost p _ c.args.from c.args.to c.args.m.now c.new-then-not-within.result servers c.new-then-not-within.ensures.items (λ i v here there. first_out (is_within p.cluster.nodes i) (is_within p.cluster.servers v) (let its = c.in-Node.is in let eq : c.in-Node.i ≡ i = cc in ap (λ (k : Cluster). is_within k.nodes i) cluster ∙ subst (λ n. is_within c.args.cluster.nodes n ≡ false) eq (sym c.within.ensures ∙ c.if-not-within.true)))

pub returns-then-not-within-2-clause-delivers : goal.returns-then-not-within-2-clause-delivers
returns-then-not-within-2-clause-delivers c = λ p cluster servers.
    reply_lost p _ c.args.from c.args.to c.args.m.now c.new-then-not-within-2.result servers c.new-then-not-within-2.ensures.items (λ i v here there. second_out (is_within p.cluster.nodes i) (is_within p.cluster.servers v) (let its = c.in-Server.is in let eq : c.in-Server.v ≡ v = cc in ap (λ (k : Cluster). is_within k.servers v) cluster ∙ subst (λ n. is_within c.args.cluster.servers n ≡ false) eq (sym c.within-2.ensures ∙ c.if-not-within-2.true)))
