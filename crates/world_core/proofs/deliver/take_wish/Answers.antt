use Rattle.std.proofs.Common.{◌≡◌, ◌∙◌, sym, ap, map, rules, refl, subst, false, arith}
use Rattle.proto_model.specs.Quorums.{is_within}
use Rattle.partition_server.specs.Held.{state_of}
use Rattle.net_model.specs.declared.cluster.Cluster.{Cluster}
use Rattle.world_core.proofs.Delivering.{wish_delivers}
use Rattle.world_core.proofs.Delivering.{wish_lost}
use Rattle.world_core.proofs.deliver.take_wish.Goals as goal

pub returns-in-None-clause-delivers : goal.returns-in-None-clause-delivers
returns-in-None-clause-delivers c = λ p cluster servers.
    wish_delivers p (map state_of c.serve.new.servers.items) c.args.from c.args.to c.in-Server.v c.args.m.now c.in_ok-answer.answer _ c.in-Server.is
    (ap (λ (k : Cluster). is_within k.servers c.in-Server.v) cluster ∙ (sym c.within.ensures ∙ c.if-not-within.false))
    (rw (cluster, servers) c.in_ok-answer.ensures.servers) (rw (cluster, servers) c.in_ok-answer.ensures.answer) (rw c.in-None.is (search rules)) c.in_ok-answer.ensures.placed

pub returns-in_ok-made-in-Some-clause-delivers : goal.returns-in_ok-made-in-Some-clause-delivers
returns-in_ok-made-in-Some-clause-delivers c = λ p cluster servers.
    wish_delivers p (map state_of c.serve.new.servers.items) c.args.from c.args.to c.in-Server.v c.args.m.now c.in_ok-answer.answer c.in_ok-made-in-Some.made c.in-Server.is
    (ap (λ (k : Cluster). is_within k.servers c.in-Server.v) cluster ∙ (sym c.within.ensures ∙ c.if-not-within.false))
    (rw (cluster, servers) c.in_ok-answer.ensures.servers) (rw (cluster, servers) c.in_ok-answer.ensures.answer) (rw c.in-Some.is c.in_ok-made-in-Some.ensures) c.in_ok-answer.ensures.placed

pub returns-in_default : goal.returns-in_default
returns-in_default c = record {
  delivers = λ p cluster servers. wish_lost p _ c.args.from c.args.to c.args.m.now c.new.result servers c.new.ensures.items (λ i there. absurd (c.in_default.not-Server i there));
  size = refl;
  configs = c.requires.configs;
  few = omega arith;
}

pub returns-then-not-within-clause-delivers : goal.returns-then-not-within-clause-delivers
returns-then-not-within-clause-delivers c = λ p cluster servers.
    wish_lost p _ c.args.from c.args.to c.args.m.now c.new-then-not-within.result servers c.new-then-not-within.ensures.items (λ i there. let its = c.in-Server.is in let eq : c.in-Server.v ≡ i = cc in ap (λ (k : Cluster). is_within k.servers i) cluster ∙ subst (λ n. is_within c.args.cluster.servers n ≡ false) eq (sym c.within.ensures ∙ c.if-not-within.true))
