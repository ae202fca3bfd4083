use Rattle.std.proofs.Common.{◌≡◌, ◌∙◌, sym, ap, map, refl, subst, false}
use Rattle.proto_model.specs.Quorums.{is_within}
use Rattle.client_core.specs.States.{client_state}
use Rattle.net_model.specs.declared.cluster.Cluster.{Cluster}
use Rattle.world_core.proofs.Delivering.{answer_delivers}
use Rattle.world_core.proofs.Delivering.{answer_lost}
use Rattle.world_core.proofs.deliver.take_answer.Goals as goal

pub returns-clause-delivers : goal.returns-clause-delivers
returns-clause-delivers c = λ p cluster clients.
    answer_delivers p (map client_state c.take.new.clients.items) c.args.from c.args.to c.in-Client.c c.args.m.now c.in_ok-mark.mark c.in-Client.is
    (ap (λ (k : Cluster). is_within k.clients c.in-Client.c) cluster ∙ (sym c.within.ensures ∙ c.if-not-within.false))
    (rw clients c.in_ok-mark.ensures.clients) (rw clients c.in_ok-mark.ensures.mark)

pub returns-in_default : goal.returns-in_default
returns-in_default c = record {
  delivers = λ p cluster clients. answer_lost p _ c.args.from c.args.to c.args.m.now c.new.result clients c.new.ensures.items (λ i there. absurd (c.in_default.not-Client i there));
  size = refl;
  numbers = c.requires.numbers;
  few = c.new.ensures.items;
}

pub returns-then-not-within-clause-delivers : goal.returns-then-not-within-clause-delivers
returns-then-not-within-clause-delivers c = λ p cluster clients.
    answer_lost p _ c.args.from c.args.to c.args.m.now c.new-then-not-within.result clients c.new-then-not-within.ensures.items (λ i there. let its = c.in-Client.is in let eq : c.in-Client.c ≡ i = cc in ap (λ (k : Cluster). is_within k.clients i) cluster ∙ subst (λ n. is_within c.args.cluster.clients n ≡ false) eq (sym c.within.ensures ∙ c.if-not-within.true))
