use Rattle.std.proofs.Common.{◌≡◌, ◌∙◌, arith}
use Rattle.std.proofs.lemmas.Grind.{common_steps}
use Rattle.proto_model.specs.Quorums.{count}
use Rattle.quorum_append.specs.Acknowledgements.{has_acked}
use Rattle.quorum_append.specs.Kept.{has_kept}
use Rattle.quorum_append.proofs.Counts.{count-same}
use Rattle.quorum_append.proofs.acks.Acks.held.Goals as goal

pub returns-clause-of_all : goal.returns-clause-of_all
returns-clause-of_all c = λ acks are.
    let kept = c.args.self.now in
    let all : c.loop-node.held ≡ count (has_kept kept c.args.k) kept.nodes = grind (arith, common_steps) in
    all ∙ count-same (has_kept kept c.args.k) (has_acked acks c.args.k) kept.nodes (λ i p q. are c.args.k i p q)
