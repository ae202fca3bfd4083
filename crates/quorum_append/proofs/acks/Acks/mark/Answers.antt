use Rattle.std.proofs.Common.{◌≡◌, ap, arith}
use Rattle.quorum_append.specs.Kept.{Kept, has_kept}
use Rattle.quorum_append.proofs.Counts.{IsMark}
use Rattle.quorum_append.proofs.Keeping.{mark_kept, mark_of_kept, mark_searched}
use Rattle.quorum_append.proofs.acks.Acks.mark.Goals as goal

pub returns-clause-value : goal.returns-clause-value
returns-clause-value c = λ bound low.
    let nodes : c.self.inside.nodes ≡ c.args.self.now.nodes = ap (λ (kept : Kept). kept.nodes) c.self.view_is in
    let mark : IsMark c.args.self.now.nodes (has_kept c.args.self.now) c.loop-node.mark =
    mark_kept c.args.self.now c.loop-node.mark c.loop-node.invariant.held (λ j p q. c.loop-node.invariant.most j p (omega (arith, nodes, q))) in
    mark_searched c.args.self.now c.loop-node.mark bound mark low

pub returns-clause-of_all : goal.returns-clause-of_all
returns-clause-of_all c = λ acks are.
    let nodes : c.self.inside.nodes ≡ c.args.self.now.nodes = ap (λ (kept : Kept). kept.nodes) c.self.view_is in
    let mark : IsMark c.args.self.now.nodes (has_kept c.args.self.now) c.loop-node.mark =
    mark_kept c.args.self.now c.loop-node.mark c.loop-node.invariant.held (λ j p q. c.loop-node.invariant.most j p (omega (arith, nodes, q))) in
    mark_of_kept c.args.self.now acks c.loop-node.mark are mark
