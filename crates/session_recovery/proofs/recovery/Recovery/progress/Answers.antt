use Rattle.std.proofs.Common.{refl, ◌∙◌, ap, arith}
use Rattle.proto_model.specs.Servers.{after_staged}
use Rattle.proto_model.specs.declared.message.FromNode.TheVariants.{Staged}
use Rattle.session_recovery.specs.Recovering.{Recovering, config_of, state_of}
use Rattle.session_recovery.specs.contracts.recovery.Recovery.{the_view}
use Rattle.session_recovery.proofs.Recoveries.{heard_step, carried, staged_recovers, rest_of}
use Rattle.session_recovery.proofs.recovery.Recovery.progress.Goals as goal

pub invariant_of-self : goal.invariant_of-self
invariant_of-self c =
    let h : Recovering = the_view c.self.inside in
    let nodes = c.progress.ensures.nodes in
    let few = c.self.invariant.few in
    record {
      few = omega (arith, nodes, few);
      acked = c.self.invariant.acked;
      is = carried h.known c.progress.new.self _ _ nodes (c.progress.ensures.value (rest_of h)) (staged_recovers (config_of h) (state_of h) c.args.node c.args.upto c.self.invariant.is);
    }

pub returns-clause-value : goal.returns-clause-value
returns-clause-value c =
    c.progress.ensures.value (rest_of (the_view c.self.inside))
    ∙ (ap (λ (x : Recovering). after_staged (state_of x) c.args.node c.args.upto) c.self.view_is
    ∙ heard_step (the_view c.self.inside) c.args.self.now c.args.node (Staged c.args.self.now.known.session c.args.upto) c.self.view_is c.self.invariant.is refl)
