use Rattle.std.proofs.Common.{refl, ◌∙◌, ap, arith}
use Rattle.proto_model.specs.Servers.{after_report}
use Rattle.proto_model.specs.declared.message.FromNode.TheVariants.{Opened}
use Rattle.session_recovery.specs.Recovering.{Recovering, config_of, state_of}
use Rattle.session_recovery.specs.contracts.recovery.Recovery.{the_view}
use Rattle.session_recovery.proofs.Recoveries.{heard_step, carried, report_recovers, rest_of}
use Rattle.session_recovery.proofs.recovery.Recovery.report.Goals as goal

pub invariant_of-self : goal.invariant_of-self
invariant_of-self c =
    let h : Recovering = the_view c.self.inside in
    let nodes = c.report.ensures.nodes in
    let few = c.self.invariant.few in
    record {
      few = omega (arith, nodes, few);
      acked = c.self.invariant.acked;
      is = carried h.known c.report.new.self _ _ nodes (c.report.ensures.value (rest_of h)) (report_recovers (config_of h) (state_of h) c.args.r c.self.invariant.is c.requires.count);
    }

pub returns-clause-value : goal.returns-clause-value
returns-clause-value c =
    c.report.ensures.value (rest_of (the_view c.self.inside))
    ∙ (ap (λ (x : Recovering). after_report (config_of x) (state_of x) c.args.r) c.self.view_is
    ∙ heard_step (the_view c.self.inside) c.args.self.now c.args.r.node (Opened c.args.self.now.known.session c.args.r.adopted c.args.r.low c.args.r.length) c.self.view_is c.self.invariant.is refl)
