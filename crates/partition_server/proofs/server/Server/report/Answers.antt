use Rattle.std.proofs.Common.{◌≡◌, ◌∙◌, ap, refl, true}
use Rattle.proto_model.specs.Servers.{after_report, is_active}
use Rattle.partition_server.specs.Held.{Held, config_of, rest_of, state_of}
use Rattle.partition_server.specs.Layout.{held_by}
use Rattle.partition_server.proofs.Servings.{report_serves}
use Rattle.partition_server.proofs.Helds.{changed_held, config_same, report_adopters}
use Rattle.partition_server.proofs.server.Server.report.Goals as goal

pub invariant_of-self : goal.invariant_of-self
invariant_of-self c =
    let h : Held = held_by c.self.inside in
    let h' : Held = record h { known = c.report.new.self } in
    let locks = c.self.inside.locks in
    let active : is_active h.known.phase ≡ true = ap (λ (x : Held). is_active x.known.phase) c.self.view_is ∙ c.requires.active in
    changed_held h h' locks locks (after_report (config_of h) (state_of h) c.args.report) c.self.invariant refl (config_same h h' c.report.ensures.nodes refl refl)
    (c.report.ensures.value (rest_of h)) (report_adopters (config_of h) (state_of h) c.args.report)
    (report_serves (config_of h) (state_of h) c.args.report locks c.self.invariant.is active c.requires.count)

pub returns-clause-value : goal.returns-clause-value
returns-clause-value c =
    c.report.ensures.value (rest_of (held_by c.self.inside))
    ∙ ap (λ (x : Held). after_report (config_of x) (state_of x) c.args.report) c.self.view_is
