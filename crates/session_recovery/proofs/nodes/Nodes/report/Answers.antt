use Rattle.std.proofs.Common.{◌≡◌, ◌∙◌, ◌+◌, ◌≤◌, ◌<◌, ap, sym, subst, false, ◌++◌, ◌∷◌, [], take, slice_set, slice_index_or, arith, length-set, length-take}
use Rattle.std.proofs.lemmas.Grind.{common_steps, take-set_at}
use Rattle.proto_model.specs.declared.message.Report.{Report}
use Rattle.proto_model.specs.Quorums.{quorum}
use Rattle.proto_model.specs.Choices.{recovery_choice}
use Rattle.proto_model.specs.Servers.{after_report, phase_reported}
use Rattle.session_recovery.specs.Known.{Known, IsKnown, config_of, server_of}
use Rattle.session_recovery.specs.contracts.nodes.Nodes.{the_view}
use Rattle.session_recovery.proofs.Knowing.{room, with_report, with_report-known, with_report-state}
use Rattle.session_recovery.proofs.nodes.Nodes.report.Goals as goal

pub invariant_of-self : goal.invariant_of-self
invariant_of-self c =
    let n = c.self.inside in
    let k : Known = the_view c.self.inside in
    let r : Report = c.args.r in
    let nodes : k.nodes ≡ c.args.self.now.nodes = ap (λ (x : Known). x.nodes) c.self.view_is in
    let asked = c.requires.1 in
    let within : r.node ≤ k.nodes = omega (arith, nodes, asked) in
    let new : slice_index_or k.reported r.node false ≡ false = grind (arith, common_steps) in
    let full = c.self.invariant.room in
    let heard = c.self.invariant.heard in
    let free = room k r.node c.self.invariant.known c.requires.0 within new in
    let few = c.self.invariant.known.few in
    let at = length-take n.heard n.reports in
    let list : take (n.heard + 1) (slice_set n.reports n.heard r) ≡ take n.heard n.reports ++ r ∷ [] = take-set_at n.reports n.heard (n.heard + 1) r (omega arith) (omega (arith, full, heard)) in
    let choice = c.recovery_choice-choice.ensures.value ∙ ap (recovery_choice (quorum k.nodes)) list in
    let phase = c.phase_reported-self-inside.ensures ∙ ap (λ o. phase_reported o k.phase) choice in
    record {
      heard = omega (arith, free, few, at, full, heard);
      room = length-set n.reports n.heard r ∙ full;
      known = subst (λ (x : Known). IsKnown x) (λ j. record (with_report k r) { phase = sym phase j; reports = sym list j }) (with_report-known k r c.self.invariant.known c.requires.0 within new);
    }

pub returns-clause-value : goal.returns-clause-value
returns-clause-value c = λ rest.
    let n = c.self.inside in
    let k : Known = the_view c.self.inside in
    let r : Report = c.args.r in
    let nodes : k.nodes ≡ c.args.self.now.nodes = ap (λ (x : Known). x.nodes) c.self.view_is in
    let asked = c.requires.1 in
    let within : r.node ≤ k.nodes = omega (arith, nodes, asked) in
    let new : slice_index_or k.reported r.node false ≡ false = grind (arith, common_steps) in
    let older : r.adopted < k.session = grind (arith, common_steps) in
    let full = c.self.invariant.room in
    let heard = c.self.invariant.heard in
    let list : take (n.heard + 1) (slice_set n.reports n.heard r) ≡ take n.heard n.reports ++ r ∷ [] = take-set_at n.reports n.heard (n.heard + 1) r (omega arith) (omega (arith, full, heard)) in
    let choice = c.recovery_choice-choice.ensures.value ∙ ap (recovery_choice (quorum k.nodes)) list in
    let phase = c.phase_reported-self-inside.ensures ∙ ap (λ o. phase_reported o k.phase) choice in
    (λ j. server_of (record (with_report k r) { phase = phase j; reports = list j }) rest)
    ∙ (with_report-state k r rest c.self.invariant.known within new older ∙ ap (λ (x : Known). after_report (config_of x) (server_of x rest) r) c.self.view_is)
