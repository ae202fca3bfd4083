use Rattle.std.proofs.Common.{◌≡◌, Some, sym, arith}
use Rattle.std.proofs.lemmas.Grind.{common_steps}
use Rattle.proto_model.specs.Choices.{recovery_choice}
use Rattle.proto_model.specs.Quorums.{quorum}
use Rattle.session_recovery.proofs.Choosing.{choice_greatest}
use Rattle.session_recovery.proofs.choice.recovery_choice.Goals as goal

pub returns-clause-chosen : goal.returns-clause-chosen
returns-clause-chosen c =
    let value : Some c.loop-report.best ≡ recovery_choice (quorum c.args.nodes) c.args.reports.now = grind (arith, common_steps) in
    choice_greatest (quorum c.args.nodes) c.args.reports.now c.loop-report.best (omega arith) (sym value)
