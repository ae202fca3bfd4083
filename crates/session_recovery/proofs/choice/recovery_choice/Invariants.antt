use Rattle.std.proofs.Common.{◌≡◌, drop}
use Rattle.proto_model.specs.Choices.{best}
use Rattle.session_recovery.proofs.choice.recovery_choice.Given as goal

-- the best so far and what is left give the best of all
abbrev pub invariant-loop-report : goal.invariant-loop-report
invariant-loop-report l = best l.best (drop l.report-index l.report-items) ≡ best l.initial.best l.report-items
