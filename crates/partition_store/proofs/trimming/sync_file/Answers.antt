use Rattle.std.proofs.Common.{sym, ◌∙◌}
use Rattle.partition_store.proofs.FirmFiles.{firm-sync, plain-settled, named-none, named-one}
use Rattle.partition_store.proofs.trimming.sync_file.Goals as goal

pub returns-in_default-clause-named : goal.returns-in_default-clause-named
returns-in_default-clause-named g c = λ t. named-none _ c.args.entry.now c.named_file.result c.named_file.ensures c.in_default.not-Some

pub returns-in_err-sync-clause-firm : goal.returns-in_err-sync-clause-firm
returns-in_err-sync-clause-firm g c = λ t frames same firm. firm-sync frames c.in-Some.file _ _ firm (same c.in-Some.file) (c.sync.ensures.moments t)

pub returns-clause-named : goal.returns-clause-named
returns-clause-named g c = λ t. named-one _ c.args.entry.now c.in-Some.file (sym c.named_file.ensures ∙ c.in-Some.is) (plain-settled _ _ (c.in_ok-sync.ensures.synced t))

pub returns-clause-firm : goal.returns-clause-firm
returns-clause-firm g c = λ t frames same firm. firm-sync frames c.in-Some.file _ _ firm (same c.in-Some.file) (c.sync.ensures.moments t)
