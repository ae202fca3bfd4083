use Rattle.partition_store.proofs.Begun.{aside_then}
use Rattle.partition_store.proofs.staging.prepare.Goals as goal

pub returns-in_err-sync-clause-others : goal.returns-in_err-sync-clause-others
returns-in_err-sync-clause-others g c = λ t.
    aside_then c.args.file _ _ (g.D.Disk.history c.args.disk.now) (g.D.Disk.history c.cut.new.self) (g.D.Disk.history c.sync.new.self) (c.cut.ensures.moments t) (c.sync.ensures.moments t)

pub returns-clause-others : goal.returns-clause-others
returns-clause-others g c = λ t.
    aside_then c.args.file _ _ (g.D.Disk.history c.args.disk.now) (g.D.Disk.history c.cut.new.self) (g.D.Disk.history c.sync.new.self) (c.cut.ensures.moments t) (c.sync.ensures.moments t)
