use Rattle.tx_model.specs.Framing.{meta_len}
use Rattle.disk_model.proofs.Trimmed.{trim_cuts, trim_syncs}
use Rattle.session_register.proofs.Framed.{framing}
use Rattle.session_register.proofs.Loaded.{trimmed_tidy}
use Rattle.session_register.proofs.entries.trim.Goals as goal

pub returns-in_err-cut-clause-firm : goal.returns-in_err-cut-clause-firm
returns-in_err-cut-clause-firm g c = λ t start.
    trim_cuts meta_len framing 0 (g.D.Disk.history c.args.disk.now) c.args.end (c.requires t) (g.D.Disk.history c.cut.new.self) (c.cut.ensures.moments t) (g.met.D.Disk.sound c.cut.new.self t) start

pub returns-in_err-sync-clause-firm : goal.returns-in_err-sync-clause-firm
returns-in_err-sync-clause-firm g c = λ t start.
    trim_syncs meta_len framing 0 (g.D.Disk.history c.args.disk.now) c.args.end (c.requires t) (g.D.Disk.history c.cut.new.self) (g.D.Disk.history c.sync.new.self) (c.cut.ensures.moments t) (g.met.D.Disk.sound c.cut.new.self t) (c.in_ok-cut.ensures.reads t) (c.sync.ensures.moments t) start

pub returns-clause-firm : goal.returns-clause-firm
returns-clause-firm g c = λ t start.
    trim_syncs meta_len framing 0 (g.D.Disk.history c.args.disk.now) c.args.end (c.requires t) (g.D.Disk.history c.cut.new.self) (g.D.Disk.history c.sync.new.self) (c.cut.ensures.moments t) (g.met.D.Disk.sound c.cut.new.self t) (c.in_ok-cut.ensures.reads t) (c.sync.ensures.moments t) start

pub returns-clause-tidy : goal.returns-clause-tidy
returns-clause-tidy g c = λ t number stands.
    trimmed_tidy (g.D.Disk.history c.args.disk.now) (g.D.Disk.history c.cut.new.self) (g.D.Disk.history c.sync.new.self) c.args.end (c.requires t) (c.in_ok-cut.ensures.reads t) (c.in_ok-sync.ensures.synced t) number stands
