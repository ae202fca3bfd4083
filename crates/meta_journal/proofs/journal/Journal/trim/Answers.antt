use Rattle.std.proofs.Common.{ℕ, ◌∙◌, ap, subst}
use Rattle.tx_model.specs.Framing.{meta_len}
use Rattle.disk_model.proofs.Trimmed.{trim_cuts, trim_syncs, trimmed, trimmed_frames, trimmed_rest}
use Rattle.tx_model.specs.Contents.{entries_of}
use Rattle.meta_journal.specs.Entries.{IsTidy}
use Rattle.meta_journal.proofs.Framed.{framing}
use Rattle.meta_journal.proofs.Written.{firm_entries}
use Rattle.meta_journal.proofs.journal.Journal.trim.Goals as goal

pub returns-in_err-cut-clause-firm : goal.returns-in_err-cut-clause-firm
returns-in_err-cut-clause-firm g c = λ t start.
    let old = g.D.Disk.history c.args.disk.now in
    trim_cuts meta_len framing 0 old c.self.inside.end (c.self.view_is ∙ c.requires t) (g.D.Disk.history c.cut.new.self) (c.cut.ensures.moments t) (g.met.D.Disk.sound c.cut.new.self t) start

pub returns-in_err-cut-clause-any_moment : goal.returns-in_err-cut-clause-any_moment
returns-in_err-cut-clause-any_moment g c = λ t start.
    let old = g.D.Disk.history c.args.disk.now in
    firm_entries g.D.Disk.plain old (g.D.Disk.history c.cut.new.self) (g.met.D.Disk.sound c.cut.new.self t) (g.met.D.Disk.settles c.cut.new.self t)
    (trim_cuts meta_len framing 0 old c.self.inside.end (c.self.view_is ∙ c.requires t) (g.D.Disk.history c.cut.new.self) (c.cut.ensures.moments t) (g.met.D.Disk.sound c.cut.new.self t) start)

pub returns-in_err-sync-clause-firm : goal.returns-in_err-sync-clause-firm
returns-in_err-sync-clause-firm g c = λ t start.
    let old = g.D.Disk.history c.args.disk.now in
    trim_syncs meta_len framing 0 old c.self.inside.end (c.self.view_is ∙ c.requires t) (g.D.Disk.history c.cut.new.self) (g.D.Disk.history c.sync.new.self) (c.cut.ensures.moments t) (g.met.D.Disk.sound c.cut.new.self t) (c.in_ok-cut.ensures.reads t) (c.sync.ensures.moments t) start

pub returns-in_err-sync-clause-any_moment : goal.returns-in_err-sync-clause-any_moment
returns-in_err-sync-clause-any_moment g c = λ t start.
    let old = g.D.Disk.history c.args.disk.now in
    firm_entries g.D.Disk.plain old (g.D.Disk.history c.sync.new.self) (g.met.D.Disk.sound c.sync.new.self t) (g.met.D.Disk.settles c.sync.new.self t)
    (trim_syncs meta_len framing 0 old c.self.inside.end (c.self.view_is ∙ c.requires t) (g.D.Disk.history c.cut.new.self) (g.D.Disk.history c.sync.new.self) (c.cut.ensures.moments t) (g.met.D.Disk.sound c.cut.new.self t) (c.in_ok-cut.ensures.reads t) (c.sync.ensures.moments t) start)

pub returns-clause-firm : goal.returns-clause-firm
returns-clause-firm g c = λ t start.
    let old = g.D.Disk.history c.args.disk.now in
    trim_syncs meta_len framing 0 old c.self.inside.end (c.self.view_is ∙ c.requires t) (g.D.Disk.history c.cut.new.self) (g.D.Disk.history c.sync.new.self) (c.cut.ensures.moments t) (g.met.D.Disk.sound c.cut.new.self t) (c.in_ok-cut.ensures.reads t) (c.sync.ensures.moments t) start

pub returns-clause-any_moment : goal.returns-clause-any_moment
returns-clause-any_moment g c = λ t start.
    let old = g.D.Disk.history c.args.disk.now in
    firm_entries g.D.Disk.plain old (g.D.Disk.history c.sync.new.self) (g.met.D.Disk.sound c.sync.new.self t) (g.met.D.Disk.settles c.sync.new.self t)
    (trim_syncs meta_len framing 0 old c.self.inside.end (c.self.view_is ∙ c.requires t) (g.D.Disk.history c.cut.new.self) (g.D.Disk.history c.sync.new.self) (c.cut.ensures.moments t) (g.met.D.Disk.sound c.cut.new.self t) (c.in_ok-cut.ensures.reads t) (c.sync.ensures.moments t) start)

pub returns-clause-tidy : goal.returns-clause-tidy
returns-clause-tidy g c = λ t.
    let old = g.D.Disk.history c.args.disk.now in
    subst (λ (n : ℕ). IsTidy n ((g.D.Disk.history c.sync.new.self).now 0)) c.self.view_is
    (trimmed_rest meta_len framing 0 old c.self.inside.end (c.self.view_is ∙ c.requires t) (g.D.Disk.history c.cut.new.self) (g.D.Disk.history c.sync.new.self) (c.in_ok-cut.ensures.reads t) (c.in_ok-sync.ensures.synced t))

pub returns-clause-cut : goal.returns-clause-cut
returns-clause-cut g c = λ t.
    let old = g.D.Disk.history c.args.disk.now in
    trimmed meta_len framing 0 old c.self.inside.end (c.self.view_is ∙ c.requires t) (g.D.Disk.history c.cut.new.self) (g.D.Disk.history c.sync.new.self) (c.in_ok-cut.ensures.reads t) (c.in_ok-sync.ensures.synced t)

pub returns-clause-same : goal.returns-clause-same
returns-clause-same g c = λ t.
    let old = g.D.Disk.history c.args.disk.now in
    ap entries_of (trimmed_frames meta_len framing 0 old c.self.inside.end (c.self.view_is ∙ c.requires t) (g.D.Disk.history c.cut.new.self) (g.D.Disk.history c.sync.new.self) (c.in_ok-cut.ensures.reads t) (c.in_ok-sync.ensures.synced t))
