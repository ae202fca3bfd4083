use Rattle.std.proofs.Common.{◌+◌, ℕ, sym, ◌∙◌, subst, arith}
use Rattle.tx_model.specs.Framing.{meta_len}
use Rattle.disk_model.proofs.Left.{each_left}
use Rattle.tx_model.specs.Contents.{entries_of, entries_in}
use Rattle.meta_journal.specs.Entries.{HasEntry, IsTidy}
use Rattle.meta_journal.proofs.Written.{writes, syncs, entered}
use Rattle.meta_journal.proofs.journal.Journal.write.Goals as goal

pub returns-in_err-write_at-clause-any_moment : goal.returns-in_err-write_at-clause-any_moment
returns-in_err-write_at-clause-any_moment g c = λ t.
    let old = g.D.Disk.history c.args.disk.now in
    each_left g.D.Disk.plain meta_len (λ gs. HasEntry (entries_in (old.now 0).reads) c.args.entry (entries_of gs)) 0 old (g.D.Disk.history c.write_at.new.self) (g.met.D.Disk.sound c.write_at.new.self t) (g.met.D.Disk.settles c.write_at.new.self t)
    (writes (g.D.Disk.history c.args.disk.now) c.self.inside.end (subst (λ (n : ℕ). IsTidy n ((g.D.Disk.history c.args.disk.now).now 0)) (sym c.self.view_is) (c.requires.tidy t)) c.args.entry c.requires.valid c.split_at.result.0.now (c.split_at.ensures.front ∙ c.encode_meta-len.ensures.spelled) (g.D.Disk.history c.write_at.new.self) (c.write_at.ensures.moments t))

pub returns-in_err-sync-clause-any_moment : goal.returns-in_err-sync-clause-any_moment
returns-in_err-sync-clause-any_moment g c = λ t.
    let old = g.D.Disk.history c.args.disk.now in
    each_left g.D.Disk.plain meta_len (λ gs. HasEntry (entries_in (old.now 0).reads) c.args.entry (entries_of gs)) 0 old (g.D.Disk.history c.sync.new.self) (g.met.D.Disk.sound c.sync.new.self t) (g.met.D.Disk.settles c.sync.new.self t)
    (syncs (g.D.Disk.history c.args.disk.now) c.self.inside.end (subst (λ (n : ℕ). IsTidy n ((g.D.Disk.history c.args.disk.now).now 0)) (sym c.self.view_is) (c.requires.tidy t)) c.args.entry c.requires.valid c.split_at.result.0.now (c.split_at.ensures.front ∙ c.encode_meta-len.ensures.spelled) (g.D.Disk.history c.write_at.new.self) (g.D.Disk.history c.sync.new.self) (c.write_at.ensures.moments t) (c.in_ok-write_at.ensures.reads t) (c.sync.ensures.moments t))

pub returns-clause-any_moment : goal.returns-clause-any_moment
returns-clause-any_moment g c = λ t.
    let old = g.D.Disk.history c.args.disk.now in
    each_left g.D.Disk.plain meta_len (λ gs. HasEntry (entries_in (old.now 0).reads) c.args.entry (entries_of gs)) 0 old (g.D.Disk.history c.sync.new.self) (g.met.D.Disk.sound c.sync.new.self t) (g.met.D.Disk.settles c.sync.new.self t)
    (syncs (g.D.Disk.history c.args.disk.now) c.self.inside.end (subst (λ (n : ℕ). IsTidy n ((g.D.Disk.history c.args.disk.now).now 0)) (sym c.self.view_is) (c.requires.tidy t)) c.args.entry c.requires.valid c.split_at.result.0.now (c.split_at.ensures.front ∙ c.encode_meta-len.ensures.spelled) (g.D.Disk.history c.write_at.new.self) (g.D.Disk.history c.sync.new.self) (c.write_at.ensures.moments t) (c.in_ok-write_at.ensures.reads t) (c.sync.ensures.moments t))

pub returns-clause-done : goal.returns-clause-done
returns-clause-done g c = λ t.
    entered (g.D.Disk.history c.args.disk.now) c.self.inside.end (subst (λ (n : ℕ). IsTidy n ((g.D.Disk.history c.args.disk.now).now 0)) (sym c.self.view_is) (c.requires.tidy t)) c.args.entry c.requires.valid c.split_at.result.0.now (c.split_at.ensures.front ∙ c.encode_meta-len.ensures.spelled) (g.D.Disk.history c.write_at.new.self) (g.D.Disk.history c.sync.new.self) (c.in_ok-write_at.ensures.reads t) (c.in_ok-sync.ensures.synced t)
    (c.self.inside.end + c.encode_meta-len.result) (omega (arith, c.split_at.ensures.front_len))
