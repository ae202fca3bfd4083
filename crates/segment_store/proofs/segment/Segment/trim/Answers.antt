use Rattle.std.proofs.Common.{◌≡◌, ℕ, sym, ap, subst}
use Rattle.tx_model.specs.Framing.{record_len}
use Rattle.tx_model.specs.Frames.{joined, frames_in}
use Rattle.disk_model.specs.Frames.{IsFirm, HasFirmFrames}
use Rattle.disk_model.specs.History.{EachMoment}
use Rattle.disk_model.proofs.Trimmed.{trim_cuts, trim_syncs}
use Rattle.tx_model.specs.Contents.{records_in}
use Rattle.segment_store.specs.Records.{EachLeftHolds}
use Rattle.segment_store.specs.Index.{Index, IsWholeIndexOf, IsTidy}
use Rattle.segment_store.proofs.Indexing.{framing}
use Rattle.segment_store.proofs.Loaded.{firm_records, load_end, load_cut, load_records, load_tidy}
use Rattle.segment_store.proofs.segment.Segment.trim.Goals as goal

pub returns-in_err-cut-clause-firm : goal.returns-in_err-cut-clause-firm
returns-in_err-cut-clause-firm g c = λ t start.
    let s = c.args.self.now in
    let old = g.D.Disk.history c.args.disk.now in
    let q = c.self.inside.file in
    let same : q ≡ s.file = ap (λ (i : Index). i.file) c.self.view_is in
    let end : c.self.inside.end ≡ s.end = ap (λ (i : Index). i.end) c.self.view_is in
    let whole : IsWholeIndexOf s (old.now q).reads = subst (λ (n : ℕ). IsWholeIndexOf s (old.now n).reads) (sym same) (c.requires t) in
    subst (λ (n : ℕ). EachMoment n (IsFirm record_len (frames_in record_len (old.now n).reads)) old (g.D.Disk.history c.cut.new.self)) same
    (trim_cuts record_len framing q old c.self.inside.end (load_end q s c.self.inside.end end old whole) (g.D.Disk.history c.cut.new.self) (c.cut.ensures.moments t) (g.met.D.Disk.sound c.cut.new.self t) (subst (λ (n : ℕ). HasFirmFrames record_len (old.now n)) (sym same) start))

pub returns-in_err-cut-clause-any_moment : goal.returns-in_err-cut-clause-any_moment
returns-in_err-cut-clause-any_moment g c = λ t start.
    let s = c.args.self.now in
    let old = g.D.Disk.history c.args.disk.now in
    let q = c.self.inside.file in
    let same : q ≡ s.file = ap (λ (i : Index). i.file) c.self.view_is in
    let end : c.self.inside.end ≡ s.end = ap (λ (i : Index). i.end) c.self.view_is in
    let whole : IsWholeIndexOf s (old.now q).reads = subst (λ (n : ℕ). IsWholeIndexOf s (old.now n).reads) (sym same) (c.requires t) in
    subst (λ (n : ℕ). EachMoment n (EachLeftHolds g.D.Disk.plain (λ rs. rs ≡ records_in (old.now n).reads)) old (g.D.Disk.history c.cut.new.self)) same
    (firm_records g.D.Disk.plain q old (g.D.Disk.history c.cut.new.self) (g.met.D.Disk.sound c.cut.new.self t) (g.met.D.Disk.settles c.cut.new.self t)
    (trim_cuts record_len framing q old c.self.inside.end (load_end q s c.self.inside.end end old whole) (g.D.Disk.history c.cut.new.self) (c.cut.ensures.moments t) (g.met.D.Disk.sound c.cut.new.self t) (subst (λ (n : ℕ). HasFirmFrames record_len (old.now n)) (sym same) start)))

pub returns-in_err-sync-clause-firm : goal.returns-in_err-sync-clause-firm
returns-in_err-sync-clause-firm g c = λ t start.
    let s = c.args.self.now in
    let old = g.D.Disk.history c.args.disk.now in
    let q = c.self.inside.file in
    let same : q ≡ s.file = ap (λ (i : Index). i.file) c.self.view_is in
    let end : c.self.inside.end ≡ s.end = ap (λ (i : Index). i.end) c.self.view_is in
    let whole : IsWholeIndexOf s (old.now q).reads = subst (λ (n : ℕ). IsWholeIndexOf s (old.now n).reads) (sym same) (c.requires t) in
    subst (λ (n : ℕ). EachMoment n (IsFirm record_len (frames_in record_len (old.now n).reads)) old (g.D.Disk.history c.sync.new.self)) same
    (trim_syncs record_len framing q old c.self.inside.end (load_end q s c.self.inside.end end old whole) (g.D.Disk.history c.cut.new.self) (g.D.Disk.history c.sync.new.self) (c.cut.ensures.moments t) (g.met.D.Disk.sound c.cut.new.self t) (c.in_ok-cut.ensures.reads t) (c.sync.ensures.moments t) (subst (λ (n : ℕ). HasFirmFrames record_len (old.now n)) (sym same) start))

pub returns-in_err-sync-clause-any_moment : goal.returns-in_err-sync-clause-any_moment
returns-in_err-sync-clause-any_moment g c = λ t start.
    let s = c.args.self.now in
    let old = g.D.Disk.history c.args.disk.now in
    let q = c.self.inside.file in
    let same : q ≡ s.file = ap (λ (i : Index). i.file) c.self.view_is in
    let end : c.self.inside.end ≡ s.end = ap (λ (i : Index). i.end) c.self.view_is in
    let whole : IsWholeIndexOf s (old.now q).reads = subst (λ (n : ℕ). IsWholeIndexOf s (old.now n).reads) (sym same) (c.requires t) in
    subst (λ (n : ℕ). EachMoment n (EachLeftHolds g.D.Disk.plain (λ rs. rs ≡ records_in (old.now n).reads)) old (g.D.Disk.history c.sync.new.self)) same
    (firm_records g.D.Disk.plain q old (g.D.Disk.history c.sync.new.self) (g.met.D.Disk.sound c.sync.new.self t) (g.met.D.Disk.settles c.sync.new.self t)
    (trim_syncs record_len framing q old c.self.inside.end (load_end q s c.self.inside.end end old whole) (g.D.Disk.history c.cut.new.self) (g.D.Disk.history c.sync.new.self) (c.cut.ensures.moments t) (g.met.D.Disk.sound c.cut.new.self t) (c.in_ok-cut.ensures.reads t) (c.sync.ensures.moments t) (subst (λ (n : ℕ). HasFirmFrames record_len (old.now n)) (sym same) start)))

pub returns-clause-firm : goal.returns-clause-firm
returns-clause-firm g c = λ t start.
    let s = c.args.self.now in
    let old = g.D.Disk.history c.args.disk.now in
    let q = c.self.inside.file in
    let same : q ≡ s.file = ap (λ (i : Index). i.file) c.self.view_is in
    let end : c.self.inside.end ≡ s.end = ap (λ (i : Index). i.end) c.self.view_is in
    let whole : IsWholeIndexOf s (old.now q).reads = subst (λ (n : ℕ). IsWholeIndexOf s (old.now n).reads) (sym same) (c.requires t) in
    subst (λ (n : ℕ). EachMoment n (IsFirm record_len (frames_in record_len (old.now n).reads)) old (g.D.Disk.history c.sync.new.self)) same
    (trim_syncs record_len framing q old c.self.inside.end (load_end q s c.self.inside.end end old whole) (g.D.Disk.history c.cut.new.self) (g.D.Disk.history c.sync.new.self) (c.cut.ensures.moments t) (g.met.D.Disk.sound c.cut.new.self t) (c.in_ok-cut.ensures.reads t) (c.sync.ensures.moments t) (subst (λ (n : ℕ). HasFirmFrames record_len (old.now n)) (sym same) start))

pub returns-clause-any_moment : goal.returns-clause-any_moment
returns-clause-any_moment g c = λ t start.
    let s = c.args.self.now in
    let old = g.D.Disk.history c.args.disk.now in
    let q = c.self.inside.file in
    let same : q ≡ s.file = ap (λ (i : Index). i.file) c.self.view_is in
    let end : c.self.inside.end ≡ s.end = ap (λ (i : Index). i.end) c.self.view_is in
    let whole : IsWholeIndexOf s (old.now q).reads = subst (λ (n : ℕ). IsWholeIndexOf s (old.now n).reads) (sym same) (c.requires t) in
    subst (λ (n : ℕ). EachMoment n (EachLeftHolds g.D.Disk.plain (λ rs. rs ≡ records_in (old.now n).reads)) old (g.D.Disk.history c.sync.new.self)) same
    (firm_records g.D.Disk.plain q old (g.D.Disk.history c.sync.new.self) (g.met.D.Disk.sound c.sync.new.self t) (g.met.D.Disk.settles c.sync.new.self t)
    (trim_syncs record_len framing q old c.self.inside.end (load_end q s c.self.inside.end end old whole) (g.D.Disk.history c.cut.new.self) (g.D.Disk.history c.sync.new.self) (c.cut.ensures.moments t) (g.met.D.Disk.sound c.cut.new.self t) (c.in_ok-cut.ensures.reads t) (c.sync.ensures.moments t) (subst (λ (n : ℕ). HasFirmFrames record_len (old.now n)) (sym same) start)))

pub returns-clause-tidy : goal.returns-clause-tidy
returns-clause-tidy g c = λ t.
    let s = c.args.self.now in
    let old = g.D.Disk.history c.args.disk.now in
    let q = c.self.inside.file in
    let same : q ≡ s.file = ap (λ (i : Index). i.file) c.self.view_is in
    let end : c.self.inside.end ≡ s.end = ap (λ (i : Index). i.end) c.self.view_is in
    let whole : IsWholeIndexOf s (old.now q).reads = subst (λ (n : ℕ). IsWholeIndexOf s (old.now n).reads) (sym same) (c.requires t) in
    subst (λ (n : ℕ). IsTidy s ((g.D.Disk.history c.sync.new.self).now n)) same (load_tidy q s c.self.inside.end end old whole (g.D.Disk.history c.cut.new.self) (g.D.Disk.history c.sync.new.self) (c.in_ok-cut.ensures.reads t) (c.in_ok-sync.ensures.synced t))

pub returns-clause-cut : goal.returns-clause-cut
returns-clause-cut g c = λ t.
    let s = c.args.self.now in
    let old = g.D.Disk.history c.args.disk.now in
    let q = c.self.inside.file in
    let same : q ≡ s.file = ap (λ (i : Index). i.file) c.self.view_is in
    let end : c.self.inside.end ≡ s.end = ap (λ (i : Index). i.end) c.self.view_is in
    let whole : IsWholeIndexOf s (old.now q).reads = subst (λ (n : ℕ). IsWholeIndexOf s (old.now n).reads) (sym same) (c.requires t) in
    subst (λ (n : ℕ). ((g.D.Disk.history c.sync.new.self).now n).reads ≡ joined (frames_in record_len (old.now n).reads)) same (load_cut q s c.self.inside.end end old whole (g.D.Disk.history c.cut.new.self) (g.D.Disk.history c.sync.new.self) (c.in_ok-cut.ensures.reads t) (c.in_ok-sync.ensures.synced t))

pub returns-clause-records : goal.returns-clause-records
returns-clause-records g c = λ t.
    let s = c.args.self.now in
    let old = g.D.Disk.history c.args.disk.now in
    let q = c.self.inside.file in
    let same : q ≡ s.file = ap (λ (i : Index). i.file) c.self.view_is in
    let end : c.self.inside.end ≡ s.end = ap (λ (i : Index). i.end) c.self.view_is in
    let whole : IsWholeIndexOf s (old.now q).reads = subst (λ (n : ℕ). IsWholeIndexOf s (old.now n).reads) (sym same) (c.requires t) in
    subst (λ (n : ℕ). records_in ((g.D.Disk.history c.sync.new.self).now n).reads ≡ records_in (old.now n).reads) same (load_records q s c.self.inside.end end old whole (g.D.Disk.history c.cut.new.self) (g.D.Disk.history c.sync.new.self) (c.in_ok-cut.ensures.reads t) (c.in_ok-sync.ensures.synced t))
