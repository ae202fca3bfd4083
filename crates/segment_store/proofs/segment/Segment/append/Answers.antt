use Rattle.std.proofs.Common.{◌≡◌, ◌+◌, ◌<◌, ◌^◌, ◌++◌, List, ℕ, length, sym, ◌∙◌, ap, subst, arith}
use Rattle.tx_model.proofs.Batches.{RiseByOne-All}
use Rattle.tx_model.specs.Framing.{record_len}
use Rattle.disk_model.specs.File.{IsImage}
use Rattle.tx_model.specs.Frames.{joined}
use Rattle.disk_model.specs.History.{EachMoment}
use Rattle.tx_model.specs.Contents.{records_of, records_in}
use Rattle.segment_store.specs.Records.{frames_of, HasPrefixOf, EachLeftHolds}
use Rattle.segment_store.specs.Index.{Index, count_of, starts_of, IsTidy, IsLoadable}
use Rattle.disk_model.proofs.Left.{each_left}
use Rattle.segment_store.proofs.Appended.{writes, syncs, can_load, added, in_each, tidy_then}
use Rattle.segment_store.proofs.segment.Segment.append.Goals as goal

pub encode_all-requires : goal.encode_all-requires
encode_all-requires g c = RiseByOne-All (c.args.self.now.first + count_of c.args.self.now) c.args.records.now c.requires.ids

pub returns-in_err-write_at-clause-any_moment : goal.returns-in_err-write_at-clause-any_moment
returns-in_err-write_at-clause-any_moment g c = λ t.
    let s = c.args.self.now in
    let old = g.D.Disk.history c.args.disk.now in
    let q = c.self.inside.file in
    let same : q ≡ s.file = ap (λ (i : Index). i.file) c.self.view_is in
    let end : c.self.inside.end ≡ s.end = ap (λ (i : Index). i.end) c.self.view_is in
    let tidy : IsTidy s (old.now q) = subst (λ (n : ℕ). IsTidy s (old.now n)) (sym same) (c.requires.tidy t) in
    let bytes : c.deref.result.now ≡ joined (frames_of c.args.records.now) = c.deref.ensures.value ∙ c.in_ok-frames.ensures.bytes in
    subst (λ (n : ℕ). EachMoment n (EachLeftHolds g.D.Disk.plain (HasPrefixOf (records_in (old.now n).reads) c.args.records.now)) old (g.D.Disk.history c.write_at.new.self)) same
    (each_left g.D.Disk.plain record_len (λ gs. HasPrefixOf (records_in (old.now q).reads) c.args.records.now (records_of gs)) q old (g.D.Disk.history c.write_at.new.self) (g.met.D.Disk.sound c.write_at.new.self t) (g.met.D.Disk.settles c.write_at.new.self t)
    (writes q s c.self.inside.end end old tidy c.args.records.now c.requires.ids c.deref.result.now bytes (g.D.Disk.history c.write_at.new.self) (c.write_at.ensures.moments t)))

pub returns-in_err-write_at-clause-loadable : goal.returns-in_err-write_at-clause-loadable
returns-in_err-write_at-clause-loadable g c = λ t.
    let s = c.args.self.now in
    let old = g.D.Disk.history c.args.disk.now in
    let q = c.self.inside.file in
    let same : q ≡ s.file = ap (λ (i : Index). i.file) c.self.view_is in
    let end : c.self.inside.end ≡ s.end = ap (λ (i : Index). i.end) c.self.view_is in
    let tidy : IsTidy s (old.now q) = subst (λ (n : ℕ). IsTidy s (old.now n)) (sym same) (c.requires.tidy t) in
    let bytes : c.deref.result.now ≡ joined (frames_of c.args.records.now) = c.deref.ensures.value ∙ c.in_ok-frames.ensures.bytes in
    subst (λ (n : ℕ). EachMoment n (EachLeftHolds g.D.Disk.plain (IsLoadable s.first (count_of s))) old (g.D.Disk.history c.write_at.new.self)) same
    (each_left g.D.Disk.plain record_len (λ gs. IsLoadable s.first (count_of s) (records_of gs)) q old (g.D.Disk.history c.write_at.new.self) (g.met.D.Disk.sound c.write_at.new.self t) (g.met.D.Disk.settles c.write_at.new.self t)
    (can_load q s c.self.inside.end end old tidy c.args.records.now c.requires.ids c.deref.result.now bytes (g.D.Disk.history c.write_at.new.self) (writes q s c.self.inside.end end old tidy c.args.records.now c.requires.ids c.deref.result.now bytes (g.D.Disk.history c.write_at.new.self) (c.write_at.ensures.moments t))))

pub returns-in_err-sync-clause-any_moment : goal.returns-in_err-sync-clause-any_moment
returns-in_err-sync-clause-any_moment g c = λ t.
    let s = c.args.self.now in
    let old = g.D.Disk.history c.args.disk.now in
    let q = c.self.inside.file in
    let same : q ≡ s.file = ap (λ (i : Index). i.file) c.self.view_is in
    let end : c.self.inside.end ≡ s.end = ap (λ (i : Index). i.end) c.self.view_is in
    let tidy : IsTidy s (old.now q) = subst (λ (n : ℕ). IsTidy s (old.now n)) (sym same) (c.requires.tidy t) in
    let bytes : c.deref.result.now ≡ joined (frames_of c.args.records.now) = c.deref.ensures.value ∙ c.in_ok-frames.ensures.bytes in
    subst (λ (n : ℕ). EachMoment n (EachLeftHolds g.D.Disk.plain (HasPrefixOf (records_in (old.now n).reads) c.args.records.now)) old (g.D.Disk.history c.sync.new.self)) same
    (each_left g.D.Disk.plain record_len (λ gs. HasPrefixOf (records_in (old.now q).reads) c.args.records.now (records_of gs)) q old (g.D.Disk.history c.sync.new.self) (g.met.D.Disk.sound c.sync.new.self t) (g.met.D.Disk.settles c.sync.new.self t)
    (syncs q s c.self.inside.end end old tidy c.args.records.now c.requires.ids c.deref.result.now bytes (g.D.Disk.history c.write_at.new.self) (g.D.Disk.history c.sync.new.self) (c.write_at.ensures.moments t) (c.in_ok-write_at.ensures.reads t) (c.sync.ensures.moments t)))

pub returns-in_err-sync-clause-loadable : goal.returns-in_err-sync-clause-loadable
returns-in_err-sync-clause-loadable g c = λ t.
    let s = c.args.self.now in
    let old = g.D.Disk.history c.args.disk.now in
    let q = c.self.inside.file in
    let same : q ≡ s.file = ap (λ (i : Index). i.file) c.self.view_is in
    let end : c.self.inside.end ≡ s.end = ap (λ (i : Index). i.end) c.self.view_is in
    let tidy : IsTidy s (old.now q) = subst (λ (n : ℕ). IsTidy s (old.now n)) (sym same) (c.requires.tidy t) in
    let bytes : c.deref.result.now ≡ joined (frames_of c.args.records.now) = c.deref.ensures.value ∙ c.in_ok-frames.ensures.bytes in
    subst (λ (n : ℕ). EachMoment n (EachLeftHolds g.D.Disk.plain (IsLoadable s.first (count_of s))) old (g.D.Disk.history c.sync.new.self)) same
    (each_left g.D.Disk.plain record_len (λ gs. IsLoadable s.first (count_of s) (records_of gs)) q old (g.D.Disk.history c.sync.new.self) (g.met.D.Disk.sound c.sync.new.self t) (g.met.D.Disk.settles c.sync.new.self t)
    (can_load q s c.self.inside.end end old tidy c.args.records.now c.requires.ids c.deref.result.now bytes (g.D.Disk.history c.sync.new.self) (syncs q s c.self.inside.end end old tidy c.args.records.now c.requires.ids c.deref.result.now bytes (g.D.Disk.history c.write_at.new.self) (g.D.Disk.history c.sync.new.self) (c.write_at.ensures.moments t) (c.in_ok-write_at.ensures.reads t) (c.sync.ensures.moments t))))

pub returns-clause-any_moment : goal.returns-clause-any_moment
returns-clause-any_moment g c = λ t.
    let s = c.args.self.now in
    let old = g.D.Disk.history c.args.disk.now in
    let q = c.self.inside.file in
    let same : q ≡ s.file = ap (λ (i : Index). i.file) c.self.view_is in
    let end : c.self.inside.end ≡ s.end = ap (λ (i : Index). i.end) c.self.view_is in
    let tidy : IsTidy s (old.now q) = subst (λ (n : ℕ). IsTidy s (old.now n)) (sym same) (c.requires.tidy t) in
    let bytes : c.deref.result.now ≡ joined (frames_of c.args.records.now) = c.deref.ensures.value ∙ c.in_ok-frames.ensures.bytes in
    subst (λ (n : ℕ). EachMoment n (EachLeftHolds g.D.Disk.plain (HasPrefixOf (records_in (old.now n).reads) c.args.records.now)) old (g.D.Disk.history c.sync.new.self)) same
    (each_left g.D.Disk.plain record_len (λ gs. HasPrefixOf (records_in (old.now q).reads) c.args.records.now (records_of gs)) q old (g.D.Disk.history c.sync.new.self) (g.met.D.Disk.sound c.sync.new.self t) (g.met.D.Disk.settles c.sync.new.self t)
    (syncs q s c.self.inside.end end old tidy c.args.records.now c.requires.ids c.deref.result.now bytes (g.D.Disk.history c.write_at.new.self) (g.D.Disk.history c.sync.new.self) (c.write_at.ensures.moments t) (c.in_ok-write_at.ensures.reads t) (c.sync.ensures.moments t)))

pub returns-clause-loadable : goal.returns-clause-loadable
returns-clause-loadable g c = λ t.
    let s = c.args.self.now in
    let old = g.D.Disk.history c.args.disk.now in
    let q = c.self.inside.file in
    let same : q ≡ s.file = ap (λ (i : Index). i.file) c.self.view_is in
    let end : c.self.inside.end ≡ s.end = ap (λ (i : Index). i.end) c.self.view_is in
    let tidy : IsTidy s (old.now q) = subst (λ (n : ℕ). IsTidy s (old.now n)) (sym same) (c.requires.tidy t) in
    let bytes : c.deref.result.now ≡ joined (frames_of c.args.records.now) = c.deref.ensures.value ∙ c.in_ok-frames.ensures.bytes in
    subst (λ (n : ℕ). EachMoment n (EachLeftHolds g.D.Disk.plain (IsLoadable s.first (count_of s))) old (g.D.Disk.history c.sync.new.self)) same
    (each_left g.D.Disk.plain record_len (λ gs. IsLoadable s.first (count_of s) (records_of gs)) q old (g.D.Disk.history c.sync.new.self) (g.met.D.Disk.sound c.sync.new.self t) (g.met.D.Disk.settles c.sync.new.self t)
    (can_load q s c.self.inside.end end old tidy c.args.records.now c.requires.ids c.deref.result.now bytes (g.D.Disk.history c.sync.new.self) (syncs q s c.self.inside.end end old tidy c.args.records.now c.requires.ids c.deref.result.now bytes (g.D.Disk.history c.write_at.new.self) (g.D.Disk.history c.sync.new.self) (c.write_at.ensures.moments t) (c.in_ok-write_at.ensures.reads t) (c.sync.ensures.moments t))))

pub returns-clause-every_image : goal.returns-clause-every_image
returns-clause-every_image g c = λ t.
    let s = c.args.self.now in
    let old = g.D.Disk.history c.args.disk.now in
    let q = c.self.inside.file in
    let same : q ≡ s.file = ap (λ (i : Index). i.file) c.self.view_is in
    let end : c.self.inside.end ≡ s.end = ap (λ (i : Index). i.end) c.self.view_is in
    let tidy : IsTidy s (old.now q) = subst (λ (n : ℕ). IsTidy s (old.now n)) (sym same) (c.requires.tidy t) in
    let bytes : c.deref.result.now ≡ joined (frames_of c.args.records.now) = c.deref.ensures.value ∙ c.in_ok-frames.ensures.bytes in
    subst (λ (n : ℕ). (image : List ℕ) → IsImage ((g.D.Disk.history c.sync.new.self).now n) image → records_in image ≡ records_in (old.now n).reads ++ c.args.records.now) same (in_each q s c.self.inside.end end old tidy c.args.records.now c.requires.ids c.deref.result.now bytes (g.D.Disk.history c.write_at.new.self) (g.D.Disk.history c.sync.new.self) (c.in_ok-write_at.ensures.reads t) (c.in_ok-sync.ensures.synced t))

pub returns-clause-records : goal.returns-clause-records
returns-clause-records g c = λ t.
    let s = c.args.self.now in
    let old = g.D.Disk.history c.args.disk.now in
    let q = c.self.inside.file in
    let same : q ≡ s.file = ap (λ (i : Index). i.file) c.self.view_is in
    let end : c.self.inside.end ≡ s.end = ap (λ (i : Index). i.end) c.self.view_is in
    let tidy : IsTidy s (old.now q) = subst (λ (n : ℕ). IsTidy s (old.now n)) (sym same) (c.requires.tidy t) in
    let bytes : c.deref.result.now ≡ joined (frames_of c.args.records.now) = c.deref.ensures.value ∙ c.in_ok-frames.ensures.bytes in
    subst (λ (n : ℕ). records_in ((g.D.Disk.history c.sync.new.self).now n).reads ≡ records_in (old.now n).reads ++ c.args.records.now) same (added q s c.self.inside.end end old tidy c.args.records.now c.requires.ids c.deref.result.now bytes (g.D.Disk.history c.write_at.new.self) (g.D.Disk.history c.sync.new.self) (c.in_ok-write_at.ensures.reads t) (c.in_ok-sync.ensures.synced t))

pub returns-clause-tidy : goal.returns-clause-tidy
returns-clause-tidy g c = λ t.
    let s = c.args.self.now in
    let old = g.D.Disk.history c.args.disk.now in
    let q = c.self.inside.file in
    let same : q ≡ s.file = ap (λ (i : Index). i.file) c.self.view_is in
    let end : c.self.inside.end ≡ s.end = ap (λ (i : Index). i.end) c.self.view_is in
    let tidy : IsTidy s (old.now q) = subst (λ (n : ℕ). IsTidy s (old.now n)) (sym same) (c.requires.tidy t) in
    let bytes : c.deref.result.now ≡ joined (frames_of c.args.records.now) = c.deref.ensures.value ∙ c.in_ok-frames.ensures.bytes in
    let room : c.self.inside.end + length c.in_ok-frames.frames.bytes.items < 2 ^ 64 = omega (arith, c.in_ok-write_at.ensures.room, ap length c.deref.ensures.value) in
    let starts : c.add_in_room.new.starts.items ≡ s.starts ++ starts_of c.self.inside.end (frames_of c.args.records.now) =
    c.add_in_room.ensures ∙ ap (λ (l : List ℕ). l ++ c.deref-2.result.now) (c.reserve.ensures.items ∙ ap (λ (i : Index). i.starts) c.self.view_is)
    ∙ ap (λ (l : List ℕ). s.starts ++ l) (c.deref-2.ensures.value ∙ c.in_ok-frames.ensures.starts room) in
    let longer : c.self.inside.end + c.len-2.result ≡ c.self.inside.end + length c.deref.result.now = omega (arith, c.len-2.ensures, c.deref.ensures.len) in
    let then : Index = record { file = q; first = c.self.inside.first; starts = c.add_in_room.new.starts.items; end = c.self.inside.end + c.len-2.result } in
    tidy_then q s c.self.inside.end end old tidy c.args.records.now c.requires.ids c.deref.result.now bytes (g.D.Disk.history c.write_at.new.self) (g.D.Disk.history c.sync.new.self) (c.in_ok-write_at.ensures.reads t) (c.in_ok-sync.ensures.synced t) then (ap (λ (i : Index). i.first) c.self.view_is) starts longer
