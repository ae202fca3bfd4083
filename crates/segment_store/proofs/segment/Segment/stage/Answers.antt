use Rattle.std.proofs.Common.{◌≡◌, ◌+◌, ◌<◌, ◌^◌, ◌++◌, List, ℕ, length, sym, ◌∙◌, ap, subst, arith}
use Rattle.tx_model.proofs.Batches.{RiseByOne-All}
use Rattle.tx_model.specs.Frames.{joined}
use Rattle.disk_model.specs.History.{EachMoment}
use Rattle.disk_model.proofs.Moments.{weaker}
use Rattle.tx_model.specs.Contents.{records_in}
use Rattle.segment_store.specs.Records.{frames_of}
use Rattle.segment_store.specs.Index.{Index, count_of, starts_of, IsIndexOfAll}
use Rattle.segment_store.proofs.Staged.{staged-records, staged-all}
use Rattle.segment_store.proofs.segment.Segment.stage.Goals as goal

pub encode_all-requires : goal.encode_all-requires
encode_all-requires g c = RiseByOne-All (c.args.self.now.first + count_of c.args.self.now) c.args.records.now c.requires.ids

pub write_at-requires : goal.write_at-requires
write_at-requires g c = λ t.
    let s = c.args.self.now in
    let all = c.requires.all t in
    let same : length ((g.D.Disk.history c.args.disk.now).now c.self.inside.file).reads ≡ length ((g.D.Disk.history c.args.disk.now).now s.file).reads = ap (λ (i : Index). length ((g.D.Disk.history c.args.disk.now).now i.file).reads) c.self.view_is in
    let end : c.self.inside.end ≡ s.end = ap (λ (i : Index). i.end) c.self.view_is in
    omega (arith, all.ends, same, end)

pub returns-in_err-write_at-clause-others : goal.returns-in_err-write_at-clause-others
returns-in_err-write_at-clause-others g c = λ t.
    let old = g.D.Disk.history c.args.disk.now in
    let new = g.D.Disk.history c.write_at.new.self in
    subst (λ (n : ℕ). EachMoment n (λ f. Unit {0}) old new) (ap (λ (i : Index). i.file) c.self.view_is) (weaker c.self.inside.file (λ f. Unit {0}) _ old new (c.write_at.ensures.moments t) (λ f during. tt))

pub returns-clause-others : goal.returns-clause-others
returns-clause-others g c = λ t.
    let old = g.D.Disk.history c.args.disk.now in
    let new = g.D.Disk.history c.write_at.new.self in
    subst (λ (n : ℕ). EachMoment n (λ f. Unit {0}) old new) (ap (λ (i : Index). i.file) c.self.view_is) (weaker c.self.inside.file (λ f. Unit {0}) _ old new (c.write_at.ensures.moments t) (λ f during. tt))

pub returns-clause-records : goal.returns-clause-records
returns-clause-records g c = λ t.
    let s = c.args.self.now in
    let old = g.D.Disk.history c.args.disk.now in
    let q = c.self.inside.file in
    let same : q ≡ s.file = ap (λ (i : Index). i.file) c.self.view_is in
    let end : c.self.inside.end ≡ s.end = ap (λ (i : Index). i.end) c.self.view_is in
    let all : IsIndexOfAll s (old.now q).reads = subst (λ (n : ℕ). IsIndexOfAll s (old.now n).reads) (sym same) (c.requires.all t) in
    let bytes : c.deref.result.now ≡ joined (frames_of c.args.records.now) = c.deref.ensures.value ∙ c.in_ok-staged.ensures.bytes in
    let then = ((g.D.Disk.history c.write_at.new.self).now q).reads in
    subst (λ (n : ℕ). records_in ((g.D.Disk.history c.write_at.new.self).now n).reads ≡ records_in (old.now n).reads ++ c.args.records.now) same (staged-records s c.self.inside.end end (old.now q).reads all c.args.records.now c.requires.ids c.deref.result.now bytes then (c.in_ok-write_at.ensures.reads t))

pub returns-clause-all : goal.returns-clause-all
returns-clause-all g c = λ t.
    let s = c.args.self.now in
    let old = g.D.Disk.history c.args.disk.now in
    let q = c.self.inside.file in
    let same : q ≡ s.file = ap (λ (i : Index). i.file) c.self.view_is in
    let end : c.self.inside.end ≡ s.end = ap (λ (i : Index). i.end) c.self.view_is in
    let all : IsIndexOfAll s (old.now q).reads = subst (λ (n : ℕ). IsIndexOfAll s (old.now n).reads) (sym same) (c.requires.all t) in
    let bytes : c.deref.result.now ≡ joined (frames_of c.args.records.now) = c.deref.ensures.value ∙ c.in_ok-staged.ensures.bytes in
    let then = ((g.D.Disk.history c.write_at.new.self).now q).reads in
    let room : c.self.inside.end + length c.in_ok-staged.staged.bytes.items < 2 ^ 64 = omega (arith, c.in_ok-write_at.ensures.room, ap length c.deref.ensures.value) in
    let starts : c.add_in_room.new.starts.items ≡ s.starts ++ starts_of c.self.inside.end (frames_of c.args.records.now) =
    c.add_in_room.ensures ∙ ap (λ (l : List ℕ). l ++ c.deref-2.result.now) (c.reserve.ensures.items ∙ ap (λ (i : Index). i.starts) c.self.view_is)
    ∙ ap (λ (l : List ℕ). s.starts ++ l) (c.deref-2.ensures.value ∙ c.in_ok-staged.ensures.starts room) in
    let longer : c.self.inside.end + c.len-2.result ≡ c.self.inside.end + length c.deref.result.now = omega (arith, c.len-2.ensures, c.deref.ensures.len) in
    let later : Index = record { file = q; first = c.self.inside.first; starts = c.add_in_room.new.starts.items; end = c.self.inside.end + c.len-2.result } in
    staged-all s c.self.inside.end end (old.now q).reads all c.args.records.now c.requires.ids c.deref.result.now bytes then (c.in_ok-write_at.ensures.reads t) later (ap (λ (i : Index). i.first) c.self.view_is) starts longer
