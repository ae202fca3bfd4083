use Rattle.std.proofs.Common.{◌≡◌, ◌+◌, ◌-◌, ℕ, length, take, drop, min, ◌∙◌, ap, subst, arith}
use Rattle.std.proofs.lemmas.List.{take_at}
use Rattle.segment_store.specs.Index.{Index, place_of}
use Rattle.segment_store.proofs.Got.{run_read}
use Rattle.segment_store.proofs.segment.Segment.frames_at.Goals as goal

pub returns-clause-bytes : goal.returns-clause-bytes
returns-clause-bytes g c = λ t index.
    let s = c.args.self.now in
    let old = g.D.Disk.history c.args.disk.now in
    let file : c.self.inside.file ≡ s.file = ap (λ (i : Index). i.file) c.self.view_is in
    let into = c.read_full.new.into in
    let start = c.place_of-start.result in
    let len = c.saturating_sub-len.result in
    let all = (old.now s.file).reads in
    let held : length into ≡ c.in_ok-bytes.bytes.len = omega (arith, c.read_full.auto.into, c.deref_mut.ensures.len) in
    let size : length into ≡ len = omega (arith, held, c.in_ok-bytes.ensures.len) in
    let room : length c.deref_mut.result.now ≡ len = omega (arith, size, c.read_full.auto.into) in
    let read_is : c.in_ok-read_full.field-0 ≡ min (length c.deref_mut.result.now) (length all - start) =
    subst (λ (q : ℕ). c.in_ok-read_full.field-0 ≡ min (length c.deref_mut.result.now) (length (old.now q).reads - start)) file (c.in_ok-read_full.ensures.count t) in
    let count : c.in_ok-read_full.field-0 ≡ min len (length all - start) = read_is ∙ ap (λ (n : ℕ). min n (length all - start)) room in
    let end : ℕ = place_of s (c.args.k + c.args.count) in
    let stop : c.place_of.result ≡ end = c.place_of.ensures in
    let read : take c.in_ok-read_full.field-0 into ≡ take c.in_ok-read_full.field-0 (drop start all) =
    c.in_ok-read_full.ensures.bytes t ∙ ap (λ (q : ℕ). take c.in_ok-read_full.field-0 (drop start (old.now q).reads)) file in
    take_at into (drop (length into) c.in_ok-bytes.bytes.items) c.in_ok-bytes.bytes.len held
    ∙ run_read s all index c.args.k c.args.count c.requires start len c.in_ok-read_full.field-0 into c.place_of-start.ensures (omega (arith, c.saturating_sub-len.ensures, stop)) size count read
