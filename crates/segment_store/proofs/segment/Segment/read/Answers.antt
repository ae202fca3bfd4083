use Rattle.std.proofs.Common.{◌≡◌, ◌<◌, ◌≤◌, ℕ, sym, ◌∙◌, ap, subst, arith}
use Rattle.disk_model.proofs.Told.{told_by_try}
use Rattle.segment_store.specs.Index.{Index, count_of, IsDamagedWithin, IsDamagedBehind, IsLoadable}
use Rattle.segment_store.specs.Loading.{IsWholeReadingOf}
use Rattle.segment_store.specs.Records.{records_at}
use Rattle.segment_store.proofs.Damaged.{not_both}
use Rattle.segment_store.proofs.Loaded.{loadable}
use Rattle.segment_store.proofs.Noted.{whole-found, few-found, more-found, frames-found, started-within}
use Rattle.segment_store.proofs.segment.Segment.read.Goals as goal

pub returns-in_err-read_all-clause-damaged : goal.returns-in_err-read_all-clause-damaged
returns-in_err-read_all-clause-damaged g c =
    let q = c.new-reading.result in
    let same = c.new-reading.ensures.same in
    told_by_try c.from_residual.result c.in_err-read_all.field-0.0 _ _ c.from_residual.ensures.1 c.in_err-read_all.ensures.damaged (λ file at is. (
      is.0 ∙ same.0,
      λ t. started-within q c.args.file c.args.first c.args.count (g.D.Disk.history c.args.disk.now) at same.0 same.1 same.2 (is.1 t),
    ))

pub returns-in_err-read_all-clause-not_damaged : goal.returns-in_err-read_all-clause-not_damaged
returns-in_err-read_all-clause-not_damaged g c = λ t load.
    let q = c.new-reading.result in
    let same = c.new-reading.ensures.same in
    told_by_try c.from_residual.result c.in_err-read_all.field-0.0 _ _ c.from_residual.ensures.1 c.in_err-read_all.ensures.damaged (λ file at is.
    let within = started-within q c.args.file c.args.first c.args.count (g.D.Disk.history c.args.disk.now) at same.0 same.1 same.2 (is.1 t) in
    not_both c.args.first c.args.count ((g.D.Disk.history c.args.disk.now).now c.args.file).reads at load within.damaged)

pub returns-then-right-count-clause-damaged : goal.returns-then-right-count-clause-damaged
returns-then-right-count-clause-damaged g c = (
  λ i. c.args.file,
  λ t.
      let old = (g.D.Disk.history c.args.disk.now).now in
      let r = c.read_all.new.self in
      let first : r.segment.first ≡ c.args.first = c.read_all.ensures.same.first ∙ c.new-reading.ensures.same.1 in
      let wholly : IsWholeReadingOf r (old c.args.file).reads = subst (λ (q : ℕ). IsWholeReadingOf r (old q).reads) c.new-reading.ensures.same.0 (c.in_ok-read_all.ensures.reading t) in
      let few : count_of r.segment < c.args.count = omega (arith, c.count-right.ensures, c.if-right-count.true) in
      let within : IsDamagedWithin c.args.first c.args.count (old c.args.file).reads r.segment.end = few-found r c.args.first c.args.count (old c.args.file).reads c.in_ok-read_all.ensures.fit wholly first few in
      let end : c.segment.inside.end ≡ r.segment.end = ap (λ (i : Index). i.end) c.segment.view_is in
      subst (λ (n : ℕ). IsDamagedWithin c.args.first c.args.count (old c.args.file).reads n) (sym end) within,
)

pub returns-then-right-count-clause-not_damaged : goal.returns-then-right-count-clause-not_damaged
returns-then-right-count-clause-not_damaged g c = λ t load.
    let old = (g.D.Disk.history c.args.disk.now).now in
    let r = c.read_all.new.self in
    let first : r.segment.first ≡ c.args.first = c.read_all.ensures.same.first ∙ c.new-reading.ensures.same.1 in
    let wholly : IsWholeReadingOf r (old c.args.file).reads = subst (λ (q : ℕ). IsWholeReadingOf r (old q).reads) c.new-reading.ensures.same.0 (c.in_ok-read_all.ensures.reading t) in
    let few : count_of r.segment < c.args.count = omega (arith, c.count-right.ensures, c.if-right-count.true) in
    let within : IsDamagedWithin c.args.first c.args.count (old c.args.file).reads r.segment.end = few-found r c.args.first c.args.count (old c.args.file).reads c.in_ok-read_all.ensures.fit wholly first few in
    not_both c.args.first c.args.count (old c.args.file).reads r.segment.end load within.damaged

pub returns-then-right-frames-clause-frames : goal.returns-then-right-frames-clause-frames
returns-then-right-frames-clause-frames g c = λ t.
    let old = (g.D.Disk.history c.args.disk.now).now in
    let r = c.read_all.new.self in
    let first : r.segment.first ≡ c.args.first = c.read_all.ensures.same.first ∙ c.new-reading.ensures.same.1 in
    let wholly : IsWholeReadingOf r (old c.args.file).reads = subst (λ (q : ℕ). IsWholeReadingOf r (old q).reads) c.new-reading.ensures.same.0 (c.in_ok-read_all.ensures.reading t) in
    frames-found r (old c.args.file).reads wholly

pub returns-then-right-frames-clause-wrong : goal.returns-then-right-frames-clause-wrong
returns-then-right-frames-clause-wrong g c = λ t.
    let old = (g.D.Disk.history c.args.disk.now).now in
    let r = c.read_all.new.self in
    let first : r.segment.first ≡ c.args.first = c.read_all.ensures.same.first ∙ c.new-reading.ensures.same.1 in
    let wholly : IsWholeReadingOf r (old c.args.file).reads = subst (λ (q : ℕ). IsWholeReadingOf r (old q).reads) c.new-reading.ensures.same.0 (c.in_ok-read_all.ensures.reading t) in
    let end : c.segment.inside.end ≡ r.segment.end = ap (λ (i : Index). i.end) c.segment.view_is in
    let enough : c.args.count ≤ count_of r.segment = omega (arith, c.count-right.ensures, c.if-right-count.false) in
    let more : count_of r.segment < r.frames = omega (arith, c.count-right.ensures, c.if-right-frames.true) in
    let behind : IsDamagedBehind c.args.first c.args.count (old c.args.file).reads r.segment.end = more-found r c.args.first c.args.count (old c.args.file).reads wholly first enough more in
    (wholly.reading.index, end, subst (λ (n : ℕ). IsDamagedBehind c.args.first c.args.count (old c.args.file).reads n) (sym end) behind)

pub returns-clause-frames : goal.returns-clause-frames
returns-clause-frames g c = λ t.
    let old = (g.D.Disk.history c.args.disk.now).now in
    let r = c.read_all.new.self in
    let first : r.segment.first ≡ c.args.first = c.read_all.ensures.same.first ∙ c.new-reading.ensures.same.1 in
    let wholly : IsWholeReadingOf r (old c.args.file).reads = subst (λ (q : ℕ). IsWholeReadingOf r (old q).reads) c.new-reading.ensures.same.0 (c.in_ok-read_all.ensures.reading t) in
    frames-found r (old c.args.file).reads wholly

pub returns-clause-loadable : goal.returns-clause-loadable
returns-clause-loadable g c = λ t.
    let old = (g.D.Disk.history c.args.disk.now).now in
    let r = c.read_all.new.self in
    let first : r.segment.first ≡ c.args.first = c.read_all.ensures.same.first ∙ c.new-reading.ensures.same.1 in
    let wholly : IsWholeReadingOf r (old c.args.file).reads = subst (λ (q : ℕ). IsWholeReadingOf r (old q).reads) c.new-reading.ensures.same.0 (c.in_ok-read_all.ensures.reading t) in
    let enough : c.args.count ≤ count_of r.segment = omega (arith, c.count-right.ensures, c.if-right-count.false) in
    let right : count_of r.segment ≡ r.frames = omega (arith, c.count-right.ensures, c.if-right-frames.false, c.in_ok-read_all.ensures.fit.more) in
    subst (λ (n : ℕ). IsLoadable n c.args.count (records_at (g.D.Disk.history c.args.disk.now) c.args.file)) first (loadable r.segment c.args.count (old c.args.file).reads (whole-found r (old c.args.file).reads c.in_ok-read_all.ensures.fit wholly right) enough)
