use Rattle.std.proofs.Common.{rules, ◌≡◌, ◌+◌, ◌-◌, ◌<◌, ◌≤◌, ℕ, length, take, drop, sym, ◌∙◌, ap, subst, arith}
use Rattle.tx_model.specs.Records.{RiseByOne}
use Rattle.tx_model.specs.Frames.{joined}
use Rattle.tx_model.specs.Contents.{records_of, records_in}
use Rattle.segment_store.specs.Index.{Index, count_of, run_length}
use Rattle.segment_store.proofs.Indexing.{none_rise, length-records_of}
use Rattle.segment_store.proofs.Got.{run_within, run_whole, run_long, run_ids, run_records}
use Rattle.segment_store.proofs.segment.Segment.get_run.Goals as goal

pub returns-then-count-eq0-clause-found : goal.returns-then-count-eq0-clause-found
returns-then-count-eq0-clause-found g c = subst (RiseByOne c.args.from) (sym c.new.ensures.items) (none_rise c.args.from)

pub returns-then-len-count-clause-not_damaged : goal.returns-then-len-count-clause-not_damaged
returns-then-len-count-clause-not_damaged g c = λ t.
    let s = c.args.self.now in
    let all = ((g.D.Disk.history c.args.disk.now).now s.file).reads in
    let index = c.requires t in
    let n = c.run_length-count.result in
    let k = c.args.from - s.first in
    let first : c.self.inside.first ≡ s.first = ap (λ (i : Index). i.first) c.self.view_is in
    let has : ℕ = run_length s c.args.from c.args.count in
    let count : n ≡ has = c.run_length-count.ensures in
    let some : 0 < has = omega (arith, c.if-count-eq0.false, count) in
    let in_it = run_within s c.args.from c.args.count some in
    let fits : k + n ≤ count_of s = omega (arith, in_it.1, count) in
    let bytes : c.deref.result.now ≡ joined (take n (drop k index.frames)) =
    c.deref.ensures.value ∙ c.in_ok-bytes.ensures.bytes t index ∙ ap (λ (f : ℕ). joined (take n (drop (c.args.from - f) index.frames))) first in
    let from : s.first + k ≡ c.args.from = omega (arith, in_it.0) in
    let ids : RiseByOne c.args.from (records_of (take n (drop k index.frames))) = subst (λ (id : ℕ). RiseByOne id (records_of (take n (drop k index.frames)))) from (run_ids s all index k n fits) in
    let found = c.in_ok-records.ensures.all (take n (drop k index.frames)) (run_whole s all index k n fits) bytes (run_long s all index k n fits) ids in
    let long : length c.in_ok-records.records.items ≡ n = ap length found ∙ length-records_of (take n (drop k index.frames)) ∙ run_long s all index k n fits in
    let few : length c.in_ok-records.records.items < n = search rules in
    omega (arith, long, few)

pub returns-clause-same : goal.returns-clause-same
returns-clause-same g c = λ t.
    let s = c.args.self.now in
    let all = ((g.D.Disk.history c.args.disk.now).now s.file).reads in
    let index = c.requires t in
    let n = c.run_length-count.result in
    let k = c.args.from - s.first in
    let first : c.self.inside.first ≡ s.first = ap (λ (i : Index). i.first) c.self.view_is in
    let has : ℕ = run_length s c.args.from c.args.count in
    let count : n ≡ has = c.run_length-count.ensures in
    let some : 0 < has = omega (arith, c.if-count-eq0.false, count) in
    let in_it = run_within s c.args.from c.args.count some in
    let fits : k + n ≤ count_of s = omega (arith, in_it.1, count) in
    let bytes : c.deref.result.now ≡ joined (take n (drop k index.frames)) =
    c.deref.ensures.value ∙ c.in_ok-bytes.ensures.bytes t index ∙ ap (λ (f : ℕ). joined (take n (drop (c.args.from - f) index.frames))) first in
    let from : s.first + k ≡ c.args.from = omega (arith, in_it.0) in
    let ids : RiseByOne c.args.from (records_of (take n (drop k index.frames))) = subst (λ (id : ℕ). RiseByOne id (records_of (take n (drop k index.frames)))) from (run_ids s all index k n fits) in
    let found = c.in_ok-records.ensures.all (take n (drop k index.frames)) (run_whole s all index k n fits) bytes (run_long s all index k n fits) ids in
    found ∙ run_records s all index k n fits ∙ ap (λ (m : ℕ). take m (drop k (records_in all))) c.run_length-count.ensures
