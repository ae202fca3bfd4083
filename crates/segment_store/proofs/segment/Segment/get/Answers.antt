use Rattle.std.proofs.Common.{◌≡◌, ◌<◌, ℕ, take, drop, Some, sym, ◌∙◌, ap, arith}
use Rattle.std.specs.Prelude.{slice_get}
use Rattle.tx_model.specs.declared.record.Record.{Record}
use Rattle.tx_model.specs.Frames.{joined}
use Rattle.tx_model.specs.Contents.{records_in}
use Rattle.segment_store.specs.Index.{count_of}
use Rattle.segment_store.proofs.Got.{got_id, got_record}
use Rattle.segment_store.proofs.segment.Segment.get.Goals as goal

pub returns-in-Some-2-clause-same : goal.returns-in-Some-2-clause-same
returns-in-Some-2-clause-same g c = λ t.
    let s = c.args.self.now in
    let all = ((g.D.Disk.history c.args.disk.now).now s.file).reads in
    let k = c.in-Some.k in
    let has = c.in-Some.ensures.some in
    let lt : k < count_of s = omega (arith, has.0.0, has.0.1, has.1) in
    let bytes : c.deref.result.now ≡ joined (take 1 (drop k (c.requires t).frames)) = c.deref.ensures.value ∙ c.in_ok-bytes.ensures.bytes t (c.requires t) in
    let entry = rw c.in-Some-2.is at c.in_ok-entry.ensures.some in
    ap (λ (i : ℕ). slice_get (records_in all) i) (sym has.1) ∙ got_record s all (c.requires t) k lt c.deref.result.now bytes ∙ ap (λ (r : Record). Some r) (sym entry.2)

pub returns-clause-not_damaged : goal.returns-clause-not_damaged
returns-clause-not_damaged g c = λ t.
    let s = c.args.self.now in
    let all = ((g.D.Disk.history c.args.disk.now).now s.file).reads in
    let k = c.in-Some.k in
    let has = c.in-Some.ensures.some in
    let lt : k < count_of s = omega (arith, has.0.0, has.0.1, has.1) in
    let bytes : c.deref.result.now ≡ joined (take 1 (drop k (c.requires t).frames)) = c.deref.ensures.value ∙ c.in_ok-bytes.ensures.bytes t (c.requires t) in
    let is = got_id s all (c.requires t) k lt c.deref.result.now bytes in
    let none = rw c.in-None.is at c.in_ok-entry.ensures.none in
    none is.0 (omega (arith, is.1, has.0.0, has.1))
