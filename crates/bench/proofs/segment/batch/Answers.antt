use Rattle.std.proofs.Common.{◌≡◌, ◌+◌, ◌++◌, ◌∷◌, [], length, ◌∙◌, ap, subst, sym, arith, length-append}
use Rattle.tx_model.specs.Records.{RiseByOne}
use Rattle.tx_model.proofs.Batches.{RiseByOne-append, RiseByOne-All}
use Rattle.segment_store.proofs.Indexing.{none_rise, rise_one}
use Rattle.bench.proofs.segment.batch.Goals as goal

pub loop-k-init : goal.loop-k-init
loop-k-init c = record { ids = subst (RiseByOne c.args.first) (sym c.in_ok-records.ensures.items) (none_rise c.args.first); count = ap length c.in_ok-records.ensures.items }

pub loop-k-preserved : goal.loop-k-preserved
loop-k-preserved c =
    let rs = c.loop-k.records.items in
    let r = c.in_ok-example.field-0 in
    let added : c.push.new.self.items ≡ rs ++ r ∷ [] = c.in_ok-push.ensures.items in
    let next : r.id ≡ c.args.first + length rs = c.in_ok-example.ensures.id ∙ omega (arith, c.loop-k.invariant.count) in
    record {
      ids = subst (RiseByOne c.args.first) (sym added) (RiseByOne-append c.args.first rs (r ∷ []) c.loop-k.invariant.ids (rise_one (c.args.first + length rs) r c.in_ok-example.ensures.valid next));
      count = ap length added ∙ omega (arith, length-append rs (r ∷ []), c.loop-k.invariant.count);
    }

pub returns-clause-valid : goal.returns-clause-valid
returns-clause-valid c = RiseByOne-All c.args.first c.loop-k.records.items c.loop-k.invariant.ids
