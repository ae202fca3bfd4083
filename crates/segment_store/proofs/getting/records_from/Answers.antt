use Rattle.std.proofs.Common.{rules, ◌≡◌, ◌+◌, ◌<◌, ◌≤◌, ◌++◌, ◌∷◌, [], List, ℕ, length, drop, sym, ◌∙◌, ap, subst, arith, length-append}
use Rattle.tx_model.specs.declared.record.Record.{Record}
use Rattle.tx_model.specs.Records.{RiseByOne}
use Rattle.tx_model.proofs.Batches.{RiseByOne-append}
use Rattle.segment_store.proofs.Indexing.{none_rise, rise_one}
use Rattle.segment_store.proofs.Got.{IsTaken, taken_more, taken_next, taken_all, nothing_taken}
use Rattle.segment_store.proofs.getting.records_from.Goals as goal

pub frames-init : goal.frames-init
frames-init c = record {
  ids = subst (RiseByOne c.args.first) (sym c.in_ok-records.ensures.items) (none_rise c.args.first);
  most = omega (arith, ap length c.in_ok-records.ensures.items);
  taken = λ fs whole is long. subst (λ (rs : List Record). IsTaken fs rs c.args.bytes.now) (sym c.in_ok-records.ensures.items) (nothing_taken fs c.args.bytes.now is);
}

pub frames-preserved : goal.frames-preserved
frames-preserved c =
    let inv = c.frames.invariant in
    let rs = c.frames.records.items in
    let r = c.in-Some.entry in
    let found = rw c.in-Some.is at c.in_ok-entry.ensures.some in
    let at : c.len-in-frames.result ≡ length rs = search rules in
    let lt : length rs < c.args.count = search rules in
    let more : c.push.new.self.items ≡ rs ++ r ∷ [] = c.in_ok-push.ensures.items in
    let id : r.id ≡ c.args.first + length rs = found.0 ∙ ap (λ (n : ℕ). c.args.first + n) at in
    record {
      ids = subst (RiseByOne c.args.first) (sym more) (RiseByOne-append c.args.first rs (r ∷ []) inv.ids (rise_one (c.args.first + length rs) r found.1 id));
      most = omega (arith, ap length more, length-append rs (r ∷ []), lt);
      taken = λ fs whole is long.
          taken_more fs rs c.push.new.self.items c.frames.rest.now c.split_at.result.1.now r whole (inv.taken fs whole is long) (omega (arith, lt, long)) found.2 more
          (c.split_at.ensures.back ∙ ap (λ (n : ℕ). drop n c.frames.rest.now) found.3);
    }

pub returns-in_default-clause-all : goal.returns-in_default-clause-all
returns-in_default-clause-all c = λ fs whole is long ids.
    let rs = c.frames.records.items in
    let at : c.len-in-frames.result ≡ length rs = search rules in
    let few : length rs < c.args.count = search rules in
    let next = taken_next fs rs c.frames.rest.now c.args.first whole (c.frames.invariant.taken fs whole is long) (omega (arith, few, long)) ids in
    let none = rw c.in_default.is at c.in_ok-entry.ensures.none in
    absurd (none next.0 (next.1 ∙ ap (λ (n : ℕ). c.args.first + n) (sym at)))

pub returns-clause-all : goal.returns-clause-all
returns-clause-all c = λ fs whole is long ids.
    let past : c.args.count ≤ length c.frames.records.items = search rules in
    taken_all fs c.frames.records.items c.frames.rest.now (c.frames.invariant.taken fs whole is long) (omega (arith, past, long))
