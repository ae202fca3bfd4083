use Rattle.std.proofs.Common.{◌≡◌, ◌+◌, ◌<◌, length, get_or, drop, ap, sym, ◌∙◌, rules}
use Rattle.std.proofs.lemmas.List.{get_or_default}
use Rattle.tx_model.specs.declared.op.Op.{Op}
use Rattle.tx_model.specs.Applications.{after_ops}
use Rattle.kv_app.specs.Numbers.{application_of}
use Rattle.kv_app.proofs.PieceRuns.{drop_next}
use Rattle.kv_app.proofs.Empties.{HasRoom-kept, empty_step}
use Rattle.kv_app.proofs.numbers.change_each.Goals as goal

pub loop-op-preserved : goal.loop-op-preserved
loop-op-preserved c =
    let lt : c.loop-op.op-index < length c.args.ops.now = search rules in
    let here : c.op-item.result ≡ get_or c.args.ops.now c.loop-op.op-index c.op-item.result = search rules in
    let at : (d : Op) → c.op-item.result ≡ get_or c.args.ops.now c.loop-op.op-index d = λ d. here ∙ get_or_default c.args.ops.now c.loop-op.op-index c.op-item.result d lt in
    record {
      room = λ k d inside. HasRoom-kept (λ k. k.items) c.loop-op.numbers.entries c.change.new.numbers.entries c.change.ensures.kept _ (c.loop-op.invariant.room k d inside);
      same =
          ap (λ app. after_ops app (drop (c.loop-op.op-index + 1) c.args.ops.now)) c.change.ensures.changed
          ∙ (sym (ap (after_ops (application_of (λ k. k.items) c.loop-op.numbers.entries)) (drop_next c.args.ops.now c.loop-op.op-index c.op-item.result lt (at c.op-item.result)))
          ∙ c.loop-op.invariant.same);
      empty = empty_step (λ k. k.items) c.args.numbers.now.entries c.loop-op.numbers.entries c.change.new.numbers.entries c.args.ops.now c.loop-op.op-index c.op-item.result lt at c.loop-op.invariant.empty c.change.ensures.empty;
    }
