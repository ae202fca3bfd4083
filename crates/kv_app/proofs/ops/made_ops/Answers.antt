use Rattle.std.proofs.Common.{◌≡◌, ℕ, ◌+◌, eqb, List, [], ◌∷◌, ◌++◌, length, drop, arith, rules, tests, ap, subst, sym, ◌∙◌}
use Rattle.std.proofs.lemmas.Bool.Decides.{nat_tests}
use Rattle.std.proofs.lemmas.Iterator.Consumers.{YieldsList-turn, YieldsList-end, YieldsList-at}
use Rattle.std.proofs.lemmas.Iterator.Splits.{YieldsList-from_slice_split}
use Rattle.std.proofs.lemmas.List.{length_push}
use Rattle.tx_model.specs.declared.op.Op.{Op}
use Rattle.kv_app.specs.Pieces.{piece_op}
use Rattle.kv_app.proofs.PieceRuns.{pieces_of}
use Rattle.kv_app.proofs.Makings.{Makes, Makes-start, Makes-here, Makes-next, Makes-end}
use Rattle.kv_app.proofs.ops.made_ops.Goals as goal

pub loop-text-init : goal.loop-text-init
loop-text-init c =
    let P : List Op → Type 0 = λ ops. Makes c.args.payload.now ops (pieces_of c.args.payload.now) in
    subst P (sym c.new-ops.ensures.items) (Makes-start c.args.payload.now c.requires (grind (arith, nat_tests)))

pub unreachable-requires : goal.unreachable-requires
unreachable-requires c =
    let t = YieldsList-turn (YieldsList-at c.into_iter-text-iterator.ensures.into_iter_gives (YieldsList-from_slice_split _ (λ b. eqb b 59) c.args.payload.now c.split-text-items.ensures.rest c.split-text-items.ensures.done c.split-text-items.ensures.closure (λ x r q k. search (rules, tests)))) c.loop-text.yielded _ c.loop-text.yielded_by _ _ c.in-Some.text c.in-Some.is c.next.ensures.steps in
    let here = Makes-here c.args.payload.now c.loop-text.ops.items (length c.loop-text.yielded) c.in-Some.text.now t c.loop-text.invariant in
    c.in_default.ensures.err.refused here.pieces.0

pub loop-text-preserved : goal.loop-text-preserved
loop-text-preserved c =
    let t = YieldsList-turn (YieldsList-at c.into_iter-text-iterator.ensures.into_iter_gives (YieldsList-from_slice_split _ (λ b. eqb b 59) c.args.payload.now c.split-text-items.ensures.rest c.split-text-items.ensures.done c.split-text-items.ensures.closure (λ x r q k. search (rules, tests)))) c.loop-text.yielded _ c.loop-text.yielded_by _ _ c.in-Some.text c.in-Some.is c.next.ensures.steps in
    let here = Makes-here c.args.payload.now c.loop-text.ops.items (length c.loop-text.yielded) c.in-Some.text.now t c.loop-text.invariant in
    let more = Makes-next c.args.payload.now c.loop-text.ops.items c.in-Some.text.now _ (piece_op c.in-Ok.piece) c.in-Ok.ensures.ok here in
    let pushed : c.loop-text.ops.items ++ piece_op c.in-Ok.piece ∷ [] ≡ c.push.new.self.items =
    ap (λ op. c.loop-text.ops.items ++ op ∷ []) (sym c.in_ok-owned.ensures) ∙ sym c.in_ok-push.ensures.items in
    let P : List Op → Type 0 = λ ops. Makes c.args.payload.now ops (drop (length c.loop-text.yielded + 1) (pieces_of c.args.payload.now)) in
    let Q : ℕ → Type 0 = λ k. Makes c.args.payload.now c.push.new.self.items (drop k (pieces_of c.args.payload.now)) in
    subst Q (sym (length_push c.loop-text.yielded c.in-Some.text)) (subst P pushed more)

pub returns : goal.returns
returns c =
    let over = YieldsList-end (YieldsList-at c.into_iter-text-iterator.ensures.into_iter_gives (YieldsList-from_slice_split _ (λ b. eqb b 59) c.args.payload.now c.split-text-items.ensures.rest c.split-text-items.ensures.done c.split-text-items.ensures.closure (λ x r q k. search (rules, tests)))) c.loop-text.yielded _ c.loop-text.yielded_by _ _ c.in-None.is c.next.ensures.steps in
    Makes-end c.args.payload.now c.loop-text.ops.items (length c.loop-text.yielded) over.1 c.loop-text.invariant
