use Rattle.std.proofs.Common.{ℕ, ◌+◌, eqb, length, drop, arith, rules, tests, subst, sym}
use Rattle.std.proofs.lemmas.Bool.Decides.{nat_tests}
use Rattle.std.proofs.lemmas.Iterator.Consumers.{YieldsList-turn, YieldsList-end, YieldsList-at}
use Rattle.std.proofs.lemmas.Iterator.Splits.{YieldsList-from_slice_split}
use Rattle.std.proofs.lemmas.List.{length_push}
use Rattle.kv_app.proofs.PieceRuns.{Leads, Leads-start, Leads-here, Leads-stop, Leads-next, Leads-fits, Leads-end, pieces_of}
use Rattle.kv_app.specs.Pieces.{piece_op}
use Rattle.kv_app.proofs.check.first_fault.Goals as goal

pub loop-piece-init : goal.loop-piece-init
loop-piece-init c = Leads-start c.args.payload.now (grind (arith, nat_tests))

pub overflow_add-from-in-Ok : goal.overflow_add-from-in-Ok
overflow_add-from-in-Ok c =
    let t = YieldsList-turn (YieldsList-at c.into_iter-piece-iterator.ensures.into_iter_gives (YieldsList-from_slice_split _ (λ b. eqb b 59) c.args.payload.now c.split-piece-items.ensures.rest c.split-piece-items.ensures.done c.split-piece-items.ensures.closure (λ x r q k. search (rules, tests)))) c.loop-piece.yielded _ c.loop-piece.yielded_by _ _ c.in-Some.piece c.in-Some.is c.next.ensures.steps in
    let here = Leads-here c.args.payload.now c.loop-piece.from (length c.loop-piece.yielded) c.in-Some.piece.now t c.loop-piece.invariant in
    omega (arith, Leads-fits c.args.payload.now c.loop-piece.from c.in-Some.piece.now _ here)

pub loop-piece-preserved : goal.loop-piece-preserved
loop-piece-preserved c =
    let t = YieldsList-turn (YieldsList-at c.into_iter-piece-iterator.ensures.into_iter_gives (YieldsList-from_slice_split _ (λ b. eqb b 59) c.args.payload.now c.split-piece-items.ensures.rest c.split-piece-items.ensures.done c.split-piece-items.ensures.closure (λ x r q k. search (rules, tests)))) c.loop-piece.yielded _ c.loop-piece.yielded_by _ _ c.in-Some.piece c.in-Some.is c.next.ensures.steps in
    let here = Leads-here c.args.payload.now c.loop-piece.from (length c.loop-piece.yielded) c.in-Some.piece.now t c.loop-piece.invariant in
    let P : ℕ → Type 0 = λ k. Leads c.args.payload.now (c.loop-piece.from + (length c.in-Some.piece.now + 1)) (drop k (pieces_of c.args.payload.now)) in
    subst P (sym (length_push c.loop-piece.yielded c.in-Some.piece)) (Leads-next c.args.payload.now c.loop-piece.from c.in-Some.piece.now _ (piece_op c.in-Ok.field-0) here c.in-Ok.ensures.ok)

pub overflow_add-result : goal.overflow_add-result
overflow_add-result c =
    let t = YieldsList-turn (YieldsList-at c.into_iter-piece-iterator.ensures.into_iter_gives (YieldsList-from_slice_split _ (λ b. eqb b 59) c.args.payload.now c.split-piece-items.ensures.rest c.split-piece-items.ensures.done c.split-piece-items.ensures.closure (λ x r q k. search (rules, tests)))) c.loop-piece.yielded _ c.loop-piece.yielded_by _ _ c.in-Some.piece c.in-Some.is c.next.ensures.steps in
    let here = Leads-here c.args.payload.now c.loop-piece.from (length c.loop-piece.yielded) c.in-Some.piece.now t c.loop-piece.invariant in
    omega (arith, Leads-fits c.args.payload.now c.loop-piece.from c.in-Some.piece.now _ here, c.in-Err.ensures.err.longest.within)

pub returns-in-Err-clause-some : goal.returns-in-Err-clause-some
returns-in-Err-clause-some c =
    let t = YieldsList-turn (YieldsList-at c.into_iter-piece-iterator.ensures.into_iter_gives (YieldsList-from_slice_split _ (λ b. eqb b 59) c.args.payload.now c.split-piece-items.ensures.rest c.split-piece-items.ensures.done c.split-piece-items.ensures.closure (λ x r q k. search (rules, tests)))) c.loop-piece.yielded _ c.loop-piece.yielded_by _ _ c.in-Some.piece c.in-Some.is c.next.ensures.steps in
    let here = Leads-here c.args.payload.now c.loop-piece.from (length c.loop-piece.yielded) c.in-Some.piece.now t c.loop-piece.invariant in
    Leads-stop c.args.payload.now c.loop-piece.from c.in-Some.piece.now _ c.in-Err.len here c.in-Err.ensures.err

pub returns-clause-none : goal.returns-clause-none
returns-clause-none c _ =
    let over = YieldsList-end (YieldsList-at c.into_iter-piece-iterator.ensures.into_iter_gives (YieldsList-from_slice_split _ (λ b. eqb b 59) c.args.payload.now c.split-piece-items.ensures.rest c.split-piece-items.ensures.done c.split-piece-items.ensures.closure (λ x r q k. search (rules, tests)))) c.loop-piece.yielded _ c.loop-piece.yielded_by _ _ c.in-None.is c.next.ensures.steps in
    Leads-end c.args.payload.now c.loop-piece.from (length c.loop-piece.yielded) over.1 c.loop-piece.invariant
