use Rattle.std.proofs.Common.{◌≡◌, ◌+◌, ◌-◌, codes, refl, sym, subst, arith, rules}
use Rattle.std.proofs.lemmas.Bool.Decides.{Decides-eqb}
use Rattle.std.proofs.lemmas.Slice.Eq.{slice_eq-Decides}
use Rattle.schedule_text.specs.Found.{BeginsRest}
use Rattle.schedule_text.proofs.WordLemmas.{nil_by_test, not_nil_by_test}
use Rattle.schedule_text.proofs.NumberFronts.{BeginsRest-nothing, BeginsRest-behind, BeginsRest-before, BeginsRest-stops, BeginsRest-space, BeginsRest-ends, BeginsRest-lists}
use Rattle.schedule_text.proofs.lines.place.+begins_rest.Goals as goal

pub returns-then-is_empty : goal.returns-then-is_empty
returns-then-is_empty t c =
    let none = nil_by_test c.args.text.now c.is_empty.result c.is_empty.ensures c.if-is_empty.true in
    (λ _. subst (BeginsRest c.args.count c.args.lists) (sym none) (BeginsRest-nothing c.args.count c.args.lists), λ _. refl)

pub returns-then-lists : goal.returns-then-lists
returns-then-lists t c =
    let text = c.args.text.now in
    let some = not_nil_by_test text c.is_empty.result c.is_empty.ensures c.if-is_empty.false in (
      λ passed. BeginsRest-lists c.args.count c.args.lists text (search rules) (search rules) (c.begins_lists.ensures.0 passed),
      λ begins. c.begins_lists.ensures.1 (BeginsRest-ends c.args.count c.args.lists text (search rules) some begins).1,
    )

pub returns-in-Some : goal.returns-in-Some
returns-in-Some t c =
    let text = c.args.text.now in
    let n = c.in-Some.field-0-0 in
    let rest = c.in-Some.rest.now in
    let some = c.in-Some.ensures.some in
    let one : c.args.count ≡ (c.args.count - 1) + 1 = omega arith in (
      λ passed. BeginsRest-before c.args.count (c.args.count - 1) c.args.lists n text rest one some (c.begins_rest.ensures.0 passed),
      λ begins. c.begins_rest.ensures.1 (BeginsRest-behind c.args.count (c.args.count - 1) c.args.lists n text rest one some begins),
    )

pub returns-in-None : goal.returns-in-None
returns-in-None t c =
    let text = c.args.text.now in
    let filled = not_nil_by_test text c.is_empty.result c.is_empty.ensures c.if-is_empty.false in
    let one : c.args.count ≡ (c.args.count - 1) + 1 = omega arith in
    let decides = slice_eq-Decides Decides-eqb text (codes " ") c.eq.result (search rules) in (
      λ passed. subst (BeginsRest c.args.count c.args.lists) (sym (decides.0 passed)) (BeginsRest-space c.args.count (c.args.count - 1) c.args.lists one),
      λ begins. decides.1 (BeginsRest-stops c.args.count (c.args.count - 1) c.args.lists text one filled c.in-None.ensures.none begins),
    )
