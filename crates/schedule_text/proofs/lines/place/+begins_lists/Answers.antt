use Rattle.std.proofs.Common.{◌≡◌, ◌+◌, ◌-◌, refl, sym, subst, arith, rules}
use Rattle.schedule_text.specs.Found.{BeginsLists}
use Rattle.schedule_text.proofs.WordLemmas.{nil_by_test, not_nil_by_test}
use Rattle.schedule_text.proofs.ListFronts.{BeginsLists-nothing, BeginsLists-ops, BeginsOps-lists, BeginsLists-before, BeginsLists-behind, BeginsLists-stops, BeginsLists-go_on}
use Rattle.schedule_text.proofs.lines.place.+begins_lists.Goals as goal

pub returns-then-is_empty : goal.returns-then-is_empty
returns-then-is_empty t c =
    let none = nil_by_test c.args.text.now c.is_empty.result c.is_empty.ensures c.if-is_empty.true in
    (λ _. subst (BeginsLists c.args.count) (sym none) (BeginsLists-nothing c.args.count), λ _. refl)

pub returns-then-count-eq0 : goal.returns-then-count-eq0
returns-then-count-eq0 t c = (
  λ passed. BeginsLists-ops c.args.count c.args.text.now (search rules) (c.begins_ops.ensures.0 passed),
  λ begins. c.begins_ops.ensures.1 (BeginsOps-lists c.args.count c.args.text.now (search rules) begins),
)

pub returns-in-Some : goal.returns-in-Some
returns-in-Some t c =
    let text = c.args.text.now in
    let keys = c.in-Some.field-0-0.now in
    let rest = c.in-Some.rest.now in
    let some = c.in-Some.ensures.some in
    let one : c.args.count ≡ (c.args.count - 1) + 1 = omega arith in (
      λ passed. BeginsLists-before c.args.count (c.args.count - 1) text keys rest one some (c.begins_lists.ensures.0 passed),
      λ begins. c.begins_lists.ensures.1 (BeginsLists-behind c.args.count (c.args.count - 1) text keys rest one some begins),
    )

pub returns-in-None : goal.returns-in-None
returns-in-None t c =
    let text = c.args.text.now in
    let some = not_nil_by_test text c.is_empty.result c.is_empty.ensures c.if-is_empty.false in
    let one : c.args.count ≡ (c.args.count - 1) + 1 = omega arith in (
      λ passed. BeginsLists-go_on c.args.count (c.args.count - 1) text one (c.stops_in_keys.ensures.0 passed),
      λ begins. c.stops_in_keys.ensures.1 (BeginsLists-stops c.args.count (c.args.count - 1) text one some c.in-None.ensures.none begins),
    )
