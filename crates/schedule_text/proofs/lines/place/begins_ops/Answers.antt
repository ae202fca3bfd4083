use Rattle.std.proofs.Common.{Some, None, codes, sym, ◌∙◌, subst, rules, tests}
use Rattle.std.proofs.lemmas.Bool.Decides.{Decides-eqb}
use Rattle.std.proofs.lemmas.Slice.Eq.{strip_prefix_is}
use Rattle.std.proofs.lemmas.Iterator.{YieldsList-from_slice}
use Rattle.std.proofs.lemmas.Iterator.Search.{all_from_yields_List}
use Rattle.schedule_text.specs.Found.{BeginsOps}
use Rattle.schedule_text.proofs.WordLemmas.{nil_by_test, test_by_nil}
use Rattle.schedule_text.proofs.OpsLemmas.{is_ops_byte}
use Rattle.schedule_text.proofs.ListFronts.{BeginsOps-nothing, BeginsOps-bytes, BeginsOps-from_bytes, BeginsOps-other}
use Rattle.schedule_text.proofs.lines.place.begins_ops.Goals as goal

pub returns-in-Some : goal.returns-in-Some
returns-in-Some c =
    let text = c.args.text.now in
    let ops = c.in-Some.ops.now in
    let front = strip_prefix_is Decides-eqb text (codes " ") (Some c.in-Some.ops) c.in-Some.ensures.cases in
    let all = all_from_yields_List is_ops_byte _ _ c.all.result c.all.ensures.ran (YieldsList-from_slice ops cc) (λ x b q k. search (rules, tests)) in
    (λ passed. BeginsOps-from_bytes text ops front (sym all ∙ passed), λ begins. all ∙ BeginsOps-bytes text ops front begins)

pub returns-in-None : goal.returns-in-None
returns-in-None c =
    let text = c.args.text.now in
    let none = strip_prefix_is Decides-eqb text (codes " ") None c.in-None.ensures.cases in (
      λ passed. subst BeginsOps (sym (nil_by_test text c.is_empty.result c.is_empty.ensures passed)) BeginsOps-nothing,
      λ begins. test_by_nil text c.is_empty.result c.is_empty.ensures (BeginsOps-other text none begins),
    )
