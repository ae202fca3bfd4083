use Rattle.std.proofs.Common.{◌≤◌, length, arith, rules, tests}
use Rattle.std.proofs.lemmas.Bool.Decides.{nat_tests}
use Rattle.std.proofs.lemmas.Iterator.{YieldsList-from_slice}
use Rattle.std.proofs.lemmas.Iterator.Search.{all_from_yields_List}
use Rattle.schedule_text.proofs.OpsLemmas.{is_ops_byte, tells_ops}
use Rattle.schedule_text.proofs.lines.lists.are_ops.Goals as goal

pub returns-then-not-is_empty : goal.returns-then-not-is_empty
returns-then-not-is_empty c =
    let word = c.args.word.now in
    let all = all_from_yields_List is_ops_byte _ _ c.all.result c.all.ensures.ran (YieldsList-from_slice word cc) (λ x b q k. search (rules, tests)) in
    let some : 1 ≤ length word = grind (arith, nat_tests) in
    tells_ops word c.all.result some all
