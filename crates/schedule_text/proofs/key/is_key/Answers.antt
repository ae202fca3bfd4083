use Rattle.std.proofs.Common.{◌≤◌, length, arith, rules, tests}
use Rattle.std.proofs.lemmas.Bool.Decides.{nat_tests}
use Rattle.std.proofs.lemmas.Iterator.{YieldsList-from_slice}
use Rattle.std.proofs.lemmas.Iterator.Search.{all_from_yields_List}
use Rattle.tx_model.specs.Applications.{is_key_byte}
use Rattle.schedule_text.proofs.KeyLemmas.{is_key-within}
use Rattle.schedule_text.proofs.key.is_key.Goals as goal

pub returns : goal.returns
returns c =
    let all = all_from_yields_List is_key_byte _ _ c.all.result c.all.ensures.ran (YieldsList-from_slice c.args.bytes.now cc) (λ x b q k. search (rules, tests)) in
    let some : 1 ≤ length c.args.bytes.now = grind (arith, nat_tests) in
    is_key-within c.args.bytes.now c.all.result some (omega arith) all
