use Rattle.std.proofs.Common.{◌≢◌, codes, rules, tests, sym, ◌∙◌}
use Rattle.std.proofs.lemmas.Bool.{false≢true}
use Rattle.std.proofs.lemmas.Bool.Decides.{Decides-eqb}
use Rattle.std.proofs.lemmas.Slice.Eq.{slice_eq-Decides}
use Rattle.std.proofs.lemmas.Iterator.Search.{all_from_yields_List}
use Rattle.std.proofs.lemmas.Iterator.Splits.{YieldsList-from_slice_split}
use Rattle.tx_model.specs.Applications.{is_key}
use Rattle.schedule_text.proofs.KeyLemmas.{is_comma, tells_keys}
use Rattle.schedule_text.proofs.lines.lists.are_keys.Goals as goal

pub returns : goal.returns
returns c =
    let word = c.args.word.now in
    let other : word ≢ codes "-" = λ same. false≢true (sym c.if-eq.false ∙ (slice_eq-Decides Decides-eqb word (codes "-") c.eq.result (search rules)).1 same) in
    let all = all_from_yields_List is_key _ _ c.all.result c.all.ensures.ran (YieldsList-from_slice_split _ is_comma word c.split.ensures.rest c.split.ensures.done c.split.ensures.closure (λ x r q k. search (rules, tests))) (λ x b q k. search (rules, tests)) in
    tells_keys word c.all.result other all
