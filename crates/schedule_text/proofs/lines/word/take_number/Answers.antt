use Rattle.std.proofs.Common.{◌++◌, Some, decimal, codes, sym, ◌∙◌}
use Rattle.std.proofs.lemmas.Bool.Decides.{Decides-eqb}
use Rattle.std.proofs.lemmas.Slice.Eq.{strip_prefix_is}
use Rattle.schedule_text.proofs.WordLemmas.{cut_unique, HasNoSpace-decimal, same_behind}
use Rattle.schedule_text.proofs.lines.word.take_number.Goals as goal

pub returns-in-None-clause-none : goal.returns-in-None-clause-none
returns-in-None-clause-none c n rest small ends same =
    let front = strip_prefix_is Decides-eqb c.args.text.now (codes " ") (Some c.in-Some.behind) c.in-Some.ensures.cases in
    let behind = same_behind c.in-Some.behind.now (decimal n ++ rest) (sym front ∙ same) in
    let cut = c.cut_word.ensures in
    let parts = cut_unique c.cut_word.result.0.now c.cut_word.result.1.now (decimal n) rest cut.plain cut.ends (HasNoSpace-decimal n small) ends (sym cut.text_is ∙ behind) in
    c.in-None.ensures.none n small parts.0
