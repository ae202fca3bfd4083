use Rattle.std.proofs.Common.{◌≡◌, ◌++◌, true, Some, codes, sym, ◌∙◌, subst}
use Rattle.std.proofs.lemmas.Bool.Decides.{Decides-eqb}
use Rattle.std.proofs.lemmas.Slice.Eq.{strip_prefix_is}
use Rattle.schedule_text.specs.Lists.{IsKeysWord}
use Rattle.schedule_text.proofs.WordLemmas.{cut_unique, same_behind}
use Rattle.schedule_text.proofs.KeyLemmas.{HasNoSpace-keys_word}
use Rattle.schedule_text.proofs.lines.lists.take_keys.Goals as goal

pub returns-then-not-are_keys-clause-none : goal.returns-then-not-are_keys-clause-none
returns-then-not-are_keys-clause-none c keys rest is ends same =
    let front = strip_prefix_is Decides-eqb c.args.text.now (codes " ") (Some c.in-Some.behind) c.in-Some.ensures.cases in
    let behind = same_behind c.in-Some.behind.now (keys ++ rest) (sym front ∙ same) in
    let cut = c.cut_word.ensures in
    let parts = cut_unique c.cut_word.result.0.now c.cut_word.result.1.now keys rest cut.plain cut.ends (HasNoSpace-keys_word keys is) ends (sym cut.text_is ∙ behind) in
    let are : c.are_keys.result ≡ true = c.are_keys.ensures.1 (subst IsKeysWord (sym parts.0) is) in
    cc
