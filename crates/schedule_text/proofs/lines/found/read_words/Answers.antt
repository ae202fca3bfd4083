use Rattle.std.proofs.Common.{◌≡◌, ◌∷◌, ◌++◌, true, Some, None, codes, refl, sym, ◌∙◌, subst}
use Rattle.std.proofs.lemmas.Bool.Decides.{Decides-eqb}
use Rattle.std.proofs.lemmas.Slice.Eq.{strip_prefix_is}
use Rattle.schedule_text.specs.Lists.{IsOpsWord}
use Rattle.schedule_text.proofs.WordLemmas.{same_behind}
use Rattle.schedule_text.proofs.FoundLemmas.{keys_cut}
use Rattle.schedule_text.proofs.lines.found.read_words.Goals as goal

pub returns-in_default-take_keys-clause-none : goal.returns-in_default-take_keys-clause-none
returns-in_default-take_keys-clause-none c writes reads ops is =
    let some = c.in-Some.ensures.some in
    let one = keys_cut c.args.text.now c.in-Some.writes.now c.in-Some.rest.now writes (32 ∷ (reads ++ 32 ∷ ops)) some is.write_keys refl is.text_is in
    c.in_default-take_keys.ensures.none reads (32 ∷ ops) is.read_keys refl one.1

pub returns-in_default-strip_prefix-clause-none : goal.returns-in_default-strip_prefix-clause-none
returns-in_default-strip_prefix-clause-none c writes reads ops is =
    let some = c.in-Some.ensures.some in
    let one = keys_cut c.args.text.now c.in-Some.writes.now c.in-Some.rest.now writes (32 ∷ (reads ++ 32 ∷ ops)) some is.write_keys refl is.text_is in
    let more = c.in-Some-take_keys.ensures.some in
    let two = keys_cut c.in-Some.rest.now c.in-Some-take_keys.reads.now c.in-Some-take_keys.rest.now reads (32 ∷ ops) more is.read_keys refl one.1 in
    strip_prefix_is Decides-eqb c.in-Some-take_keys.rest.now (codes " ") None c.in_default-strip_prefix.ensures.cases ops two.1

pub returns-then-not-are_ops-clause-none : goal.returns-then-not-are_ops-clause-none
returns-then-not-are_ops-clause-none c writes reads ops is =
    let some = c.in-Some.ensures.some in
    let one = keys_cut c.args.text.now c.in-Some.writes.now c.in-Some.rest.now writes (32 ∷ (reads ++ 32 ∷ ops)) some is.write_keys refl is.text_is in
    let more = c.in-Some-take_keys.ensures.some in
    let two = keys_cut c.in-Some.rest.now c.in-Some-take_keys.reads.now c.in-Some-take_keys.rest.now reads (32 ∷ ops) more is.read_keys refl one.1 in
    let front = strip_prefix_is Decides-eqb c.in-Some-take_keys.rest.now (codes " ") (Some c.in-Some-strip_prefix.ops) c.in-Some-strip_prefix.ensures.cases in
    let same = same_behind c.in-Some-strip_prefix.ops.now ops (sym front ∙ two.1) in
    let bytes : c.are_ops.result ≡ true = c.are_ops.ensures.1 (subst IsOpsWord (sym same) is.some_ops) in
    cc
