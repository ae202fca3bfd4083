use Rattle.std.proofs.Common.{◌≢◌, ◌≡◌, ◌∷◌, ◌++◌, Some, codes, sym, ◌∙◌, ap, inr, rules}
use Rattle.std.proofs.lemmas.Bool.{false≢true}
use Rattle.std.proofs.lemmas.Bool.Decides.{Decides-eqb}
use Rattle.std.proofs.lemmas.Slice.Eq.{strip_prefix_is, strip_suffix_is, slice_eq-Decides}
use Rattle.schedule_text.proofs.ListFronts.{keys_of_stop}
use Rattle.schedule_text.proofs.lines.place.stops_in_keys.Goals as goal

pub returns-else-eq : goal.returns-else-eq
returns-else-eq c =
    let keys = c.in-Some-strip_suffix.keys.now in
    let front = strip_prefix_is Decides-eqb c.args.text.now (codes " ") (Some c.in-Some.word) c.in-Some.ensures.cases in
    let end = strip_suffix_is Decides-eqb c.in-Some.word.now (codes ",") (Some c.in-Some-strip_suffix.keys) c.in-Some-strip_suffix.ensures.cases in
    let other : keys ≢ codes "-" = λ same. false≢true (sym c.if-eq.false ∙ (slice_eq-Decides Decides-eqb keys (codes "-") c.eq.result (search rules)).1 same) in
    let text : c.args.text.now ≡ 32 ∷ (keys ++ codes ",") = front ∙ ap (λ t. 32 ∷ t) end in (
      λ passed. inr (keys, text, other, c.are_keys.ensures.0 passed),
      λ stops. c.are_keys.ensures.1 (keys_of_stop c.args.text.now keys text stops),
    )
