use Rattle.std.proofs.Common.{length, drop, refl, sym, ◌∙◌, arith, below_more}
use Rattle.std.proofs.lemmas.Bool.{false≢true}
use Rattle.std.proofs.lemmas.Bool.Decides.{Decides-eqb}
use Rattle.std.proofs.lemmas.Slice.Eq.{starts_is}
use Rattle.schedule_text.specs.declared.lines.form.Form.TheVariants as form
use Rattle.schedule_text.specs.Forms.{row_of}
use Rattle.schedule_text.proofs.FormLemmas.{found_at, word_of_named, among_by_name, place_of}
use Rattle.schedule_text.proofs.lines.place.begins_word.Goals as goal

pub returns-then-starts_with : goal.returns-then-starts_with
returns-then-starts_with c =
    let forms = c.args.forms.now in
    let text = c.args.text.now in
    let here = c.row.ensures.word in
    let begins = (starts_is Decides-eqb c.row.result.word.now text c.starts_with.result c.starts_with.ensures.value).0 c.if-starts_with.true in
    let found = found_at forms c.loop-form.form-index form.Cluster (omega arith) in (
      λ _. record {
        form = found.0;
        among = among_by_name forms _ found.0 found.1;
        more = drop (length text) c.row.result.word.now;
        text = word_of_named forms _ found.0 found.1 ∙ (sym here ∙ begins);
      },
      λ _. refl,
    )

pub loop-form-preserved : goal.loop-form-preserved
loop-form-preserved c = below_more _ _ c.loop-form.invariant (λ more same. false≢true (sym c.if-starts_with.false ∙ (starts_is Decides-eqb c.row.result.word.now c.args.text.now c.starts_with.result c.starts_with.ensures.value).1 more (c.row.ensures.word ∙ same)))

pub returns : goal.returns
returns c = (
  λ failed. absurd (false≢true failed),
  λ begins.
      let at = place_of c.args.forms.now (row_of begins.form).word begins.form begins.among in
      absurd (c.loop-form.invariant at.0 (omega (arith, at.1, c.loop-form-test.false)) begins.more (at.2 form.Cluster ∙ begins.text)),
)
