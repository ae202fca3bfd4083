use Rattle.std.proofs.Common.{◌≡◌, length, sym, ◌∙◌, ap, subst}
use Rattle.schedule_text.specs.Forms.{row_of}
use Rattle.schedule_text.specs.Found.{BeginsRest}
use Rattle.schedule_text.proofs.WordLemmas.{nil_by_test, not_nil_by_test}
use Rattle.schedule_text.proofs.SomeLemmas.{BeginsSome-word, BeginsWord-some, BeginsSome-rest, BeginsRest-some, BeginsSome-unnamed}
use Rattle.schedule_text.proofs.lines.place.begins_some.Goals as goal

pub returns-then-is_empty : goal.returns-then-is_empty
returns-then-is_empty c =
    let forms = c.args.forms.now in
    let text = c.args.text.now in
    let word = c.cut_word.result.0.now in
    let rest = c.cut_word.result.1.now in
    let none = nil_by_test rest c.is_empty.result c.is_empty.ensures c.if-is_empty.true in (
      λ passed. BeginsSome-word forms text word rest c.cut_word.ensures none (c.begins_word.ensures.0 passed),
      λ begins. c.begins_word.ensures.1 (BeginsWord-some forms text word rest c.cut_word.ensures none begins),
    )

pub returns-in-Some : goal.returns-in-Some
returns-in-Some c =
    let forms = c.args.forms.now in
    let text = c.args.text.now in
    let word = c.cut_word.result.0.now in
    let rest = c.cut_word.result.1.now in
    let some = not_nil_by_test rest c.is_empty.result c.is_empty.ensures c.if-is_empty.false in
    let named = sym c.form_named.ensures ∙ c.in-Some.is in
    let f = c.in-Some.form in
    let row = c.row-row.result in
    let count : length row.names.now ≡ length (row_of f).names = ap length c.row-row.ensures.names in
    let to_row : BeginsRest (length (row_of f).names) (row_of f).lists rest → BeginsRest (length row.names.now) row.lists rest =
    λ begins. subst (λ n. BeginsRest n row.lists rest) (sym count) (subst (λ b. BeginsRest (length (row_of f).names) b rest) (sym c.row-row.ensures.lists) begins) in
    let of_row : BeginsRest (length row.names.now) row.lists rest → BeginsRest (length (row_of f).names) (row_of f).lists rest =
    λ begins. subst (λ n. BeginsRest n (row_of f).lists rest) count (subst (λ b. BeginsRest (length row.names.now) b rest) c.row-row.ensures.lists begins) in (
      λ passed. BeginsSome-rest forms text word rest f c.cut_word.ensures named (of_row (c.begins_rest.ensures.0 passed)),
      λ begins. c.begins_rest.ensures.1 (to_row (BeginsRest-some forms text word rest f c.cut_word.ensures some named begins)),
    )

pub returns-in-None : goal.returns-in-None
returns-in-None c =
    let forms = c.args.forms.now in
    let text = c.args.text.now in
    let word = c.cut_word.result.0.now in
    let rest = c.cut_word.result.1.now in
    let some = not_nil_by_test rest c.is_empty.result c.is_empty.ensures c.if-is_empty.false in
    ((λ failed. cc), λ begins. absurd (BeginsSome-unnamed forms text word rest c.cut_word.ensures some (sym c.form_named.ensures ∙ c.in-None.is) begins))
