use Rattle.std.proofs.Common.{◌≡◌, ℕ, ◌<◌, List, ◌++◌, get_or}
use Rattle.schedule_text.specs.declared.lines.form.Form.TheVariants as form
use Rattle.schedule_text.specs.Forms.{row_of}
use Rattle.schedule_text.proofs.lines.place.begins_word.Given as goal

abbrev pub invariant-loop-form : goal.invariant-loop-form
invariant-loop-form l = (k : ℕ) → k < l.form-index → (more : List ℕ) → (row_of (get_or l.forms k form.Cluster)).word ≡ l.text ++ more → ⊥
