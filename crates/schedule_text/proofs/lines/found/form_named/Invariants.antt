use Rattle.std.proofs.Common.{◌≡◌, drop}
use Rattle.schedule_text.specs.Forms.{form_named}
use Rattle.schedule_text.proofs.lines.found.form_named.Given as goal

abbrev pub invariant-loop-form : goal.invariant-loop-form
invariant-loop-form l = form_named l.forms l.word ≡ form_named (drop l.form-index l.forms) l.word
