use Rattle.std.proofs.Common.{◌≡◌, List, ℕ, Result, Ok, Err, sym, subst, arith}
use Rattle.std.specs.Prelude.{IfOk}
use Rattle.tx_model.specs.declared.record.Record.{Record}
use Rattle.tx_model.specs.Spelling.{SpellsRecordBody}
use Rattle.tx_model.specs.Reading.{record_of}
use Rattle.record_frame.proofs.Parts.{record-spelled}
use Rattle.record_frame.proofs.reading.record_of.Goals as goal

spelled : {E : Type 0} (result : Result Record E) (body : List ℕ) → IfOk result (λ r. r ≡ record_of body) → SpellsRecordBody body (record_of body) → IfOk result (SpellsRecordBody body)
spelled (Ok r) body e is = subst (λ (s : Record). SpellsRecordBody body s) (sym e) is
spelled (Err e) body h is = tt

pub returns-clause-spelled : goal.returns-clause-spelled
returns-clause-spelled c =
    spelled c.build.result c.args.body.now c.build.ensures (record-spelled c.args.body.now c.requires (λ i. omega (arith, c.type_inv.body i)))
