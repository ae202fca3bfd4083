use Rattle.std.proofs.Common.{ℕ, List, Result, Ok, Err, ap, ◌∙◌, arith}
use Rattle.std.specs.Prelude.{IfOk}
use Rattle.tx_model.specs.declared.record.Record.{Record}
use Rattle.tx_model.specs.Spelling.{SpellsRecord}
use Rattle.record_frame.specs.declared.fault.FrameFault.{FrameFault}
use Rattle.record_frame.specs.Reading.{record_at, BeginsWith, Builds}
use Rattle.record_frame.proofs.Parts.{IsBytes}
use Rattle.record_frame.proofs.Records.{record_at-read, record_at-spelled, record_at-short, record_at-bad}
use Rattle.record_frame.proofs.Results.{builds-only, builds-short, builds-bad, builds-memory}
use Rattle.record_frame.proofs.FrontFrames.{builds-framed}
use Rattle.record_frame.proofs.reading.decode_record.Goals as goal

found : (result : Result (Record × ℕ) FrameFault) (bytes : List ℕ) → Builds result (record_at bytes) → IsBytes bytes → IfOk result (λ x. BeginsWith SpellsRecord bytes x.0 x.1)
found (Ok x) bytes h fits = record_at-spelled bytes x h fits
found (Err e) bytes h fits = tt

pub returns-clause-found : goal.returns-clause-found
returns-clause-found c = found c.decode.result c.args.bytes.now c.decode.ensures (λ i. omega (arith, c.type_inv.bytes i))

pub returns-clause-only : goal.returns-clause-only
returns-clause-only c = λ r spelled rest is e. builds-only c.decode.result _ _ c.decode.ensures (ap record_at e ∙ record_at-read r spelled rest is)

pub returns-clause-short : goal.returns-clause-short
returns-clause-short c =
    let same = builds-short c.decode.result _ c.decode.ensures in
    let is = record_at-short c.args.bytes.now in
    (λ e. is.0 (same.0 e), λ h. same.1 (is.1 h))

pub returns-clause-bad : goal.returns-clause-bad
returns-clause-bad c = λ at.
    let same = builds-bad c.decode.result _ at c.decode.ensures in
    let is = record_at-bad c.args.bytes.now at (λ i. omega (arith, c.type_inv.bytes i)) in
    (λ e. is.0 (same.0 e), λ h. same.1 (is.1 h))

pub returns-clause-memory : goal.returns-clause-memory
returns-clause-memory c = λ e.
    let x = builds-memory c.decode.result _ c.decode.ensures e in
    (x.0.0, x.0.1, record_at-spelled c.args.bytes.now x.0 x.1 (λ i. omega (arith, c.type_inv.bytes i)))

pub returns-clause-framed : goal.returns-clause-framed
returns-clause-framed c = builds-framed c.decode.result c.args.bytes.now c.decode.ensures
