use Rattle.std.proofs.Common.{ℕ, List, Result, Ok, Err, ap, ◌∙◌, arith}
use Rattle.std.specs.Prelude.{IfOk}
use Rattle.record_frame.specs.declared.fault.FrameFault.{FrameFault}
use Rattle.record_frame.specs.Reading.{BeginsWith, Builds}
use Rattle.record_frame.proofs.Parts.{IsBytes}
use Rattle.record_frame.proofs.Results.{builds-only, builds-short, builds-bad, builds-memory}
use Rattle.wire_codec.specs.declared.message.Message.{Message}
use Rattle.wire_codec.specs.Spelling.{SpellsMessage, IsValidMessage}
use Rattle.wire_codec.specs.Reading.{message_at}
use Rattle.wire_codec.proofs.Frames.{message_at-read, message_at-spelled, message_at-short, message_at-bad}
use Rattle.wire_codec.proofs.reading.decode.Goals as goal

found : (result : Result (Message × ℕ) FrameFault) (bytes : List ℕ) → Builds result (message_at bytes) → IsBytes bytes → IfOk result (λ x. BeginsWith SpellsMessage bytes x.0 x.1)
found (Ok x) bytes h fits = message_at-spelled bytes x h fits
found (Err e) bytes h fits = tt

valid : (result : Result (Message × ℕ) FrameFault) (bytes : List ℕ) → IfOk result (λ x. BeginsWith SpellsMessage bytes x.0 x.1) → IfOk result (λ x. IsValidMessage x.0)
valid (Ok x) bytes h = h.spelled.valid
valid (Err e) bytes h = tt

pub returns-clause-found : goal.returns-clause-found
returns-clause-found c = found c.decode_at.result c.args.bytes.now c.decode_at.ensures (λ i. omega (arith, c.type_inv.bytes i))

pub returns-clause-valid : goal.returns-clause-valid
returns-clause-valid c = valid c.decode_at.result c.args.bytes.now (found c.decode_at.result c.args.bytes.now c.decode_at.ensures (λ i. omega (arith, c.type_inv.bytes i)))

pub returns-clause-only : goal.returns-clause-only
returns-clause-only c = λ m spelled rest is e. builds-only c.decode_at.result _ _ c.decode_at.ensures (ap message_at e ∙ message_at-read m spelled rest is)

pub returns-clause-short : goal.returns-clause-short
returns-clause-short c =
    let same = builds-short c.decode_at.result _ c.decode_at.ensures in
    let is = message_at-short c.args.bytes.now in
    (λ e. is.0 (same.0 e), λ h. same.1 (is.1 h))

pub returns-clause-bad : goal.returns-clause-bad
returns-clause-bad c = λ at.
    let same = builds-bad c.decode_at.result _ at c.decode_at.ensures in
    let is = message_at-bad c.args.bytes.now at (λ i. omega (arith, c.type_inv.bytes i)) in
    (λ e. is.0 (same.0 e), λ h. same.1 (is.1 h))

pub returns-clause-memory : goal.returns-clause-memory
returns-clause-memory c = λ e.
    let x = builds-memory c.decode_at.result _ c.decode_at.ensures e in
    (x.0.0, x.0.1, message_at-spelled c.args.bytes.now x.0 x.1 (λ i. omega (arith, c.type_inv.bytes i)))
