use Rattle.std.proofs.Common.{◌≡◌, ℕ, List, Result, Ok, Err, ap, ◌∙◌, arith}
use Rattle.std.specs.Prelude.{IfOk}
use Rattle.record_frame.specs.declared.fault.FrameFault.{FrameFault}
use Rattle.record_frame.specs.declared.fault.FrameFault.TheVariants.{Short, Bad, Memory}
use Rattle.record_frame.specs.Reading.{BeginsWith}
use Rattle.record_frame.proofs.Parts.{IsBytes}
use Rattle.record_frame.proofs.Results.{checks-ok, checks-found, checks-fault}
use Rattle.wire_codec.specs.declared.message.Message.{Message}
use Rattle.wire_codec.specs.Spelling.{SpellsMessage}
use Rattle.wire_codec.specs.Reading.{message_at}
use Rattle.wire_codec.proofs.Frames.{message_at-read, message_at-spelled, message_at-short, message_at-bad, message_at-memory}
use Rattle.wire_codec.proofs.reading.check.Goals as goal

found : (result : Result ℕ FrameFault) (bytes : List ℕ) → IfOk result (λ n. (m : Message) × (message_at bytes ≡ Ok (m, n))) → IsBytes bytes → IfOk result (λ n. (m : Message) × BeginsWith SpellsMessage bytes m n)
found (Ok n) bytes h fits = (h.0, message_at-spelled bytes (h.0, n) h.1 fits)
found (Err e) bytes h fits = tt

pub returns-clause-found : goal.returns-clause-found
returns-clause-found c = found c.check_at.result c.args.bytes.now (checks-found c.check_at.result _ c.check_at.ensures) (λ i. omega (arith, c.type_inv.bytes i))

pub returns-clause-only : goal.returns-clause-only
returns-clause-only c = λ m spelled rest is e. checks-ok c.check_at.result _ _ c.check_at.ensures (ap message_at e ∙ message_at-read m spelled rest is)

pub returns-clause-short : goal.returns-clause-short
returns-clause-short c =
    let same = checks-fault c.check_at.result _ Short c.check_at.ensures in
    let is = message_at-short c.args.bytes.now in
    (λ e. is.0 (same.0 e), λ h. same.1 (is.1 h))

pub returns-clause-bad : goal.returns-clause-bad
returns-clause-bad c = λ at.
    let same = checks-fault c.check_at.result _ (Bad at) c.check_at.ensures in
    let is = message_at-bad c.args.bytes.now at (λ i. omega (arith, c.type_inv.bytes i)) in
    (λ e. is.0 (same.0 e), λ h. same.1 (is.1 h))

pub returns-clause-memory : goal.returns-clause-memory
returns-clause-memory c = λ e. message_at-memory c.args.bytes.now ((checks-fault c.check_at.result _ Memory c.check_at.ensures).0 e)
