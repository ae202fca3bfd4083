use Rattle.std.proofs.Common.{◌≡◌, ◌≢◌, ◌++◌, ℕ, List, Result, Ok, Err, refl, ap, ◌∙◌, arith}
use Rattle.std.specs.Prelude.{IfOk, IfErr}
use Rattle.tx_model.specs.declared.record.Record.{Record}
use Rattle.tx_model.specs.Spelling.{SpellsRecord}
use Rattle.record_frame.specs.declared.fault.FrameFault.{FrameFault}
use Rattle.record_frame.specs.declared.fault.FrameFault.TheVariants.{Short, Bad, Memory}
use Rattle.record_frame.specs.Reading.{record_at, BeginsWith, Checks}
use Rattle.tx_model.specs.Framing.{record_len}
use Rattle.record_frame.proofs.Parts.{IsBytes}
use Rattle.record_frame.proofs.Records.{record_at-read, record_at-spelled, record_at-short, record_at-bad, record_at-memory}
use Rattle.record_frame.proofs.Results.{checks-ok, checks-found, checks-fault}
use Rattle.record_frame.proofs.FrontFrames.{checks-len, record-stays}
use Rattle.record_frame.proofs.reading.check_record.Goals as goal

found : (result : Result ℕ FrameFault) (bytes : List ℕ) → IfOk result (λ n. (r : Record) × (record_at bytes ≡ Ok (r, n))) → IsBytes bytes → IfOk result (λ n. (r : Record) × BeginsWith SpellsRecord bytes r n)
found (Ok n) bytes h fits = (h.0, record_at-spelled bytes (h.0, n) h.1 fits)
found (Err e) bytes h fits = tt

pub returns-clause-found : goal.returns-clause-found
returns-clause-found c = found c.check.result c.args.bytes.now (checks-found c.check.result _ c.check.ensures) (λ i. omega (arith, c.type_inv.bytes i))

pub returns-clause-only : goal.returns-clause-only
returns-clause-only c = λ r spelled rest is e. checks-ok c.check.result _ _ c.check.ensures (ap record_at e ∙ record_at-read r spelled rest is)

pub returns-clause-short : goal.returns-clause-short
returns-clause-short c =
    let same = checks-fault c.check.result _ Short c.check.ensures in
    let is = record_at-short c.args.bytes.now in
    (λ e. is.0 (same.0 e), λ h. same.1 (is.1 h))

pub returns-clause-bad : goal.returns-clause-bad
returns-clause-bad c = λ at.
    let same = checks-fault c.check.result _ (Bad at) c.check.ensures in
    let is = record_at-bad c.args.bytes.now at (λ i. omega (arith, c.type_inv.bytes i)) in
    (λ e. is.0 (same.0 e), λ h. same.1 (is.1 h))

pub returns-clause-memory : goal.returns-clause-memory
returns-clause-memory c = λ e. record_at-memory c.args.bytes.now ((checks-fault c.check.result _ Memory c.check.ensures).0 e)

pub returns-clause-len : goal.returns-clause-len
returns-clause-len c = checks-len c.check.result c.args.bytes.now c.check.ensures

stays : (result : Result ℕ FrameFault) (bytes : List ℕ) → Checks result (record_at bytes) → IfErr result (λ fault. fault ≢ Short → (rest : List ℕ) → record_len (bytes ++ rest) ≡ 0)
stays (Ok n) bytes same = tt
stays (Err e) bytes same = λ other rest. record-stays bytes rest e ((checks-fault (Err e) (record_at bytes) e same).0 refl) other

pub returns-clause-stays : goal.returns-clause-stays
returns-clause-stays c = stays c.check.result c.args.bytes.now c.check.ensures
