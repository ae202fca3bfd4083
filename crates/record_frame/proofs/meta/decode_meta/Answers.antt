use Rattle.std.proofs.Common.{◌≡◌, ◌≢◌, ◌++◌, ℕ, List, Result, Ok, Err, ap, sym, ◌∙◌, arith}
use Rattle.std.specs.Prelude.{IfOk, IfErr}
use Rattle.tx_model.specs.declared.meta.Meta.{Meta}
use Rattle.tx_model.specs.Spelling.{SpellsMeta}
use Rattle.record_frame.specs.declared.fault.FrameFault.{FrameFault}
use Rattle.record_frame.specs.Reading.{meta_at, BeginsWith}
use Rattle.record_frame.specs.declared.fault.FrameFault.TheVariants.{Short}
use Rattle.tx_model.specs.Framing.{meta_len}
use Rattle.record_frame.proofs.FrontFrames.{meta-framed, meta-stays}
use Rattle.record_frame.proofs.Parts.{IsBytes}
use Rattle.record_frame.proofs.Metas.{meta_at-read, meta_at-spelled, meta_at-short, meta_at-bad, meta_at-memory}
use Rattle.record_frame.proofs.meta.decode_meta.Goals as goal

found : (result : Result (Meta × ℕ) FrameFault) (bytes : List ℕ) → result ≡ meta_at bytes → IsBytes bytes → IfOk result (λ x. BeginsWith SpellsMeta bytes x.0 x.1)
found (Ok x) bytes e fits = meta_at-spelled bytes x (sym e) fits
found (Err f) bytes e fits = tt

pub returns-clause-found : goal.returns-clause-found
returns-clause-found c = found c.decode.result c.args.bytes.now c.decode.ensures (λ i. omega (arith, c.type_inv.bytes i))

pub returns-clause-only : goal.returns-clause-only
returns-clause-only c = λ m spelled rest is e. c.decode.ensures ∙ ap meta_at e ∙ meta_at-read m spelled rest is

pub returns-clause-short : goal.returns-clause-short
returns-clause-short c =
    let is = meta_at-short c.args.bytes.now in
    (λ e. is.0 (sym c.decode.ensures ∙ e), λ h. c.decode.ensures ∙ is.1 h)

pub returns-clause-bad : goal.returns-clause-bad
returns-clause-bad c = λ at.
    let is = meta_at-bad c.args.bytes.now at (λ i. omega (arith, c.type_inv.bytes i)) in
    (λ e. is.0 (sym c.decode.ensures ∙ e), λ h. c.decode.ensures ∙ is.1 h)

pub returns-clause-memory : goal.returns-clause-memory
returns-clause-memory c = λ e. meta_at-memory c.args.bytes.now (sym c.decode.ensures ∙ e)

pub returns-clause-framed : goal.returns-clause-framed
returns-clause-framed c = meta-framed c.decode.result c.args.bytes.now c.decode.ensures

stays : (result : Result (Meta × ℕ) FrameFault) (bytes : List ℕ) → result ≡ meta_at bytes → IfErr result (λ fault. fault ≢ Short → (rest : List ℕ) → meta_len (bytes ++ rest) ≡ 0)
stays (Ok x) bytes same = tt
stays (Err e) bytes same = λ other rest. meta-stays bytes rest e (sym same) other

pub returns-clause-stays : goal.returns-clause-stays
returns-clause-stays c = stays c.decode.result c.args.bytes.now c.decode.ensures
