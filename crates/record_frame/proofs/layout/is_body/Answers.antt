use Rattle.std.proofs.Common.{sym, ◌∙◌, arith}
use Rattle.record_frame.proofs.Records.{is_body-exactly}
use Rattle.record_frame.proofs.layout.is_body.Goals as goal

pub returns-clause-spelled : goal.returns-clause-spelled
returns-clause-spelled c =
    let exactly = is_body-exactly c.args.bytes.now (λ i. omega (arith, c.type_inv.bytes i)) in
    (λ e. exactly.0 (sym c.has_form.ensures ∙ e), λ h. c.has_form.ensures ∙ exactly.1 h)
