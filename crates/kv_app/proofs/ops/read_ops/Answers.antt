use Rattle.std.proofs.Common.{ℕ, ◌≡◌, Err, Vec, Global, Result, sym, ◌∙◌, ap, subst}
use Rattle.tx_model.specs.declared.op.Op.{Op}
use Rattle.kv_app.specs.declared.ops.OpsFault.{OpsFault}
use Rattle.kv_app.specs.declared.ops.OpsFault.TheVariants.{Bad}
use Rattle.kv_app.specs.Places.{IsBadAt}
use Rattle.kv_app.proofs.Endings.{bad_place_of}
use Rattle.kv_app.proofs.ops.read_ops.Goals as goal

pub returns-in-Some-clause-bad : goal.returns-in-Some-clause-bad
returns-in-Some-clause-bad c at = (
  (λ e. let same : c.in-Some.at ≡ at = cc in subst (IsBadAt c.args.payload.now) same c.in-Some.ensures.some),
  (λ bad.
      let F : ℕ → Result (Vec Op Global) OpsFault = λ n. Err (Bad n) in
      ap F (bad_place_of c.args.payload.now c.in-Some.at c.in-Some.ensures.some ∙ sym (bad_place_of c.args.payload.now at bad))),
)
