-- What a call's answer says of its caller's.
use Rattle.std.proofs.Common.{◌≡◌, ℕ, Result, Ok, Err, sym, subst}
use Rattle.std.specs.Result.{IsErrAnd}
use Rattle.disk_model.specs.declared.unloaded.LoadFault.{LoadFault}
use Rattle.disk_model.specs.declared.unloaded.LoadFault.TheVariants.{Disk, Damaged, Memory}
use Rattle.disk_model.specs.LoadFaults.{IsOfDamage, IfDamaged}

-- a damaged place that is told on, with what it means there
pub told_on : (e : LoadFault) (P Q : ℕ → ℕ → Type 0) → IsOfDamage e P → ((file at : ℕ) → P file at → Q file at) → IsOfDamage e Q
told_on Disk P Q is to = tt
told_on (Damaged file at) P Q is to = to file at is
told_on Memory P Q is to = tt

-- by `?`
pub told_by_try : {U : Type 0} (r : Result U LoadFault) (e : LoadFault) (P Q : ℕ → ℕ → Type 0) → IsErrAnd r (λ x. x ≡ e) → IsOfDamage e P → ((file at : ℕ) → P file at → Q file at) → IfDamaged r Q
told_by_try (Ok x) e P Q same is to = absurd same
told_by_try (Err d) e P Q same is to = told_on d P Q (subst (λ (x : LoadFault). IsOfDamage x P) (sym same) is) to
