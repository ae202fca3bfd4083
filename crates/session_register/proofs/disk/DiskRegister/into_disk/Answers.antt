use Rattle.std.proofs.Common.{◌≡◌, ℕ, ◌∙◌, ap, subst}
use Rattle.session_register.specs.Disks.{Kept}
use Rattle.session_register.specs.Values.{StandsFor}
use Rattle.session_register.proofs.Written.{tidy_image}
use Rattle.session_register.proofs.disk.DiskRegister.into_disk.Goals as goal

pub returns-clause-every_image : goal.returns-clause-every_image
returns-clause-every_image g c = λ works t image is.
    let number : c.self.inside.front.number ≡ c.args.self.number = ap (λ (r : Kept g.row.D.Denot). r.number) c.self.view_is in
    let failed : c.self.inside.failed ≡ c.args.self.failed = ap (λ (r : Kept g.row.D.Denot). r.failed) c.self.view_is in
    subst (λ (n : ℕ). StandsFor image n) number
    (tidy_image c.self.inside.front.number c.self.inside.front.end ((g.D.Disk.history c.self.inside.disk).now 0) image (c.self.invariant.tidy (failed ∙ works) t) is)
