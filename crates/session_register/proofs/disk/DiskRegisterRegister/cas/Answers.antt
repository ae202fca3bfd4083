use Rattle.std.proofs.Common.{subst}
use Rattle.session_register.specs.Disks.{Kept}
use Rattle.session_register.specs.Values.{IsTidy}
use Rattle.session_register.proofs.Written.{tidy_image}
use Rattle.session_register.proofs.disk.DiskRegisterRegister.cas.Goals as goal

pub returns-then-from-number-clause-every_image : goal.returns-then-from-number-clause-every_image
returns-then-from-number-clause-every_image g c = λ t image is.
    tidy_image _ _ _ image (subst (λ (r : Kept g.row.D.Denot). IsTidy r.number r.end ((g.D.Disk.history r.disk).now 0)) c.self.view_is (c.self.invariant.tidy c.if-self.false t)) is

pub returns-then-from-eq-MAX_PLACE-clause-every_image : goal.returns-then-from-eq-MAX_PLACE-clause-every_image
returns-then-from-eq-MAX_PLACE-clause-every_image g c = λ t image is.
    tidy_image _ _ _ image (subst (λ (r : Kept g.row.D.Denot). IsTidy r.number r.end ((g.D.Disk.history r.disk).now 0)) c.self.view_is (c.self.invariant.tidy c.if-self.false t)) is

pub returns-clause-every_image : goal.returns-clause-every_image
returns-clause-every_image g c = λ t image is. tidy_image c.raise.new.self.number c.raise.new.self.end ((g.D.Disk.history c.raise.new.self.disk).now 0) image (c.in_ok-raise.ensures.tidy t) is
