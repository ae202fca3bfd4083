use Rattle.disk_model.proofs.Told.{told_on}
use Rattle.session_register.proofs.Framed.{not_both}
use Rattle.session_register.proofs.Written.{tidy_image}
use Rattle.session_register.proofs.Loaded.{firm_numbers}
use Rattle.session_register.proofs.disk.DiskRegister.load.Goals as goal

pub returns-in-Ok-clause-every_image : goal.returns-in-Ok-clause-every_image
returns-in-Ok-clause-every_image g c = λ t image is. tidy_image c.in-Ok.front.number c.in-Ok.front.end ((g.D.Disk.history c.load_values.new.disk).now 0) image (c.in-Ok.ensures.tidy t) is

pub returns-in-Ok-clause-any_moment : goal.returns-in-Ok-clause-any_moment
returns-in-Ok-clause-any_moment g c = λ t start number stands.
    firm_numbers g.D.Disk.plain number (g.D.Disk.history c.args.disk) (g.D.Disk.history c.load_values.new.disk) (g.met.D.Disk.sound c.load_values.new.disk t) (g.met.D.Disk.settles c.load_values.new.disk t) stands (c.load_values.ensures.firm t start)

pub returns-in-Err-clause-any_moment : goal.returns-in-Err-clause-any_moment
returns-in-Err-clause-any_moment g c = λ t start number stands.
    firm_numbers g.D.Disk.plain number (g.D.Disk.history c.args.disk) (g.D.Disk.history c.load_values.new.disk) (g.met.D.Disk.sound c.load_values.new.disk t) (g.met.D.Disk.settles c.load_values.new.disk t) stands (c.load_values.ensures.firm t start)

pub returns-in-Err-clause-not_damaged : goal.returns-in-Err-clause-not_damaged
returns-in-Err-clause-not_damaged g c = λ t number stands.
    told_on c.in-Err.fault _ (λ file at. ⊥) c.in-Err.ensures.damaged (λ file at is. not_both _ number at stands (is.1 t))
