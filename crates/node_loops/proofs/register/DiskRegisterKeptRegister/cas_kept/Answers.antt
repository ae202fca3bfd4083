use Rattle.std.proofs.Common.{List, ℕ}
use Rattle.disk_model.specs.File.{IsImage}
use Rattle.session_register.specs.Disks.{told_of}
use Rattle.session_register.specs.Values.{StandsFor}
use Rattle.node_loops.proofs.RegisterLemmas.{disk_stands, disk_leaves}
use Rattle.node_loops.proofs.register.DiskRegisterKeptRegister.cas_kept.Goals as goal

pub returns-clause-stands : goal.returns-clause-stands
returns-clause-stands g c =
    disk_stands c.cas.result c.cas.new.self.failed c.cas.new.self.number c.args.from (told_of c.args.self.now) g.D.Disk.tells
    (λ image. IsImage ((g.D.Disk.history c.cas.new.self.disk).now 0) image)
    (λ n. g.D.Disk.tells → (image : List ℕ) → IsImage ((g.D.Disk.history c.args.self.now.disk).now 0) image → StandsFor image n)
    c.cas.ensures.tells.after c.cas.ensures.every_image

pub returns-clause-leaves : goal.returns-clause-leaves
returns-clause-leaves g c err n told stands t =
    disk_leaves g.D.Disk.plain c.args.self.now.failed c.args.self.now.number c.args.from n (g.D.Disk.history c.args.self.now.disk) (g.D.Disk.history c.cas.new.self.disk) told (λ works. c.cas.ensures.any_moment works t) (stands t)
