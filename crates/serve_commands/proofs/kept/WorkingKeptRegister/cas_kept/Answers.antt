use Rattle.std.proofs.Common.{List, ℕ}
use Rattle.disk_model.specs.File.{IsImage}
use Rattle.session_register.specs.Values.{StandsFor}
use Rattle.node_loops.proofs.RegisterLemmas.{disk_stands, disk_leaves}
use Rattle.serve_commands.specs.Working.{told_while}
use Rattle.serve_commands.proofs.kept.WorkingKeptRegister.cas_kept.Goals as goal

pub returns-clause-stands : goal.returns-clause-stands
returns-clause-stands g c =
    disk_stands c.cas.result c.cas.new.self.stopped c.cas.new.self.register.number c.args.from
    (told_while c.args.self.now.stopped c.args.self.now.register.number) g.D.Disk.tells
    (λ image. IsImage ((g.D.Disk.history c.cas.new.self.register.disk).now 0) image)
    (λ n. g.D.Disk.tells → (image : List ℕ) → IsImage ((g.D.Disk.history c.args.self.now.register.disk).now 0) image → StandsFor image n)
    c.cas.ensures.tells.after c.cas.ensures.every_image

pub returns-clause-leaves : goal.returns-clause-leaves
returns-clause-leaves g c err n told stands t =
    disk_leaves g.D.Disk.plain c.args.self.now.stopped c.args.self.now.register.number c.args.from n
    (g.D.Disk.history c.args.self.now.register.disk) (g.D.Disk.history c.cas.new.self.register.disk)
    told (λ on. c.cas.ensures.any_moment on t) (stands t)
