use Rattle.disk_model.proofs.ByChance.{always_as_put}
use Rattle.disk_model.proofs.laws.every_disk_is_as_put_but_by_chance.Goals as goal

pub returns : goal.returns
returns g c = λ t. always_as_put (g.D.Disk.history c.args.disk.now) (g.met.D.Disk.sound c.args.disk.now t)
