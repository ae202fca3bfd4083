use Rattle.std.proofs.Common.{refl}
use Rattle.world_core.proofs.Fits.{kept_listed, counts_some, keeps}
use Rattle.world_core.proofs.Events.{read_happens}
use Rattle.world_core.proofs.system.System.read.Goals as goal

pub keep-requires : goal.keep-requires
keep-requires g c =
    let ready = rw (← c.self.view_is) at c.requires.ready in
    let within = rw (← c.self.view_is) at c.requires.server in
    kept_listed _ _ _ _ ready within

pub returns : goal.returns
returns g c =
    rw (← c.self.view_is, c.read_number-number.ensures.same) (record {
      cluster_same = refl;
      happens_so = read_happens _ _ c.args.v c.read_number-number.result c.read_number-number.ensures.value c.keep.ensures.numbers;
      system = λ n is. keeps _ _ n _ _ _ is.number c.keep.ensures.size (counts_some _ _ c.args.v c.read_number-number.result (rw c.read_number-number.ensures.value is.number) c.keep.ensures.numbers is.kept) is;
    })
