use Rattle.std.proofs.Common.{arith, refl}
use Rattle.session_register.specs.Disks.{Kept}
use Rattle.serve_commands.specs.Registers.{unloaded, loaded}
use Rattle.serve_commands.proofs.NotLoaded.{register_unloaded, unloaded_told}
use Rattle.serve_commands.proofs.register_command.serve_disk.Goals as goal

pub returns-in-Ok-clause-serves : goal.returns-in-Ok-clause-serves
returns-in-Ok-clause-serves g c =
    let s = c.serve_kept.ensures.serves in
    (s.0, _, loaded s.0 s.1 (λ t. (c.in-Ok.register.number, (c.in-Ok.ensures.number t, s.2 t))), s.3)

pub returns-in-Err-clause-serves : goal.returns-in-Err-clause-serves
returns-in-Err-clause-serves g c = (
  c.end_of.result,
  _,
  unloaded c.end_of.result
      (rw c.end_of.ensures (register_unloaded (Kept g.row.D.Denot) _ _ _ _ c.in-Err.unloaded.fault c.in-Err.ensures.damaged c.in-Err.ensures.refused c.in-Err.ensures.any_moment))
      refl refl,
  c.finish-status.ensures.prints,
)

pub returns-in-Ok-clause-broken_told : goal.returns-in-Ok-clause-broken_told
returns-in-Ok-clause-broken_told g c rose =
    c.serve_kept.ensures.broken_told (omega (arith, rose, c.in-Ok.ensures.cause.none (λ e. cc)))

pub returns-in-Err-clause-broken_told : goal.returns-in-Err-clause-broken_told
returns-in-Err-clause-broken_told g c =
    unloaded_told _ _ _ c.in-Err.unloaded.fault _ _ _ c.in-Err.ensures.cause (rw c.end_of.ensures at c.finish-status.ensures.prints)
