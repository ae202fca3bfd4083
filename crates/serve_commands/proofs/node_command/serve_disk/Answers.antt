use Rattle.std.proofs.Common.{arith, refl, ap, ◌∙◌, Err}
use Rattle.partition_store.specs.Stands.{held_now}
use Rattle.serve_commands.specs.Storages.{unloaded, loaded}
use Rattle.serve_commands.proofs.StorageRuns.{goes_from}
use Rattle.serve_commands.proofs.NotLoaded.{storage_unloaded, unloaded_told}
use Rattle.serve_commands.proofs.node_command.serve_disk.Goals as goal

pub returns-in-Ok-clause-serves : goal.returns-in-Ok-clause-serves
returns-in-Ok-clause-serves g c =
    let s = c.serve_node.ensures.serves in (
      s.0,
      _,
      loaded s.0 s.1 s.2
          (λ t. (
            held_now (g.D.Disk.history c.in-Ok.node.store.disk).now,
            c.in-Ok.ensures.held t,
            (λ u. goes_from _ _ _ _ _ _ _ _ _ _ _ (c.in-Ok.ensures.state t)
                (ap (λ status. status.file) c.in-Ok.ensures.shown ∙ (c.in-Ok.ensures.durable t).standing.file) (s.3 t u)),
          )),
      s.4,
    )

pub returns-in-Err-clause-serves : goal.returns-in-Err-clause-serves
returns-in-Err-clause-serves g c = (
  c.end_of.result,
  _,
  unloaded c.end_of.result
      (rw c.end_of.ensures (storage_unloaded _ _ _ _ c.in-Err.unloaded.fault c.in-Err.ensures.damaged c.in-Err.ensures.any_moment (λ e. c.in-Err.ensures.memory (ap Err e))))
      refl refl,
  c.finish-status.ensures.prints,
)

pub returns-in-Ok-clause-broken_told : goal.returns-in-Ok-clause-broken_told
returns-in-Ok-clause-broken_told g c rose =
    c.serve_node.ensures.broken_told (omega (arith, rose, c.in-Ok.ensures.cause.none (λ e. cc)))

pub returns-in-Err-clause-broken_told : goal.returns-in-Err-clause-broken_told
returns-in-Err-clause-broken_told g c =
    unloaded_told _ _ _ c.in-Err.unloaded.fault _ _ _ c.in-Err.ensures.cause (rw c.end_of.ensures at c.finish-status.ensures.prints)
