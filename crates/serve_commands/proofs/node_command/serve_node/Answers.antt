use Rattle.serve_commands.proofs.StorageRuns.{suiting_runs, stepping_runs, stands_of, node_held, undamaged}
use Rattle.serve_commands.proofs.node_command.serve_node.Goals as goal

pub returns-clause-serves : goal.returns-clause-serves
returns-clause-serves g c = (
  c.serve_storage-status.ensures.runs.0,
  (λ t. suiting_runs _ _ _ _ _ _ _ _ _ (c.serve_storage-status.ensures.runs.1 t)),
  (λ t. undamaged g.D.Disk.tells _ c.serve_storage-status.ensures.runs.3.hidden t),
  (λ t u.
      let r = stepping_runs _ _ _ _ _ _ t
      (λ x t on. node_held (g.D.Disk.history x.store.disk).now x.store x.shown (x.shows on) (x.standing t on))
      _ _ _ c.requires.on (c.serve_storage-status.ensures.runs.1 u) in
      record { after = r.0; runs = r.1.0; stands = stands_of g.D.Disk.history g.D.Disk.plain r.0 _ _ c.into_disk.ensures r.1.1 }),
  c.serve_storage-status.ensures.runs.2,
)
