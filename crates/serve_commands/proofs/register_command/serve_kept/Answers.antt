use Rattle.std.proofs.Common.{refl}
use Rattle.serve_commands.proofs.RegisterRuns.{suiting_runs, calling_runs, file_stands}
use Rattle.serve_commands.proofs.register_command.serve_kept.Goals as goal

pub returns-clause-serves : goal.returns-clause-serves
returns-clause-serves g c =
    let runs = c.serve_register-status.ensures.runs in (
      runs.0,
      (λ t. suiting_runs _ _ _ _ _ _ (runs.1 t)),
      (λ t u.
          let r = calling_runs _ _ _ _ _ _ c.args.register.number refl c.requires.files (runs.1 u) in
          record {
            after = r.0;
            runs = r.1.0;
            stands = rw c.into_disk.ensures.disk
                (file_stands g.D.Disk.tells g.D.Disk.plain (λ w. (g.D.Disk.history w.register.disk).now 0) runs.0 c.serve_register-status.new.register r.0 t r.1.1);
          }),
      runs.2,
    )
