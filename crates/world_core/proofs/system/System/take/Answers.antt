use Rattle.world_core.proofs.Leading.{steps_take, log_takes}
use Rattle.world_core.proofs.system.System.take.Goals as goal

pub returns-in_ok-outcome-in-Log : goal.returns-in_ok-outcome-in-Log
returns-in_ok-outcome-in-Log g c =
    rw (← c.self.view_is, c.in-Log.is) (log_takes g.R.Replica.state g.R.Replica.files g.R.Replica.is_faultless g.R.Replica.shown _ c.args.rows.now.items _ _ c.in_ok-outcome-in-Log.ensures (rw (← c.self.view_is) at c.requires.rows))

pub returns-in_ok-outcome-in_default : goal.returns-in_ok-outcome-in_default
returns-in_ok-outcome-in_default g c =
    steps_take g.R.Replica.state g.R.Replica.files g.R.Replica.is_faultless g.R.Replica.shown _ _ c.args.rows.now.items c.args.e.now _ c.in_ok-outcome-in_default.ensures
