-- What the fields of a `Recovery` hold.
use Rattle.std.specs.Prelude.{◌≡◌, ◌≤◌, length}
use Rattle.session_recovery.specs.declared.recovery.Recovery.TheInside.{Inside}
use Rattle.session_recovery.specs.Recovering.{Recovering, IsRecovering, config_of, state_of}

abbrev pub recovered_by : Inside → Recovering
recovered_by r = record { known = r.nodes; log = r.log.items; acked = r.acked }

pub record IsRecovery (r : Inside) : Type 0 where
  pub few : r.nodes.nodes ≤ 7
  pub acked : length r.acked ≡ 8
  pub is : IsRecovering (config_of (recovered_by r)) (state_of (recovered_by r))
