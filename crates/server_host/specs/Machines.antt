-- What is true of a machine.
use Rattle.std.specs.Prelude.{◌≡◌, ℕ, ◌≤◌}
use Rattle.session_recovery.specs.Sound.{IsSound}
use Rattle.partition_server.specs.Held.{Held, config_of, state_of}
use Rattle.server_host.specs.Lacking.{AreCaughtUp}

pub record IsMachine (h : Held) (nodes : ℕ) : Type 0 where
  pub same : nodes ≡ h.known.nodes
  pub few : nodes ≤ 7
  pub sound : IsSound (config_of h) (state_of h)
  pub caught : AreCaughtUp (config_of h) (state_of h)
