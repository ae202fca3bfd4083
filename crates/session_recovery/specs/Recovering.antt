-- A recovery: what is known of the nodes, and the chosen log as far as it was fetched.
use Rattle.std.specs.Prelude.{◌≡◌, ℕ, true, List, [], length}
use Rattle.tx_model.specs.declared.record.Record.{Record}
use Rattle.proto_model.specs.Servers.{Config, ServerState, chosen_len, has_fetched, is_active}
use Rattle.session_recovery.specs.Known.{Known, column, config_of as config_of_known, server_of}
use Rattle.session_recovery.specs.Sound.{IsSound}

pub record Recovering : Type 0 where
  pub known : Known
  pub log : List Record
  -- what each node acknowledged, at the place of its number
  pub acked : List ℕ

abbrev pub config_of : Recovering → Config
config_of r = config_of_known r.known

-- the server's state: it has taken no appends, so that no request waits
abbrev pub state_of : Recovering → ServerState
state_of r = server_of r.known (record { log = r.log; acked = column 0 r.acked; waiting = [] })

-- a node that adopted has reported, and holds the whole log
pub record HasAll (sv : ServerState) (i : ℕ) : Type 0 where
  pub reported : sv.reported i ≡ true
  pub repair : has_fetched sv.phase ≡ true
  pub whole : sv.acked i ≡ length sv.log

-- what is true of the server in a recovery
pub record IsRecovering (c : Config) (sv : ServerState) : Type 0 where
  pub sound : IsSound c sv
  pub active : is_active sv.phase ≡ true
  pub whole : has_fetched sv.phase ≡ true → length sv.log ≡ chosen_len c sv
  pub adopters : (i : ℕ) → sv.adopted i ≡ true → HasAll sv i
