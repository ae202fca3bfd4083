-- What a partition server holds, and the state that it stands for.
use Rattle.std.specs.Prelude.{◌≡◌, ℕ, ◌≤◌, Bool, true, false, List, [], length, ⊤}
use Rattle.tx_model.specs.declared.record.Record.{Record}
use Rattle.tx_model.specs.Records.{IsPlace}
use Rattle.proto_model.specs.declared.message.Phase.{Phase}
use Rattle.proto_model.specs.declared.message.Phase.TheVariants.{Running, Closed}
use Rattle.proto_model.specs.Servers.{Config, ServerState, Waiting, chosen_len}
use Rattle.lock_table.specs.Tables.{Table, TableStandsFor}
use Rattle.quorum_append.specs.Kept.{Kept, has_kept, length_kept}
use Rattle.session_recovery.specs.Known.{Known, Rest, server_of}
use Rattle.session_recovery.specs.Sound.{IsSound}
use Rattle.partition_server.specs.Waits.{WaitUpTo}

pub record Held : Type 0 where
  -- those of the lock table
  pub rows : ℕ
  pub slots : ℕ
  -- what is known of the nodes, and what they acknowledged
  pub known : Known
  pub kept : Kept
  pub log : List Record
  pub waiting : List Waiting

abbrev pub config_of : Held → Config
config_of h = record { nodes = h.known.nodes; rows = h.rows; slots = h.slots }

abbrev pub rest_of : Held → Rest
rest_of h = record { log = h.log; acked = length_kept h.kept; waiting = h.waiting }

abbrev pub state_of : Held → ServerState
state_of h = server_of h.known (rest_of h)

-- the session that closed the server is one
abbrev pub IsClosedBySession : Phase → Type 0
IsClosedBySession (Closed p) = IsPlace p
IsClosedBySession _ = ⊤

abbrev pub is_running : Phase → Bool
is_running Running = true
is_running _ = false

-- what is true of each server's state, with its lock table
pub record IsServing (c : Config) (sv : ServerState) (locks : Table) : Type 0 where
  pub sound : IsSound c sv
  pub closed : IsClosedBySession sv.phase
  pub waiting : WaitUpTo (length sv.log) sv.waiting
  pub quiet : is_running sv.phase ≡ false → sv.waiting ≡ []
  -- the table has what a scan of the records above the recovered mark finds
  pub stands : sv.phase ≡ Running → TableStandsFor locks (chosen_len c sv) sv.log

pub record IsHeld (h : Held) (locks : Table) : Type 0 where
  pub some : 1 ≤ h.known.nodes
  pub few : h.known.nodes ≤ 7
  pub nodes : h.kept.nodes ≡ h.known.nodes
  pub places : length h.kept.lens ≡ 8
  -- the nodes that adopted are those that acknowledged anything
  pub heard : (i : ℕ) → (state_of h).adopted i ≡ has_kept h.kept 0 i
  pub is : IsServing (config_of h) (state_of h) locks
