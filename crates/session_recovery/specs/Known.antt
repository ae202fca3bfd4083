-- What a server knows of the nodes of its session, and the state of a server that knows it.
use Rattle.std.specs.Prelude.{◌≡◌, ℕ, ◌≤◌, Bool, false, List, [], length, slice_index_or}
use Rattle.tx_model.specs.declared.record.Record.{Record}
use Rattle.proto_model.specs.declared.message.Report.{Report}
use Rattle.proto_model.specs.declared.message.Phase.{Phase}
use Rattle.proto_model.specs.Quorums.{count}
use Rattle.proto_model.specs.Servers.{Config, ServerState, Waiting}

-- of each node one place in a list: that of the node's number, so that the first place is of no node
pub record Known : Type 0 where
  pub nodes : ℕ
  pub session : ℕ
  pub phase : Phase
  -- in the order in which they came
  pub reports : List Report
  pub reported : List Bool
  pub staged : List ℕ
  pub lows : List ℕ
  pub adopted : List Bool

-- what else a server has
pub record Rest : Type 0 where
  pub log : List Record
  pub acked : ℕ → ℕ
  pub waiting : List Waiting

abbrev pub nothing_else : Rest
nothing_else = record { log = []; acked = λ i. 0; waiting = [] }

-- rows and slots are those of a lock table, of which recovery makes no use
abbrev pub config_of : Known → Config
config_of k = record { nodes = k.nodes; rows = 0; slots = 0 }

-- a list as a table, counted from 0; what is not in the list is other
abbrev pub column : {A : Type 0} → A → List A → ℕ → A
column other xs i = slice_index_or xs i other

abbrev pub server_of : Known → Rest → ServerState
server_of k rest = record {
  phase = k.phase;
  session = k.session;
  log = rest.log;
  reports = k.reports;
  reported = column false k.reported;
  staged = column 0 k.staged;
  low = column 0 k.lows;
  adopted = column false k.adopted;
  acked = rest.acked;
  waiting = rest.waiting;
}

-- what is always true of it
pub record IsKnown (k : Known) : Type 0 where
  pub some : 1 ≤ k.nodes
  pub few : k.nodes ≤ 7
  pub reported : length k.reported ≡ 8
  pub staged : length k.staged ≡ 8
  pub lows : length k.lows ≡ 8
  pub adopted : length k.adopted ≡ 8
  -- no node has two reports
  pub once : length k.reports ≡ count (column false k.reported) k.nodes
