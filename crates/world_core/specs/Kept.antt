-- What the code of a world keeps, and the worlds of the definitions that it stands for. Of books
-- and votes the code keeps what the one log is found by.
use Rattle.std.specs.Prelude.{◌≡◌, ℕ, Bool, List, [], map, Option, None}
use Rattle.std.specs.FinMap as finite
use Rattle.std.specs.Coded.{Coded, coded_list, coded_ℕ, coded_ℤ}
use Rattle.tx_model.specs.Applications.{Application}
use Rattle.proto_model.specs.Tables.{table}
use Rattle.proto_model.specs.Replicas.{ReplicaState, fresh_replica}
use Rattle.proto_model.specs.Servers.{ServerState, idle_server}
use Rattle.client_core.specs.Clients.{ClientState, fresh_client}
use Rattle.partition_server.specs.Held.{Held, state_of as server_state}
use Rattle.client_core.specs.States.{Kept, client_state}
use Rattle.net_model.specs.declared.cluster.Cluster.{Cluster}
use Rattle.net_model.specs.declared.mail.Envelope.{Envelope}
use Rattle.world_law.specs.Worlds.{WorldState}
use Rattle.world_core.specs.declared.tally.Row.{Row}

-- by which an application is told from another
abbrev pub application_code : Coded Application
application_code = finite.code (coded_list coded_ℕ) coded_ℤ

-- over the replicas themselves
pub record KeptSystem (R : Type 0) : Type 0 where
  pub cluster : Cluster
  -- the register's number
  pub number : ℕ
  -- of each server, the number that it keeps for its next compare-and-set
  pub kept : List (Option ℕ)
  pub nodes : List R
  pub servers : List Held
  pub clients : List (Kept Application)
  pub sent : List Envelope
  pub cursor : ℕ

pub record KeptWorld (R : Type 0) : Type 0 where
  pub system : KeptSystem R
  -- of each session that was won, the first of which has the number 1
  pub rows : List Row
  -- so many events were stepped
  pub stepped : ℕ
  -- memory did not suffice for an event
  pub spent : Bool

-- the states of the parties of a cluster with the files of its nodes, each list from number 1 on
pub record Parties : Type 0 where
  pub cluster : Cluster
  pub nodes : List ReplicaState
  pub files : List (ℕ → List ℕ)
  pub servers : List ServerState
  pub clients : List ClientState

-- all of a world but its books and votes
pub record Shown : Type 0 where
  pub parties : Parties
  pub number : ℕ
  pub kept : List (Option ℕ)
  pub sent : List Envelope
  pub cursor : ℕ

abbrev pub parties_of : {R : Type 0} → (R → ReplicaState) → (R → ℕ → List ℕ) → Cluster → List R → List Held → List (Kept Application) → Parties
parties_of state files cluster nodes servers clients = record {
  cluster = cluster;
  nodes = map state nodes;
  files = map files nodes;
  servers = map server_state servers;
  clients = map client_state clients;
}

-- the states and the files of the nodes are those of the replicas
abbrev pub shown_of : {R : Type 0} → (R → ReplicaState) → (R → ℕ → List ℕ) → KeptSystem R → Shown
shown_of state files k = record {
  parties = parties_of state files k.cluster k.nodes k.servers k.clients;
  number = k.number;
  kept = k.kept;
  sent = k.sent;
  cursor = k.cursor;
}

-- ---- lists as tables

abbrev pub nodes_of : List ReplicaState → ℕ → ReplicaState
nodes_of xs = table fresh_replica xs

abbrev pub no_files : ℕ → List ℕ
no_files file = []

abbrev pub files_of : List (ℕ → List ℕ) → ℕ → ℕ → List ℕ
files_of xs = table no_files xs

abbrev pub servers_of : List ServerState → ℕ → ServerState
servers_of xs = table idle_server xs

abbrev pub clients_of : List ClientState → ℕ → ClientState
clients_of xs = table fresh_client xs

abbrev pub numbers_of : List (Option ℕ) → ℕ → Option ℕ
numbers_of xs = table None xs

-- the world with these parties
abbrev pub with_parties : Parties → WorldState → WorldState
with_parties p w = record w {
  cluster = p.cluster;
  nodes = nodes_of p.nodes;
  files = files_of p.files;
  servers = servers_of p.servers;
  clients = clients_of p.clients;
}

abbrev pub HasParties : Parties → WorldState → Type 0
HasParties p w = w ≡ with_parties p w

-- the world that is shown, with the books and votes of a world
abbrev pub seen : Shown → WorldState → WorldState
seen x w = record (with_parties x.parties w) { number = x.number; kept = numbers_of x.kept; sent = x.sent; cursor = x.cursor }

abbrev pub Shows : Shown → WorldState → Type 0
Shows x w = w ≡ seen x w
