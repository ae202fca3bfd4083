-- The world: the register, the nodes with their files, the servers, the clients, the envelopes between them, and what is
-- kept for good of each session.
use Rattle.std.specs.Prelude.{ℕ, ◌==◌, Bool, true, false, if◌then◌else◌, List, [], ◌∷◌, ◌++◌, length, Option, None}
use Rattle.tx_model.specs.declared.record.Record.{Record}
use Rattle.proto_model.specs.declared.message.Report.{Report}
use Rattle.proto_model.specs.declared.message.Phase.{Phase}
use Rattle.proto_model.specs.declared.message.Phase.TheVariants.{Fetching, Repairing, Running}
use Rattle.proto_model.specs.Tables.{put}
use Rattle.proto_model.specs.Replicas.{ReplicaState, fresh_replica}
use Rattle.proto_model.specs.Servers.{Config, ServerState, idle_server, chosen}
use Rattle.client_core.specs.Clients.{ClientState, fresh_client}
use Rattle.net_model.specs.declared.cluster.Cluster.{Cluster}
use Rattle.net_model.specs.declared.mail.Envelope.{Envelope}
use Rattle.net_model.specs.Pools.{envelope_at}

-- what is kept of a session for good
pub record Book : Type 0 where
  -- the log that the session's server last had while it was repairing or running
  pub log : List Record
  -- the report that the server chose, once it has chosen one
  pub choice : Option Report
  -- whether the server came to repairing
  pub repaired : Bool

abbrev pub empty_book : Book
empty_book = record { log = []; choice = None; repaired = false }

-- what a node had adopted after an event that it took part in, and how long its log was
pub record Vote : Type 0 where
  pub node : ℕ
  pub session : ℕ
  pub length : ℕ

pub record WorldState : Type 0 where
  pub cluster : Cluster
  -- the register's number, which is the last session that was won
  pub number : ℕ
  -- of each server, the number that it keeps for its next compare-and-set
  pub kept : ℕ → Option ℕ
  pub nodes : ℕ → ReplicaState
  -- of each node, the bytes of each of its files
  pub files : ℕ → ℕ → List ℕ
  pub servers : ℕ → ServerState
  pub clients : ℕ → ClientState
  -- of each session
  pub books : ℕ → Book
  -- the newest last
  pub votes : List Vote
  -- the envelopes that were sent, which are numbered from 1, and the number of the one to be delivered next
  pub sent : List Envelope
  pub cursor : ℕ

-- the world before the first event
abbrev pub start : Cluster → WorldState
start cluster = record {
  cluster = cluster;
  number = 0;
  kept = λ server. None;
  nodes = λ node. fresh_replica;
  files = λ node file. [];
  servers = λ server. idle_server;
  clients = λ client. fresh_client;
  books = λ session. empty_book;
  votes = [];
  sent = [];
  cursor = 1;
}

abbrev pub config_of : Cluster → Config
config_of c = record { nodes = c.nodes; rows = c.rows; slots = c.slots }

-- the envelope of a number
abbrev pub envelope_of : WorldState → ℕ → Option Envelope
envelope_of w number = envelope_at (record { sent = w.sent; cursor = w.cursor }) number

-- ---- what changes

abbrev pub book_in : Phase → Config → ServerState → Book → Book
book_in Fetching c sv book = record book { choice = chosen c sv }
book_in Repairing c sv book = record { log = sv.log; choice = chosen c sv; repaired = true }
book_in Running c sv book = record { log = sv.log; choice = chosen c sv; repaired = true }
book_in other c sv book = book

-- a server that changed, with its session's book
abbrev pub with_server : WorldState → ℕ → ServerState → WorldState
with_server w server sv = record w {
  servers = put w.servers server sv;
  books = put w.books sv.session (book_in sv.phase (config_of w.cluster) sv (w.books sv.session));
}

-- a node that has adopted nothing has no vote
abbrev pub vote_of : ℕ → ReplicaState → List Vote
vote_of node r = if r.adopted == 0 then [] else record { node = node; session = r.adopted; length = length r.log } ∷ []

-- a node that took part in an event, with its vote and its files
abbrev pub with_node : WorldState → ℕ → ReplicaState → (ℕ → List ℕ) → WorldState
with_node w node r files = record w {
  nodes = put w.nodes node r;
  votes = w.votes ++ vote_of node r;
  files = put w.files node files;
}

abbrev pub with_client : WorldState → ℕ → ClientState → WorldState
with_client w client cl = record w { clients = put w.clients client cl }

-- envelopes that are sent
abbrev pub with_sent : WorldState → List Envelope → WorldState
with_sent w envelopes = record w { sent = w.sent ++ envelopes }
