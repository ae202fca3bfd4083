-- What holds of the lists that a world's code keeps.
use Rattle.std.specs.Prelude.{◌≡◌, ℕ, ◌+◌, ◌*◌, ◌≤◌, ◌<◌, List, [], ◌∷◌, length, Option, Some, ⊤}
use Rattle.std.specs.List.{AllByRecursion}
use Rattle.tx_model.specs.Applications.{Application}
use Rattle.tx_model.specs.Spelling.{IsCount}
use Rattle.proto_model.specs.declared.message.Status.{Status}
use Rattle.proto_model.specs.Replicas.{ReplicaState, fresh_replica}
use Rattle.proto_model.specs.Validity.{IsValidToNode, IsValidFromNode, HasPlace}
use Rattle.partition_server.specs.Held.{Held, config_of as held_config}
use Rattle.client_core.specs.States.{Kept}
use Rattle.net_model.specs.declared.cluster.Cluster.{Cluster}
use Rattle.net_model.specs.declared.mail.Envelope.{Envelope}
use Rattle.net_model.specs.declared.mail.Mail.{Mail}
use Rattle.net_model.specs.declared.mail.Mail.TheVariants as mail
use Rattle.net_model.specs.Clusters.{IsClusterInRange}
use Rattle.world_law.specs.Worlds.{config_of}
use Rattle.world_core.specs.declared.tally.Row.{Row}
use Rattle.world_core.specs.Kept.{KeptSystem, numbers_of}
use Rattle.world_core.specs.Tallies.{IsRowOf}

-- so many events are stepped at most
abbrev pub max_events : ℕ
max_events = 1000000

-- ---- parties

-- a replica without faults, whose files have numbers up to this at most
pub record IsGoing {R : Type 0} (is_faultless : R → Type 0) (status : R → Status) (most : ℕ) (r : R) : Type 0 where
  pub faultless : is_faultless r
  pub file : (status r).file ≤ most

-- a replica that has taken no step: it has the empty state, its files are empty and without faults
pub record IsFresh {R : Type 0} (state : R → ReplicaState) (files_in : R → ℕ → List ℕ) (is_faultless : R → Type 0) (status : R → Status) (r : R) : Type 0 where
  pub empty : state r ≡ fresh_replica
  pub files : (file : ℕ) → files_in r file ≡ []
  pub faultless : is_faultless r
  pub file : (status r).file ≡ 1

abbrev pub HasConfig : Cluster → Held → Type 0
HasConfig cluster server = held_config server ≡ config_of cluster

-- clients whose numbers rise by one, the first of them this
abbrev pub AreNumbered : ℕ → List (Kept Application) → Type 0
AreNumbered number [] = ⊤
AreNumbered number (client ∷ clients) = (client.client ≡ number) × AreNumbered (number + 1) clients

-- so many requests wait at these servers
abbrev pub waiting_at : List Held → ℕ
waiting_at [] = 0
waiting_at (server ∷ servers) = length server.waiting + waiting_at servers

-- a number that a server keeps is one of a register
abbrev pub AreCounts : (ℕ → Option ℕ) → Type 0
AreCounts kept = (server number : ℕ) → kept server ≡ Some number → IsCount number

-- ---- envelopes

-- what the party that a message is for asks of it: a node and a server that it is valid, a client that its record has a place
abbrev pub IsFit : Mail → Type 0
IsFit (mail.ToNode m) = IsValidToNode m
IsFit (mail.FromNode m) = IsValidFromNode m
IsFit (mail.ToServer m) = ⊤
IsFit (mail.FromServer m) = HasPlace m

abbrev pub AreFit : List Envelope → Type 0
AreFit envelopes = AllByRecursion (λ (e : Envelope). IsFit e.message) envelopes

-- ---- the whole

-- The cluster's parties are all there and without faults, and what was sent can be delivered, after so many events. An event
-- makes a node begin one file at most. It sends seven envelopes at most, or the answers of requests that waited.
pub record IsSystem {R : Type 0} (is_faultless : R → Type 0) (status : R → Status) (events : ℕ) (k : KeptSystem R) : Type 0 where
  pub range : IsClusterInRange k.cluster
  pub number : IsCount k.number
  pub kept_count : length k.kept ≡ 9
  pub kept : AreCounts (numbers_of k.kept)
  pub node_count : length k.nodes ≡ k.cluster.nodes
  pub server_count : length k.servers ≡ k.cluster.servers
  pub client_count : length k.clients ≡ k.cluster.clients
  pub going : AllByRecursion (IsGoing is_faultless status (events + 1)) k.nodes
  pub configs : AllByRecursion (HasConfig k.cluster) k.servers
  pub numbers : AreNumbered 1 k.clients
  pub fit : AreFit k.sent
  pub few : length k.sent + waiting_at k.servers ≤ 7 * events

-- one more event may be stepped
pub record IsReady {R : Type 0} (is_faultless : R → Type 0) (status : R → Status) (k : KeptSystem R) : Type 0 where
  pub events : ℕ
  pub more : events < max_events
  pub system : IsSystem is_faultless status events k

-- so many events were stepped, whatever their number is
pub record IsRunning {R : Type 0} (is_faultless : R → Type 0) (status : R → Status) (k : KeptSystem R) : Type 0 where
  pub events : ℕ
  pub system : IsSystem is_faultless status events k

-- the system, and rows for its nodes
pub record IsWhole {R : Type 0} (is_faultless : R → Type 0) (status : R → Status) (events : ℕ) (k : KeptSystem R) (rows : List Row) : Type 0 where
  pub system : IsSystem is_faultless status events k
  pub of_nodes : AllByRecursion (IsRowOf k.cluster.nodes) rows
