-- What the steps of nodes and servers never do, whatever message comes.
use Rattle.std.specs.Prelude.{◌≡◌, ℕ, ◌≤◌, ◌<◌, ◌^◌, ◌+◌, Bool, true, false, length, Some}
use Rattle.tx_model.specs.Records.{IsPlace, RiseByOne}
use Rattle.tx_model.specs.Spelling.{IsCount}
use Rattle.proto_model.specs.declared.message.Phase.TheVariants.{Fetching}
use Rattle.proto_model.specs.declared.message.ToNode.{ToNode}
use Rattle.proto_model.specs.declared.message.ToNode.TheVariants.{Open, Fetch, Stage, Adopt, Append, Low}
use Rattle.proto_model.specs.declared.message.FromNode.{FromNode}
use Rattle.proto_model.specs.Replicas.{ReplicaState, replica_after, replica_reply}
use Rattle.proto_model.specs.Servers.{Config, ServerState, chosen_len, commit_mark, has_fetched, is_active, server_after, session_of}
use Rattle.proto_model.specs.Sending.{next_message}
use Rattle.proto_model.specs.Validity.{IsValidToNode, IsValidFromNode}

-- ---- nodes

abbrev pub request_session : ToNode → ℕ
request_session (Open s) = s
request_session (Fetch s from max) = s
request_session (Stage s batch) = s
request_session (Adopt s len) = s
request_session (Append s batch) = s
request_session (Low s k) = s

abbrev pub may_change_log : ToNode → Bool
may_change_log (Adopt s len) = true
may_change_log (Append s batch) = true
may_change_log _ = false

-- a replica whose numbers and records are in the ranges of the formats
pub record IsValidReplica (r : ReplicaState) : Type 0 where
  pub promised : IsCount r.promised
  pub adopted : r.adopted ≤ r.promised
  pub low : r.low ≤ length r.log
  pub log : RiseByOne 1 r.log
  pub staged : RiseByOne (r.low + 1) r.staged
  pub settled : r.adopted ≡ r.promised → length r.staged ≡ 0

-- what one message does
pub record IsSaneStep (r : ReplicaState) (m : ToNode) : Type 0 where
  -- the reply is to the session that asked
  pub session : session_of (replica_reply r m) ≡ request_session m
  -- a promise never falls, and what is adopted is at most the promise
  pub promised : r.promised ≤ (replica_after r m).promised
  pub adopted : r.adopted ≤ r.promised → (replica_after r m).adopted ≤ (replica_after r m).promised
  -- only an adoption and an append change the log
  pub log : may_change_log m ≡ false → (replica_after r m).log ≡ r.log

abbrev pub EveryStepIsSane : Type 0
EveryStepIsSane = (r : ReplicaState) (m : ToNode) → IsSaneStep r m

-- a valid replica answers a valid message by a valid reply
abbrev pub RepliesAreValid : Type 0
RepliesAreValid = (r : ReplicaState) (m : ToNode) →
    IsValidReplica r → IsValidToNode m → IsValidFromNode (replica_reply r m)

-- ---- servers

-- a server whose numbers and records are in the ranges of the formats
pub record IsValidServer (c : Config) (sv : ServerState) : Type 0 where
  pub session : is_active sv.phase ≡ true → IsPlace sv.session
  pub log : RiseByOne 1 sv.log
  pub fetching : sv.phase ≡ Fetching → length sv.log < chosen_len c sv
  pub chosen : chosen_len c sv < 2 ^ 48
  pub repairing : has_fetched sv.phase ≡ true → chosen_len c sv ≤ length sv.log

-- a valid server sends valid messages
abbrev pub MessagesAreValid : Type 0
MessagesAreValid = (c : Config) (sv : ServerState) (node : ℕ) (m : ToNode) →
    IsValidServer c sv → next_message c sv node ≡ Some m → IsValidToNode m

-- a reply leaves the session, and the commit mark doesn't fall, also where it closes the server
pub record IsSaneReceive (c : Config) (sv : ServerState) (node : ℕ) (m : FromNode) : Type 0 where
  pub session : (server_after c sv node m).session ≡ sv.session
  pub committed : commit_mark c sv ≤ commit_mark c (server_after c sv node m)

abbrev pub EveryReceiveIsSane : Type 0
EveryReceiveIsSane = (c : Config) (sv : ServerState) (node : ℕ) (m : FromNode) →
    IsSaneReceive c sv node m
