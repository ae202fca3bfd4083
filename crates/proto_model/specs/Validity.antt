-- Which messages are valid: their numbers, counts and lists are in the ranges of the formats.
use Rattle.std.specs.Prelude.{◌≡◌, ℕ, ◌+◌, ◌≤◌, ◌<◌, ◌^◌, true, List, [], ◌∷◌, length}
use Rattle.tx_model.specs.declared.record.Head.{Head}
use Rattle.tx_model.specs.Transactions.{IsName, IsTransaction, AreLocks, are_apart}
use Rattle.tx_model.specs.Records.{IsPlace, IsRecord, IsBatch}
use Rattle.tx_model.specs.Spelling.{IsNextPlace, IsCount}
use Rattle.proto_model.specs.declared.message.Phase.{Phase}
use Rattle.proto_model.specs.declared.message.Phase.TheVariants.{Idle, Opening, Fetching, Repairing, Running, Closed as IsClosed}
use Rattle.proto_model.specs.declared.message.ToNode.{ToNode}
use Rattle.proto_model.specs.declared.message.ToNode.TheVariants as to_node
use Rattle.proto_model.specs.declared.message.FromNode.{FromNode}
use Rattle.proto_model.specs.declared.message.FromNode.TheVariants as from_node
use Rattle.proto_model.specs.declared.refusal.Refusal.{Refusal}
use Rattle.proto_model.specs.declared.refusal.Refusal.TheVariants as refused
use Rattle.proto_model.specs.declared.refusal.ReadRefusal.{ReadRefusal}
use Rattle.proto_model.specs.declared.refusal.ReadRefusal.TheVariants as unserved
use Rattle.proto_model.specs.declared.client_message.ToServer.{ToServer}
use Rattle.proto_model.specs.declared.client_message.ToServer.TheVariants as to_server
use Rattle.proto_model.specs.declared.client_message.FromServer.{FromServer}
use Rattle.proto_model.specs.declared.client_message.FromServer.TheVariants as from_server

-- ---- parts of messages

-- an id that a client may ask for: 0 to 2 ^ 48
abbrev pub IsAskedId : ℕ → Type 0
IsAskedId n = n ≤ 2 ^ 48

-- a client, a request or a mark: any number of 64 bits
abbrev pub IsWord : ℕ → Type 0
IsWord n = n < 2 ^ 64

-- one to so many items at once
pub record IsUpTo (most n : ℕ) : Type 0 where
  pub some : 1 ≤ n
  pub few : n ≤ most

-- a head of some record in the ranges of the formats
pub record IsHead (h : Head) : Type 0 where
  pub id : IsPlace h.id
  pub session : IsPlace h.session
  pub mark : IsWord h.mark
  pub reads : AreLocks h.reads
  pub writes : AreLocks h.writes
  pub apart : are_apart h.reads h.writes ≡ true
  pub count : length h.reads + length h.writes ≤ 64

-- heads whose ids rise by one, the first of them this
unfoldable pub HeadsRise : ℕ → List Head → Type 0
HeadsRise id [] = Unit {0}
HeadsRise id (head ∷ heads) = IsHead head × (head.id ≡ id) × HeadsRise (id + 1) heads

-- at most 16 heads, whose ids go on from one
pub record AreHeads (from : ℕ) (heads : List Head) : Type 0 where
  pub few : length heads ≤ 16
  pub rise : HeadsRise from heads

-- a phase in which a server takes no requests: a refusal names it
abbrev pub IsNotRunning : Phase → Type 0
IsNotRunning Idle = Unit {0}
IsNotRunning Opening = Unit {0}
IsNotRunning Fetching = Unit {0}
IsNotRunning Repairing = Unit {0}
IsNotRunning Running = ⊥
IsNotRunning (IsClosed session) = ⊥

abbrev pub IsValidRefusal : Refusal → Type 0
IsValidRefusal (refused.NotRunning phase) = IsNotRunning phase
IsValidRefusal (refused.Closed session) = IsPlace session
IsValidRefusal (refused.MarkAhead last) = IsCount last
IsValidRefusal (refused.Locked lock mark) = IsName lock × IsWord mark
IsValidRefusal refused.WindowFull = Unit {0}
IsValidRefusal refused.LogFull = Unit {0}

abbrev pub IsValidReadRefusal : ReadRefusal → Type 0
IsValidReadRefusal (unserved.NotRunning phase) = IsNotRunning phase
IsValidReadRefusal unserved.BadId = Unit {0}
IsValidReadRefusal (unserved.NotYet committed) = IsCount committed

-- ---- messages between servers and nodes

abbrev pub IsValidToNode : ToNode → Type 0
IsValidToNode (to_node.Open session) = IsPlace session
IsValidToNode (to_node.Fetch session from max) = IsPlace session × IsNextPlace from × IsUpTo 8 max
IsValidToNode (to_node.Stage session batch) = IsPlace session × IsBatch batch
IsValidToNode (to_node.Adopt session len) = IsPlace session × IsCount len
IsValidToNode (to_node.Append session batch) = IsPlace session × IsBatch batch
IsValidToNode (to_node.Low session low) = IsPlace session × IsCount low

abbrev pub IsValidFromNode : FromNode → Type 0
IsValidFromNode (from_node.Opened session adopted low len) =
    IsPlace session × IsCount adopted × IsCount low × IsCount len
IsValidFromNode (from_node.Stale session promised) = IsPlace session × IsCount promised
IsValidFromNode (from_node.Unopened session promised) = IsPlace session × IsCount promised
IsValidFromNode (from_node.Records session batch) = IsPlace session × IsBatch batch
IsValidFromNode (from_node.Staged session upto) = IsPlace session × IsCount upto
IsValidFromNode (from_node.StageAt session next) = IsPlace session × IsNextPlace next
IsValidFromNode (from_node.Adopted session len) = IsPlace session × IsCount len
IsValidFromNode (from_node.Acked session len) = IsPlace session × IsCount len
IsValidFromNode (from_node.Gap session len) = IsPlace session × IsCount len
IsValidFromNode (from_node.NotAdopted session adopted) = IsPlace session × IsCount adopted
IsValidFromNode (from_node.LowSet session low) = IsPlace session × IsCount low

-- ---- messages between clients and servers

abbrev pub IsValidToServer : ToServer → Type 0
IsValidToServer (to_server.Append tx) = IsTransaction tx
IsValidToServer (to_server.Feed from max) = IsAskedId from × IsUpTo 16 max
IsValidToServer (to_server.Get id) = IsAskedId id
IsValidToServer to_server.Flush = Unit {0}

abbrev pub IsValidFromServer : FromServer → Type 0
IsValidFromServer (from_server.Committed request id) = IsWord request × IsPlace id
IsValidFromServer (from_server.Pending request id) = IsWord request × IsPlace id
IsValidFromServer (from_server.Refused request reason) = IsWord request × IsValidRefusal reason
IsValidFromServer (from_server.Heads from committed heads) =
    IsAskedId from × IsCount committed × AreHeads from heads
IsValidFromServer (from_server.Entry r) = IsRecord r
IsValidFromServer (from_server.Flushed committed) = IsCount committed
IsValidFromServer (from_server.Unserved reason) = IsValidReadRefusal reason

-- ---- what a client may be given

-- the record of an entry has an id within the greatest one
abbrev pub HasPlace : FromServer → Type 0
HasPlace (from_server.Entry r) = r.id < 2 ^ 48
HasPlace _ = Unit {0}
