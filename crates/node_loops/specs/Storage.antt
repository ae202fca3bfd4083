-- A storage node that serves: what it answers, and how it fails.
use Rattle.std.specs.Prelude.{◌≡◌, ◌≤◌, ℕ, ◌^◌, ◌+◌, ◌-◌, Bool, true, false, Option, None, ⊤}
use Rattle.proto_model.specs.declared.message.ToNode.{ToNode}
use Rattle.proto_model.specs.declared.message.Status.{Status}
use Rattle.proto_model.specs.Replicas.{ReplicaState, replica_after, replica_reply}
use Rattle.proto_model.specs.Parts.{needs_file}
use Rattle.proto_model.specs.Crashes.{IsCrashOf}
use Rattle.proto_model.specs.Held.{Contents, Stands}
use Rattle.wire_codec.specs.declared.message.Message.{Message}
use Rattle.wire_codec.specs.declared.message.Message.TheVariants as of
use Rattle.wire_codec.specs.declared.message.Control.TheVariants.{Done, No}
use Rattle.node_loops.specs.declared.requests.Asked.{Asked}
use Rattle.node_loops.specs.declared.requests.Asked.TheVariants as asks
use Rattle.node_loops.specs.declared.end.End.{End}
use Rattle.node_loops.specs.declared.end.End.TheVariants as ends

-- what a node in this state answers to what is asked
abbrev pub storage_reply : ReplicaState → Asked → Message
storage_reply r (asks.Node m) = of.FromNode (replica_reply r m)
storage_reply r asks.Bye = of.Control Done
storage_reply r _ = of.Control No

-- and its state then
abbrev pub storage_after : ReplicaState → Asked → ReplicaState
storage_after r (asks.Node m) = replica_after r m
storage_after r _ = r

-- what may be answered whatever the node's state is: its reply to a message for nodes, `Done` to `Bye`, else `No`
abbrev pub SuitsNode : Asked → Message → Type 0
SuitsNode (asks.Node m) (of.FromNode reply) = ⊤
SuitsNode (asks.Node m) _ = ⊥
SuitsNode asks.Bye reply = reply ≡ of.Control Done
SuitsNode _ reply = reply ≡ of.Control No

-- the step on what is asked needs a new file, and the numbers of files are used up
pub record LacksFile (r : ReplicaState) (file : ℕ) (m : ToNode) : Type 0 where
  pub needs : needs_file r m ≡ true
  pub used_up : file ≡ 2 ^ 32 - 1

abbrev pub HasFile : ReplicaState → ℕ → Asked → Type 0
HasFile r file (asks.Node m) = LacksFile r file m → ⊥
HasFile r file _ = ⊤

-- The reply to what is asked, and what the replica is then. Where its files tell, it is the reply of its step. It begins one
-- file at most.
pub record IsNodeReply {R : Type 0} (tells : Type 0) (state : R → ReplicaState) (shut : R → Bool) (shown : R → Status) (asked : Asked) (reply : Message) (a b : R) : Type 0 where
  pub suits : SuitsNode asked reply
  pub on : shut b ≡ false
  pub reply_is : tells → reply ≡ storage_reply (state a) asked
  pub after : tells → state b ≡ storage_after (state a) asked
  pub file : tells → HasFile (state a) (shown a).file asked
  pub grows : ((shown a).file ≤ (shown b).file) × ((shown b).file ≤ (shown a).file + 1)

-- How the replica fails at a message, and what it is then. Where its disk failed, its files stand for what a crash within
-- the step may leave.
abbrev pub FailsAt : {R : Type 0} (tells : Type 0) (state : R → ReplicaState) (files : R → Contents) (sure : R → Type 0) (shut : R → Bool) (shown : R → Status) (m : ToNode) → End → R → R → Type 0
FailsAt tells state files sure shut shown m ends.Disk a b =
    tells → sure b → Stands (IsCrashOf (state a) m) (files b)
FailsAt tells state files sure shut shown m (ends.Damaged file at) a b = tells → ⊥
FailsAt tells state files sure shut shown m ends.Full a b =
    (shut b ≡ false) × (tells → (state b ≡ state a) × LacksFile (state a) (shown a).file m)
FailsAt tells state files sure shut shown m ends.Memory a b =
    (shut b ≡ false) × (tells → state b ≡ state a)
FailsAt tells state files sure shut shown m _ a b = ⊥

pub record IsNodeFault {R : Type 0} (tells : Type 0) (state : R → ReplicaState) (files : R → Contents) (sure : R → Type 0) (shut : R → Bool) (shown : R → Status) (asked : Asked) (end : End) (a b : R) : Type 0 where
  pub message : ToNode
  pub asked_is : asked ≡ asks.Node message
  pub fails : FailsAt tells state files sure shut shown message end a b
  pub shows : shown b ≡ shown a

-- an answer doesn't end the loop
abbrev pub goes_on : {S : Type 0} → S → Option End
goes_on s = None

-- what a node tells of itself at an end
abbrev pub NodeTells : Type 0 → ℕ → End → Type 0
NodeTells tells file ends.Full = tells → file ≡ 2 ^ 32 - 1
NodeTells tells file (ends.TakenOver session) = ⊥
NodeTells tells file _ = ⊤

-- what it doesn't tell at one
abbrev pub NodeHides : Type 0 → End → Type 0
NodeHides tells (ends.Damaged file at) = tells → ⊥
NodeHides tells _ = ⊥
