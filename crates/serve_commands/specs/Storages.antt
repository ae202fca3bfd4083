-- A storage node's command over a disk: what it makes of the requests, and what the disk stands for afterwards.
use Rattle.std.specs.Prelude.{◌≡◌, ◌⊎◌, ℕ, List, Option, Some, None, ⊤}
use Rattle.io_core.specs.Ports.{Answered}
use Rattle.disk_model.specs.Chance.{PassesByChance}
use Rattle.disk_model.specs.History.{Files, History}
use Rattle.proto_model.specs.declared.message.ToNode.{ToNode}
use Rattle.proto_model.specs.Replicas.{ReplicaState}
use Rattle.proto_model.specs.Crashes.{unstaged, IsCrashOf}
use Rattle.proto_model.specs.Held.{Held, Contents, Stands, held_in, replica_of}
use Rattle.proto_model.specs.Damages.{IsDamaged}
use Rattle.partition_store.specs.Stands.{reads_of, framing_of, IsNext, Leaves}
use Rattle.partition_store.specs.Loading.{HasFirmFiles}
use Rattle.wire_codec.specs.declared.message.Message.{Message}
use Rattle.node_loops.specs.declared.requests.Asked.{Asked}
use Rattle.node_loops.specs.declared.requests.Asked.TheVariants as asks
use Rattle.node_loops.specs.declared.end.End.{End}
use Rattle.node_loops.specs.declared.end.End.TheVariants as ends
use Rattle.node_loops.specs.Ends.{status_of, last_line, serving_text, Prints}
use Rattle.node_loops.specs.Serving.{desk, Replying, Failing, Runs}
use Rattle.node_loops.specs.Storage.{storage_reply, storage_after, SuitsNode, LacksFile, HasFile, goes_on}

-- ---- whatever the node's state is

abbrev pub Suiting : Replying (Unit {0})
Suiting asked reply a b = SuitsNode asked reply

abbrev pub Breaking : Failing (Unit {0})
Breaking asked end a b = (m : ToNode) × (asked ≡ asks.Node m)

-- ---- by its state

-- the replica, the greatest number of a file so far, and the message at which the disk failed
pub record NodeState : Type 0 where
  pub replica : ReplicaState
  pub file : ℕ
  pub broke : Option ToNode

abbrev pub unbroken : ReplicaState → ℕ → NodeState
unbroken r file = record { replica = r; file = file; broke = None }

-- The reply of the step, and the replica then. A step that needs a new file has one, and a step begins one at most.
pub record Stepping (asked : Asked) (reply : Message) (a b : NodeState) : Type 0 where
  pub reply_is : reply ≡ storage_reply a.replica asked
  pub after : b.replica ≡ storage_after a.replica asked
  pub has : HasFile a.replica a.file asked
  pub grows : IsNext a.file b.file
  pub works : b.broke ≡ None

-- How it ends at a message, and what it is then. It is full where the step needs a new file and the numbers of files are
-- used up.
abbrev pub LeavesAt : ToNode → End → NodeState → NodeState → Type 0
LeavesAt m ends.Disk a b = b ≡ record a { broke = Some m }
LeavesAt m ends.Full a b = (b ≡ a) × LacksFile a.replica a.file m
LeavesAt m ends.Memory a b = b ≡ a
LeavesAt m _ a b = ⊥

abbrev pub Stopping : Failing NodeState
Stopping asked end a b = (m : ToNode) × (asked ≡ asks.Node m) × LeavesAt m end a b

-- ---- what the files stand for

-- the replica, with nothing staged, and the greatest number of a file so far
pub record AreHeld (n : NodeState) (c : Contents) : Type 0 where
  pub held : Held
  pub is : held_in c ≡ Some held
  pub replica : replica_of held ≡ unstaged n.replica
  pub file : held.file ≡ n.file

-- Where the disk has not failed, the node's state. Where it failed at a message, what a crash within its step may leave.
abbrev pub FilesStand : Type 0 → Option ToNode → NodeState → Contents → Type 0
FilesStand sure None n c = AreHeld n c
FilesStand sure (Some m) n c = sure → Stands (IsCrashOf n.replica m) c

-- ---- the command

-- no frame of what is read was never put and passes its check by chance
abbrev pub IsSure : Type 0 → Files → Type 0
IsSure plain s = (q : ℕ) → plain ⊎ (PassesByChance (framing_of q) (s q) (s q).reads → ⊥)

-- From this state the turns go from state to state, and the files stand for the one after them.
pub record GoesFrom (plain : Type 0) (n : NodeState) (coming coming' : List (List ℕ)) (answers answers' : List Answered) (end : End) (s : Files) : Type 0 where
  pub after : NodeState
  pub runs : Runs NodeState Stepping Stopping goes_on (desk coming answers n) (desk coming' answers' after) end
  pub stands : FilesStand (IsSure plain s) after.broke after (reads_of s)

-- any end but that by damaged files
abbrev pub IsUndamaged : End → Type 0
IsUndamaged (ends.Damaged file at) = ⊥
IsUndamaged _ = ⊤

-- What a disk is like whose files could not be loaded. Where it failed, whatever a crash leaves stands for what was held.
abbrev pub IsUnloaded : (tells plain : Type 0) → History → History → End → Type 0
IsUnloaded tells plain old new ends.Disk =
    tells → HasFirmFiles old.now → (h : Held) → held_in (reads_of old.now) ≡ Some h → Leaves plain (λ r. r ≡ replica_of h) new.now
IsUnloaded tells plain old new (ends.Damaged file at) =
    tells → IsDamaged (reads_of old.now) file at × (new ≡ old)
IsUnloaded tells plain old new ends.Memory =
    tells → held_in (reads_of new.now) ≡ held_in (reads_of old.now)
IsUnloaded tells plain old new _ = ⊥

-- It is loaded and serves, or isn't loaded and prints its last line alone. heard says whether the port tells.
pub data IsStorage (tells plain heard : Type 0) (number : ℕ) (old new : History) (coming coming' : List (List ℕ)) (answers answers' : List Answered) : List ℕ → End → Type 0 where
  unloaded : (end : End) → IsUnloaded tells plain old new end → coming' ≡ coming → answers' ≡ answers
      → IsStorage tells plain heard number old new coming coming' answers answers' (last_line end) end
  loaded : (end : End)
      → (heard → Runs (Unit {0}) Suiting Breaking goes_on (desk coming answers tt) (desk coming' answers' tt) end)
      → (tells → IsUndamaged end)
      → (tells → (h : Held) × (held_in (reads_of old.now) ≡ Some h)
      × (heard → GoesFrom plain (unbroken (replica_of h) h.file) coming coming' answers answers' end new.now))
      → IsStorage tells plain heard number old new coming coming' answers answers' (serving_text number end) end

-- What the command does: what is answered and printed, and what the disk stands for then.
abbrev pub ServesNode : (tells plain heard : Type 0) (number : ℕ) (old new : History) (coming coming' : List (List ℕ)) (answers answers' : List Answered) (held_old held_new : Option (List ℕ)) (status : ℕ) → Type 0
ServesNode tells plain heard number old new coming coming' answers answers' held_old held_new status =
    (end : End) × (text : List ℕ) × IsStorage tells plain heard number old new coming coming' answers answers' text end × Prints held_old held_new text (status_of end) status
