-- A step of a storage node: what it makes of the store that it keeps its replica in.
use Rattle.std.specs.Prelude.{◌≡◌, ℕ, ◌-◌, ◌^◌, ◌≤◌, true, false, Bool, None, Some, Result, Ok, Err, IfOk, OnOk, IsErrOf}
use Rattle.disk_model.specs.History.{Files, History}
use Rattle.disk_model.specs.declared.unloaded.LoadFault.{LoadFault}
use Rattle.disk_model.specs.declared.unloaded.Unloaded.{Unloaded}
use Rattle.proto_model.specs.Replicas.{ReplicaState, replica_after, replica_reply}
use Rattle.proto_model.specs.Crashes.{IsCrashOf}
use Rattle.proto_model.specs.Held.{held_in}
use Rattle.proto_model.specs.Nodes.{Shuts, IsUndamaged}
use Rattle.proto_model.specs.Parts.{needs_file}
use Rattle.proto_model.specs.Validity.{IsValidFromNode}
use Rattle.proto_model.specs.declared.message.ToNode.{ToNode}
use Rattle.proto_model.specs.declared.message.ToNode.TheVariants.{Open, Fetch, Stage, Adopt, Append, Low}
use Rattle.proto_model.specs.declared.message.FromNode.{FromNode}
use Rattle.proto_model.specs.declared.replica.NodeFault.{NodeFault}
use Rattle.proto_model.specs.declared.replica.NodeFault.TheVariants.{Full}
use Rattle.partition_store.specs.Stands.{reads_of, held_now, IsNext, LeavesNear}
use Rattle.partition_store.specs.Stores.{Kept, state_by, IsStanding, IsAnswer}

-- once the log is adopted in the promised session, nothing is staged
abbrev pub IsSettled : {D : Type 0} → Kept D → Type 0
IsSettled k = k.status.adopted ≡ k.status.promised → k.staged ≡ None

-- what is true of a node's store between two steps
pub record IsSteady {D : Type 0} (tells : Type 0) (history : D → History) (k : Kept D) : Type 0 where
  pub standing : tells → k.shut ≡ false → IsStanding (history k.disk).now k
  pub settled : IsSettled k

-- What a step on this message makes of a store, and how it answers.
pub record IsStep {D : Type 0} (tells plain : Type 0) (history : D → History) (m : ToNode) (old new : Kept D) (result : Result FromNode NodeFault) : Type 0 where
  pub state : OnOk result (tells → state_by history new ≡ replica_after (state_by history old) m)
  pub reply : IfOk result (λ reply. tells → reply ≡ replica_reply (state_by history old) m)
  pub valid : IfOk result IsValidFromNode
  pub steady : IsSteady tells history new
  pub answer : IsAnswer tells history old new result
  pub full : IsErrOf result Full → tells → (needs_file (state_by history old) m ≡ true) × (old.status.file ≡ 2 ^ 32 - 1)
  pub no_file : tells → old.shut ≡ false → needs_file (state_by history old) m ≡ true → old.status.file ≡ 2 ^ 32 - 1 → IsErrOf result Full
  pub undamaged : tells → IsUndamaged result
  -- whatever a crash may leave after a stop within it
  pub broken : Shuts result → tells → LeavesNear plain (IsCrashOf (state_by history old) m) old.status.file (history new.disk).now
  pub file : IsNext old.status.file new.status.file

-- ---- steps that change nothing

-- The step leaves the state, and this is its reply.
pub record IsIdle (r : ReplicaState) (m : ToNode) (reply : FromNode) : Type 0 where
  pub stays : replica_after r m ≡ r
  pub answers : reply ≡ replica_reply r m
  pub no_file : needs_file r m ≡ false

-- the message's session is the promised one, or opens one from there on
abbrev pub IsCurrent : ℕ → ToNode → Type 0
IsCurrent p (Open s) = p ≤ s
IsCurrent p (Fetch s from max) = s ≡ p
IsCurrent p (Stage s batch) = s ≡ p
IsCurrent p (Adopt s len) = s ≡ p
IsCurrent p (Append s batch) = s ≡ p
IsCurrent p (Low s k) = s ≡ p

abbrev pub is_open : ToNode → Bool
is_open (Open s) = true
is_open _ = false

-- ---- what a node keeps

-- the files stand for something, and the greatest of them is this one or the next
pub record IsHeldNear (file : ℕ) (s : Files) : Type 0 where
  pub held : held_in (reads_of s) ≡ Some (held_now s)
  pub near : IsNext file (held_now s).file

-- ---- what a loading answers

-- the disk that comes back
abbrev pub disk_by : {N D : Type 0} → (N → D) → Result N (Unloaded D) → D
disk_by disk (Ok n) = disk n
disk_by disk (Err u) = u.disk

-- the answer, the disk aside
abbrev pub answer_by : {N D : Type 0} → Result N (Unloaded D) → Result N LoadFault
answer_by (Ok n) = Ok n
answer_by (Err u) = Err u.fault
