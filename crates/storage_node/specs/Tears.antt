-- A store over a disk in memory that is stopped, and loaded again.
use Rattle.std.specs.Prelude.{◌≡◌, ℕ, ◌≤◌, true, false, Some, Result, OnOk, OnErr, IsErrOf}
use Rattle.io_core.specs.Causes.{Rose}
use Rattle.disk_model.specs.MemDisk.{MemState, mem_history, IsReliable, IsUnfailing}
use Rattle.proto_model.specs.Crashes.{unstaged, IsCrashOf}
use Rattle.proto_model.specs.Held.{Held, held_in, replica_of}
use Rattle.proto_model.specs.Nodes.{HasNodeCause, IsUndamaged}
use Rattle.proto_model.specs.declared.message.ToNode.{ToNode}
use Rattle.proto_model.specs.declared.replica.NodeFault.{NodeFault}
use Rattle.proto_model.specs.declared.replica.NodeFault.TheVariants.{Disk, Shut, Full}
use Rattle.partition_store.specs.Stands.{reads_of, held_now, StandsNear}
use Rattle.partition_store.specs.Stores.{Kept, state_by}
use Rattle.storage_node.specs.Steps.{IsSteady}

-- what a loading in place comes to
pub record IsReloaded (new : Kept MemState) (result : Result Unit NodeFault) : Type 0 where
  pub on : OnOk result (new.shut ≡ false)
  pub off : OnErr result (new.shut ≡ true)
  pub state : OnOk result (state_by mem_history new ≡ replica_of (held_now (mem_history new.disk).now))
  pub steady : IsSteady (Unit {0}) mem_history new
  pub never : (IsErrOf result Shut → ⊥) × (IsErrOf result Full → ⊥)

-- It was stopped between two steps.
pub record IsRestart (old new : Kept MemState) (result : Result Unit NodeFault) : Type 0 where
  pub reloaded : IsReloaded new result
  -- the files stand for what they stood for
  pub held : (h : Held) → held_in (reads_of (mem_history old.disk).now) ≡ Some h → held_in (reads_of (mem_history new.disk).now) ≡ Some h
  pub undamaged : (h : Held) → held_in (reads_of (mem_history old.disk).now) ≡ Some h → IsUndamaged result
  pub cause : HasNodeCause old.disk.faults new.disk.faults result
  pub works : IsReliable old.disk → IsUnfailing new.disk × (IsErrOf result Disk → ⊥)

-- It was stopped within a step on this message, and not yet loaded again.
pub record IsStop (m : ToNode) (old new : Kept MemState) : Type 0 where
  pub left : StandsNear (IsCrashOf (state_by mem_history old) m) old.status.file (reads_of (mem_history new.disk).now)
  pub settled : IsSteady (Unit {0}) mem_history new
  pub reliable : IsReliable old.disk → IsReliable new.disk
  pub later : old.disk.faults ≤ new.disk.faults

-- It was stopped within a step after so many bytes, and loaded again.
pub record IsTear (m : ToNode) (keep : ℕ) (old new : Kept MemState) (result : Result Unit NodeFault) : Type 0 where
  pub reloaded : IsReloaded new result
  pub left : StandsNear (IsCrashOf (state_by mem_history old) m) old.status.file (reads_of (mem_history new.disk).now)
  pub unbegun : keep ≡ 0 → OnOk result (state_by mem_history new ≡ unstaged (state_by mem_history old))
  pub undamaged : IsUndamaged result
  pub later : old.disk.faults ≤ new.disk.faults
  pub cause : IsErrOf result Disk → Rose old.disk.faults new.disk.faults
  pub works : IsReliable old.disk → OnOk result (IsUnfailing new.disk) × (IsErrOf result Disk → ⊥)
