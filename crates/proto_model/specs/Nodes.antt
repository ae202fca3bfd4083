-- The answers of a node's replica, and what its status shows.
use Rattle.std.specs.Prelude.{◌≡◌, ℕ, ◌≤◌, length, Result, Ok, Err, IsErrOf}
use Rattle.io_core.specs.Causes.{Rose}
use Rattle.proto_model.specs.Replicas.{ReplicaState}
use Rattle.proto_model.specs.declared.message.Status.{Status}
use Rattle.proto_model.specs.declared.replica.NodeFault.{NodeFault}
use Rattle.proto_model.specs.declared.replica.NodeFault.TheVariants.{Disk, Damaged, Shut, Full, Memory}

-- `Disk` is a counted fault, and no fault was counted at any other answer
pub record HasNodeCause {T : Type 0} (before now : ℕ) (result : Result T NodeFault) : Type 0 where
  pub later : before ≤ now
  pub failed : IsErrOf result Disk → Rose before now
  pub none : ¬ IsErrOf result Disk → now ≡ before

-- it is an answer after which the replica is shut
abbrev pub Shuts : {T : Type 0} → Result T NodeFault → Type 0
Shuts (Ok x) = ⊥
Shuts (Err Disk) = Unit {0}
Shuts (Err (Damaged file at)) = Unit {0}
Shuts (Err Shut) = ⊥
Shuts (Err Full) = ⊥
Shuts (Err Memory) = ⊥

-- it is no such answer as `Damaged`
abbrev pub IsUndamaged : {T : Type 0} → Result T NodeFault → Type 0
IsUndamaged (Err (Damaged file at)) = ⊥
IsUndamaged _ = Unit {0}

-- the status has the numbers of the state
pub record IsShown (r : ReplicaState) (s : Status) : Type 0 where
  pub promised : s.promised ≡ r.promised
  pub adopted : s.adopted ≡ r.adopted
  pub low : s.low ≡ r.low
  pub length : s.length ≡ length r.log
