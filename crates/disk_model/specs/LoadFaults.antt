-- The faults of what is kept on a disk.
use Rattle.std.specs.Prelude.{◌≡◌, ℕ, ◌≤◌, Result, Ok, Err, IsErrOf}
use Rattle.io_core.specs.Causes.{Rose}
use Rattle.io_core.specs.declared.fault.Fault.{Fault}
use Rattle.io_core.specs.declared.fault.Fault.TheVariants.{Failed, Memory as NoMemory}
use Rattle.disk_model.specs.declared.unloaded.LoadFault.{LoadFault}
use Rattle.disk_model.specs.declared.unloaded.LoadFault.TheVariants.{Disk, Damaged, Memory}

-- what a disk's fault is to one who keeps something on it
abbrev pub load_fault : Fault → LoadFault
load_fault Failed = Disk
load_fault NoMemory = Memory

-- where a place was damaged
abbrev pub IsOfDamage : LoadFault → (ℕ → ℕ → Type 0) → Type 0
IsOfDamage Disk P = Unit {0}
IsOfDamage (Damaged file at) P = P file at
IsOfDamage Memory P = Unit {0}

abbrev pub IfDamaged : {T : Type 0} → Result T LoadFault → (ℕ → ℕ → Type 0) → Type 0
IfDamaged (Ok x) P = Unit {0}
IfDamaged (Err fault) P = IsOfDamage fault P

-- it is no such answer
abbrev pub IsNotDamaged : {T : Type 0} → Result T LoadFault → Type 0
IsNotDamaged result = IfDamaged result (λ file at. ⊥)

-- it is `Damaged` or `Memory`
abbrev pub IsRefusal : {T : Type 0} → Result T LoadFault → Type 0
IsRefusal (Ok x) = ⊥
IsRefusal (Err Disk) = ⊥
IsRefusal (Err (Damaged file at)) = Unit {0}
IsRefusal (Err Memory) = Unit {0}

-- `Disk` is a counted fault of the disk, and no fault was counted at any other answer
pub record HasDiskCause {T : Type 0} (before now : ℕ) (result : Result T LoadFault) : Type 0 where
  pub later : before ≤ now
  pub failed : IsErrOf result Disk → Rose before now
  pub none : ¬ IsErrOf result Disk → now ≡ before
