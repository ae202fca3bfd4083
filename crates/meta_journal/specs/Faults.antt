-- The faults of a journal.
use Rattle.std.specs.Prelude.{◌≡◌, ℕ, ◌≤◌, Result, IsErrOf}
use Rattle.io_core.specs.Causes.{Rose}
use Rattle.io_core.specs.declared.fault.Fault.{Fault}
use Rattle.io_core.specs.declared.fault.Fault.TheVariants.{Failed as DiskFailed, Memory as NoMemory}
use Rattle.disk_model.specs.declared.unloaded.LoadFault.{LoadFault}
use Rattle.disk_model.specs.declared.unloaded.LoadFault.TheVariants.{Disk as LoadBroke, Memory as LoadMemory}
use Rattle.meta_journal.specs.declared.fault.JournalFault.{JournalFault}
use Rattle.meta_journal.specs.declared.fault.JournalFault.TheVariants.{Disk, Memory}

-- a disk's fault as a journal's
abbrev pub becomes : Fault → JournalFault
becomes DiskFailed = Disk
becomes NoMemory = Memory

-- `Disk` is a counted fault of the disk, and no fault was counted at any other answer
pub record HasDiskCause {T : Type 0} (before now : ℕ) (result : Result T JournalFault) : Type 0 where
  pub later : before ≤ now
  pub failed : IsErrOf result Disk → Rose before now
  pub none : ¬ IsErrOf result Disk → now ≡ before

-- what a journal's fault is to one who loads more than it
abbrev pub told_on : JournalFault → LoadFault
told_on Disk = LoadBroke
told_on Memory = LoadMemory
