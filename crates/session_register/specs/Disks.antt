-- A register in file 0 of a disk.
use Rattle.std.specs.Prelude.{◌≡◌, ℕ, ◌+◌, ◌-◌, ◌^◌, min, Bool, false, if◌then◌else◌, Option, Some, None, Result, Ok, Err}
use Rattle.tx_model.specs.Spelling.{IsCount}
use Rattle.disk_model.specs.History.{History}
use Rattle.disk_model.specs.declared.unloaded.LoadFault.{LoadFault}
use Rattle.disk_model.specs.declared.unloaded.Unloaded.{Unloaded}
use Rattle.session_register.specs.Values.{IsTidy}

pub record Kept (D : Type 0) : Type 0 where
  pub disk : D
  -- the register's number
  pub number : ℕ
  -- where the last entry ends
  pub end : ℕ
  -- a compare-and-set has failed
  pub failed : Bool
  -- how many calls were refused since
  pub refused : ℕ

-- the number, unless a compare-and-set has failed
abbrev pub told_of : {D : Type 0} → Kept D → Option ℕ
told_of r = if r.failed then None else Some r.number

-- the disk's faults and the refused calls
abbrev pub faults_of : {D : Type 0} → (D → ℕ) → Kept D → ℕ
faults_of faults r = min (faults r.disk + r.refused) (2 ^ 64 - 1)

-- what is true of each
pub record IsKept (tells : Type 0) (history : History) (number end : ℕ) (failed : Bool) : Type 0 where
  pub range : IsCount number
  pub tidy : failed ≡ false → tells → IsTidy number end (history.now 0)

-- the disk that comes back from loading
abbrev pub disk_of : {D : Type 0} → Result (Kept D) (Unloaded D) → D
disk_of (Ok r) = r.disk
disk_of (Err u) = u.disk

-- what loading answers, the disk aside
abbrev pub answer_of : {D : Type 0} → Result (Kept D) (Unloaded D) → Result (Kept D) LoadFault
answer_of (Ok r) = Ok r
answer_of (Err u) = Err u.fault
