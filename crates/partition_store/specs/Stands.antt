-- What the files of a store stand for as they are read, and what a crash leaves of that.
use Rattle.std.specs.Prelude.{◌≡◌, ◌⊎◌, ℕ, ◌+◌, ◌≤◌, nat_lt, if◌then◌else◌, List, ◌++◌, length, take, Option, Some, None}
use Rattle.tx_model.specs.declared.record.Record.{Record}
use Rattle.tx_model.specs.Framing.{record_len, meta_len}
use Rattle.tx_model.specs.Contents.{entries_in}
use Rattle.disk_model.specs.File.{IsPlain}
use Rattle.disk_model.specs.Chance.{MayLeave}
use Rattle.disk_model.specs.History.{Files, History, AtEach}
use Rattle.proto_model.specs.Replicas.{ReplicaState}
use Rattle.proto_model.specs.Crashes.{unstaged}
use Rattle.proto_model.specs.Held.{Held, Contents, Stands, EachNamed, none_held, held_in}

-- the bytes of each file
abbrev pub reads_of : Files → Contents
reads_of s q = (s q).reads

abbrev pub held_or : Option Held → Held
held_or (Some h) = h
held_or None = none_held

-- what the files stand for as they are read, and what none stands for where something is damaged
abbrev pub held_now : Files → Held
held_now s = held_or (held_in (reads_of s))

-- files 0 and 1 hold meta entries, and each other one records
abbrev pub framing_of : ℕ → List ℕ → ℕ
framing_of q = if nat_lt q 2 then meta_len else record_len

-- a crash at this moment may leave these bytes
abbrev pub AreLeft : Type 0 → Files → Contents → Type 0
AreLeft plain s c = (q : ℕ) → MayLeave plain (framing_of q) (s q) (c q)

-- whatever a crash at this moment may leave stands for a state that has P
abbrev pub Leaves : Type 0 → (ReplicaState → Type 0) → Files → Type 0
Leaves plain P s = (c : Contents) → AreLeft plain s c → Stands P c

-- the same number of a file, or the next
pub record IsNext (file next : ℕ) : Type 0 where
  pub from : file ≤ next
  pub to : next ≤ file + 1

-- the files stand for a state that has P, and the greatest of them is this one or the next
pub record StandsNear (P : ReplicaState → Type 0) (file : ℕ) (c : Contents) : Type 0 where
  pub stands : Stands P c
  pub near : IsNext file stands.held.file

abbrev pub LeavesNear : Type 0 → (ReplicaState → Type 0) → ℕ → Files → Type 0
LeavesNear plain P file s = (c : Contents) → AreLeft plain s c → StandsNear P file c

-- At each moment since old, up to and with new, whatever a crash may leave stands for a state that has P. No file is used
-- behind the next.
pub record LeavesAtEach (plain : Type 0) (P : ReplicaState → Type 0) (old new : History) : Type 0 where
  pub each : AtEach (LeavesNear plain P (held_now old.now).file) old new
  pub now : LeavesNear plain P (held_now old.now).file new.now

-- the old state or the new one, without what is staged
abbrev pub IsOldOrNew : ReplicaState → ReplicaState → ReplicaState → Type 0
IsOldOrNew old new r = (r ≡ unstaged old) ⊎ (r ≡ unstaged new)

-- of these records a prefix was added, and nothing is staged
abbrev pub HasSome : ReplicaState → List Record → ReplicaState → Type 0
HasSome old records r =
    (k : ℕ) × (k ≤ length records) × (r ≡ unstaged (record old { log = old.log ++ take k records }))

-- the journal and each file that its entries name are on the disk as they are read
pub record AreSynced (s : Files) : Type 0 where
  pub journal : IsPlain (s 0)
  pub named : EachNamed (λ q. IsPlain (s q)) (entries_in (s 0).reads)
