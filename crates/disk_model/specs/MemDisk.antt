-- A disk in memory: what was written and cut, and which of its calls fail.
use Rattle.std.specs.Prelude.{◌≡◌, ◌⊎◌, ⊤, ℕ, ◌-◌, ◌==◌, nat_lt, min, if◌then◌else◌, List, [], ◌∷◌, ◌++◌, length, take, Contains, Result, Ok, Err}
use Rattle.io_core.specs.Causes.{counted}
use Rattle.io_core.specs.declared.fault.Fault.{Fault}
use Rattle.io_core.specs.declared.fault.Fault.TheVariants.{Failed, Memory}
use Rattle.disk_model.specs.declared.change.Change.{Change}
use Rattle.disk_model.specs.declared.change.Change.TheVariants.{Write, Cut}
use Rattle.disk_model.specs.declared.fuse.Fuse.{Fuse}
use Rattle.disk_model.specs.declared.fuse.Fuse.TheVariants.{Off, Left, Burnt}
use Rattle.disk_model.specs.History.{History}
use Rattle.disk_model.specs.Replay.{history_of}

pub record MemState : Type 0 where
  -- the writes and cuts that were made, a write with the bytes that it kept
  pub changes : List Change
  -- the numbers of the calls that fail, counted from 1
  pub fails : List ℕ
  pub fuse : Fuse
  -- how many calls and faults there were, and how often memory ran out
  pub calls : ℕ
  pub faults : ℕ
  pub wants : ℕ

-- its files now and before
abbrev pub mem_history : MemState → History
mem_history s = history_of s.changes

-- no call was chosen to fail
abbrev pub IsReliable : MemState → Type 0
IsReliable s = s.fails ≡ []

-- and there is no fuse
abbrev pub IsUnfailing : MemState → Type 0
IsUnfailing s = (s.fails ≡ []) × (s.fuse ≡ Off)

-- the fuse lets no byte through
abbrev pub IsSpent : Fuse → Type 0
IsSpent Off = ⊥
IsSpent (Left k) = k ≡ 0
IsSpent Burnt = ⊤

-- the next call fails whatever it is: its number was chosen, or the fuse lets no byte through
abbrev pub MustFail : MemState → Type 0
MustFail s = Contains s.fails (counted s.calls) ⊎ IsSpent s.fuse

-- how many of so many bytes the fuse lets through
abbrev pub let_through : Fuse → ℕ → ℕ
let_through Off n = n
let_through (Left k) n = min k n
let_through Burnt n = 0

-- the fuse after a write of so many bytes
abbrev pub used : Fuse → ℕ → Fuse
used Off n = Off
used (Left k) n = if nat_lt k n then Burnt else Left (k - n)
used Burnt n = Burnt

-- the fuse after a call that must fail: it burns where it lets no byte through
abbrev pub tripped : Fuse → Fuse
tripped Off = Off
tripped (Left k) = if k == 0 then Burnt else Left k
tripped Burnt = Burnt

-- the fuse that is set anew, unless it has burnt
abbrev pub renewed : Fuse → ℕ → Fuse
renewed Off n = Left n
renewed (Left k) n = Left n
renewed Burnt n = Burnt

-- after a call that must fail
abbrev pub refused : MemState → MemState
refused s = record s { fuse = tripped s.fuse; calls = counted s.calls; faults = counted s.faults }

-- after a call that changes no byte
abbrev pub call_after : {T E : Type 0} → MemState → Result T E → MemState
call_after s (Ok _) = record s { calls = counted s.calls }
call_after s (Err _) = refused s

-- after a write that needn't fail: a fault comes where the fuse let only a part through
abbrev pub write_after : MemState → ℕ → ℕ → List ℕ → Result Unit Fault → MemState
write_after s file at bytes (Ok _) = record s {
  changes = s.changes ++ Write file at bytes ∷ [];
  fuse = used s.fuse (length bytes);
  calls = counted s.calls;
}
write_after s file at bytes (Err Failed) = record s {
  changes = s.changes ++ Write file at (take (let_through s.fuse (length bytes)) bytes) ∷ [];
  fuse = used s.fuse (length bytes);
  calls = counted s.calls;
  faults = counted s.faults;
}
write_after s file at bytes (Err Memory) = record s { wants = counted s.wants }

abbrev pub cut_after : MemState → ℕ → ℕ → Result Unit Fault → MemState
cut_after s file len (Ok _) = record s { changes = s.changes ++ Cut file len ∷ []; calls = counted s.calls }
cut_after s file len (Err Failed) = refused s
cut_after s file len (Err Memory) = record s { wants = counted s.wants }
