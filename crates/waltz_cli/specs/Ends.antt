-- How a command ends: its status and its last line.
use Rattle.std.specs.Prelude.{◌≡◌, ◌⊎◌, ℕ, List, Option, [], ◌∷◌, ◌++◌, codes, Result, Ok, Err}
use Rattle.std.specs.Io.KnownBytes.{Appends}
use Rattle.io_core.specs.Bytes.{AppendsPrefix}
use Rattle.schedule_replay.specs.declared.fault.ReplayFault.{ReplayFault}
use Rattle.schedule_replay.specs.declared.fault.ReplayFault.TheVariants.{Read, Write, Line, Range, TooManyEvents, Memory}
use Rattle.schedule_replay.specs.Faults.{fault_text}
use Rattle.waltz_cli.specs.declared.end.End.{End}
use Rattle.waltz_cli.specs.declared.end.End.TheVariants.{Done, Usage, Stopped}

-- the end of a replay
abbrev pub end_of : Result Unit ReplayFault → End
end_of (Ok _) = Done
end_of (Err fault) = Stopped fault

abbrev pub status_of : End → ℕ
status_of Done = 0
status_of Usage = 2
status_of (Stopped (Line line at)) = 3
status_of (Stopped (Range line name)) = 3
status_of (Stopped TooManyEvents) = 4
status_of (Stopped Read) = 10
status_of (Stopped Write) = 11
status_of (Stopped Memory) = 20

-- with its line feed
abbrev pub last_line : End → List ℕ
last_line Done = []
last_line Usage = codes "! usage" ++ 10 ∷ []
last_line (Stopped Write) = []
last_line (Stopped Memory) = []
last_line (Stopped fault) = codes "! " ++ (fault_text fault ++ 10 ∷ [])

-- the output failed, or there was no memory
abbrev pub IsBroken : ℕ → Type 0
IsBroken status = (status ≡ 11) ⊎ (status ≡ 20)

-- the output failed; running out of memory is so only where the sink met it
abbrev pub IsBrokenBy : Type 0 → ℕ → Type 0
IsBrokenBy refused status = (status ≡ 11) ⊎ ((status ≡ 20) × refused)

-- the last line is written; or there is no memory for it; or it breaks off
abbrev pub Finishes : Type 0 → Option (List ℕ) → Option (List ℕ) → End → ℕ → Type 0
Finishes refused held_old held_new end status =
    ((status ≡ status_of end) × Appends held_old held_new (last_line end))
    ⊎ (((status ≡ 20) × Appends held_old held_new []) ⊎ (IsBrokenBy refused status × AppendsPrefix held_old held_new (last_line end)))

-- a status that a replay may end with
abbrev pub IsReplayStatus : ℕ → Type 0
IsReplayStatus status = (status ≡ 0) ⊎ ((status ≡ 3) ⊎ ((status ≡ 4) ⊎ ((status ≡ 10) ⊎ IsBroken status)))

-- a status of words that are in no form
abbrev pub IsUsageStatus : ℕ → Type 0
IsUsageStatus status = (status ≡ 2) ⊎ IsBroken status

-- a status of what only writes
abbrev pub IsWrittenStatus : ℕ → Type 0
IsWrittenStatus status = (status ≡ 0) ⊎ IsBroken status
