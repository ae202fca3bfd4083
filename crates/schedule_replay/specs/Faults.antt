-- What a replay's fault is called, and which ends of a replay have what in common.
use Rattle.std.specs.Prelude.{ℕ, List, ◌++◌, codes, decimal, Result, Ok, Err, ⊤}
use Rattle.schedule_text.specs.Forms.{name_text}
use Rattle.schedule_replay.specs.declared.fault.ReplayFault.{ReplayFault}
use Rattle.schedule_replay.specs.declared.fault.ReplayFault.TheVariants.{Read, Write, Line, Range, TooManyEvents, Memory}

abbrev pub fault_text : ReplayFault → List ℕ
fault_text Read = codes "read"
fault_text Write = codes "write"
fault_text (Line line at) = codes "line " ++ (decimal line ++ (codes " at " ++ decimal at))
fault_text (Range line name) = codes "line " ++ (decimal line ++ (codes " range " ++ name_text name))
fault_text TooManyEvents = codes "limit events 20000"
fault_text Memory = codes "memory"

-- the ends that the lines alone decide
abbrev pub IsDecided : Result Unit ReplayFault → Type 0
IsDecided (Ok _) = ⊤
IsDecided (Err (Line line at)) = ⊤
IsDecided (Err (Range line name)) = ⊤
IsDecided (Err TooManyEvents) = ⊤
IsDecided (Err _) = ⊥

-- the ends of a replay whose whole text is printed
abbrev pub IsReported : Result Unit ReplayFault → Type 0
IsReported (Err Read) = ⊤
IsReported end = IsDecided end

-- the output failed, or there was no memory
abbrev pub IsBrokenFault : ReplayFault → Type 0
IsBrokenFault Write = ⊤
IsBrokenFault Memory = ⊤
IsBrokenFault _ = ⊥

abbrev pub IsBroken : Result Unit ReplayFault → Type 0
IsBroken (Ok _) = ⊥
IsBroken (Err fault) = IsBrokenFault fault
