-- The parts of a replay: its lines one after the other, and what waits to be written.
use Rattle.std.specs.Prelude.{◌≡◌, ◌⊎◌, ℕ, ◌≤◌, length, List, [], ◌∷◌, ◌++◌, take, Option, None, Some, Result, Ok, Err, ⊤}
use Rattle.std.specs.Io.KnownBytes.{Appends, Keeps}
use Rattle.io_core.specs.Bytes.{AppendsPrefix}
use Rattle.io_core.specs.Lines.{TakesLine, TakesPart, IsReadWhileOpen, lines_of}
use Rattle.io_core.specs.Causes.{Rose}
use Rattle.net_model.specs.declared.cluster.Cluster.{Cluster}
use Rattle.net_model.specs.declared.event.Event.{Event as AnEvent}
use Rattle.net_model.specs.declared.outcome.Outcome.{Outcome}
use Rattle.world_law.specs.Worlds.{WorldState, start}
use Rattle.world_law.specs.Runs.{IsRunOnFiles, last_world}
use Rattle.schedule_text.specs.Spellings.{IsClusterOutOfRange, IsEventOutOfRange}
use Rattle.schedule_text.specs.Places.{IsBadCluster, IsBadEvent}
use Rattle.schedule_text.specs.Taken.{TakesLines, NextHas, IsOver, IsLeft, IsReadForOne}
use Rattle.schedule_text.specs.Outcomes.{printed, outcome_line}
use Rattle.schedule_replay.specs.Schedules.{IsFirstLine, IsFurtherLine, IsSchedule}
use Rattle.schedule_replay.specs.Plays.{Leads, StandFor}
use Rattle.schedule_replay.specs.declared.fault.ReplayFault.{ReplayFault}
use Rattle.schedule_replay.specs.declared.fault.ReplayFault.TheVariants.{Read, Write, Line, Range, TooManyEvents, Memory}
use Rattle.schedule_replay.specs.declared.events.Turned.{Turned}
use Rattle.schedule_replay.specs.declared.events.Turned.TheVariants.{More, Over}
use Rattle.schedule_replay.specs.Replays.{ReadsWhere, IsAfter, IsBrokenBy}

-- ---- what a line says

-- of a further line of this number
abbrev pub SaysEvent : Cluster → List ℕ → ℕ → Result AnEvent ReplayFault → Type 0
SaysEvent cluster line number (Ok event) = IsFurtherLine cluster line event
SaysEvent cluster line number (Err (Line l at)) = (l ≡ number) × IsBadEvent line at
SaysEvent cluster line number (Err (Range l name)) = (l ≡ number) × IsEventOutOfRange cluster line name
SaysEvent cluster line number (Err Memory) = ⊤
SaysEvent cluster line number (Err _) = ⊥

-- of a first line
abbrev pub SaysCluster : List ℕ → Result Cluster ReplayFault → Type 0
SaysCluster line (Ok cluster) = IsFirstLine line cluster
SaysCluster line (Err (Line l at)) = (l ≡ 1) × IsBadCluster line at
SaysCluster line (Err (Range l name)) = (l ≡ 1) × IsClusterOutOfRange line name
SaysCluster line (Err _) = ⊥

-- ---- reading

-- the next line is this event
pub record TakesEvent (left_old left_new : Option (List ℕ)) (cluster : Cluster) (event : AnEvent) : Type 0 where
  pub line : List ℕ
  pub read : TakesLine left_old left_new line
  pub further : IsFurtherLine cluster line event

-- what the next line is, which has this number
abbrev pub NextOf : Option (List ℕ) → Option (List ℕ) → Cluster → ℕ → Result (Option AnEvent) ReplayFault → Type 0
NextOf left_old left_new cluster number (Ok (Some event)) = TakesEvent left_old left_new cluster event
NextOf left_old left_new cluster number (Ok None) = IsOver left_old left_new
NextOf left_old left_new cluster number (Err (Line l at)) = NextHas (λ line. IsBadEvent line at) left_old × (l ≡ number)
NextOf left_old left_new cluster number (Err (Range l name)) = NextHas (λ line. IsEventOutOfRange cluster line name) left_old × (l ≡ number)
NextOf left_old left_new cluster number (Err Read) = TakesPart 512 left_old left_new
NextOf left_old left_new cluster number (Err Memory) = ⊤
NextOf left_old left_new cluster number (Err _) = ⊥

-- the first line is this cluster
pub record TakesFirst (left_old left_new : Option (List ℕ)) (cluster : Cluster) : Type 0 where
  pub line : List ℕ
  pub read : TakesLine left_old left_new line
  pub first : IsFirstLine line cluster

-- there is no first line and the place is 1, or it stops at this place to begin one
abbrev pub IsBadFirst : ℕ → List (List ℕ) → Type 0
IsBadFirst at [] = at ≡ 1
IsBadFirst at (line ∷ rest) = IsBadCluster line at

abbrev pub BeginsBad : ℕ → Option (List ℕ) → Type 0
BeginsBad at None = ⊤
BeginsBad at (Some bytes) = IsBadFirst at (lines_of bytes)

-- how reading the first line goes
abbrev pub FirstOf : Option (List ℕ) → Option (List ℕ) → Result Cluster ReplayFault → Type 0
FirstOf left_old left_new (Ok cluster) = TakesFirst left_old left_new cluster
FirstOf left_old left_new (Err (Line l at)) = BeginsBad at left_old × (l ≡ 1)
FirstOf left_old left_new (Err (Range l name)) = NextHas (λ line. IsClusterOutOfRange line name) left_old × (l ≡ 1)
FirstOf left_old left_new (Err Read) = TakesPart 512 left_old left_new
FirstOf left_old left_new (Err Memory) = ⊤
FirstOf left_old left_new (Err _) = ⊥

-- what comes after the last event that is allowed
abbrev pub LastOf : Option (List ℕ) → Option (List ℕ) → Result Unit ReplayFault → Type 0
LastOf left_old left_new (Ok _) = IsOver left_old left_new
LastOf left_old left_new (Err TooManyEvents) = IsLeft left_old
LastOf left_old left_new (Err Read) = Keeps left_old left_new
LastOf left_old left_new (Err _) = ⊥

-- the count of faults rose where this is so, and else it is what it was
pub record Counts (before now : ℕ) (fault : Type 0) : Type 0 where
  pub later : before ≤ now
  pub rose : fault → Rose before now
  pub same : ¬ fault → now ≡ before

-- ---- one line

-- an event happened, and its outcome's line waits to be written
pub record GoesOn {P : Type 0} (shows : P → WorldState → Type 0) (cluster : P → Cluster) (old new : P) (waiting_old waiting_new : List ℕ) (event : AnEvent) : Type 0 where
  pub outcome : Outcome
  pub leads : Leads (shows old) (shows new) event outcome
  pub same : cluster new ≡ cluster old
  pub text : waiting_new ≡ waiting_old ++ outcome_line outcome

-- the same, where there was memory for it
abbrev pub HappensOf : {P : Type 0} → (P → WorldState → Type 0) → (P → Cluster) → P → P → List ℕ → List ℕ → AnEvent → Result Unit ReplayFault → Type 0
HappensOf shows cluster old new waiting_old waiting_new event (Ok _) = GoesOn shows cluster old new waiting_old waiting_new event
HappensOf shows cluster old new waiting_old waiting_new event (Err Memory) = waiting_new ≡ waiting_old
HappensOf shows cluster old new waiting_old waiting_new event (Err _) = ⊥

-- a line was read, and its event happened
pub record Turns {P : Type 0} (shows : P → WorldState → Type 0) (cluster : P → Cluster) (left_old left_new : Option (List ℕ)) (old new : P) (waiting_old waiting_new : List ℕ) : Type 0 where
  pub event : AnEvent
  pub takes : TakesEvent left_old left_new (cluster old) event
  pub on : GoesOn shows cluster old new waiting_old waiting_new event

-- how a turn of the loop goes on or ends, at a line of this number
abbrev pub TurnOf : {P : Type 0} → (P → WorldState → Type 0) → (P → Cluster) → Option (List ℕ) → Option (List ℕ) → P → P → List ℕ → List ℕ → ℕ → Result Turned ReplayFault → Type 0
TurnOf shows cluster left_old left_new old new waiting_old waiting_new number (Ok More) = Turns shows cluster left_old left_new old new waiting_old waiting_new
TurnOf shows cluster left_old left_new old new waiting_old waiting_new number (Ok Over) = IsOver left_old left_new × (waiting_new ≡ waiting_old)
TurnOf shows cluster left_old left_new old new waiting_old waiting_new number (Err (Line l at)) =
    NextHas (λ line. IsBadEvent line at) left_old × (l ≡ number) × (waiting_new ≡ waiting_old)
TurnOf shows cluster left_old left_new old new waiting_old waiting_new number (Err (Range l name)) =
    NextHas (λ line. IsEventOutOfRange (cluster old) line name) left_old × (l ≡ number) × (waiting_new ≡ waiting_old)
TurnOf shows cluster left_old left_new old new waiting_old waiting_new number (Err Read) = TakesPart 512 left_old left_new × (waiting_new ≡ waiting_old)
TurnOf shows cluster left_old left_new old new waiting_old waiting_new number (Err Memory) = waiting_new ≡ waiting_old
TurnOf shows cluster left_old left_new old new waiting_old waiting_new number (Err _) = ⊥

-- ---- writing

-- some of what waited is held now, and the rest waits on
pub record Moves (held_old held_new : Option (List ℕ)) (waiting_old waiting_new : List ℕ) : Type 0 where
  pub moved : List ℕ
  pub held : Appends held_old held_new moved
  pub split : waiting_old ≡ moved ++ waiting_new

-- writing failed: a prefix of what waited is held now, and nothing waits on
pub record BreaksOff (held_old held_new : Option (List ℕ)) (waiting_old waiting_new : List ℕ) : Type 0 where
  pub held : AppendsPrefix held_old held_new waiting_old
  pub nothing : waiting_new ≡ []

abbrev pub WritesOf : Option (List ℕ) → Option (List ℕ) → List ℕ → List ℕ → Result Unit ReplayFault → Type 0
WritesOf held_old held_new waiting_old waiting_new (Ok _) = Moves held_old held_new waiting_old waiting_new
WritesOf held_old held_new waiting_old waiting_new (Err Write) = BreaksOff held_old held_new waiting_old waiting_new
WritesOf held_old held_new waiting_old waiting_new (Err Memory) = BreaksOff held_old held_new waiting_old waiting_new
WritesOf held_old held_new waiting_old waiting_new (Err _) = ⊥

-- what comes after the last event that is allowed, once what waits was written
abbrev pub EndsOf : Option (List ℕ) → Option (List ℕ) → Option (List ℕ) → Option (List ℕ) → List ℕ → List ℕ → Result Unit ReplayFault → Type 0
EndsOf left_old left_new held_old held_new waiting_old waiting_new (Err Write) = BreaksOff held_old held_new waiting_old waiting_new
EndsOf left_old left_new held_old held_new waiting_old waiting_new (Err Memory) = BreaksOff held_old held_new waiting_old waiting_new
EndsOf left_old left_new held_old held_new waiting_old waiting_new end = LastOf left_old left_new end × Moves held_old held_new waiting_old waiting_new

-- What was told of a text: all of it, or a prefix where the output failed. At running out of memory it is all, but where the
-- sink met it.
abbrev pub IsTold : Type 0 → Result Unit ReplayFault → List ℕ → List ℕ → Type 0
IsTold refused (Err Write) told text = (k : ℕ) × (told ≡ take k text)
IsTold refused (Err Memory) told text = (told ≡ text) ⊎ (refused × ((k : ℕ) × (told ≡ take k text)))
IsTold refused _ told text = told ≡ text

-- ---- the first line

-- the first line was read and the world made; left is what the source has, here with what is pending
pub record BeginsReplay {P : Type 0} (shows : P → WorldState → Type 0) (cluster : P → Cluster) (here_old here left_old before left : Option (List ℕ)) (p : P) : Type 0 where
  pub takes : TakesFirst here_old here (cluster p)
  pub shown : shows p (start (cluster p))
  pub read : IsReadWhileOpen 512 [] left_old before left

-- how a replay begins, or ends at once
abbrev pub BeginsOf : {P : Type 0} → (P → WorldState → Type 0) → (P → Cluster) → Option (List ℕ) → Option (List ℕ) → Option (List ℕ) → Option (List ℕ) → Option (List ℕ) → Result P ReplayFault → Type 0
BeginsOf shows cluster here_old here left_old before left (Ok p) = BeginsReplay shows cluster here_old here left_old before left p
BeginsOf shows cluster here_old here left_old before left (Err (Line l at)) =
    BeginsBad at here_old × (l ≡ 1) × IsReadWhileOpen 512 [] left_old before left
BeginsOf shows cluster here_old here left_old before left (Err (Range l name)) =
    NextHas (λ line. IsClusterOutOfRange line name) here_old × (l ≡ 1) × IsReadWhileOpen 512 [] left_old before left
BeginsOf shows cluster here_old here left_old before left (Err Read) = TakesPart 512 here_old here
BeginsOf shows cluster here_old here left_old before left (Err Memory) = (left ≡ left_old) ⊎ IsReadWhileOpen 512 [] left_old before left
BeginsOf shows cluster here_old here left_old before left (Err _) = ⊥

-- ---- between two lines

-- one of these lines needed the last read of a source that tells
abbrev pub NeedsLastRead : List (List ℕ) → Option (List ℕ) → Option (List ℕ) → Option (List ℕ) → Type 0
NeedsLastRead lines None before left = ⊤
NeedsLastRead lines (Some bytes) before left = IsReadForOne 20001 lines bytes before left

-- Where a replay stands after so many lines: the lines so far are a schedule, its events and outcomes a run that ended
-- here, and what was written and what waits are the text so far. here is what is left beyond what is pending.
pub record Going {P : Type 0} (shows : P → WorldState → Type 0) (cluster : P → Cluster) (left_old here before left held_old held_new : Option (List ℕ)) (waiting : List ℕ) (p : P) (total : ℕ) : Type 0 where
  pub lines : List (List ℕ)
  pub events : List AnEvent
  pub outcomes : List Outcome
  pub worlds : List WorldState
  pub schedule : IsSchedule lines (cluster p) events
  pub run : IsRunOnFiles StandFor (start (cluster p)) events outcomes worlds
  pub shown : shows p (last_world (start (cluster p)) worlds)
  pub read : TakesLines left_old here lines
  pub last : NeedsLastRead lines left_old before left
  pub written : List ℕ
  pub held : Appends held_old held_new written
  pub told : written ++ waiting ≡ printed outcomes
  pub count : length lines ≡ total

-- where a replay stands when it ends, before what waits is written
pub record Reaches (left_old before left_new held_old held_new : Option (List ℕ)) (refused : Type 0) (waiting : List ℕ) (end : Result Unit ReplayFault) : Type 0 where
  pub cluster : Cluster
  pub lines : List (List ℕ)
  pub events : List AnEvent
  pub outcomes : List Outcome
  pub worlds : List WorldState
  pub after : IsAfter end lines
  pub few : length lines ≤ 20001
  pub read : ReadsWhere end cluster left_old before left_new lines
  pub schedule : IsSchedule lines cluster events
  pub run : IsRunOnFiles StandFor (start cluster) events outcomes worlds
  pub written : List ℕ
  pub held : Appends held_old held_new written
  pub told : IsTold refused end (written ++ waiting) (printed outcomes)

-- what waits is written and the end is answered, or it breaks off
abbrev pub Finishes : Type 0 → Option (List ℕ) → Option (List ℕ) → List ℕ → Result Unit ReplayFault → Result Unit ReplayFault → Type 0
Finishes refused held_old held_new waiting end result =
    ((result ≡ end) × Appends held_old held_new waiting) ⊎ (IsBrokenBy refused result × AppendsPrefix held_old held_new waiting)
