-- What holds of the schedules of numbers.
use Rattle.std.specs.Prelude.{◌≡◌, ℕ, ◌≤◌, List, [], ⊤}
use Rattle.io_core.specs.Lines.{lines_of}
use Rattle.net_model.specs.declared.event.Event.{Event}
use Rattle.net_model.specs.declared.event.Event.TheVariants.{Tear, Dump}
use Rattle.net_model.specs.declared.outcome.Outcome.{Outcome}
use Rattle.world_law.specs.Worlds.{WorldState, start}
use Rattle.world_law.specs.Runs.{IsRun, last_world}
use Rattle.schedule_replay.specs.Schedules.{IsSchedule}
use Rattle.schedule_replay.specs.Numbered.{numbered_cluster, numbered_events, numbered_lines, numbered_text}
use Rattle.schedule_replay.specs.Drills.{summary_of}

-- The text is a schedule of this cluster and these events: it has these lines, each in form and in range.
pub record IsSpelled (number events : ℕ) : Type 0 where
  pub lines : lines_of (numbered_text number events) ≡ numbered_lines number events
  pub schedule : IsSchedule (numbered_lines number events) numbered_cluster (numbered_events number events)

abbrev pub NumbersHaveSchedules : Type 0
NumbersHaveSchedules = (number events : ℕ) → events ≤ 20000 → IsSpelled number events

-- an event whose outcome the world decides: no delivery that is torn, and no dump of a file
abbrev pub IsFixed : Event → Type 0
IsFixed (Tear envelope bytes) = ⊥
IsFixed (Dump node file at) = ⊥
IsFixed _ = ⊤

-- a world without its files
abbrev pub bare : WorldState → WorldState
bare w = record w { files = λ node file. [] }

-- Two runs of one number's schedule have the same outcomes and end in worlds that are the same but for the bytes of files: so
-- whoever replays its text prints the same, and a drill counts that very run.
pub record HaveOneEnd (events : ℕ) (os ps : List Outcome) (v w : WorldState) : Type 0 where
  pub outcomes : os ≡ ps
  pub worlds : bare v ≡ bare w
  pub counts : summary_of events v ≡ summary_of events w

abbrev pub NumbersHaveOneRun : Type 0
NumbersHaveOneRun = (number events : ℕ) (os ps : List Outcome) (vs ws : List WorldState) → events ≤ 20000 →
    IsRun (start numbered_cluster) (numbered_events number events) os vs → IsRun (start numbered_cluster) (numbered_events number events) ps ws →
    HaveOneEnd events os ps (last_world (start numbered_cluster) vs) (last_world (start numbered_cluster) ws)
