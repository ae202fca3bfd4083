-- What `replay` prints, and at which status.
use Rattle.std.specs.Prelude.{◌≡◌, ◌⊎◌, ℕ, ◌≤◌, List, ◌∷◌, ◌++◌, length, Option, None, Some, Result, ⊤}
use Rattle.std.specs.Io.KnownBytes.{Appends}
use Rattle.io_core.specs.Bytes.{AppendsPrefix}
use Rattle.io_core.specs.Lines.{lines_of}
use Rattle.net_model.specs.declared.cluster.Cluster.{Cluster}
use Rattle.net_model.specs.declared.event.Event.{Event}
use Rattle.net_model.specs.declared.outcome.Outcome.{Outcome}
use Rattle.world_law.specs.Worlds.{WorldState, start}
use Rattle.world_law.specs.Runs.{IsRunOnFiles}
use Rattle.schedule_text.specs.Outcomes.{printed}
use Rattle.schedule_replay.specs.declared.fault.ReplayFault.{ReplayFault}
use Rattle.schedule_replay.specs.Faults.{IsReported, IsDecided}
use Rattle.schedule_replay.specs.Plays.{StandFor}
use Rattle.schedule_replay.specs.Schedules.{IsSchedule}
use Rattle.schedule_replay.specs.Replays.{IsAfter, HasReason, ReadsWhere, IsReliable}
use Rattle.waltz_cli.specs.declared.end.End.TheVariants.{Usage}
use Rattle.waltz_cli.specs.Ends.{end_of, status_of, last_line, IsBroken, IsBrokenBy, Finishes}

-- The text and the last line of the end; or at running out of memory the text alone; or a prefix, where the output failed.
abbrev pub Prints : Type 0 → Result Unit ReplayFault → Option (List ℕ) → Option (List ℕ) → List ℕ → ℕ → Type 0
Prints refused end held_old held_new text status =
    (IsReported end × (status ≡ status_of (end_of end)) × Appends held_old held_new (text ++ last_line (end_of end)))
    ⊎ (((status ≡ 20) × Appends held_old held_new text)
    ⊎ (IsBrokenBy refused status × AppendsPrefix held_old held_new (text ++ last_line (end_of end))))

-- The lines that were read are a schedule of at most 20,000 events, its events and outcomes are a run of the world of its
-- cluster, in which the files of each node stand for its state, these worlds can be relied on, and what is printed is the
-- lines of these outcomes and then the last line. Where the sink failed it is a prefix of such a text. refused says whether
-- the sink ran out of memory.
pub record PrintsReplay (left_old before left_new held_old held_new : Option (List ℕ)) (refused : Type 0) (status : ℕ) : Type 0 where
  pub end : Result Unit ReplayFault
  pub cluster : Cluster
  pub lines : List (List ℕ)
  pub events : List Event
  pub outcomes : List Outcome
  pub worlds : List WorldState
  pub after : IsAfter end lines
  pub few : length lines ≤ 20001
  pub read : ReadsWhere end cluster left_old before left_new lines
  pub schedule : IsSchedule lines cluster events
  pub run : IsRunOnFiles StandFor (start cluster) events outcomes worlds
  pub reliable : IsReliable (start cluster ∷ worlds) outcomes
  pub text : Prints refused end held_old held_new (printed outcomes) status

-- Where the lines lead to an end, the status is that of this end, unless a fault or running out of memory came first.
abbrev pub ComesExactly : Option (List ℕ) → ℕ → Type 0
ComesExactly None status = ⊤
ComesExactly (Some bytes) status =
    (end : Result Unit ReplayFault) (cluster : Cluster) (lines : List (List ℕ)) (events : List Event) (rest : List (List ℕ)) →
    IsDecided end → IsSchedule lines cluster events → lines_of bytes ≡ lines ++ rest → HasReason end cluster lines rest →
    (status ≡ status_of (end_of end)) ⊎ ((status ≡ 10) ⊎ IsBroken status)

-- what is printed where the words are in no form
abbrev pub PrintsUsage : Type 0 → Option (List ℕ) → Option (List ℕ) → ℕ → Type 0
PrintsUsage refused held_old held_new status = Finishes refused held_old held_new Usage status
