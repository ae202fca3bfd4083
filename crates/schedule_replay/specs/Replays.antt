-- What a replay reads and prints, and how it ends.
use Rattle.std.specs.Prelude.{◌≡◌, ◌≢◌, ◌⊎◌, ℕ, ◌+◌, ◌<◌, ◌≤◌, List, [], ◌∷◌, ◌++◌, length, Option, None, Some, Result, Ok, Err, ⊤}
use Rattle.std.specs.List.{AllByRecursion}
use Rattle.std.specs.Io.KnownBytes.{Appends}
use Rattle.io_core.specs.Bytes.{AppendsPrefix}
use Rattle.io_core.specs.Lines.{lines_of}
use Rattle.net_model.specs.declared.cluster.Cluster.{Cluster}
use Rattle.net_model.specs.declared.event.Event.{Event}
use Rattle.net_model.specs.declared.outcome.Outcome.{Outcome}
use Rattle.world_law.specs.Worlds.{WorldState, start}
use Rattle.world_law.specs.Runs.{IsRunOnFiles}
use Rattle.world_law.specs.OneLog.{one_log}
use Rattle.world_law.specs.Safety.{IsSafeRun}
use Rattle.world_law.specs.Soundness.{IsSound}
use Rattle.world_law.specs.Gains.{HasValidReads, HasNoRepeats}
use Rattle.schedule_text.specs.Taken.{Gave, ReadsNoFurther, IsReadForOne}
use Rattle.schedule_text.specs.Outcomes.{printed}
use Rattle.schedule_replay.specs.Plays.{StandFor}
use Rattle.schedule_replay.specs.Schedules.{IsSchedule, IsBadNext, IsOutNext}
use Rattle.schedule_replay.specs.declared.fault.ReplayFault.{ReplayFault}
use Rattle.schedule_replay.specs.declared.fault.ReplayFault.TheVariants.{Read, Write, Line, Range, TooManyEvents, Memory}
use Rattle.schedule_replay.specs.Faults.{IsDecided, IsReported, IsBroken}

-- ---- how it ends

-- what is so of the lines before an end, whatever follows them
abbrev pub IsAfter : Result Unit ReplayFault → List (List ℕ) → Type 0
IsAfter (Ok _) lines = 0 < length lines
IsAfter (Err (Line line at)) lines = (line ≡ length lines + 1) × (length lines ≤ 20000)
IsAfter (Err (Range line name)) lines = (line ≡ length lines + 1) × (length lines ≤ 20000)
IsAfter (Err TooManyEvents) lines = length lines ≡ 20001
IsAfter (Err _) lines = ⊤

-- what the lines that follow are like
abbrev pub IsFollowed : Result Unit ReplayFault → Cluster → List (List ℕ) → List (List ℕ) → Type 0
IsFollowed (Ok _) cluster lines rest = rest ≡ []
IsFollowed (Err (Line line at)) cluster lines rest = IsBadNext lines rest at
IsFollowed (Err (Range line name)) cluster lines rest = IsOutNext cluster lines rest name
IsFollowed (Err TooManyEvents) cluster lines rest = rest ≢ []
IsFollowed (Err _) cluster lines rest = ⊤

-- Why a replay of these lines ends so. At most 20,000 events follow the first line.
abbrev pub HasReason : Result Unit ReplayFault → Cluster → List (List ℕ) → List (List ℕ) → Type 0
HasReason end cluster lines rest = IsFollowed end cluster lines rest × IsAfter end lines × (length lines ≤ 20001)

-- ---- what was read

-- What an end leaves of the source. Where a line, the limit or the output decides, it read no further than the piece that
-- decided.
abbrev pub Leaves : Result Unit ReplayFault → List (List ℕ) → List ℕ → Option (List ℕ) → Option (List ℕ) → Type 0
Leaves (Ok _) lines bytes before left = left ≡ Some []
Leaves (Err Read) lines bytes before left = Gave 20001 bytes left lines ⊎ ((left ≡ Some []) × (lines_of bytes ≡ lines))
Leaves (Err Write) lines bytes before left = IsReadForOne 20001 lines bytes before left
Leaves (Err Memory) lines bytes before left = (left ≡ Some bytes) ⊎ (ReadsNoFurther 20001 lines bytes before left ⊎ (left ≡ Some []))
Leaves (Err _) lines bytes before left = ReadsNoFurther 20001 lines bytes before left

-- the lines that were replayed are the first ones of the source, and what follows them is the reason of the end
pub record Reads (end : Result Unit ReplayFault) (cluster : Cluster) (bytes : List ℕ) (before left : Option (List ℕ)) (lines : List (List ℕ)) : Type 0 where
  pub rest : List (List ℕ)
  pub split : lines_of bytes ≡ lines ++ rest
  pub followed : IsFollowed end cluster lines rest
  pub leaves : Leaves end lines bytes before left

-- the same of a source that may not tell its bytes
abbrev pub ReadsWhere : Result Unit ReplayFault → Cluster → Option (List ℕ) → Option (List ℕ) → Option (List ℕ) → List (List ℕ) → Type 0
ReadsWhere end cluster None before left lines = ⊤
ReadsWhere end cluster (Some bytes) before left lines = Reads end cluster bytes before left lines

-- ---- the run

-- what a user of the log can rely on in these worlds of a run, which had these outcomes
pub record IsReliable (worlds : List WorldState) (outcomes : List Outcome) : Type 0 where
  -- all committed logs are prefixes of one log, which is clean and only grows, and each application is serial
  pub safe : IsSafeRun worlds
  -- what a client read of the keys that its transaction names still stands just before the transaction's place
  pub reads : AllByRecursion (λ (w : WorldState). HasValidReads (one_log w)) worlds
  -- two places with one client's request hold one transaction, which has no write lock
  pub repeats : AllByRecursion (λ (w : WorldState). HasNoRepeats (one_log w)) worlds
  pub sound : IsSound worlds outcomes

-- ---- what was printed

-- the output failed; running out of memory is so only where the sink met it
abbrev pub IsBrokenBy : Type 0 → Result Unit ReplayFault → Type 0
IsBrokenBy refused result = (result ≡ Err Write) ⊎ ((result ≡ Err Memory) × refused)

-- The whole text, and the end is answered; or at running out of memory the whole text; or a prefix, where the output failed.
abbrev pub Prints : Type 0 → Result Unit ReplayFault → Option (List ℕ) → Option (List ℕ) → List ℕ → Result Unit ReplayFault → Type 0
Prints refused end held_old held_new text result =
    (IsReported end × (result ≡ end) × Appends held_old held_new text)
    ⊎ (((result ≡ Err Memory) × Appends held_old held_new text) ⊎ (IsBrokenBy refused result × AppendsPrefix held_old held_new text))

-- The lines that were read are a schedule of at most 20,000 events, its events and outcomes are a run of the world of its
-- cluster, in which the files of each node stand for its state, these worlds can be relied on, and what is printed is the lines of these outcomes. Where the sink failed it is a
-- prefix of them. refused says whether the sink ran out of memory.
pub record PrintsRun (left_old before left_new held_old held_new : Option (List ℕ)) (refused : Type 0) (result : Result Unit ReplayFault) : Type 0 where
  pub end : Result Unit ReplayFault
  pub cluster : Cluster
  pub lines : List (List ℕ)
  pub events : List Event
  pub outcomes : List Outcome
  pub worlds : List WorldState
  pub after : IsAfter end lines
  pub few : length lines ≤ 20001
  pub read : ReadsWhere end cluster left_old before left_new lines
  pub schedule : IsSchedule lines cluster events
  pub run : IsRunOnFiles StandFor (start cluster) events outcomes worlds
  pub reliable : IsReliable (start cluster ∷ worlds) outcomes
  pub text : Prints refused end held_old held_new (printed outcomes) result

-- Where the lines lead to an end, that is the answer, unless a fault or running out of memory came first.
abbrev pub ComesExactly : Option (List ℕ) → Result Unit ReplayFault → Type 0
ComesExactly None result = ⊤
ComesExactly (Some bytes) result =
    (end : Result Unit ReplayFault) (cluster : Cluster) (lines : List (List ℕ)) (events : List Event) (rest : List (List ℕ)) →
    IsDecided end → IsSchedule lines cluster events → lines_of bytes ≡ lines ++ rest → HasReason end cluster lines rest →
    (result ≡ end) ⊎ ((result ≡ Err Read) ⊎ IsBroken result)
