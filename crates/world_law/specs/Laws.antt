-- Laws of every run, whatever its cluster, its events and the files of its nodes are.
use Rattle.std.specs.Prelude.{◌≡◌, List, ◌∷◌}
use Rattle.std.specs.List.{AllByRecursion}
use Rattle.tx_model.specs.declared.record.Record.{Record}
use Rattle.tx_model.specs.Records.{IsLog}
use Rattle.tx_model.specs.Logs.{IsClean}
use Rattle.kv_app.specs.WellLocked.{IsWellLocked}
use Rattle.net_model.specs.declared.cluster.Cluster.{Cluster}
use Rattle.net_model.specs.declared.event.Event.{Event}
use Rattle.net_model.specs.declared.outcome.Outcome.{Outcome}
use Rattle.world_law.specs.Worlds.{WorldState, start}
use Rattle.world_law.specs.OneLog.{one_log, IsOneLog}
use Rattle.world_law.specs.Runs.{IsRun}
use Rattle.world_law.specs.Safety.{IsSafeRun, OneLogGrows}
use Rattle.world_law.specs.Soundness.{IsSound}
use Rattle.world_law.specs.Promises.{HasCleanBooks, Agrees, Serves}
use Rattle.world_law.specs.Gains.{HasValidReads, HasNoRepeats}

-- the worlds of every run from a start, the start among them, have P
abbrev pub InEveryRun : (List WorldState → List Outcome → Type 0) → Type 0
InEveryRun P =
    (cluster : Cluster) (events : List Event) (outcomes : List Outcome) (worlds : List WorldState) →
    IsRun (start cluster) events outcomes worlds → P (start cluster ∷ worlds) outcomes

-- every world of every run has P
abbrev pub InEveryWorld : (WorldState → Type 0) → Type 0
InEveryWorld P = InEveryRun (λ worlds outcomes. AllByRecursion P worlds)

abbrev pub EveryRunIsSafe : Type 0
EveryRunIsSafe = InEveryRun (λ worlds outcomes. IsSafeRun worlds)

abbrev pub EveryRunIsSound : Type 0
EveryRunIsSound = InEveryRun IsSound

abbrev pub BooksAreClean : Type 0
BooksAreClean = InEveryWorld HasCleanBooks

abbrev pub SessionsAgree : Type 0
SessionsAgree = InEveryWorld Agrees

abbrev pub TheOneLogGrows : Type 0
TheOneLogGrows = InEveryRun (λ worlds outcomes. OneLogGrows worlds)

abbrev pub TheOneLogIsFound : Type 0
TheOneLogIsFound = InEveryWorld (λ (w : WorldState). IsOneLog w (one_log w))

-- there is no other
abbrev pub ThereIsOneLog : Type 0
ThereIsOneLog = (w : WorldState) (a b : List Record) → IsOneLog w a → IsOneLog w b → a ≡ b

abbrev pub TheOneLogIsALog : Type 0
TheOneLogIsALog = InEveryWorld (λ (w : WorldState). IsLog (one_log w))

abbrev pub TheOneLogIsClean : Type 0
TheOneLogIsClean = InEveryWorld (λ (w : WorldState). IsClean (one_log w))

abbrev pub TheOneLogIsWellLocked : Type 0
TheOneLogIsWellLocked = InEveryWorld (λ (w : WorldState). IsWellLocked (one_log w))

abbrev pub ClientsAreServed : Type 0
ClientsAreServed = InEveryWorld Serves

-- of any log that is clean and well-locked
abbrev pub CleanLogsHaveValidReads : Type 0
CleanLogsHaveValidReads = (log : List Record) → IsClean log → IsWellLocked log → HasValidReads log

abbrev pub ReadsAreValid : Type 0
ReadsAreValid = InEveryWorld (λ (w : WorldState). HasValidReads (one_log w))

abbrev pub RequestsEnterOnce : Type 0
RequestsEnterOnce = InEveryWorld (λ (w : WorldState). HasNoRepeats (one_log w))
