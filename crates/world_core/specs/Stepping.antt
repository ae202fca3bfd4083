-- What an event makes of a world's code.
use Rattle.std.specs.Prelude.{◌≡◌, ℕ, ◌+◌, List, ⊤}
use Rattle.proto_model.specs.declared.message.Status.{Status}
use Rattle.proto_model.specs.Replicas.{ReplicaState}
use Rattle.net_model.specs.declared.event.Event.{Event}
use Rattle.net_model.specs.declared.event.Event.TheVariants.{Log}
use Rattle.net_model.specs.declared.outcome.Outcome.{Outcome}
use Rattle.world_law.specs.Worlds.{WorldState}
use Rattle.world_law.specs.Steps.{Fate, Allows, happens}
use Rattle.world_law.specs.Outcomes.{outcome_of}
use Rattle.world_law.specs.Runs.{WorldStep}
use Rattle.world_core.specs.declared.tally.Row.{Row}
use Rattle.world_core.specs.Kept.{KeptSystem, KeptWorld, Shown, Shows, shown_of}
use Rattle.world_core.specs.Fit.{IsSystem}
use Rattle.world_core.specs.Told.{IsOfRun, IsTallied}

-- by one fate, whatever the world is
pub record Happens (old new : Shown) (event : Event) (outcome : Outcome) : Type 0 where
  pub fate : Fate
  pub allowed : (w : WorldState) → Shows old w → Allows w event fate
  pub gives : (w : WorldState) → Shows old w → outcome ≡ outcome_of w fate event
  pub leads : (w : WorldState) → Shows old w → Shows new (happens w fate event)

-- what an event makes of the parties, the register and the envelopes of a world
pub record Steps {R : Type 0} (state : R → ReplicaState) (files : R → ℕ → List ℕ) (is_faultless : R → Type 0) (status : R → Status)
    (old new : KeptSystem R) (event : Event) (outcome : Outcome) : Type 0 where
  pub cluster_same : new.cluster ≡ old.cluster
  pub happens_so : Happens (shown_of state files old) (shown_of state files new) event outcome
  pub system : (events : ℕ) → IsSystem is_faultless status events old → IsSystem is_faultless status (events + 1) new

-- an event that the parties, the register or the envelopes take part in, or show: every one but `log`
abbrev pub IsStepped : Event → Type 0
IsStepped (Log from) = ⊥
IsStepped _ = ⊤

-- from a world the event leads, with this outcome and by one step, to a world that is seen
pub record Goes (new : Shown) (w : WorldState) (event : Event) (outcome : Outcome) : Type 0 where
  pub after : WorldState
  pub step : WorldStep w event outcome after
  pub shows : Shows new after

-- so it does from each world of a run that was seen and has what is kept of it
abbrev pub GoesFrom : Shown → List Row → Shown → Event → Outcome → Type 0
GoesFrom old rows new event outcome =
    (w : WorldState) → Shows old w → IsOfRun w → IsTallied rows w → Goes new w event outcome

-- what an event makes of them, where these are the rows
pub record Takes {R : Type 0} (state : R → ReplicaState) (files : R → ℕ → List ℕ) (is_faultless : R → Type 0) (status : R → Status)
    (old new : KeptSystem R) (rows : List Row) (event : Event) (outcome : Outcome) : Type 0 where
  pub cluster_same : new.cluster ≡ old.cluster
  pub goes : GoesFrom (shown_of state files old) rows (shown_of state files new) event outcome
  pub system : (events : ℕ) → IsSystem is_faultless status events old → IsSystem is_faultless status (events + 1) new

-- ---- the world

-- The world has the states and the files of the code's replicas, and all else that the code keeps. It is one of a run.
pub record IsShownBy {R : Type 0} (state : R → ReplicaState) (files : R → ℕ → List ℕ) (k : KeptWorld R) (w : WorldState) : Type 0 where
  pub view : Shows (shown_of state files k.system) w
  pub run : IsOfRun w
  pub tallied : IsTallied k.rows w

-- from a world the event leads, with this outcome and by one step, to a world that is shown
pub record StepsTo {R : Type 0} (state : R → ReplicaState) (files : R → ℕ → List ℕ) (new : KeptWorld R) (w : WorldState) (event : Event) (outcome : Outcome) : Type 0 where
  pub after : WorldState
  pub step : WorldStep w event outcome after
  pub shown : IsShownBy state files new after

-- so it does from each world that was shown
abbrev pub LeadsTo : {R : Type 0} → (R → ReplicaState) → (R → ℕ → List ℕ) → KeptWorld R → KeptWorld R → Event → Outcome → Type 0
LeadsTo state files old new event outcome = (w : WorldState) → IsShownBy state files old w → StepsTo state files new w event outcome
