-- What a step of a world does to the worlds that it may be seen as, and what the files of a node stand for.
use Rattle.std.specs.Prelude.{◌≡◌, ℕ, List}
use Rattle.proto_model.specs.Replicas.{ReplicaState}
use Rattle.proto_model.specs.Crashes.{unstaged}
use Rattle.proto_model.specs.Held.{Stands}
use Rattle.net_model.specs.declared.event.Event.{Event}
use Rattle.net_model.specs.declared.outcome.Outcome.{Outcome}
use Rattle.world_law.specs.Worlds.{WorldState}
use Rattle.world_law.specs.Runs.{WorldStep}

-- files stand for the state of a node, with nothing staged
abbrev pub StandFor : (ℕ → List ℕ) → ReplicaState → Type 0
StandFor files state = Stands (λ (s : ReplicaState). s ≡ unstaged state) files

-- a step of the event with this outcome leads from here to a world that is shown afterwards
pub record LeadsOn (after : WorldState → Type 0) (old : WorldState) (event : Event) (outcome : Outcome) : Type 0 where
  pub new : WorldState
  pub step : WorldStep old event outcome new
  pub shown : after new

-- and it does from each world that was shown before
abbrev pub Leads : (WorldState → Type 0) → (WorldState → Type 0) → Event → Outcome → Type 0
Leads before after event outcome = (old : WorldState) → before old → LeadsOn after old event outcome
