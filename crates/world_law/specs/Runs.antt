-- Runs of the world: one step after another.
use Rattle.std.specs.Prelude.{◌≡◌, ℕ, true, List, [], ◌∷◌, ⊤}
use Rattle.std.specs.List.{AllByRecursion}
use Rattle.proto_model.specs.Quorums.{is_within}
use Rattle.proto_model.specs.Replicas.{ReplicaState}
use Rattle.net_model.specs.declared.event.Event.{Event}
use Rattle.net_model.specs.declared.outcome.Outcome.{Outcome}
use Rattle.world_law.specs.Worlds.{WorldState}
use Rattle.world_law.specs.Steps.{Fate, happens, Allows}
use Rattle.world_law.specs.Outcomes.{outcome_of}

-- From old, the event may have this outcome and lead to new.
pub record WorldStep (old : WorldState) (event : Event) (outcome : Outcome) (new : WorldState) : Type 0 where
  pub fate : Fate
  pub allowed : Allows old event fate
  pub outcome_is : outcome ≡ outcome_of old fate event
  pub new_is : new ≡ happens old fate event

-- the events, their outcomes, and the world after each
abbrev pub IsRun : WorldState → List Event → List Outcome → List WorldState → Type 0
IsRun old [] [] [] = ⊤
IsRun old (event ∷ events) (outcome ∷ outcomes) (new ∷ worlds) = WorldStep old event outcome new × IsRun new events outcomes worlds
IsRun old _ _ _ = ⊥

-- the last of these worlds, or old where there is none
abbrev pub last_world : WorldState → List WorldState → WorldState
last_world old [] = old
last_world old (new ∷ worlds) = last_world new worlds

-- ---- files

-- each node's files stand for its state, by what such files stand for
abbrev pub HasFiles : ((ℕ → List ℕ) → ReplicaState → Type 0) → WorldState → Type 0
HasFiles stands_for w = (node : ℕ) → is_within w.cluster.nodes node ≡ true → stands_for (w.files node) (w.nodes node)

-- A run whose nodes keep their states in files. The laws hold whatever the files are.
pub record IsRunOnFiles (stands_for : (ℕ → List ℕ) → ReplicaState → Type 0)
    (old : WorldState) (events : List Event) (outcomes : List Outcome) (worlds : List WorldState) : Type 0 where
  pub run : IsRun old events outcomes worlds
  pub files : AllByRecursion (HasFiles stands_for) (old ∷ worlds)
