-- A run goes on by one step.
use Rattle.std.proofs.Common.{◌≡◌, List, [], ◌∷◌, ◌++◌, refl}
use Rattle.net_model.specs.declared.event.Event.{Event}
use Rattle.net_model.specs.declared.outcome.Outcome.{Outcome}
use Rattle.world_law.specs.Worlds.{WorldState}
use Rattle.world_law.specs.Runs.{WorldStep, IsRun, last_world}

pub last_world-push : (old : WorldState) (worlds : List WorldState) (new : WorldState) → last_world old (worlds ++ new ∷ []) ≡ new
last_world-push old [] new = refl
last_world-push old (w ∷ worlds) new = last_world-push w worlds new

pub IsRun-push : (old : WorldState) (events : List Event) (outcomes : List Outcome) (worlds : List WorldState) (event : Event) (outcome : Outcome) (new : WorldState)
    → IsRun old events outcomes worlds → WorldStep (last_world old worlds) event outcome new
    → IsRun old (events ++ event ∷ []) (outcomes ++ outcome ∷ []) (worlds ++ new ∷ [])
IsRun-push old [] [] [] event outcome new run step = (step, tt)
IsRun-push old (e ∷ es) (o ∷ os) (w ∷ ws) event outcome new run step = (run.0, IsRun-push w es os ws event outcome new run.1 step)
IsRun-push old [] [] (w ∷ ws) event outcome new run step = absurd run
IsRun-push old [] (o ∷ os) ws event outcome new run step = absurd run
IsRun-push old (e ∷ es) [] ws event outcome new run step = absurd run
IsRun-push old (e ∷ es) (o ∷ os) [] event outcome new run step = absurd run
