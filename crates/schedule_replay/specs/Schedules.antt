-- Which lines are a schedule.
use Rattle.std.specs.Prelude.{◌≡◌, ℕ, List, [], ◌∷◌, ⊤}
use Rattle.net_model.specs.declared.cluster.Cluster.{Cluster}
use Rattle.net_model.specs.declared.event.Event.{Event}
use Rattle.net_model.specs.Clusters.{IsClusterInRange}
use Rattle.net_model.specs.Events.{IsInRange}
use Rattle.schedule_text.specs.declared.lines.form.Name.{Name}
use Rattle.schedule_text.specs.Spellings.{SpellsCluster, SpellsEvent, IsClusterOutOfRange, IsEventOutOfRange}
use Rattle.schedule_text.specs.Places.{IsBadCluster, IsBadEvent}

-- a first line, with its numbers in range
pub record IsFirstLine (line : List ℕ) (cluster : Cluster) : Type 0 where
  pub text : SpellsCluster line cluster
  pub in_range : IsClusterInRange cluster

-- a further line, with its numbers in range
pub record IsFurtherLine (cluster : Cluster) (line : List ℕ) (event : Event) : Type 0 where
  pub text : SpellsEvent line event
  pub in_range : IsInRange cluster event

-- further lines, and their events
abbrev pub AreFurtherLines : Cluster → List (List ℕ) → List Event → Type 0
AreFurtherLines cluster [] [] = ⊤
AreFurtherLines cluster (line ∷ lines) (event ∷ events) = IsFurtherLine cluster line event × AreFurtherLines cluster lines events
AreFurtherLines cluster _ _ = ⊥

-- the lines of a schedule from its first one on, and its events
abbrev pub IsSchedule : List (List ℕ) → Cluster → List Event → Type 0
IsSchedule [] cluster events = events ≡ []
IsSchedule (first ∷ lines) cluster events = IsFirstLine first cluster × AreFurtherLines cluster lines events

-- After these lines of a schedule comes a line that is in no form, and stops at this place to begin one. Where there is no
-- line at all, that is place 1.
abbrev pub IsBadNext : List (List ℕ) → List (List ℕ) → ℕ → Type 0
IsBadNext [] [] at = at ≡ 1
IsBadNext [] (line ∷ rest) at = IsBadCluster line at
IsBadNext (first ∷ lines) [] at = ⊥
IsBadNext (first ∷ lines) (line ∷ rest) at = IsBadEvent line at

-- After these lines of a schedule comes a line in form, of which the first number that is out of range has this name.
abbrev pub IsOutNext : Cluster → List (List ℕ) → List (List ℕ) → Name → Type 0
IsOutNext cluster [] [] name = ⊥
IsOutNext cluster [] (line ∷ rest) name = IsClusterOutOfRange line name
IsOutNext cluster (first ∷ lines) [] name = ⊥
IsOutNext cluster (first ∷ lines) (line ∷ rest) name = IsEventOutOfRange cluster line name
