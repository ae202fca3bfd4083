-- What holds of all lines.
use Rattle.std.specs.Prelude.{◌≡◌, ◌↔◌, ℕ, ◌+◌, ◌<◌, List, ◌++◌, length, min}
use Rattle.net_model.specs.declared.event.Event.{Event}
use Rattle.net_model.specs.declared.cluster.Cluster.{Cluster}
use Rattle.net_model.specs.Events.{IsInRange}
use Rattle.net_model.specs.Clusters.{IsClusterInRange}
use Rattle.schedule_text.specs.declared.lines.form.Name.{Name}
use Rattle.schedule_text.specs.declared.lines.script.ScriptLine.{ScriptLine}
use Rattle.schedule_text.specs.Spellings.{parts_of, first_parts, no_cluster, SpellsEvent, SpellsCluster, SpellsScript, AreInRange, IsEventOutOfRange, IsClusterOutOfRange}
use Rattle.schedule_text.specs.Places.{BeginsEvent, BeginsCluster, BeginsScript, IsLongest, IsPlace, IsBadEvent, IsBadCluster, IsBadScript}

-- a line is one event at most, a first line one cluster, and a script's line one line of a script
pub record LinesAreOne : Type 0 where
  pub events : (line : List ℕ) (a b : Event) → SpellsEvent line a → SpellsEvent line b → a ≡ b
  pub clusters : (line : List ℕ) (a b : Cluster) → SpellsCluster line a → SpellsCluster line b → a ≡ b
  pub scripts : (line : List ℕ) (a b : ScriptLine) → SpellsScript line a → SpellsScript line b → a ≡ b

-- a line has one place at most, and its first number out of range one name at most, which a line in range has not
pub record FaultsAreOne : Type 0 where
  pub places : (line : List ℕ) (a b : ℕ) → IsBadEvent line a → IsBadEvent line b → a ≡ b
  pub first_places : (line : List ℕ) (a b : ℕ) → IsBadCluster line a → IsBadCluster line b → a ≡ b
  pub script_places : (line : List ℕ) (a b : ℕ) → IsBadScript line a → IsBadScript line b → a ≡ b
  pub names : (cluster : Cluster) (line : List ℕ) (a b : Name) → IsEventOutOfRange cluster line a → IsEventOutOfRange cluster line b → a ≡ b
  pub first_names : (line : List ℕ) (a b : Name) → IsClusterOutOfRange line a → IsClusterOutOfRange line b → a ≡ b
  pub in_range : (cluster : Cluster) (line : List ℕ) (e : Event) (name : Name) → SpellsEvent line e → IsInRange cluster e → ¬ IsEventOutOfRange cluster line name
  pub first_in_range : (line : List ℕ) (c : Cluster) (name : Name) → SpellsCluster line c → IsClusterInRange c → ¬ IsClusterOutOfRange line name

-- the ranges by the table of the forms are those of events and clusters
pub record RangesAreOne : Type 0 where
  pub events : (cluster : Cluster) (e : Event) → AreInRange cluster (parts_of e) ↔ IsInRange cluster e
  pub clusters : (c : Cluster) → AreInRange no_cluster (first_parts c) ↔ IsClusterInRange c

-- a place is one more than the length of the longest prefix with P, and at most 513
abbrev pub AreCapped : (List ℕ → Type 0) → Type 0
AreCapped P = (line : List ℕ) (k at : ℕ) → IsLongest P line k → IsPlace P line at → at ≡ min (k + 1) 513

pub record PlacesAreCapped : Type 0 where
  pub events : AreCapped BeginsEvent
  pub clusters : AreCapped BeginsCluster
  pub scripts : AreCapped BeginsScript

-- a line of more than 512 bytes is bad where its front of so many bytes is
pub record LongLinesAreBad : Type 0 where
  pub events : (front more : List ℕ) (at : ℕ) → 512 < length front → IsPlace BeginsEvent front at → IsBadEvent (front ++ more) at
  pub clusters : (front more : List ℕ) (at : ℕ) → 512 < length front → IsPlace BeginsCluster front at → IsBadCluster (front ++ more) at
  pub scripts : (front more : List ℕ) (at : ℕ) → 512 < length front → IsPlace BeginsScript front at → IsBadScript (front ++ more) at
