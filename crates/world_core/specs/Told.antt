-- A world of a run, and what is kept of its votes and books.
use Rattle.std.specs.Prelude.{◌≡◌, ℕ, true, List, length, map}
use Rattle.proto_model.specs.Quorums.{is_within}
use Rattle.quorum_append.specs.Kept.{has_kept}
use Rattle.net_model.specs.declared.event.Event.{Event}
use Rattle.net_model.specs.declared.outcome.Outcome.{Outcome}
use Rattle.world_law.specs.Worlds.{WorldState, start}
use Rattle.world_law.specs.OneLog.{voted}
use Rattle.world_law.specs.Outcomes.{entry_of}
use Rattle.world_law.specs.Runs.{IsRun, last_world}
use Rattle.world_core.specs.declared.tally.Row.{Row}
use Rattle.world_core.specs.Tallies.{acks_of, entries_of}

-- the world is one to which a run leads
pub record IsOfRun (w : WorldState) : Type 0 where
  pub events : List Event
  pub outcomes : List Outcome
  pub worlds : List WorldState
  pub run : IsRun (start w.cluster) events outcomes worlds
  pub last : last_world (start w.cluster) worlds ≡ w

-- Of each session that was won there is a row, which tells what the nodes voted for in it, and has the entries of its book.
pub record IsTallied (rows : List Row) (w : WorldState) : Type 0 where
  pub count : length rows ≡ w.number
  pub votes : (s k i : ℕ) → is_within w.cluster.nodes i ≡ true → has_kept (acks_of w.cluster.nodes rows s) k i ≡ voted w.votes s k i
  pub entries : (s : ℕ) → entries_of rows s ≡ map entry_of (w.books s).log
