use Rattle.std.proofs.Common.{◌≡◌, ◌≤◌, ℕ, length, map}
use Rattle.std.specs.Prelude.{◌||◌}
use Rattle.std.specs.List.{AllByRecursion}
use Rattle.quorum_append.specs.Kept.{has_kept}
use Rattle.world_core.specs.Kept.{nodes_of}
use Rattle.world_core.specs.Tallies.{IsRowOf, acks_of, entries_of}
use Rattle.world_core.proofs.Casting.{are_cast}
use Rattle.world_core.proofs.one_log.note_nodes.Given as goal

abbrev pub invariant-loop-i : goal.invariant-loop-i
invariant-loop-i g l = record {
  rows : AllByRecursion (IsRowOf l.count) l.rows.items;
  size : length l.rows.items ≡ length l.fn.rows.items;
  votes : (s k i : ℕ) → s ≤ length l.fn.rows.items → has_kept (acks_of l.count l.rows.items s) k i ≡ (has_kept (acks_of l.count l.fn.rows.items s) k i || are_cast (nodes_of (map g.R.Replica.state l.nodes.items)) l.i s k i);
  entries : entries_of l.rows.items ≡ entries_of l.fn.rows.items;
}
