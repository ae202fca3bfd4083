use Rattle.std.proofs.Common.{◌≤◌, length}
use Rattle.std.specs.List.{AllByRecursion}
use Rattle.world_core.specs.Tallies.{IsBounded, IsLongestRow, entries_of}
use Rattle.world_core.proofs.one_log.longest.Given as goal

abbrev pub invariant-loop-i : goal.invariant-loop-i
invariant-loop-i l = record {
  within : l.session ≤ l.i;
  fits : l.len ≤ length (entries_of l.rows.items l.session);
  found : AllByRecursion IsBounded l.rows.items → IsLongestRow l.nodes l.rows.items l.i l.session l.len;
}
