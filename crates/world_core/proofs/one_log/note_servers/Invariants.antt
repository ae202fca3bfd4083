use Rattle.std.proofs.Common.{◌≡◌, ℕ, List, length, map, take}
use Rattle.std.specs.List.{AllByRecursion}
use Rattle.partition_server.specs.Held.{state_of}
use Rattle.net_model.specs.declared.shown.Entry.{Entry}
use Rattle.world_core.specs.Tallies.{IsRowOf, acks_of, entries_of}
use Rattle.world_core.specs.Noted.{AreTargets, AreFronts, AreNoted}
use Rattle.world_core.proofs.one_log.note_servers.Given as goal

abbrev pub invariant-loop-server : goal.invariant-loop-server
invariant-loop-server l = record {
  size : length l.rows.items ≡ length l.fn.rows.items;
  rows : (nodes : ℕ) → AllByRecursion (IsRowOf nodes) l.fn.rows.items → AllByRecursion (IsRowOf nodes) l.rows.items;
  acks : (nodes : ℕ) → acks_of nodes l.rows.items ≡ acks_of nodes l.fn.rows.items;
  entries : (target : ℕ → List Entry) → AllByRecursion (λ h. AreTargets target (length l.fn.rows.items) (state_of h)) l.servers.items → AreFronts target (entries_of l.fn.rows.items)
      → AreNoted target (map state_of (take l.server-index l.servers.items)) (entries_of l.fn.rows.items) (entries_of l.rows.items);
}
