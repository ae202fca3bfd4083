use Rattle.std.proofs.Common.{◌≡◌}
use Rattle.client_core.specs.States.{client_state}
use Rattle.client_loop.specs.Scripts.{seat, AreMoves}
use Rattle.client_loop.proofs.sync.sync.Given as goal

abbrev pub invariant-loop-count : goal.invariant-loop-count
invariant-loop-count g l = record {
  moved : g.L.Link.tells → AreMoves l.port (seat (client_state l.fn.client) (g.L.Link.transcript l.fn.link)) l.count (seat (client_state l.client) (g.L.Link.transcript l.link));
  text : g.L.Link.tells → l.text.items ≡ l.fn.text.items;
  same : l.client.client ≡ l.fn.client.client;
  faults : g.L.Link.faults l.link ≡ g.L.Link.faults l.fn.link;
}
