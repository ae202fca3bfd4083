use Rattle.std.proofs.Common.{◌≡◌, length}
use Rattle.std.specs.List.{AllByRecursion}
use Rattle.tx_model.specs.Applications.{Application}
use Rattle.client_core.specs.Clients.{fresh_client}
use Rattle.client_core.specs.States.{Kept, client_state}
use Rattle.world_core.specs.Fit.{AreNumbered}
use Rattle.world_core.proofs.clients.fresh_clients.Given as goal

abbrev pub invariant-loop-i : goal.invariant-loop-i
invariant-loop-i l = record {
  size : length l.clients.items ≡ l.i;
  fresh : AllByRecursion (λ (k : Kept Application). client_state k ≡ fresh_client) l.clients.items;
  numbers : AreNumbered 1 l.clients.items;
}
