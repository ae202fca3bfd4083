use Rattle.std.proofs.Common.{◌≡◌, ◌+◌, ◌∷◌, [], ap, refl, arith}
use Rattle.std.proofs.lemmas.List.{length-append}
use Rattle.tx_model.specs.Applications.{Application}
use Rattle.client_core.specs.Clients.{fresh_client}
use Rattle.proto_model.proofs.TableLemmas.{AllByRecursion-append}
use Rattle.client_core.specs.States.{Kept, client_state}
use Rattle.world_core.proofs.Rows.{numbered_more}
use Rattle.world_core.proofs.clients.fresh_clients.Goals as goal

pub loop-i-preserved : goal.loop-i-preserved
loop-i-preserved c =
    let x : Kept Application = c.new-client.result in
    let fresh : client_state x ≡ fresh_client = rw (c.new-client.ensures, c.new-app.ensures) refl in
    let number : x.client ≡ c.loop-i.i + 1 = ap (λ (k : Kept Application). k.client) c.new-client.ensures in
    let size = c.loop-i.invariant.size in
    rw c.in_ok-push.ensures.items (record {
      size = rw (length-append c.loop-i.clients.items (x ∷ []), size);
      fresh = AllByRecursion-append (λ (k : Kept Application). client_state k ≡ fresh_client) c.loop-i.clients.items (x ∷ []) c.loop-i.invariant.fresh (fresh, tt);
      numbers = numbered_more 1 c.loop-i.clients.items x (omega (arith, number, size)) c.loop-i.invariant.numbers;
    })
