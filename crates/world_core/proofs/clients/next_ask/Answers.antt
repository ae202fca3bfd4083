use Rattle.client_core.specs.Clients.{fresh_client}
use Rattle.client_core.specs.States.{client_state}
use Rattle.world_core.proofs.Rows.{seen_at}
use Rattle.world_core.proofs.clients.next_ask.Goals as goal

pub returns : goal.returns
returns c =
    let at = seen_at fresh_client client_state c.args.clients.now.items c.args.c c.index-client.result.now c.requires.0 c.requires.1 c.index-client.ensures in
    rw at c.next_ask.ensures.value
