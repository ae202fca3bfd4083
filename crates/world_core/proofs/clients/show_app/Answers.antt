use Rattle.std.proofs.Common.{refl}
use Rattle.client_core.specs.Clients.{fresh_client}
use Rattle.client_core.specs.States.{client_state}
use Rattle.world_core.proofs.Rows.{seen_at}
use Rattle.world_core.proofs.clients.show_app.Goals as goal

pub returns : goal.returns
returns c =
    let at = seen_at fresh_client client_state c.args.clients.now.items c.args.c c.index-client.result.now c.requires.0 c.requires.1 c.index-client.ensures in
    rw (at, c.mark.ensures.value, c.new.ensures, c.in_ok-text.ensures, c.app.ensures) refl
