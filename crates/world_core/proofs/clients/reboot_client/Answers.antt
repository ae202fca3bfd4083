use Rattle.std.proofs.Common.{◌≡◌, ◌∙◌, ap, map, refl}
use Rattle.tx_model.specs.Applications.{Application}
use Rattle.proto_model.specs.Tables.{put}
use Rattle.client_core.specs.Clients.{fresh_client}
use Rattle.client_core.specs.States.{Kept, client_state}
use Rattle.world_law.specs.Steps.{rebooted}
use Rattle.world_core.specs.Kept.{clients_of}
use Rattle.world_core.proofs.Rows.{seen_at, seen_set, numbered_set}
use Rattle.world_core.proofs.clients.reboot_client.Goals as goal

pub returns-clause-clients : goal.returns-clause-clients
returns-clause-clients c =
    let at = seen_at fresh_client client_state c.args.clients.now.items c.args.c c.index_mut-client.result.now c.requires.client.0 c.requires.client.1 c.index_mut-client.ensures.value in
    let same : client_state c.new-fresh.result ≡ rebooted (clients_of (map client_state c.args.clients.now.items) c.args.c) = rw (at, c.new-fresh.ensures, c.new-app.ensures, c.request-request.ensures.value) refl in
    seen_set fresh_client client_state c.args.clients.now.items c.args.c c.new-fresh.result c.requires.client.0 c.requires.client.1 ∙ ap (put (clients_of (map client_state c.args.clients.now.items)) c.args.c) same

pub returns-clause-numbers : goal.returns-clause-numbers
returns-clause-numbers c =
    numbered_set c.args.clients.now.items c.args.c c.new-fresh.result c.requires.client.0 (ap (λ (k : Kept Application). k.client) c.new-fresh.ensures) c.requires.numbers
