use Rattle.std.proofs.Common.{◌∙◌, sym, ap, map}
use Rattle.proto_model.specs.Tables.{put}
use Rattle.client_core.specs.Clients.{ClientState, fresh_client, client_step}
use Rattle.client_core.specs.States.{client_state}
use Rattle.world_core.specs.Kept.{clients_of}
use Rattle.world_core.proofs.Rows.{seen_at, seen_set, numbered_at, numbered_set}
use Rattle.world_core.proofs.clients.take.Goals as goal

pub returns-in_err-receive-clause-numbers : goal.returns-in_err-receive-clause-numbers
returns-in_err-receive-clause-numbers c =
    numbered_set c.args.clients.now.items c.args.c c.receive.new.self c.requires.client.0 (c.in_err-receive.ensures.same ∙ numbered_at c.args.clients.now.items c.args.c c.index_mut-client.result.now c.requires.client.0 c.requires.client.1 c.index_mut-client.ensures.value c.requires.numbers) c.requires.numbers

pub returns-clause-clients : goal.returns-clause-clients
returns-clause-clients c =
    let at = seen_at fresh_client client_state c.args.clients.now.items c.args.c c.index_mut-client.result.now c.requires.client.0 c.requires.client.1 c.index_mut-client.ensures.value in
    seen_set fresh_client client_state c.args.clients.now.items c.args.c c.receive.new.self c.requires.client.0 c.requires.client.1
    ∙ ap (put (clients_of (map client_state c.args.clients.now.items)) c.args.c) (c.in_ok-receive.ensures.state ∙ ap (λ (cl : ClientState). client_step cl c.args.m.now) (sym at))

pub returns-clause-mark : goal.returns-clause-mark
returns-clause-mark c =
    let at = seen_at fresh_client client_state c.args.clients.now.items c.args.c c.index_mut-client.result.now c.requires.client.0 c.requires.client.1 c.index_mut-client.ensures.value in
    c.mark.ensures.value ∙ ap (λ (cl : ClientState). cl.mark) (c.in_ok-receive.ensures.state ∙ ap (λ (cl : ClientState). client_step cl c.args.m.now) (sym at))

pub returns-clause-numbers : goal.returns-clause-numbers
returns-clause-numbers c =
    numbered_set c.args.clients.now.items c.args.c c.receive.new.self c.requires.client.0 (c.in_ok-receive.ensures.same ∙ numbered_at c.args.clients.now.items c.args.c c.index_mut-client.result.now c.requires.client.0 c.requires.client.1 c.index_mut-client.ensures.value c.requires.numbers) c.requires.numbers
