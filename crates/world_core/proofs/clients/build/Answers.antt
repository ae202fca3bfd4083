use Rattle.std.proofs.Common.{◌∙◌, sym, ap, map}
use Rattle.proto_model.specs.Tables.{put}
use Rattle.client_core.specs.Clients.{ClientState, fresh_client, built, after_build}
use Rattle.client_core.specs.States.{client_state}
use Rattle.world_core.specs.Kept.{clients_of}
use Rattle.world_core.proofs.Rows.{seen_at, seen_set, numbered_at, numbered_set}
use Rattle.world_core.proofs.clients.build.Goals as goal

pub returns-in-Ok-clause-clients : goal.returns-in-Ok-clause-clients
returns-in-Ok-clause-clients c =
    let at = seen_at fresh_client client_state c.args.clients.now.items c.args.c c.index_mut-client.result.now c.requires.client.0 c.requires.client.1 c.index_mut-client.ensures.value in
    seen_set fresh_client client_state c.args.clients.now.items c.args.c c.build.new.self c.requires.client.0 c.requires.client.1
    ∙ ap (put (clients_of (map client_state c.args.clients.now.items)) c.args.c) (c.in-Ok.ensures.after ∙ ap (λ (cl : ClientState). after_build cl) (sym at))

pub returns-in-Ok-clause-built : goal.returns-in-Ok-clause-built
returns-in-Ok-clause-built c =
    let at = seen_at fresh_client client_state c.args.clients.now.items c.args.c c.index_mut-client.result.now c.requires.client.0 c.requires.client.1 c.index_mut-client.ensures.value in
    let number = numbered_at c.args.clients.now.items c.args.c c.index_mut-client.result.now c.requires.client.0 c.requires.client.1 c.index_mut-client.ensures.value c.requires.numbers in
    c.in-Ok.ensures.ok ∙ (ap (λ (cl : ClientState). built cl c.index_mut-client.result.now.client c.args.writes.items c.args.reads.items c.args.ops.now) (sym at) ∙ ap (λ n. built (clients_of (map client_state c.args.clients.now.items) c.args.c) n c.args.writes.items c.args.reads.items c.args.ops.now) number)

pub returns-in-Ok-clause-buildable : goal.returns-in-Ok-clause-buildable
returns-in-Ok-clause-buildable c =
    let at = seen_at fresh_client client_state c.args.clients.now.items c.args.c c.index_mut-client.result.now c.requires.client.0 c.requires.client.1 c.index_mut-client.ensures.value in
    rw at c.in-Ok.ensures.built

pub returns-in-Ok-clause-numbers : goal.returns-in-Ok-clause-numbers
returns-in-Ok-clause-numbers c =
    numbered_set c.args.clients.now.items c.args.c c.build.new.self c.requires.client.0 (c.in-Ok.ensures.same.0 ∙ numbered_at c.args.clients.now.items c.args.c c.index_mut-client.result.now c.requires.client.0 c.requires.client.1 c.index_mut-client.ensures.value c.requires.numbers) c.requires.numbers

pub returns-in-Err-clause-cause : goal.returns-in-Err-clause-cause
returns-in-Err-clause-cause c =
    let at = seen_at fresh_client client_state c.args.clients.now.items c.args.c c.index_mut-client.result.now c.requires.client.0 c.requires.client.1 c.index_mut-client.ensures.value in
    rw at c.in-Err.ensures.refused
