use Rattle.std.proofs.Common.{◌≡◌, ◌∙◌, sym, ap, map}
use Rattle.proto_model.specs.Servers.{Config, ServerState, idle_server}
use Rattle.partition_server.specs.Held.{Held, state_of, config_of as held_config}
use Rattle.world_law.specs.Worlds.{config_of}
use Rattle.world_core.specs.Fit.{HasConfig}
use Rattle.world_core.proofs.Rows.{seen_at, all_at}
use Rattle.proto_model.specs.Sending.{next_messages}
use Rattle.world_law.specs.Steps.{envelope_from}
use Rattle.world_core.specs.Kept.{servers_of}
use Rattle.world_core.proofs.Fits.{messages_fit}
use Rattle.world_core.proofs.servers.messages.Goals as goal

pub returns-clause-made : goal.returns-clause-made
returns-clause-made c =
    let server : Held = c.index-server.result.now in
    let at : servers_of (map state_of c.args.servers.now.items) c.args.v ≡ state_of server = seen_at idle_server state_of c.args.servers.now.items c.args.v c.index-server.result.now c.requires.server.0 c.requires.server.1 c.index-server.ensures in
    let set : held_config server ≡ config_of c.args.cluster = all_at (HasConfig c.args.cluster) c.args.servers.now.items c.args.v c.index-server.result.now c.requires.server.0 c.requires.server.1 c.index-server.ensures c.requires.configs in
    let messages : c.in_ok-sent.sent.items ≡ next_messages (config_of c.args.cluster) (servers_of (map state_of c.args.servers.now.items) c.args.v) c.args.cluster.nodes =
    c.in_ok-sent.ensures.value ∙ (ap (λ (s : Config). next_messages s (state_of server) s.nodes) set ∙ ap (λ (sv : ServerState). next_messages (config_of c.args.cluster) sv c.args.cluster.nodes) (sym at)) in
    c.in_ok-made.ensures.made ∙ ap (map (envelope_from c.args.v)) messages

pub returns-clause-fit : goal.returns-clause-fit
returns-clause-fit c =
    rw c.in_ok-made.ensures.made (messages_fit c.args.v c.in_ok-sent.sent.items c.in_ok-sent.ensures.valid)
