use Rattle.std.proofs.Common.{◌≡◌, map}
use Rattle.proto_model.specs.Servers.{idle_server}
use Rattle.partition_server.specs.Held.{Held, state_of, config_of as held_config}
use Rattle.world_law.specs.Worlds.{config_of}
use Rattle.world_core.specs.Fit.{HasConfig}
use Rattle.world_core.proofs.Rows.{seen_at, all_at}
use Rattle.world_core.specs.Kept.{servers_of}
use Rattle.world_core.proofs.Showing.{shows_other}
use Rattle.world_core.proofs.servers.show_server.Goals as goal

pub returns-in-Idle : goal.returns-in-Idle
returns-in-Idle c =
    let at = seen_at idle_server state_of c.args.servers.now.items c.args.v c.index-server.result.now c.requires.server.0 c.requires.server.1 c.index-server.ensures in
    rw (at, ← c.phase.ensures, c.in-Idle.is)

pub returns-in_default : goal.returns-in_default
returns-in_default c =
    let server : Held = c.index-server.result.now in
    let at : servers_of (map state_of c.args.servers.now.items) c.args.v ≡ state_of server = seen_at idle_server state_of c.args.servers.now.items c.args.v c.index-server.result.now c.requires.server.0 c.requires.server.1 c.index-server.ensures in
    let set : held_config server ≡ config_of c.args.cluster = all_at (HasConfig c.args.cluster) c.args.servers.now.items c.args.v c.index-server.result.now c.requires.server.0 c.requires.server.1 c.index-server.ensures c.requires.configs in
    shows_other c.args.v (held_config server) (config_of c.args.cluster) (state_of server) (servers_of (map state_of c.args.servers.now.items) c.args.v) c.phase.result c.session.result c.last.result c.committed.result
    at set c.phase.ensures c.in_default.not-Idle c.session.ensures c.last.ensures c.committed.ensures.value
