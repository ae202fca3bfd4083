use Rattle.std.proofs.Common.{◌∙◌, ap, map, refl}
use Rattle.proto_model.specs.Servers.{idle_server}
use Rattle.partition_server.specs.Held.{state_of}
use Rattle.proto_model.specs.Tables.{put}
use Rattle.world_core.specs.Kept.{servers_of}
use Rattle.world_core.proofs.Rows.{seen_set}
use Rattle.world_core.proofs.Served.{quiet_at}
use Rattle.world_core.proofs.servers.draw.Goals as goal

pub returns-clause-servers : goal.returns-clause-servers
returns-clause-servers c =
    seen_set idle_server state_of c.args.servers.now.items c.args.v c.drew.new.self c.requires.server.0 c.requires.server.1
    ∙ ap (put (servers_of (map state_of c.args.servers.now.items)) c.args.v) c.drew.ensures.value

pub returns-clause-few : goal.returns-clause-few
returns-clause-few c =
    quiet_at c.args.servers.now.items c.args.v c.index_mut-server.result.now c.drew.new.self _ c.requires.server.0 c.requires.server.1 c.index_mut-server.ensures.value c.drew.ensures.value refl
