use Rattle.std.proofs.Common.{◌≡◌, ◌∙◌, sym, ap, map}
use Rattle.proto_model.specs.Servers.{Config, ServerState, idle_server, server_after, server_answers}
use Rattle.partition_server.specs.Held.{state_of}
use Rattle.partition_server.specs.Answers.{addressed}
use Rattle.world_law.specs.Worlds.{config_of}
use Rattle.proto_model.specs.Tables.{put}
use Rattle.world_core.specs.Kept.{servers_of}
use Rattle.world_core.specs.Fit.{HasConfig}
use Rattle.world_core.proofs.Rows.{seen_at, seen_set, all_at}
use Rattle.world_core.proofs.Served.{heard_at}
use Rattle.world_core.proofs.servers.hear.Goals as goal

pub returns-clause-servers : goal.returns-clause-servers
returns-clause-servers c =
    let at = seen_at idle_server state_of c.args.servers.now.items c.args.v c.index_mut-server.result.now c.requires.server.0 c.requires.server.1 c.index_mut-server.ensures.value in
    let set = all_at (HasConfig c.args.cluster) c.args.servers.now.items c.args.v c.index_mut-server.result.now c.requires.server.0 c.requires.server.1 c.index_mut-server.ensures.value c.requires.configs in
    let same : state_of c.receive.new.self ≡ server_after (config_of c.args.cluster) (servers_of (map state_of c.args.servers.now.items) c.args.v) c.args.node c.args.m.now =
    c.in_ok-answers.ensures.ok ∙ (ap (λ (s : Config). server_after s (state_of c.index_mut-server.result.now) c.args.node c.in_ok-m.m) set ∙ (ap (λ (sv : ServerState). server_after (config_of c.args.cluster) sv c.args.node c.in_ok-m.m) (sym at) ∙ ap (server_after (config_of c.args.cluster) (servers_of (map state_of c.args.servers.now.items) c.args.v) c.args.node) c.in_ok-m.ensures)) in
    seen_set idle_server state_of c.args.servers.now.items c.args.v c.receive.new.self c.requires.server.0 c.requires.server.1 ∙ ap (put (servers_of (map state_of c.args.servers.now.items)) c.args.v) same

pub returns-clause-answers : goal.returns-clause-answers
returns-clause-answers c =
    let at = seen_at idle_server state_of c.args.servers.now.items c.args.v c.index_mut-server.result.now c.requires.server.0 c.requires.server.1 c.index_mut-server.ensures.value in
    let set = all_at (HasConfig c.args.cluster) c.args.servers.now.items c.args.v c.index_mut-server.result.now c.requires.server.0 c.requires.server.1 c.index_mut-server.ensures.value c.requires.configs in
    c.in_ok-answers.ensures.answers ∙ (ap (λ (s : Config). map addressed (server_answers s (state_of c.index_mut-server.result.now) c.args.node c.in_ok-m.m)) set ∙ (ap (λ (sv : ServerState). map addressed (server_answers (config_of c.args.cluster) sv c.args.node c.in_ok-m.m)) (sym at) ∙ ap (λ m. map addressed (server_answers (config_of c.args.cluster) (servers_of (map state_of c.args.servers.now.items) c.args.v) c.args.node m)) c.in_ok-m.ensures))

pub returns-clause-few : goal.returns-clause-few
returns-clause-few c =
    heard_at c.args.servers.now.items c.args.v c.index_mut-server.result.now c.receive.new.self c.args.node c.in_ok-m.m c.in_ok-answers.answers.items c.requires.server.0 c.requires.server.1 c.index_mut-server.ensures.value c.in_ok-answers.ensures.ok c.in_ok-answers.ensures.answers
