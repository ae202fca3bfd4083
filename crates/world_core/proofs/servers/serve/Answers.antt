use Rattle.std.proofs.Common.{◌≡◌, ◌∙◌, sym, ap, map}
use Rattle.proto_model.specs.Servers.{Config, ServerState, idle_server}
use Rattle.proto_model.specs.Serving.{served_after, served_answers}
use Rattle.partition_server.specs.Held.{state_of}
use Rattle.world_law.specs.Worlds.{config_of}
use Rattle.proto_model.specs.Tables.{put}
use Rattle.world_core.specs.Kept.{servers_of}
use Rattle.world_core.specs.Fit.{HasConfig}
use Rattle.world_core.proofs.Rows.{seen_at, seen_set, all_at}
use Rattle.world_core.proofs.Served.{served_at}
use Rattle.world_core.proofs.servers.serve.Goals as goal

pub returns-clause-servers : goal.returns-clause-servers
returns-clause-servers c =
    let at = seen_at idle_server state_of c.args.servers.now.items c.args.v c.index_mut-server.result.now c.requires.server.0 c.requires.server.1 c.index_mut-server.ensures.value in
    let set = all_at (HasConfig c.args.cluster) c.args.servers.now.items c.args.v c.index_mut-server.result.now c.requires.server.0 c.requires.server.1 c.index_mut-server.ensures.value c.requires.configs in
    let same : state_of c.serve.new.self ≡ served_after (config_of c.args.cluster) (servers_of (map state_of c.args.servers.now.items) c.args.v) c.args.m.now =
    c.in_ok-answer.ensures.after ∙ (ap (λ (s : Config). served_after s (state_of c.index_mut-server.result.now) c.args.m.now) set ∙ ap (λ (sv : ServerState). served_after (config_of c.args.cluster) sv c.args.m.now) (sym at)) in
    seen_set idle_server state_of c.args.servers.now.items c.args.v c.serve.new.self c.requires.server.0 c.requires.server.1 ∙ ap (put (servers_of (map state_of c.args.servers.now.items)) c.args.v) same

pub returns-clause-answer : goal.returns-clause-answer
returns-clause-answer c =
    let at = seen_at idle_server state_of c.args.servers.now.items c.args.v c.index_mut-server.result.now c.requires.server.0 c.requires.server.1 c.index_mut-server.ensures.value in
    let set = all_at (HasConfig c.args.cluster) c.args.servers.now.items c.args.v c.index_mut-server.result.now c.requires.server.0 c.requires.server.1 c.index_mut-server.ensures.value c.requires.configs in
    c.in_ok-answer.ensures.answers ∙ (ap (λ (s : Config). served_answers s (state_of c.index_mut-server.result.now) c.args.m.now) set ∙ ap (λ (sv : ServerState). served_answers (config_of c.args.cluster) sv c.args.m.now) (sym at))

pub returns-clause-few : goal.returns-clause-few
returns-clause-few c =
    served_at c.args.servers.now.items c.args.v c.index_mut-server.result.now c.serve.new.self c.args.m.now c.in_ok-answer.answer c.requires.server.0 c.requires.server.1 c.index_mut-server.ensures.value c.in_ok-answer.ensures.after c.in_ok-answer.ensures.answers
