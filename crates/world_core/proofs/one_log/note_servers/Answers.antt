use Rattle.std.proofs.Common.{◌≡◌, ◌∙◌, ◌≤◌, ◌<◌, length, rules, get_or}
use Rattle.world_core.proofs.Noting.{servers_more, servers_done}
use Rattle.world_core.proofs.one_log.note_servers.Goals as goal

pub returns-in_err-note_server-clause-rows : goal.returns-in_err-note_server-clause-rows
returns-in_err-note_server-clause-rows c = λ nodes of. c.note_server.ensures.rows nodes (c.loop-server.invariant.rows nodes of)

pub returns-in_err-note_server-clause-acks : goal.returns-in_err-note_server-clause-acks
returns-in_err-note_server-clause-acks c = λ nodes. c.note_server.ensures.acks nodes ∙ c.loop-server.invariant.acks nodes

pub loop-server-preserved : goal.loop-server-preserved
loop-server-preserved c = record {
  size = c.note_server.ensures.size ∙ c.loop-server.invariant.size;
  rows = λ nodes of. c.note_server.ensures.rows nodes (c.loop-server.invariant.rows nodes of);
  acks = λ nodes. c.note_server.ensures.acks nodes ∙ c.loop-server.invariant.acks nodes;
  entries = λ target targets fronts.
      let within : c.loop-server.server-index < length c.args.servers.now.items = search rules in
      let is : c.server-item.result ≡ get_or c.args.servers.now.items c.loop-server.server-index c.server-item.result = search rules in
      servers_more target _ _ _ c.args.servers.now.items c.loop-server.server-index (length c.args.rows.now.items) (length c.loop-server.rows.items) c.server-item.result within is targets c.loop-server.invariant.size
      (c.in_ok-note_server.ensures.entries target) (c.loop-server.invariant.entries target targets fronts);
}

pub returns-clause-entries : goal.returns-clause-entries
returns-clause-entries c = λ target targets fronts.
    let past : length c.args.servers.now.items ≤ c.loop-server.server-index = search rules in
    servers_done target _ _ c.args.servers.now.items c.loop-server.server-index past (c.loop-server.invariant.entries target targets fronts)
