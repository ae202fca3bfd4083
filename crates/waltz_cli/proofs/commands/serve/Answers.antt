use Rattle.waltz_cli.proofs.Statuses.{node_status, server_status, script_status}
use Rattle.waltz_cli.proofs.commands.serve.Goals as goal

pub returns-in-Storage-clause-usage_alone : goal.returns-in-Storage-clause-usage_alone
returns-in-Storage-clause-usage_alone g c is = absurd ((node_status _ _ _ _ _ c.storage.ensures.serves.3).0 is)

pub returns-in-Storage-clause-read : goal.returns-in-Storage-clause-read
returns-in-Storage-clause-read g c is = absurd ((node_status _ _ _ _ _ c.storage.ensures.serves.3).1 is)

pub returns-in-Storage-clause-no_register : goal.returns-in-Storage-clause-no_register
returns-in-Storage-clause-no_register g c is = absurd ((node_status _ _ _ _ _ c.storage.ensures.serves.3).2 is)

pub returns-in-Register-clause-usage_alone : goal.returns-in-Register-clause-usage_alone
returns-in-Register-clause-usage_alone g c is = absurd ((node_status _ _ _ _ _ c.register.ensures.serves.3).0 is)

pub returns-in-Register-clause-read : goal.returns-in-Register-clause-read
returns-in-Register-clause-read g c is = absurd ((node_status _ _ _ _ _ c.register.ensures.serves.3).1 is)

pub returns-in-Register-clause-no_register : goal.returns-in-Register-clause-no_register
returns-in-Register-clause-no_register g c is = absurd ((node_status _ _ _ _ _ c.register.ensures.serves.3).2 is)

pub returns-in-Server-clause-usage_alone : goal.returns-in-Server-clause-usage_alone
returns-in-Server-clause-usage_alone g c is = absurd ((server_status _ _ _ _ _ c.serve_server.ensures.serves.2).0 is)

pub returns-in-Server-clause-read : goal.returns-in-Server-clause-read
returns-in-Server-clause-read g c is = absurd ((server_status _ _ _ _ _ c.serve_server.ensures.serves.2).1 is)

pub returns-in-Server-clause-broken : goal.returns-in-Server-clause-broken
returns-in-Server-clause-broken g c is = absurd ((server_status _ _ _ _ _ c.serve_server.ensures.serves.2).2 is)

pub returns-in-Client-clause-usage_alone : goal.returns-in-Client-clause-usage_alone
returns-in-Client-clause-usage_alone g c is = absurd ((script_status _ _ _ _ _ _ c.run_client.ensures.runs.printed).0 is)

pub returns-in-Client-clause-broken : goal.returns-in-Client-clause-broken
returns-in-Client-clause-broken g c is = absurd ((script_status _ _ _ _ _ _ c.run_client.ensures.runs.printed).1 is)

pub returns-in-Client-clause-no_register : goal.returns-in-Client-clause-no_register
returns-in-Client-clause-no_register g c is = absurd ((script_status _ _ _ _ _ _ c.run_client.ensures.runs.printed).2 is)

pub returns-in-Stop-clause-usage_alone : goal.returns-in-Stop-clause-usage_alone
returns-in-Stop-clause-usage_alone g c is = absurd ((script_status _ _ _ _ _ _ c.stop.ensures.stops.printed).0 is)

pub returns-in-Stop-clause-broken : goal.returns-in-Stop-clause-broken
returns-in-Stop-clause-broken g c is = absurd ((script_status _ _ _ _ _ _ c.stop.ensures.stops.printed).1 is)

pub returns-in-Stop-clause-no_register : goal.returns-in-Stop-clause-no_register
returns-in-Stop-clause-no_register g c is = absurd ((script_status _ _ _ _ _ _ c.stop.ensures.stops.printed).2 is)
