-- The statuses that a command may end with.
use Rattle.std.proofs.Common.{◌≡◌, ◌≢◌, ◌⊎◌, inl, inr, ℕ, List, [], Option, None, Some, Result, Ok, Err, arith, refl}
use Rattle.io_core.specs.Ports.{Answered}
use Rattle.io_core.specs.Lines.{lines_of}
use Rattle.io_core.specs.Links.{Exchange}
use Rattle.io_core.proofs.Known.{Appends-nothing}
use Rattle.disk_model.specs.History.{History}
use Rattle.proto_model.specs.Servers.{drawn}
use Rattle.schedule_replay.specs.declared.fault.ReplayFault.{ReplayFault}
use Rattle.schedule_replay.specs.declared.fault.ReplayFault.TheVariants as faults
use Rattle.node_loops.specs.declared.end.End.{End}
use Rattle.node_loops.specs.declared.end.End.TheVariants as ends
use Rattle.node_loops.specs.Ends as node
use Rattle.server_loop.specs.declared.end.End.{End as ServerEnd}
use Rattle.server_loop.specs.declared.end.End.TheVariants as server_ends
use Rattle.server_loop.specs.Ends as server
use Rattle.server_loop.specs.Serving.{standing}
use Rattle.server_loop.specs.Sessions.{Post, unbegun, unstarted}
use Rattle.client_core.specs.Clients.{fresh_client}
use Rattle.client_loop.specs.declared.end.End.{End as ScriptEnd}
use Rattle.client_loop.specs.declared.end.End.TheVariants as script_ends
use Rattle.client_loop.specs.Ends as script
use Rattle.client_loop.specs.Reading.{ReadsWhere}
use Rattle.client_loop.specs.Runs.{RunsScript, Stops, AreDone, ComesExactly as script_exactly}
use Rattle.serve_commands.specs.Storages as storage
use Rattle.serve_commands.specs.Registers as register
use Rattle.waltz_cli.specs.Partitions.{ServesPartition}
use Rattle.waltz_cli.specs.Ends.{status_of, end_of, IsBroken, IsReplayStatus}

-- ---- of a replay

pub replay_status : (result : Result Unit ReplayFault) (status : ℕ) → (status ≡ status_of (end_of result)) ⊎ IsBroken status → IsReplayStatus status
replay_status result status (inr broken) = inr (inr (inr (inr broken)))
replay_status (Ok u) status (inl is) = inl is
replay_status (Err faults.Read) status (inl is) = inr (inr (inr (inl is)))
replay_status (Err faults.Write) status (inl is) = inr (inr (inr (inr (inl is))))
replay_status (Err (faults.Line line at)) status (inl is) = inr (inl is)
replay_status (Err (faults.Range line name)) status (inl is) = inr (inl is)
replay_status (Err faults.TooManyEvents) status (inl is) = inr (inr (inl is))
replay_status (Err faults.Memory) status (inl is) = inr (inr (inr (inr (inr is))))

-- ---- of a storage node or a register

abbrev IsNodeStatus : ℕ → Type 0
IsNodeStatus n = (n ≢ 2) × (n ≢ 10) × (n ≢ 14)

node_due : (end : End) → IsNodeStatus (node.status_of end)
node_due ends.Bye = (omega arith, omega arith, omega arith)
node_due ends.Port = (omega arith, omega arith, omega arith)
node_due ends.Turns = (omega arith, omega arith, omega arith)
node_due ends.Unheard = (omega arith, omega arith, omega arith)
node_due ends.Peer = (omega arith, omega arith, omega arith)
node_due ends.Disk = (omega arith, omega arith, omega arith)
node_due (ends.Damaged file at) = (omega arith, omega arith, omega arith)
node_due (ends.TakenOver session) = (omega arith, omega arith, omega arith)
node_due ends.Answer = (omega arith, omega arith, omega arith)
node_due ends.Full = (omega arith, omega arith, omega arith)
node_due ends.WriteFault = (omega arith, omega arith, omega arith)
node_due ends.Memory = (omega arith, omega arith, omega arith)

pub node_status : (held held' : Option (List ℕ)) (text : List ℕ) (end : End) (status : ℕ) → node.Prints held held' text (node.status_of end) status → IsNodeStatus status
node_status held held' text end status (inl p) = rw p.0 (node_due end)
node_status held held' text end status (inr (inl is, part)) = rw is (omega arith, omega arith, omega arith)
node_status held held' text end status (inr (inr is, part)) = rw is (omega arith, omega arith, omega arith)

-- ---- of a server

abbrev IsServerStatus : ℕ → Type 0
IsServerStatus n = (n ≢ 2) × (n ≢ 10) × (n ≢ 12)

server_due : (end : ServerEnd) → IsServerStatus (server.status_of end)
server_due server_ends.Bye = (omega arith, omega arith, omega arith)
server_due server_ends.Port = (omega arith, omega arith, omega arith)
server_due server_ends.Turns = (omega arith, omega arith, omega arith)
server_due server_ends.Peer = (omega arith, omega arith, omega arith)
server_due server_ends.Register = (omega arith, omega arith, omega arith)
server_due server_ends.Garbled = (omega arith, omega arith, omega arith)
server_due server_ends.Exhausted = (omega arith, omega arith, omega arith)
server_due (server_ends.TakenOver p) = (omega arith, omega arith, omega arith)
server_due (server_ends.NoQuorum list) = (omega arith, omega arith, omega arith)
server_due server_ends.WriteFault = (omega arith, omega arith, omega arith)
server_due server_ends.Memory = (omega arith, omega arith, omega arith)

pub server_status : (held held' : Option (List ℕ)) (text : List ℕ) (end : ServerEnd) (status : ℕ) → server.Prints held held' text (server.status_of end) status → IsServerStatus status
server_status held held' text end status (inl p) = rw p.0 (server_due end)
server_status held held' text end status (inr (inl is, part)) = rw is (omega arith, omega arith, omega arith)
server_status held held' text end status (inr (inr is, part)) = rw is (omega arith, omega arith, omega arith)

-- ---- of a client, and of what stops whoever serves

abbrev IsScriptStatus : ℕ → Type 0
IsScriptStatus n = (n ≢ 2) × (n ≢ 12) × (n ≢ 14)

script_due : (end : ScriptEnd) → IsScriptStatus (script.status_of end)
script_due script_ends.Done = (omega arith, omega arith, omega arith)
script_due (script_ends.Bad line at) = (omega arith, omega arith, omega arith)
script_due script_ends.Limit = (omega arith, omega arith, omega arith)
script_due script_ends.ReadFault = (omega arith, omega arith, omega arith)
script_due script_ends.WriteFault = (omega arith, omega arith, omega arith)
script_due script_ends.Peer = (omega arith, omega arith, omega arith)
script_due script_ends.Garbled = (omega arith, omega arith, omega arith)
script_due script_ends.Memory = (omega arith, omega arith, omega arith)

pub script_status : (refused : Type 0) (end : ScriptEnd) (held held' : Option (List ℕ)) (text : List ℕ) (status : ℕ) → script.Prints refused end held held' text status → IsScriptStatus status
script_status refused end held held' text status (inl p) = rw p.1 (script_due end)
script_status refused end held held' text status (inr (inl p)) = rw p.0 (omega arith, omega arith, omega arith)
script_status refused end held held' text status (inr (inr (inl is, part))) = rw is (omega arith, omega arith, omega arith)
script_status refused end held held' text status (inr (inr (inr is, part))) = rw is.0 (omega arith, omega arith, omega arith)

-- ---- where there is no memory for the words, nothing is done

pub no_node : (tells plain heard : Type 0) (number : ℕ) (h : History) (coming : List (List ℕ)) (answers : List Answered) (held : Option (List ℕ)) → storage.ServesNode tells plain heard number h h coming coming answers answers held held 20
no_node tells plain heard number h coming answers held =
    (ends.Memory, [], storage.unloaded ends.Memory (λ t. refl) refl refl, inr (inr refl, (0, omega arith, Appends-nothing held)))

pub no_register : (tells plain heard : Type 0) (number : ℕ) (h : History) (coming : List (List ℕ)) (answers : List Answered) (held : Option (List ℕ)) → register.ServesRegister tells plain heard number h h coming coming answers answers held held 20
no_register tells plain heard number h coming answers held =
    (ends.Memory, [], register.unloaded ends.Memory (λ t. refl) refl refl, inr (inr refl, (0, omega arith, Appends-nothing held)))

pub no_server : (tells heard : Type 0) (at : Post) (past : List Exchange) (counted : ℕ) (coming : List (List ℕ)) (answers : List Answered) (held : Option (List ℕ)) → ServesPartition tells heard at past past counted counted coming coming answers answers held held 20
no_server tells heard at past counted coming answers held = (
  server_ends.Memory,
  [],
  inr (inr refl, (0, omega arith, Appends-nothing held)),
  tt,
  (λ t. unbegun (standing (drawn 0) past) server_ends.Memory (unstarted (standing (drawn 0) past) refl) refl),
  (λ t u. (drawn 0, unbegun (standing (drawn 0) past) server_ends.Memory (unstarted (standing (drawn 0) past) refl))),
)

unread : (left before : Option (List ℕ)) → ReadsWhere script_ends.Memory left before left []
unread None before = tt
unread (Some bytes) before = record { rest = lines_of bytes; split = refl; followed = tt; leaves = inl (inl refl) }

pub no_script : (tells : Type 0) (id port : ℕ) (past : List Exchange) (left before held : Option (List ℕ)) (refused : Type 0) → RunsScript tells id port past past left before left held held refused 20
no_script tells id port past left before held refused = record {
  end = script_ends.Memory;
  lines = [];
  scripts = [];
  text = [];
  after = tt;
  few = omega arith;
  read = unread left before;
  spelled = tt;
  done = λ t. inl (record { client = fresh_client; done = AreDone.none });
  printed = inr (inl (refl, Appends-nothing held));
}

pub no_stop : (tells : Type 0) (port : ℕ) (past : List Exchange) (held : Option (List ℕ)) (refused : Type 0) → Stops tells port past past held held refused 20
no_stop tells port past held refused = record {
  end = script_ends.Memory;
  kind = tt;
  asked = λ t. inl refl;
  printed = inr (inl (refl, Appends-nothing held));
}

pub unread_exactly : (left : Option (List ℕ)) → script_exactly left 20
unread_exactly None = tt
unread_exactly (Some bytes) = λ end lines scripts rest decided are split reason. inr (inr (inr (inr (inr refl))))
