-- What each event gives.
use Rattle.std.specs.Prelude.{ℕ, ◌+◌, ◌-◌, if◌then◌else◌, List, [], ◌∷◌, length, map, take, drop, Option, None, Some}
use Rattle.tx_model.specs.declared.record.Record.{Record}
use Rattle.tx_model.specs.Applications.{application_text}
use Rattle.proto_model.specs.declared.message.Phase.{Phase}
use Rattle.proto_model.specs.declared.message.Phase.TheVariants as phase
use Rattle.proto_model.specs.declared.message.ToNode.{ToNode}
use Rattle.proto_model.specs.declared.client_message.ToServer.TheVariants as to_server
use Rattle.proto_model.specs.declared.client_message.FromServer.{FromServer}
use Rattle.proto_model.specs.declared.refusal.BuildFault.{BuildFault}
use Rattle.proto_model.specs.Quorums.{is_within}
use Rattle.proto_model.specs.Replicas.{ReplicaState}
use Rattle.proto_model.specs.Crashes.{unstaged}
use Rattle.proto_model.specs.Servers.{Config, ServerState, commit_mark}
use Rattle.client_core.specs.Clients.{ClientState, next_ask, client_step}
use Rattle.client_core.specs.Building.{build_refusal}
use Rattle.net_model.specs.declared.event.Event.{Event}
use Rattle.net_model.specs.declared.event.Event.TheVariants.{Read, Cas, Waste, Tick, Next, Skip, Deliver, Tear, Crash, Restart, Reboot, Append, Ask, Flush, Show, Server, App, Log, Dump}
use Rattle.net_model.specs.declared.mail.Party.{Party}
use Rattle.net_model.specs.declared.mail.Party.TheVariants as party
use Rattle.net_model.specs.declared.mail.Mail.{Mail}
use Rattle.net_model.specs.declared.mail.Mail.TheVariants as mail
use Rattle.net_model.specs.declared.mail.Envelope.{Envelope}
use Rattle.net_model.specs.declared.shown.Entry.{Entry}
use Rattle.net_model.specs.declared.outcome.Outcome.{Outcome}
use Rattle.net_model.specs.declared.outcome.Outcome.TheVariants as outcome
use Rattle.net_model.specs.Briefs.{items_from}
use Rattle.session_register.specs.declared.register.Cas.{Cas as CasAnswer}
use Rattle.session_register.specs.declared.register.Cas.TheVariants as answer
use Rattle.session_register.specs.Registers.{cas_answer, number_after}
use Rattle.world_law.specs.Worlds.{WorldState, config_of, envelope_of}
use Rattle.world_law.specs.OneLog.{one_log}
use Rattle.world_law.specs.Deliveries.{sends, target_of}
use Rattle.world_law.specs.Steps.{Fate, ticked, asked, submission}

-- ---- the register

abbrev pub cas_outcome : CasAnswer → Outcome
cas_outcome (answer.Won session) = outcome.Won session
cas_outcome (answer.Lost number) = outcome.Lost number
cas_outcome answer.Exhausted = outcome.Exhausted

-- of a server that keeps this number
abbrev pub outcome_of_cas : WorldState → Option ℕ → Outcome
outcome_of_cas w None = outcome.Unread
outcome_of_cas w (Some from) = cas_outcome (cas_answer w.number from)

abbrev pub wasted_outcome : WorldState → Option ℕ → Outcome
wasted_outcome w None = outcome.Unread
wasted_outcome w (Some from) = outcome.Wasted (number_after w.number (cas_answer w.number from))

-- ---- envelopes

-- what sending these gives
abbrev pub sent_outcome : WorldState → List Envelope → Outcome
sent_outcome w [] = outcome.Quiet
sent_outcome w (e ∷ envelopes) = outcome.Sent (items_from (length w.sent + 1) (e ∷ envelopes))

abbrev pub submission_outcome : WorldState → Envelope → Option BuildFault → Outcome
submission_outcome w e None = sent_outcome w (e ∷ [])
submission_outcome w e (Some fault) = outcome.Refused fault

-- a client that got an answer shows its mark
abbrev pub got_outcome : WorldState → Party → FromServer → Outcome
got_outcome w (party.Client client) m =
    if is_within w.cluster.clients client then outcome.Client client (client_step (w.clients client) m).mark else outcome.Quiet
got_outcome w (party.Node node) m = outcome.Quiet
got_outcome w (party.Server server) m = outcome.Quiet

abbrev pub mail_outcome : WorldState → Party → Party → Mail → Outcome
mail_outcome w from to (mail.FromServer m) = got_outcome w to m
mail_outcome w from to m = sent_outcome w (sends w from to m)

abbrev pub delivery_outcome : WorldState → Option Envelope → Outcome
delivery_outcome w None = outcome.NoEnvelope
delivery_outcome w (Some e) = mail_outcome w e.from e.to e.message

abbrev pub skip_outcome : WorldState → Option Envelope → Outcome
skip_outcome w None = outcome.NoEnvelope
skip_outcome w (Some e) = outcome.Skipped w.cursor

-- ---- what is shown

abbrev pub torn_outcome : Option (ℕ × ToNode) → ReplicaState → Outcome
torn_outcome None after = outcome.NoEnvelope
torn_outcome (Some target) after = outcome.Torn target.0 after.promised after.adopted after.low (length after.log)

abbrev pub node_outcome : ℕ → ReplicaState → Outcome
node_outcome node r = outcome.Node node r.promised r.adopted r.low (length r.log)

abbrev pub outcome_in : Phase → ℕ → Config → ServerState → Outcome
outcome_in phase.Idle server c sv = outcome.Idle server
outcome_in other server c sv = outcome.Server server other sv.session (length sv.log) (commit_mark c sv)

abbrev pub server_outcome : ℕ → Config → ServerState → Outcome
server_outcome server c sv = outcome_in sv.phase server c sv

abbrev pub app_outcome : ℕ → ClientState → Outcome
app_outcome client cl = outcome.App client cl.mark (application_text cl.app)

abbrev pub entry_of : Record → Entry
entry_of r = record { id = r.id; session = r.session; client = r.tx.client; request = r.tx.request }

-- a log from an id on, the first 64 records where there are more
abbrev pub log_outcome : List Record → ℕ → Outcome
log_outcome log from = outcome.Log (length log) (map entry_of (take 64 (drop (from - 1) log)))

-- a file from a place on, the first 256 bytes where there are more
abbrev pub dump_outcome : List ℕ → ℕ → Outcome
dump_outcome file at = outcome.Dump (length file) (take 256 (drop at file))

-- ---- every event

abbrev pub outcome_of : WorldState → Fate → Event → Outcome
outcome_of w fate (Read server) = outcome.Read w.number
outcome_of w fate (Cas server) = outcome_of_cas w (w.kept server)
outcome_of w fate (Waste server) = wasted_outcome w (w.kept server)
outcome_of w fate (Tick server) = sent_outcome w (ticked w server)
outcome_of w fate Next = delivery_outcome w (envelope_of w w.cursor)
outcome_of w fate Skip = skip_outcome w (envelope_of w w.cursor)
outcome_of w fate (Deliver envelope) = delivery_outcome w (envelope_of w envelope)
outcome_of w fate (Tear envelope bytes) = torn_outcome (target_of w (envelope_of w envelope)) fate.torn
outcome_of w fate (Crash node) = node_outcome node (unstaged (w.nodes node))
outcome_of w fate (Restart server) = outcome.Idle server
outcome_of w fate (Reboot client) = outcome.Client client 0
outcome_of w fate (Append client server writes reads ops) =
    submission_outcome w (submission w client server writes reads ops) (build_refusal (w.clients client) writes reads ops)
outcome_of w fate (Ask client server) = sent_outcome w (asked client server (next_ask (w.clients client)) ∷ [])
outcome_of w fate (Flush client server) = sent_outcome w (asked client server to_server.Flush ∷ [])
outcome_of w fate (Show node) = node_outcome node (w.nodes node)
outcome_of w fate (Server server) = server_outcome server (config_of w.cluster) (w.servers server)
outcome_of w fate (App client) = app_outcome client (w.clients client)
outcome_of w fate (Log from) = log_outcome (one_log w) from
outcome_of w fate (Dump node file at) = dump_outcome (w.files node file) at
