-- What each event makes of the world. What the world leaves open, a fate decides.
use Rattle.std.specs.Prelude.{ℕ, ◌+◌, List, [], ◌∷◌, map, Option, None, Some, ⊤}
use Rattle.proto_model.specs.declared.message.ToNode.{ToNode}
use Rattle.proto_model.specs.declared.client_message.ToServer.{ToServer}
use Rattle.proto_model.specs.declared.client_message.ToServer.TheVariants as to_server
use Rattle.proto_model.specs.declared.refusal.BuildFault.{BuildFault}
use Rattle.proto_model.specs.Tables.{put}
use Rattle.proto_model.specs.Replicas.{ReplicaState}
use Rattle.proto_model.specs.Crashes.{unstaged, IsCrashOf}
use Rattle.proto_model.specs.Servers.{idle_server, drawn}
use Rattle.proto_model.specs.Sending.{next_messages}
use Rattle.client_core.specs.Clients.{ClientState, fresh_client, built, after_build, next_ask}
use Rattle.client_core.specs.Building.{build_refusal}
use Rattle.net_model.specs.declared.event.Event.{Event}
use Rattle.net_model.specs.declared.event.Event.TheVariants.{Read, Cas, Waste, Tick, Next, Skip, Deliver, Tear, Crash, Restart, Reboot, Append, Ask, Flush, Show, Server, App, Log, Dump}
use Rattle.net_model.specs.declared.mail.Party.TheVariants as party
use Rattle.net_model.specs.declared.mail.Mail.TheVariants as mail
use Rattle.net_model.specs.declared.mail.Envelope.{Envelope}
use Rattle.session_register.specs.declared.register.Cas.{Cas as CasAnswer}
use Rattle.session_register.specs.declared.register.Cas.TheVariants as answer
use Rattle.session_register.specs.Registers.{cas_answer, number_after}
use Rattle.world_law.specs.Worlds.{WorldState, config_of, envelope_of, with_server, with_node, with_client, with_sent}
use Rattle.world_law.specs.Deliveries.{delivered, target_of}

-- what the world leaves open
pub record Fate : Type 0 where
  -- the state of a node that stopped within its step, once it has loaded again
  pub torn : ReplicaState
  -- the files of the node that the event is at, once it has happened
  pub files : ℕ → List ℕ

-- ---- `cas`: a compare-and-set from the kept number, which is used up. Winning it begins the session

abbrev pub after_answer : WorldState → ℕ → CasAnswer → WorldState
after_answer w server (answer.Won session) =
    with_server (record w { number = session; kept = put w.kept server None }) server (drawn session)
after_answer w server (answer.Lost number) = record w { kept = put w.kept server None }
after_answer w server answer.Exhausted = record w { kept = put w.kept server None }

abbrev pub after_cas : WorldState → ℕ → Option ℕ → WorldState
after_cas w server None = w
after_cas w server (Some from) = after_answer w server (cas_answer w.number from)

-- ---- `waste`: the same, of which the server gets no answer. A session that is won so is no server's

abbrev pub wasted : WorldState → ℕ → Option ℕ → WorldState
wasted w server None = w
wasted w server (Some from) = record w { number = number_after w.number (cas_answer w.number from); kept = put w.kept server None }

-- ---- `tick`: the next messages of a server, in the order of the nodes

abbrev pub envelope_from : ℕ → (ℕ × ToNode) → Envelope
envelope_from server m = record { from = party.Server server; to = party.Node m.0; message = mail.ToNode m.1 }

abbrev pub ticked : WorldState → ℕ → List Envelope
ticked w server = map (envelope_from server) (next_messages (config_of w.cluster) (w.servers server) w.cluster.nodes)

-- ---- `next` and `skip`: the cursor goes on past an envelope

abbrev pub advanced : WorldState → Option Envelope → WorldState
advanced w None = w
advanced w (Some e) = record w { cursor = w.cursor + 1 }

-- ---- `tear`: a delivery to a node that stops within its step, and does not reply

abbrev pub torn_at : WorldState → Option (ℕ × ToNode) → Fate → WorldState
torn_at w None fate = w
torn_at w (Some target) fate = with_node w target.0 fate.torn fate.files

abbrev pub MayBeTorn : WorldState → Option (ℕ × ToNode) → ReplicaState → Type 0
MayBeTorn w None after = ⊤
MayBeTorn w (Some target) after = IsCrashOf (w.nodes target.0) target.1 after

-- ---- `restart` and `reboot`

abbrev pub restarted : WorldState → ℕ → WorldState
restarted w server = record w { servers = put w.servers server idle_server; kept = put w.kept server None }

-- an empty application at mark 0, whose requests are numbered on
abbrev pub rebooted : ClientState → ClientState
rebooted cl = record fresh_client { request = cl.request }

-- ---- `append`, `ask` and `flush`: what a client sends

abbrev pub asked : ℕ → ℕ → ToServer → Envelope
asked client server m = record { from = party.Client client; to = party.Server server; message = mail.ToServer m }

abbrev pub submission : WorldState → ℕ → ℕ → List (List ℕ) → List (List ℕ) → List ℕ → Envelope
submission w client server writes reads ops = asked client server (to_server.Append (built (w.clients client) client writes reads ops))

-- a transaction that is built is sent, and a refusal changes nothing
abbrev pub submitted : WorldState → ℕ → Envelope → Option BuildFault → WorldState
submitted w client e None = with_sent (with_client w client (after_build (w.clients client))) (e ∷ [])
submitted w client e (Some fault) = w

-- ---- every event

abbrev pub happens : WorldState → Fate → Event → WorldState
happens w fate (Read server) = record w { kept = put w.kept server (Some w.number) }
happens w fate (Cas server) = after_cas w server (w.kept server)
happens w fate (Waste server) = wasted w server (w.kept server)
happens w fate (Tick server) = with_sent w (ticked w server)
happens w fate Next = delivered (advanced w (envelope_of w w.cursor)) fate.files (envelope_of w w.cursor)
happens w fate Skip = advanced w (envelope_of w w.cursor)
happens w fate (Deliver envelope) = delivered w fate.files (envelope_of w envelope)
happens w fate (Tear envelope bytes) = torn_at w (target_of w (envelope_of w envelope)) fate
happens w fate (Crash node) = with_node w node (unstaged (w.nodes node)) fate.files
happens w fate (Restart server) = restarted w server
happens w fate (Reboot client) = with_client w client (rebooted (w.clients client))
happens w fate (Append client server writes reads ops) =
    submitted w client (submission w client server writes reads ops) (build_refusal (w.clients client) writes reads ops)
happens w fate (Ask client server) = with_sent w (asked client server (next_ask (w.clients client)) ∷ [])
happens w fate (Flush client server) = with_sent w (asked client server to_server.Flush ∷ [])
happens w fate (Show node) = w
happens w fate (Server server) = w
happens w fate (App client) = w
happens w fate (Log from) = w
happens w fate (Dump node file at) = w

-- what fate the world allows: a node that stopped within its step is what a crash may leave
abbrev pub Allows : WorldState → Event → Fate → Type 0
Allows w (Tear envelope bytes) fate = MayBeTorn w (target_of w (envelope_of w envelope)) fate.torn
Allows w event fate = ⊤
