-- A delivery: what it makes of the party that gets the envelope, and what that party sends.
use Rattle.std.specs.Prelude.{ℕ, ◌&&◌, Bool, if◌then◌else◌, List, [], ◌∷◌, map, filter, Option, None, Some}
use Rattle.proto_model.specs.declared.message.ToNode.{ToNode}
use Rattle.proto_model.specs.declared.message.FromNode.{FromNode}
use Rattle.proto_model.specs.declared.client_message.ToServer.{ToServer}
use Rattle.proto_model.specs.declared.client_message.FromServer.{FromServer}
use Rattle.proto_model.specs.Quorums.{is_within}
use Rattle.proto_model.specs.Replicas.{replica_after, replica_reply}
use Rattle.proto_model.specs.Servers.{Waiting, server_after, server_answers}
use Rattle.proto_model.specs.Serving.{served_after, served_answers, committed_answer}
use Rattle.client_core.specs.Clients.{client_step}
use Rattle.net_model.specs.declared.mail.Party.{Party}
use Rattle.net_model.specs.declared.mail.Party.TheVariants as party
use Rattle.net_model.specs.declared.mail.Mail.{Mail}
use Rattle.net_model.specs.declared.mail.Mail.TheVariants as mail
use Rattle.net_model.specs.declared.mail.Envelope.{Envelope}
use Rattle.world_law.specs.Worlds.{WorldState, config_of, with_server, with_node, with_client, with_sent}

-- ---- a server's request to a node, whose files are these afterwards

abbrev pub to_node_taken : WorldState → (ℕ → List ℕ) → Party → ToNode → WorldState
to_node_taken w files (party.Node node) m =
    if is_within w.cluster.nodes node then with_node w node (replica_after (w.nodes node) m) files else w
to_node_taken w files (party.Server server) m = w
to_node_taken w files (party.Client client) m = w

abbrev pub reply_of : WorldState → ℕ → Party → ToNode → Envelope
reply_of w node asker m = record { from = party.Node node; to = asker; message = mail.FromNode (replica_reply (w.nodes node) m) }

abbrev pub to_node_sends : WorldState → Party → Party → ToNode → List Envelope
to_node_sends w from (party.Node node) m = if is_within w.cluster.nodes node then reply_of w node from m ∷ [] else []
to_node_sends w from (party.Server server) m = []
to_node_sends w from (party.Client client) m = []

-- ---- a node's reply to a server. The clients whose records it makes committed are told

abbrev pub from_node_taken : WorldState → Party → Party → FromNode → WorldState
from_node_taken w (party.Node node) (party.Server server) m =
    if is_within w.cluster.nodes node && is_within w.cluster.servers server
    then with_server w server (server_after (config_of w.cluster) (w.servers server) node m) else w
from_node_taken w _ _ m = w

abbrev pub is_client : WorldState → Waiting → Bool
is_client w waiting = is_within w.cluster.clients waiting.client

abbrev pub told : ℕ → Waiting → Envelope
told server waiting =
    record { from = party.Server server; to = party.Client waiting.client; message = mail.FromServer (committed_answer waiting) }

abbrev pub from_node_sends : WorldState → Party → Party → FromNode → List Envelope
from_node_sends w (party.Node node) (party.Server server) m =
    if is_within w.cluster.nodes node && is_within w.cluster.servers server
    then map (told server) (filter (is_client w) (server_answers (config_of w.cluster) (w.servers server) node m)) else []
from_node_sends w _ _ m = []

-- ---- a client's request to a server, which answers the one who asked

abbrev pub to_server_taken : WorldState → Party → ToServer → WorldState
to_server_taken w (party.Server server) m =
    if is_within w.cluster.servers server
    then with_server w server (served_after (config_of w.cluster) (w.servers server) m) else w
to_server_taken w (party.Node node) m = w
to_server_taken w (party.Client client) m = w

abbrev pub answer_from : ℕ → Party → FromServer → Envelope
answer_from server asker m = record { from = party.Server server; to = asker; message = mail.FromServer m }

abbrev pub to_server_sends : WorldState → Party → Party → ToServer → List Envelope
to_server_sends w from (party.Server server) m =
    if is_within w.cluster.servers server
    then map (answer_from server from) (served_answers (config_of w.cluster) (w.servers server) m) else []
to_server_sends w from (party.Node node) m = []
to_server_sends w from (party.Client client) m = []

-- ---- a server's answer to a client

abbrev pub from_server_taken : WorldState → Party → FromServer → WorldState
from_server_taken w (party.Client client) m =
    if is_within w.cluster.clients client then with_client w client (client_step (w.clients client) m) else w
from_server_taken w (party.Node node) m = w
from_server_taken w (party.Server server) m = w

-- ---- whatever is delivered

abbrev pub taken : WorldState → (ℕ → List ℕ) → Party → Party → Mail → WorldState
taken w files from to (mail.ToNode m) = to_node_taken w files to m
taken w files from to (mail.FromNode m) = from_node_taken w from to m
taken w files from to (mail.ToServer m) = to_server_taken w to m
taken w files from to (mail.FromServer m) = from_server_taken w to m

abbrev pub sends : WorldState → Party → Party → Mail → List Envelope
sends w from to (mail.ToNode m) = to_node_sends w from to m
sends w from to (mail.FromNode m) = from_node_sends w from to m
sends w from to (mail.ToServer m) = to_server_sends w from to m
sends w from to (mail.FromServer m) = []

-- The envelope is delivered, where there is one. A node that gets it has these files afterwards
abbrev pub delivered : WorldState → (ℕ → List ℕ) → Option Envelope → WorldState
delivered w files None = w
delivered w files (Some e) = with_sent (taken w files e.from e.to e.message) (sends w e.from e.to e.message)

-- ---- a delivery to a node that stops within its step

-- the node of the cluster that a request goes to, and the request
abbrev pub request_at : WorldState → Party → Mail → Option (ℕ × ToNode)
request_at w (party.Node node) (mail.ToNode m) = if is_within w.cluster.nodes node then Some (node, m) else None
request_at w to m = None

abbrev pub target_of : WorldState → Option Envelope → Option (ℕ × ToNode)
target_of w None = None
target_of w (Some e) = request_at w e.to e.message
