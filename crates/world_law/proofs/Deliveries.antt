-- A delivery, whatever it is of.
use Rattle.std.proofs.Common.{◌≡◌, ℕ, ◌+◌, ◌&&◌, nat_le, if◌then◌else◌, Bool, true, false, refl, List, [], ◌∷◌, Option, Some, None, map, filter}
use Rattle.client_core.specs.Clients.{client_step}
use Rattle.proto_model.specs.Quorums.{is_within}
use Rattle.proto_model.specs.Replicas.{replica_after}
use Rattle.proto_model.specs.Servers.{server_after, server_answers}
use Rattle.proto_model.specs.Serving.{served_after, served_answers}
use Rattle.proto_model.specs.Tables.{put}
use Rattle.proto_model.specs.declared.client_message.FromServer.{FromServer}
use Rattle.proto_model.specs.declared.client_message.ToServer.{ToServer}
use Rattle.proto_model.specs.declared.message.FromNode.{FromNode}
use Rattle.proto_model.specs.declared.message.ToNode.{ToNode}
use Rattle.world_law.specs.Worlds.{WorldState, config_of, with_server, with_node, with_sent}
use Rattle.world_law.specs.Deliveries.{to_node_taken, reply_of, to_node_sends, from_node_taken, is_client, told, from_node_sends, to_server_taken, answer_from, to_server_sends, from_server_taken, sends, delivered}
use Rattle.world_law.specs.Steps.{advanced}
use Rattle.net_model.specs.declared.mail.Envelope.{Envelope}
use Rattle.net_model.specs.declared.mail.Mail.{Mail}
use Rattle.net_model.specs.declared.mail.Party.{Party}
use Rattle.std.specs.List.{AllByRecursion}
use Rattle.world_law.proofs.ServerAssigns.{to_server_event}
use Rattle.world_law.proofs.Invariant.{AskedWarrant, RepliedWarrant, MailWarrant, Warranted, Holds}
use Rattle.world_law.proofs.Later.{Onward, stay, onward_trans, warranted_later}
use Rattle.world_law.proofs.LightFrame.{clients_event, cursor_event, sent_event}
use Rattle.world_law.proofs.Quorums.{IsNode}
use Rattle.world_law.proofs.NodeFrame.{node_event}
use Rattle.world_law.proofs.NodeReplies.{reply_warranted}
use Rattle.world_law.proofs.NodeSteps.{request_step}
use Rattle.world_law.proofs.ServerReplies.{reply_event}
use Rattle.world_law.proofs.ServerSends.{all_mapped}
use Rattle.world_law.proofs.Tests.{within, and_right, and_left}
use Rattle.net_model.specs.declared.mail.Party.TheVariants as party
use Rattle.net_model.specs.declared.mail.Mail.TheVariants as mail

is_node : (n i : ℕ) → is_within n i ≡ true → IsNode n i
is_node n i t = record { some = within 1 i (and_left (nat_le 1 i) (nat_le i n) t); fits = within i n (and_right (nat_le 1 i) (nat_le i n) t) }

-- one event, and then envelopes
then_sent : (w mid : WorldState) (more : List Envelope) → Onward w mid → AllByRecursion (λ (e : Envelope). Warranted mid e) more
    → Onward w (with_sent mid more)
then_sent w mid more o f = onward_trans w mid (with_sent mid more) o (sent_event mid o.holds more f)

nothing_sent : (w : WorldState) → Holds w → Onward w (with_sent w [])
nothing_sent w h = sent_event w h [] tt

to_node_delivered : (w : WorldState) → Holds w → (files : ℕ → List ℕ) (from to : Party) (m : ToNode) → AskedWarrant w m to
    → Onward w (with_sent (to_node_taken w files to m) (to_node_sends w from to m))
to_node_delivered w h files from (party.Server v) m f = nothing_sent w h
to_node_delivered w h files from (party.Client c) m f = nothing_sent w h
to_node_delivered w h files from (party.Node i) m f = by_test (is_within w.cluster.nodes i)
  where
    by_test : (b : Bool)
        → Onward w (with_sent (if b then with_node w i (replica_after (w.nodes i) m) files else w) (if b then reply_of w i from m ∷ [] else []))
    by_test true = then_sent w (with_node w i (replica_after (w.nodes i) m) files) (reply_of w i from m ∷ [])
        (node_event w h i (replica_after (w.nodes i) m) files (request_step w h i m f)) (reply_warranted w h i m files f, tt)
    by_test false = nothing_sent w h

from_node_delivered : (w : WorldState) → Holds w → (from to : Party) (m : FromNode) → RepliedWarrant w m from
    → Onward w (with_sent (from_node_taken w from to m) (from_node_sends w from to m))
from_node_delivered w h (party.Node i) (party.Node j) m f = nothing_sent w h
from_node_delivered w h (party.Node i) (party.Client c) m f = nothing_sent w h
from_node_delivered w h (party.Server u) to m f = nothing_sent w h
from_node_delivered w h (party.Client c) to m f = nothing_sent w h
from_node_delivered w h (party.Node i) (party.Server v) m f = by_test (is_within w.cluster.nodes i && is_within w.cluster.servers v) refl
  where
    new : WorldState
    new = with_server w v (server_after (config_of w.cluster) (w.servers v) i m)

    more : List Envelope
    more = map (told v) (filter (is_client w) (server_answers (config_of w.cluster) (w.servers v) i m))

    by_test : (b : Bool) → (is_within w.cluster.nodes i && is_within w.cluster.servers v) ≡ b
        → Onward w (with_sent (if b then new else w) (if b then more else []))
    by_test true e =
        then_sent w new more (reply_event w h i v m (is_node w.cluster.nodes i (and_left (is_within w.cluster.nodes i) (is_within w.cluster.servers v) e)) f)
        (all_mapped (λ (x : Envelope). Warranted new x) (told v) (λ x. tt) (filter (is_client w) (server_answers (config_of w.cluster) (w.servers v) i m)))
    by_test false e = nothing_sent w h

to_server_delivered : (w : WorldState) → Holds w → (from to : Party) (m : ToServer) → Onward w (with_sent (to_server_taken w to m) (to_server_sends w from to m))
to_server_delivered w h from (party.Node i) m = nothing_sent w h
to_server_delivered w h from (party.Client c) m = nothing_sent w h
to_server_delivered w h from (party.Server v) m = by_test (is_within w.cluster.servers v)
  where
    new : WorldState
    new = with_server w v (served_after (config_of w.cluster) (w.servers v) m)

    by_test : (b : Bool)
        → Onward w (with_sent (if b then new else w) (if b then map (answer_from v from) (served_answers (config_of w.cluster) (w.servers v) m) else []))
    by_test true =
        then_sent w new (map (answer_from v from) (served_answers (config_of w.cluster) (w.servers v) m)) (to_server_event w h v m)
        (all_mapped (λ (x : Envelope). Warranted new x) (answer_from v from) (λ x. tt) (served_answers (config_of w.cluster) (w.servers v) m))
    by_test false = nothing_sent w h

from_server_delivered : (w : WorldState) → Holds w → (to : Party) (m : FromServer) → Onward w (with_sent (from_server_taken w to m) [])
from_server_delivered w h (party.Node i) m = nothing_sent w h
from_server_delivered w h (party.Server v) m = nothing_sent w h
from_server_delivered w h (party.Client c) m = by_test (is_within w.cluster.clients c)
  where
    new : WorldState
    new = record w { clients = put w.clients c (client_step (w.clients c) m) }

    by_test : (b : Bool) → Onward w (with_sent (if b then new else w) [])
    by_test true = then_sent w new [] (clients_event w h (put w.clients c (client_step (w.clients c) m))) tt
    by_test false = nothing_sent w h

pub mail_delivered : (w : WorldState) → Holds w → (files : ℕ → List ℕ) (from to : Party) (m : Mail) → MailWarrant w from to m
    → Onward w (with_sent (Rattle.world_law.specs.Deliveries.taken w files from to m) (sends w from to m))
mail_delivered w h files from to (mail.ToNode m) f = to_node_delivered w h files from to m f
mail_delivered w h files from to (mail.FromNode m) f = from_node_delivered w h from to m f
mail_delivered w h files from to (mail.ToServer m) f = to_server_delivered w h from to m
mail_delivered w h files from to (mail.FromServer m) f = from_server_delivered w h to m

-- the envelope of a number
pub deliver_event : (w : WorldState) → Holds w → (files : ℕ → List ℕ) (o : Option Envelope) → ((e : Envelope) → o ≡ Some e → Warranted w e)
    → Onward w (delivered w files o)
deliver_event w h files None f = stay w h
deliver_event w h files (Some e) f = mail_delivered w h files e.from e.to e.message (f e refl)

pub next_event : (w : WorldState) → Holds w → (files : ℕ → List ℕ) (o : Option Envelope) → ((e : Envelope) → o ≡ Some e → Warranted w e)
    → Onward w (delivered (advanced w o) files o)
next_event w h files None f = stay w h
next_event w h files (Some e) f =
    let mid = record w { cursor = w.cursor + 1 } in
    let o = cursor_event w h (w.cursor + 1) in
    onward_trans w mid (delivered mid files (Some e)) o
    (mail_delivered mid o.holds files e.from e.to e.message (warranted_later w mid o.later h e (f e refl)))
