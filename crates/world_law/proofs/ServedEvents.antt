-- Deliveries and the other events leave served what they find served.
use Rattle.std.proofs.Common.{◌≡◌, ℕ, ◌+◌, ◌≤◌, ◌==◌, ◌&&◌, if◌then◌else◌, Bool, true, false, arith, refl, inl, List, [], ◌∷◌, length-take, Option, Some, None, map, filter}
use Rattle.client_core.specs.Clients.{ClientState, after_build, client_step}
use Rattle.proto_model.specs.Quorums.{is_within}
use Rattle.proto_model.specs.Replicas.{replica_after}
use Rattle.proto_model.specs.Servers.{Waiting, ServerState, drawn, idle_server, commit_mark, server_after, server_answers}
use Rattle.proto_model.specs.Serving.{committed_log, served_after, served_answers}
use Rattle.proto_model.specs.Tables.{put}
use Rattle.proto_model.specs.declared.client_message.FromServer.{FromServer}
use Rattle.proto_model.specs.declared.client_message.ToServer.{ToServer}
use Rattle.proto_model.specs.declared.message.FromNode.{FromNode}
use Rattle.proto_model.specs.declared.message.ToNode.{ToNode}
use Rattle.world_law.specs.OneLog.{one_log}
use Rattle.session_register.specs.Registers.{last_session, cas_answer}
use Rattle.world_law.specs.Safety.{IsApplied}
use Rattle.world_law.specs.Worlds.{WorldState, start, with_client, config_of, with_server, with_node, with_sent, envelope_of}
use Rattle.world_law.specs.Deliveries.{to_node_taken, reply_of, to_node_sends, from_node_taken, is_client, told, from_node_sends, to_server_taken, answer_from, to_server_sends, from_server_taken, sends, delivered}
use Rattle.world_law.specs.Steps.{after_answer, after_cas, envelope_from, advanced, asked, submitted}
use Rattle.net_model.specs.declared.cluster.Cluster.{Cluster}
use Rattle.net_model.specs.declared.mail.Envelope.{Envelope}
use Rattle.net_model.specs.declared.mail.Mail.{Mail}
use Rattle.net_model.specs.declared.mail.Party.{Party}
use Rattle.session_register.specs.declared.register.Cas.{Cas}
use Rattle.proto_model.specs.declared.refusal.BuildFault.{BuildFault}
use Rattle.tx_model.specs.declared.record.Record.{Record}
use Rattle.world_law.proofs.ServedFrame.{unseen, server_served, client_served, sent_served, carried_sent, may_show, more_fit}
use Rattle.world_law.proofs.Deliveries.{mail_delivered}
use Rattle.world_law.proofs.Events.{envelope_get, won_event, submit_event}
use Rattle.world_law.proofs.Invariant.{Warranted, Holds}
use Rattle.world_law.proofs.Later.{Onward, warranted_later}
use Rattle.world_law.proofs.LightFrame.{number_event, cursor_event}
use Rattle.world_law.proofs.OneLog.{one_log_ids, one_log_grows}
use Rattle.world_law.proofs.ServerSends.{all_mapped}
use Rattle.world_law.proofs.Served.{Served, applied_longer, client_applied, answers_fit, mail_longer}
use Rattle.world_law.proofs.Shown.{reply_shown, to_server_shown, none_front}
use Rattle.world_law.proofs.Tests.{if_each}
use Rattle.world_law.specs.Promises.{Stands, MailStands, AllStand}
use Rattle.net_model.specs.declared.mail.Party.TheVariants as party
use Rattle.net_model.specs.declared.mail.Mail.TheVariants as mail
use Rattle.session_register.specs.declared.register.Cas.TheVariants as cas

pub ask_fits : (log : List Record) (v : ℕ) (messages : List (ℕ × ToNode)) → AllStand log (map (envelope_from v) messages)
ask_fits log v messages = all_mapped (λ (e : Envelope). MailStands log e.message) (envelope_from v) (λ x. tt) messages

told_fits : (log : List Record) (v : ℕ) (waiting : List Waiting) → AllStand log (map (told v) waiting)
told_fits log v waiting = all_mapped (λ (e : Envelope). MailStands log e.message) (told v) (λ x. tt) waiting

-- a delivery in a world that has moved its cursor
to_node_served : (w : WorldState) → Holds w → (files : ℕ → List ℕ) (from to : Party) (m : ToNode)
    → Onward w (with_sent (to_node_taken w files to m) (to_node_sends w from to m)) → Served w
    → Served (with_sent (to_node_taken w files to m) (to_node_sends w from to m))
to_node_served w h files from (party.Server v) m o s = sent_served w (with_sent w []) h o s [] refl refl refl tt
to_node_served w h files from (party.Client c) m o s = sent_served w (with_sent w []) h o s [] refl refl refl tt
to_node_served w h files from (party.Node i) m o s = by_test (is_within w.cluster.nodes i) o
  where
    by_test : (b : Bool)
        → Onward w (with_sent (if b then with_node w i (replica_after (w.nodes i) m) files else w) (if b then reply_of w i from m ∷ [] else []))
        → Served (with_sent (if b then with_node w i (replica_after (w.nodes i) m) files else w) (if b then reply_of w i from m ∷ [] else []))
    by_test true o' = sent_served w (with_sent (with_node w i (replica_after (w.nodes i) m) files) (reply_of w i from m ∷ [])) h o' s
        (reply_of w i from m ∷ []) refl refl refl (tt, tt)
    by_test false o' = sent_served w (with_sent w []) h o' s [] refl refl refl tt

from_node_served : (w : WorldState) → Holds w → (from to : Party) (m : FromNode) → Onward w (with_sent (from_node_taken w from to m) (from_node_sends w from to m))
    → Served w → Served (with_sent (from_node_taken w from to m) (from_node_sends w from to m))
from_node_served w h (party.Node i) (party.Node j) m o s = sent_served w (with_sent w []) h o s [] refl refl refl tt
from_node_served w h (party.Node i) (party.Client c) m o s = sent_served w (with_sent w []) h o s [] refl refl refl tt
from_node_served w h (party.Server u) to m o s = sent_served w (with_sent w []) h o s [] refl refl refl tt
from_node_served w h (party.Client c) to m o s = sent_served w (with_sent w []) h o s [] refl refl refl tt
from_node_served w h (party.Node i) (party.Server v) m o s = by_test (is_within w.cluster.nodes i && is_within w.cluster.servers v) o
  where
    after : ServerState
    after = server_after (config_of w.cluster) (w.servers v) i m

    more : List Envelope
    more = map (told v) (filter (is_client w) (server_answers (config_of w.cluster) (w.servers v) i m))

    by_test : (b : Bool) → Onward w (with_sent (if b then with_server w v after else w) (if b then more else []))
        → Served (with_sent (if b then with_server w v after else w) (if b then more else []))
    by_test true o' =
        let new = with_sent (with_server w v after) more in
        server_served w new h o' s v after refl refl (may_show new (w.servers v) after (reply_shown (config_of w.cluster) (w.servers v) i m))
        (more_fit w new h o' s more (told_fits (one_log w) v (filter (is_client w) (server_answers (config_of w.cluster) (w.servers v) i m))))
    by_test false o' = sent_served w (with_sent w []) h o' s [] refl refl refl tt

to_server_served : (w : WorldState) → Holds w → (from to : Party) (m : ToServer) → Onward w (with_sent (to_server_taken w to m) (to_server_sends w from to m))
    → Served w → Served (with_sent (to_server_taken w to m) (to_server_sends w from to m))
to_server_served w h from (party.Node i) m o s = sent_served w (with_sent w []) h o s [] refl refl refl tt
to_server_served w h from (party.Client c) m o s = sent_served w (with_sent w []) h o s [] refl refl refl tt
to_server_served w h from (party.Server v) m o s = by_test (is_within w.cluster.servers v) o
  where
    after : ServerState
    after = served_after (config_of w.cluster) (w.servers v) m

    more : List Envelope
    more = map (answer_from v from) (served_answers (config_of w.cluster) (w.servers v) m)

    by_test : (b : Bool) → Onward w (with_sent (if b then with_server w v after else w) (if b then more else []))
        → Served (with_sent (if b then with_server w v after else w) (if b then more else []))
    by_test true o' =
        let new = with_sent (with_server w v after) more in
        server_served w new h o' s v after refl refl (may_show new (w.servers v) after (to_server_shown (config_of w.cluster) (w.servers v) m))
        (more_fit w new h o' s more (answers_fit (one_log w) (config_of w.cluster) (w.servers v) v from m (s.shown v) (one_log_ids w h)))
    by_test false o' = sent_served w (with_sent w []) h o' s [] refl refl refl tt

from_server_served : (w : WorldState) → Holds w → (to : Party) (m : FromServer) → Stands (one_log w) m → Onward w (with_sent (from_server_taken w to m) [])
    → Served w → Served (with_sent (from_server_taken w to m) [])
from_server_served w h (party.Node i) m fits o s = sent_served w (with_sent w []) h o s [] refl refl refl tt
from_server_served w h (party.Server v) m fits o s = sent_served w (with_sent w []) h o s [] refl refl refl tt
from_server_served w h (party.Client c) m fits o s = by_test (is_within w.cluster.clients c) o
  where
    after : ClientState
    after = client_step (w.clients c) m

    by_test : (b : Bool) → Onward w (with_sent (if b then record w { clients = put w.clients c after } else w) [])
        → Served (with_sent (if b then record w { clients = put w.clients c after } else w) [])
    by_test true o' =
        let new = with_sent (record w { clients = put w.clients c after }) [] in
        client_served w new h o' s c after refl refl
        (applied_longer (one_log w) (one_log new) (one_log_grows w new h o') after (client_applied (one_log w) (w.clients c) m (s.applied c) fits))
        (more_fit w new h o' s [] tt)
    by_test false o' = sent_served w (with_sent w []) h o' s [] refl refl refl tt

mail_served : (w : WorldState) → Holds w → (files : ℕ → List ℕ) (from to : Party) (m : Mail) → MailStands (one_log w) m
    → Onward w (with_sent (Rattle.world_law.specs.Deliveries.taken w files from to m) (sends w from to m)) → Served w
    → Served (with_sent (Rattle.world_law.specs.Deliveries.taken w files from to m) (sends w from to m))
mail_served w h files from to (mail.ToNode m) fits o s = to_node_served w h files from to m o s
mail_served w h files from to (mail.FromNode m) fits o s = from_node_served w h from to m o s
mail_served w h files from to (mail.ToServer m) fits o s = to_server_served w h from to m o s
mail_served w h files from to (mail.FromServer m) fits o s = from_server_served w h to m fits o s

pub cursor_served : (w : WorldState) → Holds w → (cursor : ℕ) → Served w → Served (record w { cursor = cursor })
cursor_served w h cursor s =
    unseen w (record w { cursor = cursor }) h (cursor_event w h cursor) s refl refl
    (carried_sent w (record w { cursor = cursor }) h (cursor_event w h cursor) s)

-- the envelope of a number
pub envelope_fits : (w : WorldState) → Served w → (k : ℕ) (e : Envelope) → envelope_of w k ≡ Some e → MailStands (one_log w) e.message
envelope_fits w s k e is = envelope_get (λ (x : Envelope). MailStands (one_log w) x.message) w s.sent k e is

pub deliver_served : (w : WorldState) → Holds w → (files : ℕ → List ℕ) (o : Option Envelope) → ((e : Envelope) → o ≡ Some e → Warranted w e)
    → ((e : Envelope) → o ≡ Some e → MailStands (one_log w) e.message) → Served w → Served (delivered w files o)
deliver_served w h files None f fits s = s
deliver_served w h files (Some e) f fits s =
    mail_served w h files e.from e.to e.message (fits e refl) (mail_delivered w h files e.from e.to e.message (f e refl)) s

pub next_served : (w : WorldState) → Holds w → (files : ℕ → List ℕ) (o : Option Envelope) → ((e : Envelope) → o ≡ Some e → Warranted w e)
    → ((e : Envelope) → o ≡ Some e → MailStands (one_log w) e.message) → Served w → Served (delivered (advanced w o) files o)
next_served w h files None f fits s = s
next_served w h files (Some e) f fits s =
    let mid = record w { cursor = w.cursor + 1 } in
    let o = cursor_event w h (w.cursor + 1) in
    mail_served mid o.holds files e.from e.to e.message (mail_longer (one_log w) (one_log mid) (one_log_grows w mid h o) e.message (fits e refl))
    (mail_delivered mid o.holds files e.from e.to e.message (warranted_later w mid o.later h e (f e refl))) (cursor_served w h (w.cursor + 1) s)

pub number_served : (w : WorldState) → Holds w → (r : ℕ) (kept : ℕ → Option ℕ) → w.number ≤ r → Served w
    → Served (record w { number = r; kept = kept })
number_served w h r kept le s =
    unseen w (record w { number = r; kept = kept }) h (number_event w h r kept le) s refl refl
    (carried_sent w (record w { number = r; kept = kept }) h (number_event w h r kept le) s)

won_served : (w : WorldState) → Holds w → (v s : ℕ) (kept : ℕ → Option ℕ) → s ≡ w.number + 1 → Served w
    → Served (with_server (record w { number = s; kept = kept }) v (drawn s))
won_served w h v n kept at s =
    let new = with_server (record w { number = n; kept = kept }) v (drawn n) in
    let o = won_event w h v n kept at in
    server_served w new h o s v (drawn n) refl refl (inl refl) (carried_sent w new h o s)

cas_answer_served : (w : WorldState) → Holds w → (v from : ℕ) → Served w → Served (after_answer w v (cas_answer w.number from))
cas_answer_served w h v from s =
    let P : Cas → Type 0 = λ a. Served (after_answer w v a) in
    let kept = put w.kept v None in
    if_each P (w.number == from) (if w.number == last_session then cas.Exhausted else cas.Won (w.number + 1)) (cas.Lost w.number)
    (λ e. if_each P (w.number == last_session) cas.Exhausted (cas.Won (w.number + 1)) (λ e'. number_served w h w.number kept (omega arith) s)
    (λ e'. won_served w h v (w.number + 1) kept refl s))
    (λ e. number_served w h w.number kept (omega arith) s)

pub cas_served : (w : WorldState) → Holds w → (v : ℕ) (o : Option ℕ) → Served w → Served (after_cas w v o)
cas_served w h v None s = s
cas_served w h v (Some from) s = cas_answer_served w h v from s

pub submit_served : (w : WorldState) → Holds w → (c v : ℕ) (m : ToServer) (o : Option BuildFault) → Served w
    → Served (submitted w c (asked c v m) o)
submit_served w h c v m None s =
    let cl = after_build (w.clients c) in
    let new = with_sent (with_client w c cl) (asked c v m ∷ []) in
    let o = submit_event w h c v m None in
    let same : IsApplied (one_log w) cl = record { fits = (s.applied c).fits; serial = (s.applied c).serial } in
    client_served w new h o s c cl refl refl (applied_longer (one_log w) (one_log new) (one_log_grows w new h o) cl same)
    (more_fit w new h o s (asked c v m ∷ []) (tt, tt))
submit_served w h c v m (Some fault) s = s

pub start_served : (c : Cluster) → Served (start c)
start_served c = record {
  sent = tt;
  shown = λ v. none_front (committed_log (config_of c) idle_server) (one_log (start c))
      (let l = length-take (commit_mark (config_of c) idle_server) idle_server.log in omega arith);
  applied = λ client. record { fits = omega arith; serial = refl };
}
