-- Every event leads from a good world to a good one.
use Rattle.std.proofs.Common.{◌≡◌, ℕ, ◌+◌, ◌≤◌, ◌==◌, if◌then◌else◌, Bool, true, false, arith, refl, sym, inr, subst, List, [], ◌∷◌, length-take, Option, Some, None, true≢false}
use Rattle.tx_model.specs.declared.record.Record.{Record}
use Rattle.proto_model.specs.Crashes.{unstaged}
use Rattle.proto_model.specs.Quorums.{is_within}
use Rattle.proto_model.specs.Replicas.{ReplicaState}
use Rattle.proto_model.specs.Sending.{next_messages}
use Rattle.proto_model.specs.Servers.{Config, idle_server, commit_mark}
use Rattle.proto_model.specs.Serving.{committed_log}
use Rattle.proto_model.specs.Tables.{put}
use Rattle.proto_model.specs.declared.client_message.ToServer.{ToServer}
use Rattle.proto_model.specs.declared.client_message.ToServer.TheVariants as to_server
use Rattle.proto_model.specs.declared.refusal.BuildFault.{BuildFault}
use Rattle.client_core.specs.Building.{build_refusal}
use Rattle.client_core.specs.Clients.{built, next_ask}
use Rattle.net_model.specs.declared.cluster.Cluster.{Cluster}
use Rattle.net_model.specs.declared.event.Event.{Event}
use Rattle.net_model.specs.declared.event.Event.TheVariants as event
use Rattle.net_model.specs.declared.mail.Envelope.{Envelope}
use Rattle.net_model.specs.declared.mail.Mail.{Mail}
use Rattle.net_model.specs.declared.mail.Mail.TheVariants as mail
use Rattle.net_model.specs.declared.mail.Party.{Party}
use Rattle.net_model.specs.declared.mail.Party.TheVariants as party
use Rattle.session_register.specs.declared.register.Cas.{Cas}
use Rattle.session_register.specs.declared.register.Cas.TheVariants as cas
use Rattle.session_register.specs.Registers.{last_session, number_after}
use Rattle.world_law.specs.Worlds.{WorldState, start, config_of, envelope_of, with_server, with_node, with_client, with_sent}
use Rattle.world_law.specs.Deliveries.{delivered, request_at, target_of}
use Rattle.world_law.specs.Steps.{Fate, after_cas, wasted, ticked, advanced, torn_at, MayBeTorn, restarted, rebooted, asked, submitted, happens, Allows}
use Rattle.world_law.specs.OneLog.{one_log}
use Rattle.world_law.proofs.ServedFrame.{unseen, server_served, client_served, sent_served, carried_sent}
use Rattle.world_law.proofs.NodeCrashes.{crashed_step}
use Rattle.world_law.proofs.Deliveries.{deliver_event, next_event}
use Rattle.world_law.proofs.Events.{at_start, cas_event, submit_event, envelope_warranted}
use Rattle.world_law.proofs.Invariant.{MailWarrant, Warranted, Holds}
use Rattle.world_law.proofs.Later.{Onward, stay, onward_trans}
use Rattle.world_law.proofs.LightFrame.{number_event, clients_event, cursor_event, sent_event}
use Rattle.world_law.proofs.Lists.{IsFront}
use Rattle.world_law.proofs.NodeFrame.{NodeStep, node_event}
use Rattle.world_law.proofs.NodeSteps.{crash_step}
use Rattle.world_law.proofs.ServerSends.{tick_event}
use Rattle.world_law.proofs.Served.{Served}
use Rattle.world_law.proofs.ServerFrame.{server_event}
use Rattle.world_law.proofs.ServerAcks.{book_stays}
use Rattle.world_law.proofs.ServedEvents.{ask_fits, deliver_served, next_served, cursor_served, envelope_fits, number_served, cas_served, submit_served, start_served}
use Rattle.world_law.proofs.Shown.{none_front}
use Rattle.world_law.proofs.Tables.{put_back}
use Rattle.world_law.proofs.Tests.{if_each}

-- the invariant, and what clients are told
pub record Good (w : WorldState) : Type 0 where
  pub holds : Holds w
  pub served : Served w

pub good_start : (c : Cluster) → Good (start c)
good_start c = record { holds = at_start c; served = start_served c }

-- new is good, and comes after old
pub record Ahead (old new : WorldState) : Type 0 where
  pub good : Good new
  pub later : Onward old new

stay_ahead : (w : WorldState) → Good w → Ahead w w
stay_ahead w g = record { good = g; later = stay w g.holds }

ahead_trans : (u v w : WorldState) → Ahead u v → Ahead v w → Ahead u w
ahead_trans u v w f g = record { good = g.good; later = onward_trans u v w f.later g.later }

-- ---- the register

number_ahead : (w : WorldState) → Good w → (r : ℕ) (kept : ℕ → Option ℕ) → w.number ≤ r → Ahead w (record w { number = r; kept = kept })
number_ahead w g r kept le =
    let o = number_event w g.holds r kept le in
    record { good = record { holds = o.holds; served = number_served w g.holds r kept le g.served }; later = o }

cas_ahead : (w : WorldState) → Good w → (v : ℕ) (o : Option ℕ) → Ahead w (after_cas w v o)
cas_ahead w g v o =
    let e = cas_event w g.holds v o in
    record { good = record { holds = e.holds; served = cas_served w g.holds v o g.served }; later = e }

wasted_ahead : (w : WorldState) → Good w → (v : ℕ) (o : Option ℕ) → Ahead w (wasted w v o)
wasted_ahead w g v None = stay_ahead w g
wasted_ahead w g v (Some from) =
    let P : Cas → Type 0 = λ a. Ahead w (record w { number = number_after w.number a; kept = put w.kept v None }) in
    let kept = put w.kept v None in
    if_each P (w.number == from) (if w.number == last_session then cas.Exhausted else cas.Won (w.number + 1)) (cas.Lost w.number)
    (λ e. if_each P (w.number == last_session) cas.Exhausted (cas.Won (w.number + 1)) (λ e'. number_ahead w g w.number kept (omega arith))
    (λ e'. number_ahead w g (w.number + 1) kept (omega arith)))
    (λ e. number_ahead w g w.number kept (omega arith))

-- ---- envelopes

tick_ahead : (w : WorldState) → Good w → (v : ℕ) → Ahead w (with_sent w (ticked w v))
tick_ahead w g v =
    let new = with_sent w (ticked w v) in
    let o = tick_event w g.holds v in
    let fits = ask_fits (one_log w) v (next_messages (config_of w.cluster) (w.servers v) w.cluster.nodes) in
    record { good = record { holds = o.holds; served = sent_served w new g.holds o g.served (ticked w v) refl refl refl fits }; later = o }

sent_ahead : (w : WorldState) → Good w → (c v : ℕ) (m : ToServer) → Ahead w (with_sent w (asked c v m ∷ []))
sent_ahead w g c v m =
    let new = with_sent w (asked c v m ∷ []) in
    let o = sent_event w g.holds (asked c v m ∷ []) (tt, tt) in
    record { good = record { holds = o.holds; served = sent_served w new g.holds o g.served (asked c v m ∷ []) refl refl refl (tt, tt) }; later = o }

submitted_ahead : (w : WorldState) → Good w → (c v : ℕ) (m : ToServer) (o : Option BuildFault) → Ahead w (submitted w c (asked c v m) o)
submitted_ahead w g c v m o =
    let e = submit_event w g.holds c v m o in
    record { good = record { holds = e.holds; served = submit_served w g.holds c v m o g.served }; later = e }

skipped_ahead : (w : WorldState) → Good w → (o : Option Envelope) → Ahead w (advanced w o)
skipped_ahead w g None = stay_ahead w g
skipped_ahead w g (Some e) =
    let o = cursor_event w g.holds (w.cursor + 1) in
    record { good = record { holds = o.holds; served = cursor_served w g.holds (w.cursor + 1) g.served }; later = o }

delivered_ahead : (w : WorldState) → Good w → (files : ℕ → List ℕ) (k : ℕ) → Ahead w (delivered w files (envelope_of w k))
delivered_ahead w g files k =
    let o = envelope_of w k in
    let e = deliver_event w g.holds files o (envelope_warranted w g.holds k) in
    record {
      good = record {
        holds = e.holds;
        served = deliver_served w g.holds files o (envelope_warranted w g.holds k)
            (envelope_fits w g.served k) g.served;
      };
      later = e;
    }

next_ahead : (w : WorldState) → Good w → (files : ℕ → List ℕ) (k : ℕ)
    → Ahead w (delivered (advanced w (envelope_of w k)) files (envelope_of w k))
next_ahead w g files k =
    let o = envelope_of w k in
    let e = next_event w g.holds files o (envelope_warranted w g.holds k) in
    record {
      good = record {
        holds = e.holds;
        served = next_served w g.holds files o (envelope_warranted w g.holds k)
            (envelope_fits w g.served k) g.served;
      };
      later = e;
    }

-- ---- crashes and restarts

node_ahead : (w : WorldState) → Good w → (i : ℕ) (after : ReplicaState) (files : ℕ → List ℕ) → NodeStep w i after
    → Ahead w (with_node w i after files)
node_ahead w g i after files step =
    let new = with_node w i after files in
    let o = node_event w g.holds i after files step in
    record { good = record { holds = o.holds; served = unseen w new g.holds o g.served refl refl (carried_sent w new g.holds o g.served) }; later = o }

-- a node that stops within a step
request_torn : (w : WorldState) → Good w → (from to : Party) (m : Mail) (fate : Fate) → MailWarrant w from to m
    → MayBeTorn w (request_at w to m) fate.torn
    → Ahead w (torn_at w (request_at w to m) fate)
request_torn w g from (party.Node i) (mail.ToNode m) fate f may = by_test (is_within w.cluster.nodes i) may
  where
    by_test : (b : Bool) → MayBeTorn w (if b then Some (i, m) else None) fate.torn → Ahead w (torn_at w (if b then Some (i, m) else None) fate)
    by_test true t = node_ahead w g i fate.torn fate.files (crashed_step w g.holds i m fate.torn f t)
    by_test false t = stay_ahead w g
request_torn w g from (party.Node i) (mail.FromNode m) fate f may = stay_ahead w g
request_torn w g from (party.Node i) (mail.ToServer m) fate f may = stay_ahead w g
request_torn w g from (party.Node i) (mail.FromServer m) fate f may = stay_ahead w g
request_torn w g from (party.Server v) m fate f may = stay_ahead w g
request_torn w g from (party.Client c) m fate f may = stay_ahead w g

torn_ahead : (w : WorldState) → Good w → (o : Option Envelope) (fate : Fate) → ((e : Envelope) → o ≡ Some e → Warranted w e)
    → MayBeTorn w (target_of w o) fate.torn
    → Ahead w (torn_at w (target_of w o) fate)
torn_ahead w g None fate f may = stay_ahead w g
torn_ahead w g (Some e) fate f may = request_torn w g e.from e.to e.message fate (f e refl) may

idle_shown : (c : Config) (log : List Record) → IsFront (committed_log c idle_server) log
idle_shown c log = none_front (committed_log c idle_server) log (let l = length-take (commit_mark c idle_server) idle_server.log in omega arith)

idle_event : (w : WorldState) → Holds w → (v : ℕ) → Onward w (with_server w v idle_server)
idle_event w h v = server_event w h v idle_server (record {
  book = book_stays w h 0;
  apart = λ u ne a e. (let k = (h.active u a).some in absurd (omega arith));
  active = λ a. absurd (true≢false (sym a));
  phase = tt;
})

idle_ahead : (w : WorldState) → Good w → (v : ℕ) → Ahead w (with_server w v idle_server)
idle_ahead w g v =
    let new = with_server w v idle_server in
    let o = idle_event w g.holds v in
    let shown = idle_shown (config_of new.cluster) (one_log new) in
    record {
      good = record {
        holds = o.holds;
        served = server_served w new g.holds o g.served v idle_server refl refl (inr (λ _. shown))
            (carried_sent w new g.holds o g.served);
      };
      later = o;
    }

-- book 0 stays as it is
idle_same : (w : WorldState) (v : ℕ) (kept : ℕ → Option ℕ)
    → record (with_server w v idle_server) { kept = kept } ≡ record w { servers = put w.servers v idle_server; kept = kept }
idle_same w v kept = let e = put_back w.books 0 in λ i. record w { servers = put w.servers v idle_server; kept = kept; books = e i }

restarted_ahead : (w : WorldState) → Good w → (v : ℕ) → Ahead w (restarted w v)
restarted_ahead w g v =
    let mid = with_server w v idle_server in
    let kept = put w.kept v None in
    let a = idle_ahead w g v in
    subst (Ahead w) (idle_same w v kept) (ahead_trans w mid (record mid { kept = kept }) a (number_ahead mid a.good w.number kept (omega arith)))

rebooted_ahead : (w : WorldState) → Good w → (c : ℕ) → Ahead w (with_client w c (rebooted (w.clients c)))
rebooted_ahead w g c =
    let cl = rebooted (w.clients c) in
    let new = with_client w c cl in
    let o = clients_event w g.holds (put w.clients c cl) in
    record {
      good = record {
        holds = o.holds;
        served = client_served w new g.holds o g.served c cl refl refl (record { fits = omega arith; serial = refl })
            (carried_sent w new g.holds o g.served);
      };
      later = o;
    }

-- ---- every event

pub ahead : (w : WorldState) → Good w → (fate : Fate) (e : Event) → Allows w e fate → Ahead w (happens w fate e)
ahead w g fate (event.Read v) may = number_ahead w g w.number (put w.kept v (Some w.number)) (omega arith)
ahead w g fate (event.Cas v) may = cas_ahead w g v (w.kept v)
ahead w g fate (event.Waste v) may = wasted_ahead w g v (w.kept v)
ahead w g fate (event.Tick v) may = tick_ahead w g v
ahead w g fate event.Next may = next_ahead w g fate.files w.cursor
ahead w g fate event.Skip may = skipped_ahead w g (envelope_of w w.cursor)
ahead w g fate (event.Deliver k) may = delivered_ahead w g fate.files k
ahead w g fate (event.Tear k bytes) may = torn_ahead w g (envelope_of w k) fate (envelope_warranted w g.holds k) may
ahead w g fate (event.Crash i) may = node_ahead w g i (unstaged (w.nodes i)) fate.files (crash_step w g.holds i)
ahead w g fate (event.Restart v) may = restarted_ahead w g v
ahead w g fate (event.Reboot c) may = rebooted_ahead w g c
ahead w g fate (event.Append c v writes reads ops) may =
    submitted_ahead w g c v (to_server.Append (built (w.clients c) c writes reads ops)) (build_refusal (w.clients c) writes reads ops)
ahead w g fate (event.Ask c v) may = sent_ahead w g c v (next_ask (w.clients c))
ahead w g fate (event.Flush c v) may = sent_ahead w g c v to_server.Flush
ahead w g fate (event.Show i) may = stay_ahead w g
ahead w g fate (event.Server v) may = stay_ahead w g
ahead w g fate (event.App c) may = stay_ahead w g
ahead w g fate (event.Log from) may = stay_ahead w g
ahead w g fate (event.Dump i file at) may = stay_ahead w g
