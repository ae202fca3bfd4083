-- Where transactions come from: what each event passes on.
use Rattle.std.proofs.Common.{◌≡◌, ℕ, ◌+◌, ◌-◌, ◌&&◌, max, if◌then◌else◌, Bool, true, false, refl, sym, inl, inr, subst, List, [], ◌∷◌, length, take, drop, Option, Some, None, map, filter}
use Rattle.proto_model.proofs.TableLemmas.{all_put, AllByRecursion-append}
use Rattle.client_core.specs.Clients.{ClientState, built, after_build, ask_by, next_ask, client_step}
use Rattle.proto_model.specs.Quorums.{is_within}
use Rattle.proto_model.specs.Replicas.{ReplicaState, replica_after}
use Rattle.proto_model.specs.Sending.{next_messages}
use Rattle.proto_model.specs.Servers.{Config, Waiting, ServerState, drawn, idle_server, server_after, server_answers}
use Rattle.proto_model.specs.Serving.{served_after, served_answers}
use Rattle.proto_model.specs.Tables.{put}
use Rattle.proto_model.specs.declared.client_message.FromServer.{FromServer}
use Rattle.proto_model.specs.declared.client_message.ToServer.{ToServer}
use Rattle.proto_model.specs.declared.message.FromNode.{FromNode}
use Rattle.proto_model.specs.declared.message.FromNode.TheVariants.{Opened, Stale, Unopened, Records, Staged, StageAt, Adopted, Acked, Gap, NotAdopted, LowSet}
use Rattle.proto_model.specs.declared.message.Phase.{Phase}
use Rattle.proto_model.specs.declared.message.Phase.TheVariants.{Idle, Opening, Fetching, Repairing, Running, Closed}
use Rattle.proto_model.specs.declared.message.ToNode.{ToNode}
use Rattle.proto_model.specs.declared.message.ToNode.TheVariants.{Open, Fetch, Stage, Adopt, Append, Low}
use Rattle.session_register.specs.Registers.{cas_answer, number_after}
use Rattle.world_law.specs.Worlds.{Book, WorldState, start, config_of, book_in, with_server, with_node, with_sent, envelope_of}
use Rattle.world_law.specs.Deliveries.{reply_of, is_client, told, answer_from, sends, delivered}
use Rattle.world_law.specs.Steps.{after_answer, after_cas, envelope_from, ticked, advanced, asked, happens}
use Rattle.net_model.specs.declared.cluster.Cluster.{Cluster}
use Rattle.net_model.specs.declared.event.Event.{Event}
use Rattle.net_model.specs.declared.mail.Envelope.{Envelope}
use Rattle.net_model.specs.declared.mail.Mail.{Mail}
use Rattle.net_model.specs.declared.mail.Party.{Party}
use Rattle.session_register.specs.declared.register.Cas.{Cas}
use Rattle.tx_model.specs.Records.{first_id}
use Rattle.tx_model.specs.Transactions.{Transaction}
use Rattle.tx_model.specs.declared.record.Head.{Head}
use Rattle.tx_model.specs.declared.record.Record.{Record}
use Rattle.proto_model.specs.declared.refusal.BuildFault.{BuildFault}
use Rattle.client_core.specs.Building.{build_refusal}
use Rattle.world_law.specs.Deliveries.{request_at, target_of}
use Rattle.world_law.specs.Steps.{Fate, Allows, torn_at, MayBeTorn, submitted}
use Rattle.world_law.proofs.Events.{envelope_get}
use Rattle.world_law.proofs.Later.{all_implied}
use Rattle.world_law.proofs.Origins.{Made, AskMade, ReplyMade, ToServerMade, MailMade, SentMade, NodeMade, node_made, reply_made, ServerMade, server_made, to_server_made, messages_made, part_made}
use Rattle.world_law.proofs.ServerSends.{all_map, all_mapped}
use Rattle.proto_model.specs.Crashes.{unstaged, IsCut, IsCrashOf}
use Rattle.world_law.specs.Steps.{wasted, rebooted}
use Rattle.net_model.specs.declared.mail.Party.TheVariants as party
use Rattle.net_model.specs.declared.mail.Mail.TheVariants as mail
use Rattle.proto_model.specs.declared.client_message.ToServer.TheVariants as to_server
use Rattle.net_model.specs.declared.event.Event.TheVariants as event
use Rattle.session_register.specs.declared.register.Cas.TheVariants as cas

pub record WorldMade (P : Transaction → Type 0) (w : WorldState) : Type 0 where
  pub nodes : (i : ℕ) → NodeMade P (w.nodes i)
  pub servers : (v : ℕ) → ServerMade P (w.servers v)
  pub books : (s : ℕ) → Made P (w.books s).log
  pub sent : SentMade P w.sent

-- what has P may have Q

made_more : (P Q : Transaction → Type 0) → ((tx : Transaction) → P tx → Q tx) → (log : List Record) → Made P log → Made Q log
made_more P Q f log all = all_implied (λ (r : Record). P r.tx) (λ (r : Record). Q r.tx) (λ r. f r.tx) log all

ask_more : (P Q : Transaction → Type 0) → ((tx : Transaction) → P tx → Q tx) → (m : ToNode) → AskMade P m → AskMade Q m
ask_more P Q f (Stage s batch) g = made_more P Q f batch g
ask_more P Q f (Append s batch) g = made_more P Q f batch g
ask_more P Q f (Open s) g = tt
ask_more P Q f (Fetch s from most) g = tt
ask_more P Q f (Adopt s len) g = tt
ask_more P Q f (Low s k) g = tt

reply_more : (P Q : Transaction → Type 0) → ((tx : Transaction) → P tx → Q tx) → (m : FromNode) → ReplyMade P m → ReplyMade Q m
reply_more P Q f (Records s batch) g = made_more P Q f batch g
reply_more P Q f (Opened s a low len) g = tt
reply_more P Q f (Stale s p) g = tt
reply_more P Q f (Unopened s p) g = tt
reply_more P Q f (Staged s upto) g = tt
reply_more P Q f (StageAt s next) g = tt
reply_more P Q f (Adopted s len) g = tt
reply_more P Q f (Acked s len) g = tt
reply_more P Q f (Gap s len) g = tt
reply_more P Q f (NotAdopted s a) g = tt
reply_more P Q f (LowSet s low) g = tt

to_server_more : (P Q : Transaction → Type 0) → ((tx : Transaction) → P tx → Q tx) → (m : ToServer) → ToServerMade P m → ToServerMade Q m
to_server_more P Q f (to_server.Append tx) g = f tx g
to_server_more P Q f (to_server.Feed from max) g = tt
to_server_more P Q f (to_server.Get id) g = tt
to_server_more P Q f to_server.Flush g = tt

mail_more : (P Q : Transaction → Type 0) → ((tx : Transaction) → P tx → Q tx) → (m : Mail) → MailMade P m → MailMade Q m
mail_more P Q f (mail.ToNode m) g = ask_more P Q f m g
mail_more P Q f (mail.FromNode m) g = reply_more P Q f m g
mail_more P Q f (mail.ToServer m) g = to_server_more P Q f m g
mail_more P Q f (mail.FromServer m) g = tt

pub world_more : (P Q : Transaction → Type 0) → ((tx : Transaction) → P tx → Q tx) → (w : WorldState) → WorldMade P w → WorldMade Q w
world_more P Q f w g = record {
  nodes = λ i. record { log = made_more P Q f (w.nodes i).log (g.nodes i).log; staged = made_more P Q f (w.nodes i).staged (g.nodes i).staged };
  servers = λ v. made_more P Q f (w.servers v).log (g.servers v);
  books = λ s. made_more P Q f (w.books s).log (g.books s);
  sent = all_implied (λ (e : Envelope). MailMade P e.message) (λ (e : Envelope). MailMade Q e.message) (λ e. mail_more P Q f e.message) w.sent g.sent;
}

-- parts of an event

with_node_made : (P : Transaction → Type 0) (w : WorldState) (i : ℕ) (n : ReplicaState) (files : ℕ → List ℕ) → WorldMade P w → NodeMade P n
    → WorldMade P (with_node w i n files)
with_node_made P w i n files g f = record { nodes = all_put (NodeMade P) w.nodes i n f g.nodes; servers = g.servers; books = g.books; sent = g.sent }

book_made : (P : Transaction → Type 0) (c : Config) (sv : ServerState) (book : Book) (p : Phase) → ServerMade P sv → Made P book.log
    → Made P (book_in p c sv book).log
book_made P c sv book Idle f g = g
book_made P c sv book Opening f g = g
book_made P c sv book Fetching f g = g
book_made P c sv book Repairing f g = f
book_made P c sv book Running f g = f
book_made P c sv book (Closed by) f g = g

with_server_made : (P : Transaction → Type 0) (w : WorldState) (v : ℕ) (sv : ServerState) → WorldMade P w → ServerMade P sv
    → WorldMade P (with_server w v sv)
with_server_made P w v sv g f = record {
  nodes = g.nodes;
  servers = all_put (ServerMade P) w.servers v sv f g.servers;
  books = all_put (λ (b : Book). Made P b.log) w.books sv.session (book_in sv.phase (config_of w.cluster) sv (w.books sv.session))
      (book_made P (config_of w.cluster) sv (w.books sv.session) sv.phase f (g.books sv.session)) g.books;
  sent = g.sent;
}

-- what the register, the clients and the cursor are is nothing to it
light_made : (P : Transaction → Type 0) (w : WorldState) (r : ℕ) (kept : ℕ → Option ℕ) (clients : ℕ → ClientState) (cursor : ℕ)
    → WorldMade P w → WorldMade P (record w { number = r; kept = kept; clients = clients; cursor = cursor })
light_made P w r kept clients cursor g = record { nodes = g.nodes; servers = g.servers; books = g.books; sent = g.sent }

with_sent_made : (P : Transaction → Type 0) (w : WorldState) (more : List Envelope) → WorldMade P w → SentMade P more → WorldMade P (with_sent w more)
with_sent_made P w more g f = record {
  nodes = g.nodes;
  servers = g.servers;
  books = g.books;
  sent = AllByRecursion-append (λ (e : Envelope). MailMade P e.message) w.sent more g.sent f;
}

-- deliveries

mail_made : (P : Transaction → Type 0) (w : WorldState) (files : ℕ → List ℕ) (from to : Party) (m : Mail) → WorldMade P w → MailMade P m
    → WorldMade P (with_sent (Rattle.world_law.specs.Deliveries.taken w files from to m) (sends w from to m))
mail_made P w files from (party.Node i) (mail.ToNode m) g f = by_test (is_within w.cluster.nodes i)
  where
    by_test : (b : Bool)
        → WorldMade P (with_sent (if b then with_node w i (replica_after (w.nodes i) m) files else w) (if b then reply_of w i from m ∷ [] else []))
    by_test true = with_sent_made P (with_node w i (replica_after (w.nodes i) m) files) (reply_of w i from m ∷ [])
        (with_node_made P w i (replica_after (w.nodes i) m) files g (node_made P (w.nodes i) m (g.nodes i) f)) (reply_made P (w.nodes i) m (g.nodes i), tt)
    by_test false = with_sent_made P w [] g tt
mail_made P w files from (party.Server v) (mail.ToNode m) g f = with_sent_made P w [] g tt
mail_made P w files from (party.Client c) (mail.ToNode m) g f = with_sent_made P w [] g tt
mail_made P w files (party.Node i) (party.Server v) (mail.FromNode m) g f = by_test (is_within w.cluster.nodes i && is_within w.cluster.servers v)
  where
    new : WorldState
    new = with_server w v (server_after (config_of w.cluster) (w.servers v) i m)

    waiting : List Waiting
    waiting = filter (is_client w) (server_answers (config_of w.cluster) (w.servers v) i m)

    by_test : (b : Bool) → WorldMade P (with_sent (if b then new else w) (if b then map (told v) waiting else []))
    by_test true = with_sent_made P new (map (told v) waiting)
        (with_server_made P w v (server_after (config_of w.cluster) (w.servers v) i m) g (server_made P (config_of w.cluster) (w.servers v) i m (g.servers v) f))
        (all_mapped (λ (e : Envelope). MailMade P e.message) (told v) (λ x. tt) waiting)
    by_test false = with_sent_made P w [] g tt
mail_made P w files (party.Node i) (party.Node j) (mail.FromNode m) g f = with_sent_made P w [] g tt
mail_made P w files (party.Node i) (party.Client c) (mail.FromNode m) g f = with_sent_made P w [] g tt
mail_made P w files (party.Server u) to (mail.FromNode m) g f = with_sent_made P w [] g tt
mail_made P w files (party.Client c) to (mail.FromNode m) g f = with_sent_made P w [] g tt
mail_made P w files from (party.Server v) (mail.ToServer m) g f = by_test (is_within w.cluster.servers v)
  where
    new : WorldState
    new = with_server w v (served_after (config_of w.cluster) (w.servers v) m)

    answers : List FromServer
    answers = served_answers (config_of w.cluster) (w.servers v) m

    by_test : (b : Bool) → WorldMade P (with_sent (if b then new else w) (if b then map (answer_from v from) answers else []))
    by_test true = with_sent_made P new (map (answer_from v from) answers)
        (with_server_made P w v (served_after (config_of w.cluster) (w.servers v) m) g (to_server_made P (config_of w.cluster) (w.servers v) m (g.servers v) f))
        (all_mapped (λ (e : Envelope). MailMade P e.message) (answer_from v from) (λ x. tt) answers)
    by_test false = with_sent_made P w [] g tt
mail_made P w files from (party.Node i) (mail.ToServer m) g f = with_sent_made P w [] g tt
mail_made P w files from (party.Client c) (mail.ToServer m) g f = with_sent_made P w [] g tt
mail_made P w files from (party.Client c) (mail.FromServer m) g f = by_test (is_within w.cluster.clients c)
  where
    by_test : (b : Bool) → WorldMade P (with_sent (if b then record w { clients = put w.clients c (client_step (w.clients c) m) } else w) [])
    by_test true = with_sent_made P (record w { clients = put w.clients c (client_step (w.clients c) m) }) []
        (light_made P w w.number w.kept (put w.clients c (client_step (w.clients c) m)) w.cursor g) tt
    by_test false = with_sent_made P w [] g tt
mail_made P w files from (party.Node i) (mail.FromServer m) g f = with_sent_made P w [] g tt
mail_made P w files from (party.Server v) (mail.FromServer m) g f = with_sent_made P w [] g tt

delivered_made : (P : Transaction → Type 0) (w : WorldState) (files : ℕ → List ℕ) (o : Option Envelope) → WorldMade P w
    → ((e : Envelope) → o ≡ Some e → MailMade P e.message) → WorldMade P (delivered w files o)
delivered_made P w files None g f = g
delivered_made P w files (Some e) g f = mail_made P w files e.from e.to e.message g (f e refl)

advanced_made : (P : Transaction → Type 0) (w : WorldState) (o : Option Envelope) → WorldMade P w → WorldMade P (advanced w o)
advanced_made P w None g = g
advanced_made P w (Some e) g = light_made P w w.number w.kept w.clients (w.cursor + 1) g

envelope_made : (P : Transaction → Type 0) (w : WorldState) → WorldMade P w → (k : ℕ) (e : Envelope) → envelope_of w k ≡ Some e
    → MailMade P e.message
envelope_made P w g k e is = envelope_get (λ (x : Envelope). MailMade P x.message) w g.sent k e is

-- a crash

cut_made : (P : Transaction → Type 0) (n : ReplicaState) (m : ToNode) (after : ReplicaState) → NodeMade P n → AskMade P m → IsCut n m after
    → NodeMade P after
cut_made P n (Append s batch) after f g c =
    let at = length n.log + 1 - first_id batch in
    subst (NodeMade P) (sym c.new_is)
    (record { log = AllByRecursion-append (λ (r : Record). P r.tx) n.log (take c.kept (drop at batch)) f.log (part_made P batch at c.kept g); staged = tt })
cut_made P n m after f g c = absurd c

crash_made : (P : Transaction → Type 0) (n : ReplicaState) (m : ToNode) (after : ReplicaState) → NodeMade P n → AskMade P m → IsCrashOf n m after
    → NodeMade P after
crash_made P n m after f g (inl e) = subst (NodeMade P) (sym e) (record { log = f.log; staged = tt })
crash_made P n m after f g (inr (inl e)) = subst (NodeMade P) (sym e) (record { log = (node_made P n m f g).log; staged = tt })
crash_made P n m after f g (inr (inr c)) = cut_made P n m after f g c

request_torn_made : (P : Transaction → Type 0) (w : WorldState) (to : Party) (m : Mail) (fate : Fate) → WorldMade P w → MailMade P m
    → MayBeTorn w (request_at w to m) fate.torn
    → WorldMade P (torn_at w (request_at w to m) fate)
request_torn_made P w (party.Node i) (mail.ToNode m) fate g f may = by_test (is_within w.cluster.nodes i) may
  where
    by_test : (b : Bool) → MayBeTorn w (if b then Some (i, m) else None) fate.torn → WorldMade P (torn_at w (if b then Some (i, m) else None) fate)
    by_test true t = with_node_made P w i fate.torn fate.files g (crash_made P (w.nodes i) m fate.torn (g.nodes i) f t)
    by_test false t = g
request_torn_made P w (party.Node i) (mail.FromNode m) fate g f may = g
request_torn_made P w (party.Node i) (mail.ToServer m) fate g f may = g
request_torn_made P w (party.Node i) (mail.FromServer m) fate g f may = g
request_torn_made P w (party.Server v) m fate g f may = g
request_torn_made P w (party.Client c) m fate g f may = g

torn_made : (P : Transaction → Type 0) (w : WorldState) (o : Option Envelope) (fate : Fate) → WorldMade P w
    → ((e : Envelope) → o ≡ Some e → MailMade P e.message)
    → MayBeTorn w (target_of w o) fate.torn → WorldMade P (torn_at w (target_of w o) fate)
torn_made P w None fate g f may = g
torn_made P w (Some e) fate g f may = request_torn_made P w e.to e.message fate g (f e refl) may

-- the register

won_made : (P : Transaction → Type 0) (w : WorldState) (v s : ℕ) (kept : ℕ → Option ℕ) → WorldMade P w
    → WorldMade P (with_server (record w { number = s; kept = kept }) v (drawn s))
won_made P w v s kept g = with_server_made P (record w { number = s; kept = kept }) v (drawn s) (light_made P w s kept w.clients w.cursor g) tt

answer_made : (P : Transaction → Type 0) (w : WorldState) (v : ℕ) (a : Cas) → WorldMade P w → WorldMade P (after_answer w v a)
answer_made P w v (cas.Won s) g = won_made P w v s (put w.kept v None) g
answer_made P w v (cas.Lost n) g = light_made P w w.number (put w.kept v None) w.clients w.cursor g
answer_made P w v cas.Exhausted g = light_made P w w.number (put w.kept v None) w.clients w.cursor g

cas_made : (P : Transaction → Type 0) (w : WorldState) (v : ℕ) (o : Option ℕ) → WorldMade P w → WorldMade P (after_cas w v o)
cas_made P w v None g = g
cas_made P w v (Some from) g = answer_made P w v (cas_answer w.number from) g

wasted_made : (P : Transaction → Type 0) (w : WorldState) (v : ℕ) (o : Option ℕ) → WorldMade P w → WorldMade P (wasted w v o)
wasted_made P w v None g = g
wasted_made P w v (Some from) g = light_made P w (number_after w.number (cas_answer w.number from)) (put w.kept v None) w.clients w.cursor g

-- what a client sends

submitted_made : (P : Transaction → Type 0) (w : WorldState) (c v : ℕ) (tx : Transaction) (o : Option BuildFault) → WorldMade P w
    → (o ≡ None → P tx)
    → WorldMade P (submitted w c (asked c v (to_server.Append tx)) o)
submitted_made P w c v tx None g f =
    let clients = put w.clients c (after_build (w.clients c)) in
    with_sent_made P (record w { clients = clients }) (asked c v (to_server.Append tx) ∷ []) (light_made P w w.number w.kept clients w.cursor g) (f refl, tt)
submitted_made P w c v tx (Some fault) g f = g

ask_made : (P : Transaction → Type 0) (mark : ℕ) (heads : List Head) → ToServerMade P (ask_by mark heads)
ask_made P mark [] = tt
ask_made P mark (h ∷ heads) = tt

-- any event. A client's new transaction is to have P

abbrev pub NewHas : (Transaction → Type 0) → WorldState → Event → Type 0
NewHas P w (event.Append c v writes reads ops) = build_refusal (w.clients c) writes reads ops ≡ None → P (built (w.clients c) c writes reads ops)
NewHas P w _ = Unit {0}

pub step_made : (P : Transaction → Type 0) (w : WorldState) (fate : Fate) (e : Event) → WorldMade P w → NewHas P w e → Allows w e fate
    → WorldMade P (happens w fate e)
step_made P w fate (event.Read v) g f may = light_made P w w.number (put w.kept v (Some w.number)) w.clients w.cursor g
step_made P w fate (event.Cas v) g f may = cas_made P w v (w.kept v) g
step_made P w fate (event.Waste v) g f may = wasted_made P w v (w.kept v) g
step_made P w fate (event.Tick v) g f may =
    with_sent_made P w (ticked w v) g
    (all_map (λ (e : Envelope). MailMade P e.message) (envelope_from v) (next_messages (config_of w.cluster) (w.servers v) w.cluster.nodes)
    (messages_made P (config_of w.cluster) (w.servers v) w.cluster.nodes (g.servers v)))
step_made P w fate event.Next g f may =
    delivered_made P (advanced w (envelope_of w w.cursor)) fate.files (envelope_of w w.cursor) (advanced_made P w (envelope_of w w.cursor) g)
    (envelope_made P w g w.cursor)
step_made P w fate event.Skip g f may = advanced_made P w (envelope_of w w.cursor) g
step_made P w fate (event.Deliver k) g f may = delivered_made P w fate.files (envelope_of w k) g (envelope_made P w g k)
step_made P w fate (event.Tear k bytes) g f may = torn_made P w (envelope_of w k) fate g (envelope_made P w g k) may
step_made P w fate (event.Crash i) g f may = with_node_made P w i (unstaged (w.nodes i)) fate.files g (record { log = (g.nodes i).log; staged = tt })
step_made P w fate (event.Restart v) g f may =
    record { nodes = g.nodes; servers = all_put (ServerMade P) w.servers v idle_server tt g.servers; books = g.books; sent = g.sent }
step_made P w fate (event.Reboot c) g f may = light_made P w w.number w.kept (put w.clients c (rebooted (w.clients c))) w.cursor g
step_made P w fate (event.Append c v writes reads ops) g f may =
    submitted_made P w c v (built (w.clients c) c writes reads ops) (build_refusal (w.clients c) writes reads ops) g f
step_made P w fate (event.Ask c v) g f may =
    with_sent_made P w (asked c v (next_ask (w.clients c)) ∷ []) g (ask_made P (w.clients c).mark (w.clients c).heads, tt)
step_made P w fate (event.Flush c v) g f may = with_sent_made P w (asked c v to_server.Flush ∷ []) g (tt, tt)
step_made P w fate (event.Show i) g f may = g
step_made P w fate (event.Server v) g f may = g
step_made P w fate (event.App c) g f may = g
step_made P w fate (event.Log from) g f may = g
step_made P w fate (event.Dump i file at) g f may = g

pub start_made : (P : Transaction → Type 0) (c : Cluster) → WorldMade P (start c)
start_made P c = record { nodes = λ i. record { log = tt; staged = tt }; servers = λ v. tt; books = λ s. tt; sent = tt }
