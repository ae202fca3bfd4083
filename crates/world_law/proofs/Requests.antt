-- Which transactions clients sent, and that no two of them have one request.
use Rattle.std.proofs.Common.{◌≡◌, ℕ, ◌+◌, ◌<◌, ◌≤◌, ◌⊎◌, ◌==◌, ◌&&◌, if◌then◌else◌, Bool, true, false, arith, refl, ap, sym, ◌∙◌, inl, inr, subst, List, [], ◌∷◌, ◌++◌, Option, Some, None, append-nil, map, filter}
use Rattle.proto_model.proofs.TableLemmas.{either}
use Rattle.client_core.specs.Clients.{ClientState, built, after_build, ask_by, is_same_head, takes_heads, entry_by, client_step}
use Rattle.proto_model.specs.Quorums.{is_within}
use Rattle.proto_model.specs.Replicas.{replica_after}
use Rattle.proto_model.specs.Sending.{next_messages}
use Rattle.proto_model.specs.Servers.{Waiting, drawn, server_after, server_answers}
use Rattle.proto_model.specs.Serving.{served_after, served_answers}
use Rattle.proto_model.specs.Tables.{put}
use Rattle.proto_model.specs.declared.client_message.FromServer.{FromServer}
use Rattle.proto_model.specs.declared.client_message.ToServer.{ToServer}
use Rattle.proto_model.specs.declared.message.FromNode.{FromNode}
use Rattle.proto_model.specs.declared.message.ToNode.{ToNode}
use Rattle.session_register.specs.Registers.{cas_answer, number_after}
use Rattle.world_law.specs.Worlds.{WorldState, config_of, with_server, with_node, with_sent, envelope_of}
use Rattle.world_law.specs.Deliveries.{reply_of, is_client, told, answer_from, sends, delivered}
use Rattle.world_law.specs.Steps.{after_answer, after_cas, envelope_from, ticked, advanced, asked, submission, submitted, happens}
use Rattle.net_model.specs.declared.event.Event.{Event}
use Rattle.net_model.specs.declared.mail.Envelope.{Envelope}
use Rattle.net_model.specs.declared.mail.Mail.{Mail}
use Rattle.net_model.specs.declared.mail.Party.{Party}
use Rattle.session_register.specs.declared.register.Cas.{Cas}
use Rattle.std.specs.List.{AllByRecursion}
use Rattle.tx_model.specs.Applications.{after_payload}
use Rattle.tx_model.specs.Records.{head_of}
use Rattle.tx_model.specs.Transactions.{Transaction}
use Rattle.tx_model.specs.declared.record.Head.{Head}
use Rattle.tx_model.specs.declared.record.Record.{Record}
use Rattle.proto_model.specs.declared.refusal.BuildFault.{BuildFault}
use Rattle.client_core.specs.Building.{build_refusal}
use Rattle.world_law.specs.Deliveries.{target_of}
use Rattle.world_law.specs.Worlds.{with_client}
use Rattle.world_law.specs.Steps.{Fate, torn_at}
use Rattle.world_law.proofs.Later.{counts}
use Rattle.world_law.proofs.ServerSends.{all_mapped}
use Rattle.world_law.proofs.Tables.{put_same, put_each}
use Rattle.proto_model.specs.Crashes.{unstaged}
use Rattle.world_law.specs.Steps.{wasted, restarted, rebooted}
use Rattle.net_model.specs.declared.mail.Party.TheVariants as party
use Rattle.net_model.specs.declared.mail.Mail.TheVariants as mail
use Rattle.proto_model.specs.declared.client_message.ToServer.TheVariants as to_server
use Rattle.proto_model.specs.declared.client_message.FromServer.TheVariants as answer
use Rattle.net_model.specs.declared.event.Event.TheVariants as event
use Rattle.session_register.specs.declared.register.Cas.TheVariants as cas

-- the envelope asks for this transaction
abbrev pub Asks : Transaction → Envelope → Type 0
Asks tx e = e.message ≡ mail.ToServer (to_server.Append tx)

abbrev pub IsAsked : List Envelope → Transaction → Type 0
IsAsked [] tx = ⊥
IsAsked (e ∷ sent) tx = Asks tx e ⊎ IsAsked sent tx

pub asked_split : (xs ys : List Envelope) (tx : Transaction) → IsAsked (xs ++ ys) tx → IsAsked xs tx ⊎ IsAsked ys tx
asked_split [] ys tx a = inr a
asked_split (x ∷ xs) ys tx (inl e) = inl (inl e)
asked_split (x ∷ xs) ys tx (inr a) = elim (asked_split xs ys tx a) [ inl f ↦ inl (inr f) | inr f ↦ inr f ]

pub asked_left : (xs ys : List Envelope) (tx : Transaction) → IsAsked xs tx → IsAsked (xs ++ ys) tx
asked_left [] ys tx a = absurd a
asked_left (x ∷ xs) ys tx (inl e) = inl e
asked_left (x ∷ xs) ys tx (inr a) = inr (asked_left xs ys tx a)

pub asked_right : (xs ys : List Envelope) (tx : Transaction) → IsAsked ys tx → IsAsked (xs ++ ys) tx
asked_right [] ys tx a = a
asked_right (x ∷ xs) ys tx a = inr (asked_right xs ys tx a)

-- an envelope that asks for nothing
abbrev pub IsNoAsk : Envelope → Type 0
IsNoAsk e = (tx : Transaction) → Asks tx e → ⊥

pub no_asks : (sent : List Envelope) → AllByRecursion IsNoAsk sent → (tx : Transaction) → IsAsked sent tx → ⊥
no_asks [] all tx a = a
no_asks (e ∷ sent) all tx (inl is) = all.0 tx is
no_asks (e ∷ sent) all tx (inr a) = no_asks sent all.1 tx a

-- what an event sends, and what it makes of the clients' counts
pub record StepAsks (w new : WorldState) : Type 0 where
  pub more : List Envelope
  pub sent : new.sent ≡ w.sent ++ more
  pub counts : (c : ℕ) → (w.clients c).request ≤ (new.clients c).request
  pub number : (tx : Transaction) → IsAsked more tx → tx.request ≡ (w.clients tx.client).request
  pub counted : (tx : Transaction) → IsAsked more tx → tx.request < (new.clients tx.client).request
  pub one : (tx ux : Transaction) → IsAsked more tx → IsAsked more ux → tx ≡ ux

-- an event that asks for nothing
pub quiet_asks : (w new : WorldState) (more : List Envelope) → new.sent ≡ w.sent ++ more → AllByRecursion IsNoAsk more
    → ((c : ℕ) → (w.clients c).request ≤ (new.clients c).request) → StepAsks w new
quiet_asks w new more sent none counts = record {
  more = more;
  sent = sent;
  counts = counts;
  number = λ tx a. absurd (no_asks more none tx a);
  counted = λ tx a. absurd (no_asks more none tx a);
  one = λ tx ux a. absurd (no_asks more none tx a);
}

-- an event that sends nothing
still_asks : (w new : WorldState) → new.sent ≡ w.sent → ((c : ℕ) → (w.clients c).request ≤ (new.clients c).request) → StepAsks w new
still_asks w new sent counts = quiet_asks w new [] (sent ∙ sym (append-nil w.sent)) tt counts

-- a client that got an answer keeps its count

entry_count : (cl : ClientState) (r : Record) (heads : List Head) → (entry_by after_payload cl r heads).request ≡ cl.request
entry_count cl r [] = refl
entry_count cl r (head ∷ rest) =
    let after : ClientState = record cl { mark = cl.mark + 1; heads = rest; app = after_payload cl.app r.tx.payload } in
    let none : ClientState = record cl { heads = [] } in
    either (λ (x : ClientState). x.request ≡ cl.request) (r.id == cl.mark + 1) (if is_same_head head (head_of r) then after else none) cl
    (either (λ (x : ClientState). x.request ≡ cl.request) (is_same_head head (head_of r)) after none refl refl) refl

client_count : (cl : ClientState) (m : FromServer) → (client_step cl m).request ≡ cl.request
client_count cl (answer.Heads from committed heads) =
    either (λ (x : ClientState). x.request ≡ cl.request) (takes_heads cl from heads) (record cl { heads = heads }) cl refl refl
client_count cl (answer.Entry r) = entry_count cl r cl.heads
client_count cl (answer.Committed request id) = refl
client_count cl (answer.Pending request id) = refl
client_count cl (answer.Refused request refusal) = refl
client_count cl (answer.Flushed committed) = refl
client_count cl (answer.Unserved refusal) = refl

same_count : (a b : ℕ) → b ≡ a → a ≤ b
same_count a b e = omega (arith, e)

one_client : (clients : ℕ → ClientState) (c : ℕ) (cl : ClientState) → (clients c).request ≤ cl.request → (k : ℕ)
    → (clients k).request ≤ (put clients c cl k).request
one_client clients c cl le = put_each (λ (k : ℕ) (x : ClientState). (clients k).request ≤ x.request) clients c cl le (λ k ne. omega arith)

not_request : {x : ToNode} {y : ToServer} → mail.ToNode x ≡ mail.ToServer y → ⊥
not_request e = cc

not_reply : {x : FromNode} {y : ToServer} → mail.FromNode x ≡ mail.ToServer y → ⊥
not_reply e = cc

not_answer : {x : FromServer} {y : ToServer} → mail.FromServer x ≡ mail.ToServer y → ⊥
not_answer e = cc

-- deliveries

mail_asks : (w : WorldState) (files : ℕ → List ℕ) (from to : Party) (m : Mail)
    → StepAsks w (with_sent (Rattle.world_law.specs.Deliveries.taken w files from to m) (sends w from to m))
mail_asks w files from (party.Node i) (mail.ToNode m) = by_test (is_within w.cluster.nodes i)
  where
    by_test : (b : Bool)
        → StepAsks w (with_sent (if b then with_node w i (replica_after (w.nodes i) m) files else w) (if b then reply_of w i from m ∷ [] else []))
    by_test true = quiet_asks w (with_sent (with_node w i (replica_after (w.nodes i) m) files) (reply_of w i from m ∷ [])) (reply_of w i from m ∷ []) refl
        (λ tx e. not_reply e, tt) (λ c. omega arith)
    by_test false = quiet_asks w (with_sent w []) [] refl tt (λ c. omega arith)
mail_asks w files from (party.Server v) (mail.ToNode m) = quiet_asks w (with_sent w []) [] refl tt (λ c. omega arith)
mail_asks w files from (party.Client c) (mail.ToNode m) = quiet_asks w (with_sent w []) [] refl tt (λ c. omega arith)
mail_asks w files (party.Node i) (party.Server v) (mail.FromNode m) = by_test (is_within w.cluster.nodes i && is_within w.cluster.servers v)
  where
    new : WorldState
    new = with_server w v (server_after (config_of w.cluster) (w.servers v) i m)

    waiting : List Waiting
    waiting = filter (is_client w) (server_answers (config_of w.cluster) (w.servers v) i m)

    by_test : (b : Bool) → StepAsks w (with_sent (if b then new else w) (if b then map (told v) waiting else []))
    by_test true = quiet_asks w (with_sent new (map (told v) waiting)) (map (told v) waiting) refl (all_mapped IsNoAsk (told v) (λ x tx e. not_answer e) waiting)
        (λ c. omega arith)
    by_test false = quiet_asks w (with_sent w []) [] refl tt (λ c. omega arith)
mail_asks w files (party.Node i) (party.Node j) (mail.FromNode m) = quiet_asks w (with_sent w []) [] refl tt (λ c. omega arith)
mail_asks w files (party.Node i) (party.Client c) (mail.FromNode m) = quiet_asks w (with_sent w []) [] refl tt (λ c. omega arith)
mail_asks w files (party.Server u) to (mail.FromNode m) = quiet_asks w (with_sent w []) [] refl tt (λ c. omega arith)
mail_asks w files (party.Client c) to (mail.FromNode m) = quiet_asks w (with_sent w []) [] refl tt (λ c. omega arith)
mail_asks w files from (party.Server v) (mail.ToServer m) = by_test (is_within w.cluster.servers v)
  where
    new : WorldState
    new = with_server w v (served_after (config_of w.cluster) (w.servers v) m)

    answers : List FromServer
    answers = served_answers (config_of w.cluster) (w.servers v) m

    by_test : (b : Bool) → StepAsks w (with_sent (if b then new else w) (if b then map (answer_from v from) answers else []))
    by_test true = quiet_asks w (with_sent new (map (answer_from v from) answers)) (map (answer_from v from) answers) refl
        (all_mapped IsNoAsk (answer_from v from) (λ x tx e. not_answer e) answers) (λ c. omega arith)
    by_test false = quiet_asks w (with_sent w []) [] refl tt (λ c. omega arith)
mail_asks w files from (party.Node i) (mail.ToServer m) = quiet_asks w (with_sent w []) [] refl tt (λ c. omega arith)
mail_asks w files from (party.Client c) (mail.ToServer m) = quiet_asks w (with_sent w []) [] refl tt (λ c. omega arith)
mail_asks w files from (party.Client c) (mail.FromServer m) = by_test (is_within w.cluster.clients c)
  where
    clients : ℕ → ClientState
    clients = put w.clients c (client_step (w.clients c) m)

    by_test : (b : Bool) → StepAsks w (with_sent (if b then record w { clients = clients } else w) [])
    by_test true = quiet_asks w (with_sent (record w { clients = clients }) []) [] refl tt
        (one_client w.clients c (client_step (w.clients c) m)
        (same_count (w.clients c).request (client_step (w.clients c) m).request (client_count (w.clients c) m)))
    by_test false = quiet_asks w (with_sent w []) [] refl tt (λ k. omega arith)
mail_asks w files from (party.Node i) (mail.FromServer m) = quiet_asks w (with_sent w []) [] refl tt (λ c. omega arith)
mail_asks w files from (party.Server v) (mail.FromServer m) = quiet_asks w (with_sent w []) [] refl tt (λ c. omega arith)

delivered_asks : (w : WorldState) (files : ℕ → List ℕ) (o : Option Envelope) → StepAsks w (delivered w files o)
delivered_asks w files None = still_asks w w refl (λ c. omega arith)
delivered_asks w files (Some e) = mail_asks w files e.from e.to e.message

-- the cursor is nothing to it
same_asks : (w mid new : WorldState) → mid.sent ≡ w.sent → mid.clients ≡ w.clients → StepAsks mid new → StepAsks w new
same_asks w mid new sent clients a = record {
  more = a.more;
  sent = a.sent ∙ ap (λ (l : List Envelope). l ++ a.more) sent;
  counts = λ c. subst (λ (f : ℕ → ClientState). (f c).request ≤ (new.clients c).request) clients (a.counts c);
  number = λ tx is. a.number tx is ∙ ap (λ (f : ℕ → ClientState). (f tx.client).request) clients;
  counted = a.counted;
  one = a.one;
}

next_asks : (w : WorldState) (files : ℕ → List ℕ) (o : Option Envelope) → StepAsks w (delivered (advanced w o) files o)
next_asks w files None = still_asks w w refl (λ c. omega arith)
next_asks w files (Some e) =
    same_asks w (record w { cursor = w.cursor + 1 }) (delivered (record w { cursor = w.cursor + 1 }) files (Some e)) refl refl
    (mail_asks (record w { cursor = w.cursor + 1 }) files e.from e.to e.message)

advanced_asks : (w : WorldState) (o : Option Envelope) → StepAsks w (advanced w o)
advanced_asks w None = still_asks w w refl (λ c. omega arith)
advanced_asks w (Some e) = still_asks w (record w { cursor = w.cursor + 1 }) refl (λ c. omega arith)

torn_asks : (w : WorldState) (target : Option (ℕ × ToNode)) (fate : Fate) → StepAsks w (torn_at w target fate)
torn_asks w None fate = still_asks w w refl (λ c. omega arith)
torn_asks w (Some target) fate = still_asks w (with_node w target.0 fate.torn fate.files) refl (λ c. omega arith)

-- the register

answer_asks : (w : WorldState) (v : ℕ) (a : Cas) → StepAsks w (after_answer w v a)
answer_asks w v (cas.Won s) = still_asks w (with_server (record w { number = s; kept = put w.kept v None }) v (drawn s)) refl (λ c. omega arith)
answer_asks w v (cas.Lost n) = still_asks w (record w { kept = put w.kept v None }) refl (λ c. omega arith)
answer_asks w v cas.Exhausted = still_asks w (record w { kept = put w.kept v None }) refl (λ c. omega arith)

cas_asks : (w : WorldState) (v : ℕ) (o : Option ℕ) → StepAsks w (after_cas w v o)
cas_asks w v None = still_asks w w refl (λ c. omega arith)
cas_asks w v (Some from) = answer_asks w v (cas_answer w.number from)

wasted_asks : (w : WorldState) (v : ℕ) (o : Option ℕ) → StepAsks w (wasted w v o)
wasted_asks w v None = still_asks w w refl (λ c. omega arith)
wasted_asks w v (Some from) =
    still_asks w (record w { number = number_after w.number (cas_answer w.number from); kept = put w.kept v None }) refl (λ c. omega arith)

-- a client asks

asked_is : (c v : ℕ) (tx ux : Transaction) → IsAsked (asked c v (to_server.Append tx) ∷ []) ux → ux ≡ tx
asked_is c v tx ux (inl e) = cc
asked_is c v tx ux (inr a) = absurd a

append_asks : (w : WorldState) (c v : ℕ) (writes reads : List (List ℕ)) (ops : List ℕ) (o : Option BuildFault)
    → StepAsks w (submitted w c (submission w c v writes reads ops) o)
append_asks w c v writes reads ops None =
    let cl = w.clients c in
    let tx = built cl c writes reads ops in
    let clients = put w.clients c (after_build cl) in
    let own : (clients c).request ≡ cl.request + 1 = ap (λ (x : ClientState). x.request) (put_same w.clients c (after_build cl)) in
    record {
      more = asked c v (to_server.Append tx) ∷ [];
      sent = refl;
      counts = one_client w.clients c (after_build cl) (omega arith);
      number = λ ux a. subst (λ (x : Transaction). x.request ≡ (w.clients x.client).request) (sym (asked_is c v tx ux a)) refl;
      counted = λ ux a. subst (λ (x : Transaction). x.request < (clients x.client).request) (sym (asked_is c v tx ux a)) (omega (arith, own));
      one = λ ux vx a b. asked_is c v tx ux a ∙ sym (asked_is c v tx vx b);
    }
append_asks w c v writes reads ops (Some fault) = still_asks w w refl (λ k. omega arith)

ask_asks : (w : WorldState) (c v mark : ℕ) (heads : List Head) → StepAsks w (with_sent w (asked c v (ask_by mark heads) ∷ []))
ask_asks w c v mark [] =
    quiet_asks w (with_sent w (asked c v (ask_by mark []) ∷ [])) (asked c v (ask_by mark []) ∷ []) refl (λ tx e. cc, tt) (λ c. omega arith)
ask_asks w c v mark (h ∷ heads) =
    quiet_asks w (with_sent w (asked c v (ask_by mark (h ∷ heads)) ∷ [])) (asked c v (ask_by mark (h ∷ heads)) ∷ []) refl (λ tx e. cc, tt)
    (λ c. omega arith)

tick_asks : (w : WorldState) (v : ℕ) → StepAsks w (with_sent w (ticked w v))
tick_asks w v =
    quiet_asks w (with_sent w (ticked w v)) (ticked w v) refl
    (all_mapped IsNoAsk (envelope_from v) (λ x tx e. not_request e) (next_messages (config_of w.cluster) (w.servers v) w.cluster.nodes)) (λ c. omega arith)

pub step_asks : (w : WorldState) (fate : Fate) (e : Event) → StepAsks w (happens w fate e)
step_asks w fate (event.Read v) = still_asks w (record w { kept = put w.kept v (Some w.number) }) refl (λ c. omega arith)
step_asks w fate (event.Cas v) = cas_asks w v (w.kept v)
step_asks w fate (event.Waste v) = wasted_asks w v (w.kept v)
step_asks w fate (event.Tick v) = tick_asks w v
step_asks w fate event.Next = next_asks w fate.files (envelope_of w w.cursor)
step_asks w fate event.Skip = advanced_asks w (envelope_of w w.cursor)
step_asks w fate (event.Deliver k) = delivered_asks w fate.files (envelope_of w k)
step_asks w fate (event.Tear k bytes) = torn_asks w (target_of w (envelope_of w k)) fate
step_asks w fate (event.Crash i) = still_asks w (with_node w i (unstaged (w.nodes i)) fate.files) refl (λ c. omega arith)
step_asks w fate (event.Restart v) = still_asks w (restarted w v) refl (λ c. omega arith)
step_asks w fate (event.Reboot c) =
    still_asks w (with_client w c (rebooted (w.clients c))) refl (one_client w.clients c (rebooted (w.clients c)) (omega arith))
step_asks w fate (event.Append c v writes reads ops) = append_asks w c v writes reads ops (build_refusal (w.clients c) writes reads ops)
step_asks w fate (event.Ask c v) = ask_asks w c v (w.clients c).mark (w.clients c).heads
step_asks w fate (event.Flush c v) =
    quiet_asks w (with_sent w (asked c v to_server.Flush ∷ [])) (asked c v to_server.Flush ∷ []) refl (λ tx e. cc, tt) (λ c. omega arith)
step_asks w fate (event.Show i) = still_asks w w refl (λ c. omega arith)
step_asks w fate (event.Server v) = still_asks w w refl (λ c. omega arith)
step_asks w fate (event.App c) = still_asks w w refl (λ c. omega arith)
step_asks w fate (event.Log from) = still_asks w w refl (λ c. omega arith)
step_asks w fate (event.Dump i file at) = still_asks w w refl (λ c. omega arith)
