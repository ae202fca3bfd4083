-- What each event makes of the worlds that are shown.
use Rattle.std.proofs.Common.{◌≡◌, ◌∙◌, ℕ, zero, suc, ◌+◌, ◌-◌, ◌<◌, ◌^◌, List, [], ◌∷◌, ◌++◌, length, map, Bool, true, false, refl, sym, ap, subst, arith, slice_get, Option, None, Some}
use Rattle.std.specs.Prelude.{◌&&◌, if◌then◌else◌, nat_lt}
use Rattle.std.proofs.lemmas.Bool.Decides.{nat_tests}
use Rattle.proto_model.specs.declared.message.Status.{Status}
use Rattle.proto_model.specs.declared.message.ToNode.{ToNode}
use Rattle.proto_model.specs.declared.client_message.ToServer.{ToServer}
use Rattle.proto_model.specs.declared.client_message.ToServer.TheVariants as wish
use Rattle.proto_model.specs.declared.refusal.BuildFault.{BuildFault}
use Rattle.proto_model.specs.Tables.{put}
use Rattle.proto_model.specs.Quorums.{is_within}
use Rattle.proto_model.specs.Replicas.{ReplicaState, fresh_replica}
use Rattle.proto_model.specs.Crashes.{unstaged, IsCrashOf}
use Rattle.proto_model.specs.Nodes.{IsShown}
use Rattle.proto_model.specs.Servers.{ServerState, idle_server, drawn, server_after}
use Rattle.proto_model.specs.Sending.{next_messages}
use Rattle.proto_model.proofs.TableLemmas.{either}
use Rattle.client_core.specs.Clients.{ClientState, after_build, built, next_ask}
use Rattle.client_core.specs.Building.{build_refusal}
use Rattle.net_model.specs.declared.mail.Party.{Party}
use Rattle.net_model.specs.declared.mail.Party.TheVariants as party
use Rattle.net_model.specs.declared.mail.Mail.{Mail}
use Rattle.net_model.specs.declared.mail.Mail.TheVariants as mail
use Rattle.net_model.specs.declared.mail.Envelope.{Envelope}
use Rattle.net_model.specs.declared.event.Event.{Event}
use Rattle.net_model.specs.declared.event.Event.TheVariants as event
use Rattle.net_model.specs.declared.outcome.Outcome.{Outcome}
use Rattle.net_model.specs.declared.outcome.Outcome.TheVariants as outcome
use Rattle.net_model.specs.Briefs.{items_from}
use Rattle.net_model.specs.Pools.{Post, envelope_at, moved_on}
use Rattle.session_register.specs.declared.register.Cas.TheVariants as answer
use Rattle.session_register.specs.Registers.{cas_answer, number_after}
use Rattle.world_law.specs.Worlds.{WorldState, config_of, envelope_of, with_sent, with_server}
use Rattle.world_law.specs.Deliveries.{taken, sends, delivered, target_of, request_at}
use Rattle.world_law.specs.Steps.{Fate, Allows, happens, envelope_from, ticked, asked, advanced, rebooted, submission, submitted}
use Rattle.world_law.specs.Outcomes.{outcome_of, delivery_outcome, skip_outcome, server_outcome, app_outcome, dump_outcome, submission_outcome}
use Rattle.world_core.specs.declared.deliver.Got.{Got}
use Rattle.world_core.specs.Kept.{Parties, Shown, Shows, HasParties, nodes_of, files_of, no_files, servers_of, clients_of, numbers_of, with_parties, seen}
use Rattle.world_core.specs.Deliveries.{Delivers, made_by, outcome_got, items_outcome}
use Rattle.world_core.specs.Stepping.{Happens, Goes}
use Rattle.world_core.proofs.Delivering.{made_outcome}

-- ---- what a step is made of

-- it is enough to look at the worlds that are shown
pub happens_by : (x y : Shown) (fate : Fate) (e : Event) (o : Outcome) → ((w : WorldState) → Allows (seen x w) e fate) → ((w : WorldState) → o ≡ outcome_of (seen x w) fate e) → ((w : WorldState) → Shows y (happens (seen x w) fate e)) → Happens x y e o
happens_by x y fate e o allowed gives leads = record {
  fate = fate;
  allowed = λ w has. let P : WorldState → Type 0 = λ v. Allows v e fate in subst P (sym has) (allowed w);
  gives = λ w has. let P : WorldState → Type 0 = λ v. o ≡ outcome_of v fate e in subst P (sym has) (gives w);
  leads = λ w has. let P : WorldState → Type 0 = λ v. Shows y (happens v fate e) in subst P (sym has) (leads w);
}

-- the fate of an event that leaves nothing open
abbrev pub plain : Fate
plain = record { torn = fresh_replica; files = no_files }

-- ---- the register

pub read_happens : (x : Shown) (ks : List (Option ℕ)) (v number : ℕ) → number ≡ x.number → numbers_of ks ≡ put (numbers_of x.kept) v (Some number) → Happens x (record x { kept = ks }) (event.Read v) (outcome.Read number)
read_happens x ks v number is kept = happens_by x (record x { kept = ks }) plain (event.Read v) (outcome.Read number) (λ w. tt) (λ w. rw is refl) (λ w. rw (kept, is) refl)

pub unread_happens : (x : Shown) (v : ℕ) → numbers_of x.kept v ≡ None → Happens x x (event.Cas v) outcome.Unread
unread_happens x v none = happens_by x x plain (event.Cas v) outcome.Unread (λ w. tt) (λ w. rw none refl) (λ w. rw none refl)

pub won_happens : (x : Shown) (ks : List (Option ℕ)) (ss : List ServerState) (v from session number : ℕ) → numbers_of x.kept v ≡ Some from → answer.Won session ≡ cas_answer x.number from → number ≡ session → numbers_of ks ≡ put (numbers_of x.kept) v None
    → servers_of ss ≡ put (servers_of x.parties.servers) v (drawn session) → Happens x (record x { parties = record x.parties { servers = ss }; number = number; kept = ks }) (event.Cas v) (outcome.Won session)
won_happens x ks ss v from session number some given is kept servers =
    happens_by x (record x { parties = record x.parties { servers = ss }; number = number; kept = ks }) plain (event.Cas v) (outcome.Won session) (λ w. tt) (λ w. rw (some, ← given) refl) (λ w. rw (is, some, ← given, kept, servers) refl)

pub lost_happens : (x : Shown) (ks : List (Option ℕ)) (v from lost number : ℕ) → numbers_of x.kept v ≡ Some from → answer.Lost lost ≡ cas_answer x.number from → number ≡ x.number → numbers_of ks ≡ put (numbers_of x.kept) v None
    → Happens x (record x { number = number; kept = ks }) (event.Cas v) (outcome.Lost lost)
lost_happens x ks v from lost number some given is kept =
    happens_by x (record x { number = number; kept = ks }) plain (event.Cas v) (outcome.Lost lost) (λ w. tt) (λ w. rw (some, ← given) refl) (λ w. rw (is, some, ← given, kept) refl)

pub exhausted_happens : (x : Shown) (ks : List (Option ℕ)) (v from number : ℕ) → numbers_of x.kept v ≡ Some from → answer.Exhausted ≡ cas_answer x.number from → number ≡ x.number → numbers_of ks ≡ put (numbers_of x.kept) v None
    → Happens x (record x { number = number; kept = ks }) (event.Cas v) outcome.Exhausted
exhausted_happens x ks v from number some given is kept =
    happens_by x (record x { number = number; kept = ks }) plain (event.Cas v) outcome.Exhausted (λ w. tt) (λ w. rw (some, ← given) refl) (λ w. rw (is, some, ← given, kept) refl)

pub unwasted_happens : (x : Shown) (v : ℕ) → numbers_of x.kept v ≡ None → Happens x x (event.Waste v) outcome.Unread
unwasted_happens x v none = happens_by x x plain (event.Waste v) outcome.Unread (λ w. tt) (λ w. rw none refl) (λ w. rw none refl)

pub wasted_happens : (x : Shown) (ks : List (Option ℕ)) (v from number : ℕ) → numbers_of x.kept v ≡ Some from → number ≡ number_after x.number (cas_answer x.number from) → numbers_of ks ≡ put (numbers_of x.kept) v None
    → Happens x (record x { number = number; kept = ks }) (event.Waste v) (outcome.Wasted number)
wasted_happens x ks v from number some is kept =
    happens_by x (record x { number = number; kept = ks }) plain (event.Waste v) (outcome.Wasted number) (λ w. tt) (λ w. rw (some, is) refl) (λ w. rw (some, is, kept) refl)

-- ---- what is sent

pub ticked_happens : (x : Shown) (s made : List Envelope) (v : ℕ) (o : Outcome) → made ≡ map (envelope_from v) (next_messages (config_of x.parties.cluster) (servers_of x.parties.servers v) x.parties.cluster.nodes)
    → s ≡ x.sent ++ made → o ≡ items_outcome (items_from (length x.sent + 1) made) → Happens x (record x { sent = s }) (event.Tick v) o
ticked_happens x s made v o is more said =
    happens_by x (record x { sent = s }) plain (event.Tick v) o (λ w. tt) (λ w. said ∙ made_outcome (seen x w) made (ticked (seen x w) v) is) (λ w. rw (more, is) refl)

pub asked_happens : (x : Shown) (s : List Envelope) (c v : ℕ) (m : ToServer) (o : Outcome) → m ≡ next_ask (clients_of x.parties.clients c)
    → s ≡ x.sent ++ asked c v m ∷ [] → o ≡ items_outcome (items_from (length x.sent + 1) (asked c v m ∷ [])) → Happens x (record x { sent = s }) (event.Ask c v) o
asked_happens x s c v m o is more said =
    happens_by x (record x { sent = s }) plain (event.Ask c v) o (λ w. tt) (λ w. rw (said, is) refl) (λ w. rw (more, is) refl)

pub flushed_happens : (x : Shown) (s : List Envelope) (c v : ℕ) (o : Outcome)
    → s ≡ x.sent ++ asked c v wish.Flush ∷ [] → o ≡ items_outcome (items_from (length x.sent + 1) (asked c v wish.Flush ∷ [])) → Happens x (record x { sent = s }) (event.Flush c v) o
flushed_happens x s c v o more said = happens_by x (record x { sent = s }) plain (event.Flush c v) o (λ w. tt) (λ w. said) (λ w. rw more refl)

-- ---- what a client builds

pub built_happens : (x : Shown) (cs : List ClientState) (s : List Envelope) (c v : ℕ) (writes reads : List (List ℕ)) (ops : List ℕ) (m : ToServer) (o : Outcome)
    → build_refusal (clients_of x.parties.clients c) writes reads ops ≡ None
    → clients_of cs ≡ put (clients_of x.parties.clients) c (after_build (clients_of x.parties.clients c)) → m ≡ wish.Append (built (clients_of x.parties.clients c) c writes reads ops)
    → s ≡ x.sent ++ asked c v m ∷ [] → o ≡ items_outcome (items_from (length x.sent + 1) (asked c v m ∷ []))
    → Happens x (record x { parties = record x.parties { clients = cs }; sent = s }) (event.Append c v writes reads ops) o
built_happens x cs s c v writes reads ops m o none clients is more said =
    let new : Shown = record x { parties = record x.parties { clients = cs }; sent = s } in
    happens_by x new plain (event.Append c v writes reads ops) o (λ w. tt)
    (λ w. let P : Option BuildFault → Type 0 = λ r. o ≡ submission_outcome (seen x w) (submission (seen x w) c v writes reads ops) r in subst P (sym none) (rw (said, is) refl))
    (λ w. let P : Option BuildFault → Type 0 = λ r. Shows new (submitted (seen x w) c (submission (seen x w) c v writes reads ops) r) in subst P (sym none) (rw (more, is, clients) refl))

pub refused_happens : (x : Shown) (cs : List ClientState) (c v : ℕ) (writes reads : List (List ℕ)) (ops : List ℕ) (fault : BuildFault)
    → build_refusal (clients_of x.parties.clients c) writes reads ops ≡ Some fault → clients_of cs ≡ clients_of x.parties.clients
    → Happens x (record x { parties = record x.parties { clients = cs } }) (event.Append c v writes reads ops) (outcome.Refused fault)
refused_happens x cs c v writes reads ops fault refused clients =
    let new : Shown = record x { parties = record x.parties { clients = cs } } in
    happens_by x new plain (event.Append c v writes reads ops) (outcome.Refused fault) (λ w. tt)
    (λ w. let P : Option BuildFault → Type 0 = λ r. outcome.Refused fault ≡ submission_outcome (seen x w) (submission (seen x w) c v writes reads ops) r in subst P (sym refused) refl)
    (λ w. let P : Option BuildFault → Type 0 = λ r. Shows new (submitted (seen x w) c (submission (seen x w) c v writes reads ops) r) in subst P (sym refused) (rw clients refl))

-- ---- crashes and restarts

pub crashed_happens : (x : Shown) (ns : List ReplicaState) (fs : List (ℕ → List ℕ)) (bytes : ℕ → List ℕ) (i : ℕ) (s : Status) → nodes_of ns ≡ put (nodes_of x.parties.nodes) i (unstaged (nodes_of x.parties.nodes i)) → files_of fs ≡ put (files_of x.parties.files) i bytes
    → IsShown (unstaged (nodes_of x.parties.nodes i)) s → Happens x (record x { parties = record x.parties { nodes = ns; files = fs } }) (event.Crash i) (outcome.Node i s.promised s.adopted s.low s.length)
crashed_happens x ns fs bytes i s nodes files status =
    happens_by x (record x { parties = record x.parties { nodes = ns; files = fs } }) (record { torn = fresh_replica; files = bytes }) (event.Crash i) (outcome.Node i s.promised s.adopted s.low s.length) (λ w. tt)
    (λ w. rw (status.promised, status.adopted, status.low, status.length) refl) (λ w. rw (nodes, files) refl)

pub restarted_happens : (x : Shown) (ss : List ServerState) (ks : List (Option ℕ)) (v : ℕ) → servers_of ss ≡ put (servers_of x.parties.servers) v idle_server → numbers_of ks ≡ put (numbers_of x.kept) v None
    → Happens x (record x { parties = record x.parties { servers = ss }; kept = ks }) (event.Restart v) (outcome.Idle v)
restarted_happens x ss ks v servers kept =
    happens_by x (record x { parties = record x.parties { servers = ss }; kept = ks }) plain (event.Restart v) (outcome.Idle v) (λ w. tt) (λ w. refl) (λ w. rw (servers, kept) refl)

pub rebooted_happens : (x : Shown) (cs : List ClientState) (c : ℕ) → clients_of cs ≡ put (clients_of x.parties.clients) c (rebooted (clients_of x.parties.clients c))
    → Happens x (record x { parties = record x.parties { clients = cs } }) (event.Reboot c) (outcome.Client c 0)
rebooted_happens x cs c clients =
    happens_by x (record x { parties = record x.parties { clients = cs } }) plain (event.Reboot c) (outcome.Client c 0) (λ w. tt) (λ w. refl) (λ w. rw clients refl)

-- ---- what is shown

pub showed_happens : (x : Shown) (i : ℕ) (s : Status) → IsShown (nodes_of x.parties.nodes i) s → Happens x x (event.Show i) (outcome.Node i s.promised s.adopted s.low s.length)
showed_happens x i s status = happens_by x x plain (event.Show i) (outcome.Node i s.promised s.adopted s.low s.length) (λ w. tt) (λ w. rw (status.promised, status.adopted, status.low, status.length) refl) (λ w. refl)

pub server_happens : (x : Shown) (v : ℕ) (o : Outcome) → o ≡ server_outcome v (config_of x.parties.cluster) (servers_of x.parties.servers v) → Happens x x (event.Server v) o
server_happens x v o is = happens_by x x plain (event.Server v) o (λ w. tt) (λ w. is) (λ w. refl)

pub app_happens : (x : Shown) (c : ℕ) (o : Outcome) → o ≡ app_outcome c (clients_of x.parties.clients c) → Happens x x (event.App c) o
app_happens x c o is = happens_by x x plain (event.App c) o (λ w. tt) (λ w. is) (λ w. refl)

pub dumped_happens : (x : Shown) (i file at : ℕ) (o : Outcome) → o ≡ dump_outcome (files_of x.parties.files i file) at → Happens x x (event.Dump i file at) o
dumped_happens x i file at o is = happens_by x x plain (event.Dump i file at) o (λ w. tt) (λ w. is) (λ w. refl)

-- ---- deliveries

-- what a delivery leaves as it was
record Keeps (w v : WorldState) : Type 0 where
  number : v.number ≡ w.number
  kept : v.kept ≡ w.kept
  sent : v.sent ≡ w.sent
  cursor : v.cursor ≡ w.cursor

same : (w : WorldState) → Keeps w w
same w = record { number = refl; kept = refl; sent = refl; cursor = refl }

taken_keeps : (w : WorldState) (files : ℕ → List ℕ) (from to : Party) (m : Mail) → Keeps w (taken w files from to m)
taken_keeps w files from (party.Node i) (mail.ToNode m) = either (Keeps w) (is_within w.cluster.nodes i) _ w (record { number = refl; kept = refl; sent = refl; cursor = refl }) (same w)
taken_keeps w files from (party.Server i) (mail.ToNode m) = same w
taken_keeps w files from (party.Client i) (mail.ToNode m) = same w
taken_keeps w files (party.Node i) (party.Server s) (mail.FromNode m) = either (Keeps w) (is_within w.cluster.nodes i && is_within w.cluster.servers s) (with_server w s (server_after (config_of w.cluster) (w.servers s) i m)) w (record { number = refl; kept = refl; sent = refl; cursor = refl }) (same w)
taken_keeps w files (party.Node i) (party.Node s) (mail.FromNode m) = same w
taken_keeps w files (party.Node i) (party.Client s) (mail.FromNode m) = same w
taken_keeps w files (party.Server i) to (mail.FromNode m) = same w
taken_keeps w files (party.Client i) to (mail.FromNode m) = same w
taken_keeps w files from (party.Server s) (mail.ToServer m) = either (Keeps w) (is_within w.cluster.servers s) _ w (record { number = refl; kept = refl; sent = refl; cursor = refl }) (same w)
taken_keeps w files from (party.Node s) (mail.ToServer m) = same w
taken_keeps w files from (party.Client s) (mail.ToServer m) = same w
taken_keeps w files from (party.Client c) (mail.FromServer m) = either (Keeps w) (is_within w.cluster.clients c) _ w (record { number = refl; kept = refl; sent = refl; cursor = refl }) (same w)
taken_keeps w files from (party.Node c) (mail.FromServer m) = same w
taken_keeps w files from (party.Server c) (mail.FromServer m) = same w

shows_from : (x : Shown) (z : WorldState) → HasParties x.parties z → z.number ≡ x.number → z.kept ≡ numbers_of x.kept → z.sent ≡ x.sent → z.cursor ≡ x.cursor → Shows x z
shows_from x z has number kept sent cursor =
    let F : WorldState → ℕ → (ℕ → Option ℕ) → List Envelope → ℕ → WorldState = λ v n k s c. record v { number = n; kept = k; sent = s; cursor = c } in
    let y : WorldState = with_parties x.parties z in
    ap (λ (v : WorldState). F v z.number z.kept z.sent z.cursor) has
    ∙ (ap (λ n. F y n z.kept z.sent z.cursor) number
    ∙ (ap (λ k. F y x.number k z.sent z.cursor) kept
    ∙ (ap (λ s. F y x.number (numbers_of x.kept) s z.cursor) sent
    ∙ ap (λ c. F y x.number (numbers_of x.kept) x.sent c) cursor)))

delivered_shows : (x : Shown) (p : Parties) (s : List Envelope) (e : Envelope) (given : Got) (d : Delivers x.parties p e.from e.to e.message given) → s ≡ x.sent ++ made_by given → (w : WorldState) → Shows (record x { parties = p; sent = s }) (delivered (seen x w) d.files (Some e))
delivered_shows x p s e given d more w =
    let v : WorldState = seen x w in
    let y : WorldState = taken v d.files e.from e.to e.message in
    let keeps = taken_keeps v d.files e.from e.to e.message in
    let has : HasParties p y = d.leads v refl in
    let l : List Envelope = sends v e.from e.to e.message in
    shows_from (record x { parties = p; sent = s }) (with_sent y l) (ap (λ (u : WorldState). record u { sent = y.sent ++ l }) has) keeps.number keeps.kept
    (ap (λ t. t ++ l) keeps.sent ∙ (ap (λ t. x.sent ++ t) (sym (d.made v refl)) ∙ sym more)) keeps.cursor

abbrev pub post_of : Shown → Post
post_of x = record { sent = x.sent; cursor = x.cursor }

abbrev pub delivery_fate : (x p : Parties) (e : Envelope) (given : Got) → Delivers x p e.from e.to e.message given → Fate
delivery_fate x p e given d = record { torn = fresh_replica; files = d.files }

pub delivered_happens : (x : Shown) (p : Parties) (s : List Envelope) (k : ℕ) (e : Envelope) (given : Got) (o : Outcome) → envelope_at (post_of x) k ≡ Some e → Delivers x.parties p e.from e.to e.message given → s ≡ x.sent ++ made_by given
    → o ≡ outcome_got (length x.sent) given → Happens x (record x { parties = p; sent = s }) (event.Deliver k) o
delivered_happens x p s k e given o found d more said =
    let new : Shown = record x { parties = p; sent = s } in
    happens_by x new (delivery_fate x.parties p e given d) (event.Deliver k) o (λ w. tt)
    (λ w. said ∙ (d.gives (seen x w) refl ∙ sym (ap (delivery_outcome (seen x w)) found)))
    (λ w. let P : Option Envelope → Type 0 = λ t. Shows new (delivered (seen x w) d.files t) in subst P (sym found) (delivered_shows x p s e given d more w))

pub next_happens : (x : Shown) (p : Parties) (s : List Envelope) (e : Envelope) (given : Got) (o : Outcome) → envelope_at (post_of x) x.cursor ≡ Some e → Delivers x.parties p e.from e.to e.message given → s ≡ x.sent ++ made_by given
    → o ≡ outcome_got (length x.sent) given → Happens x (record x { parties = p; sent = s; cursor = x.cursor + 1 }) event.Next o
next_happens x p s e given o found d more said =
    let on : Shown = record x { cursor = x.cursor + 1 } in
    let new : Shown = record x { parties = p; sent = s; cursor = x.cursor + 1 } in
    happens_by x new (delivery_fate x.parties p e given d) event.Next o (λ w. tt)
    (λ w. said ∙ (d.gives (seen x w) refl ∙ sym (ap (delivery_outcome (seen x w)) found)))
    (λ w. let P : Option Envelope → Type 0 = λ t. Shows new (delivered (advanced (seen x w) t) d.files t) in subst P (sym found) (delivered_shows on p s e given d more w))

pub undelivered_happens : (x : Shown) (k : ℕ) → envelope_at (post_of x) k ≡ None → Happens x x (event.Deliver k) outcome.NoEnvelope
undelivered_happens x k none = happens_by x x plain (event.Deliver k) outcome.NoEnvelope (λ w. tt) (λ w. sym (ap (delivery_outcome (seen x w)) none)) (λ w. let P : Option Envelope → Type 0 = λ t. Shows x (delivered (seen x w) no_files t) in subst P (sym none) refl)

pub no_next_happens : (x : Shown) → envelope_at (post_of x) x.cursor ≡ None → Happens x x event.Next outcome.NoEnvelope
no_next_happens x none = happens_by x x plain event.Next outcome.NoEnvelope (λ w. tt) (λ w. sym (ap (delivery_outcome (seen x w)) none)) (λ w. let P : Option Envelope → Type 0 = λ t. Shows x (delivered (advanced (seen x w) t) no_files t) in subst P (sym none) refl)

pub no_skip_happens : (x : Shown) → envelope_at (post_of x) x.cursor ≡ None → Happens x x event.Skip outcome.NoEnvelope
no_skip_happens x none = happens_by x x plain event.Skip outcome.NoEnvelope (λ w. tt) (λ w. sym (ap (skip_outcome (seen x w)) none)) (λ w. let P : Option Envelope → Type 0 = λ t. Shows x (advanced (seen x w) t) in subst P (sym none) refl)

pub skipped_happens : (x : Shown) (e : Envelope) → envelope_at (post_of x) x.cursor ≡ Some e → Happens x (record x { cursor = x.cursor + 1 }) event.Skip (outcome.Skipped x.cursor)
skipped_happens x e found =
    let new : Shown = record x { cursor = x.cursor + 1 } in
    happens_by x new plain event.Skip (outcome.Skipped x.cursor) (λ w. tt) (λ w. sym (ap (skip_outcome (seen x w)) found)) (λ w. let P : Option Envelope → Type 0 = λ t. Shows new (advanced (seen x w) t) in subst P (sym found) refl)

none_some : {A : Type 0} (x : A) → None ≡ Some x → ⊥
none_some x is = let e : None ≡ Some x = is in cc

-- past an envelope the cursor goes on, where envelopes are few
within_sent : {A : Type 0} (xs : List A) (k : ℕ) (x : A) → slice_get xs k ≡ Some x → k < length xs
within_sent [] k x is = absurd (none_some x is)
within_sent (y ∷ xs) zero x is = omega arith
within_sent (y ∷ xs) (suc k) x is = let rest = within_sent xs k x is in omega (arith, rest)

moved_by : (p : Post) (a b : Bool) → a ≡ true → b ≡ true → (if a && b then record p { cursor = p.cursor + 1 } else p) ≡ record p { cursor = p.cursor + 1 }
moved_by p a b first second = rw (first, second) refl

moved_at : (sent : List Envelope) (cursor : ℕ) (e : Envelope) → envelope_at (record { sent = sent; cursor = cursor }) cursor ≡ Some e → length sent < 2 ^ 32 - 1 → moved_on (record { sent = sent; cursor = cursor }) ≡ record { sent = sent; cursor = cursor + 1 }
moved_at sent zero e found few = absurd (none_some e found)
moved_at sent (suc k) e found few =
    let within = within_sent sent k e found in
    let first : nat_lt (suc k) (2 ^ 32 - 1) ≡ true = grind (arith, nat_tests, within, few) in
    let second : nat_lt (suc k) (length sent + 1) ≡ true = grind (arith, nat_tests, within) in
    moved_by (record { sent = sent; cursor = suc k }) (nat_lt (suc k) (2 ^ 32 - 1)) (nat_lt (suc k) (length sent + 1)) first second

pub moved : (p : Post) (e : Envelope) → envelope_at p p.cursor ≡ Some e → length p.sent < 2 ^ 32 - 1 → moved_on p ≡ record p { cursor = p.cursor + 1 }
moved p e found few = moved_at p.sent p.cursor e found few

-- ---- a delivery to a node that stops within its step

-- the envelope is a request to a node of the cluster
target_is : (x : Shown) (k i : ℕ) (e : Envelope) (m : ToNode) (w : WorldState) → envelope_at (post_of x) k ≡ Some e → e.to ≡ party.Node i → e.message ≡ mail.ToNode m → is_within x.parties.cluster.nodes i ≡ true
    → target_of (seen x w) (envelope_of (seen x w) k) ≡ Some (i, m)
target_is x k i e m w found to message within =
    let P : Party → Mail → Type 0 = λ t n. request_at (seen x w) t n ≡ Some (i, m) in
    ap (target_of (seen x w)) found ∙ subst (λ t. P t e.message) (sym to) (subst (λ n. P (party.Node i) n) (sym message) (rw within refl))

pub torn_happens : (x : Shown) (ns : List ReplicaState) (fs : List (ℕ → List ℕ)) (bytes : ℕ → List ℕ) (k keep i : ℕ) (e : Envelope) (m : ToNode) (after : ReplicaState) (s : Status)
    → envelope_at (post_of x) k ≡ Some e → e.to ≡ party.Node i → e.message ≡ mail.ToNode m → is_within x.parties.cluster.nodes i ≡ true → IsCrashOf (nodes_of x.parties.nodes i) m after
    → nodes_of ns ≡ put (nodes_of x.parties.nodes) i after → files_of fs ≡ put (files_of x.parties.files) i bytes → IsShown after s
    → Happens x (record x { parties = record x.parties { nodes = ns; files = fs } }) (event.Tear k keep) (outcome.Torn i s.promised s.adopted s.low s.length)
torn_happens x ns fs bytes k keep i e m after s found to message within crash nodes files status =
    let fate : Fate = record { torn = after; files = bytes } in
    happens_by x (record x { parties = record x.parties { nodes = ns; files = fs } }) fate (event.Tear k keep) (outcome.Torn i s.promised s.adopted s.low s.length)
    (λ w. rw (target_is x k i e m w found to message within) crash)
    (λ w. rw (target_is x k i e m w found to message within, status.promised, status.adopted, status.low, status.length) refl)
    (λ w. rw (target_is x k i e m w found to message within, nodes, files) refl)

-- there is no such request
no_target : (x : Shown) (k : ℕ) (w : WorldState) → ((e : Envelope) (m : ToNode) (i : ℕ) → envelope_at (post_of x) k ≡ Some e → e.message ≡ mail.ToNode m → e.to ≡ party.Node i → is_within x.parties.cluster.nodes i ≡ false)
    → target_of (seen x w) (envelope_of (seen x w) k) ≡ None
no_target x k w out = by (envelope_at (post_of x) k) out
  where
    at : (to : Party) (n : Mail) → ((m : ToNode) (i : ℕ) → n ≡ mail.ToNode m → to ≡ party.Node i → is_within x.parties.cluster.nodes i ≡ false) → request_at (seen x w) to n ≡ None
    at (party.Node i) (mail.ToNode m) none = rw (none m i refl refl) refl
    at (party.Server i) (mail.ToNode m) none = refl
    at (party.Client i) (mail.ToNode m) none = refl
    at (party.Node i) (mail.FromNode m) none = refl
    at (party.Server i) (mail.FromNode m) none = refl
    at (party.Client i) (mail.FromNode m) none = refl
    at (party.Node i) (mail.ToServer m) none = refl
    at (party.Server i) (mail.ToServer m) none = refl
    at (party.Client i) (mail.ToServer m) none = refl
    at (party.Node i) (mail.FromServer m) none = refl
    at (party.Server i) (mail.FromServer m) none = refl
    at (party.Client i) (mail.FromServer m) none = refl

    by : (o : Option Envelope) → ((e : Envelope) (m : ToNode) (i : ℕ) → o ≡ Some e → e.message ≡ mail.ToNode m → e.to ≡ party.Node i → is_within x.parties.cluster.nodes i ≡ false) → target_of (seen x w) o ≡ None
    by None none = refl
    by (Some e) none = at e.to e.message (λ m i is to. none e m i refl is to)

pub untorn_happens : (x : Shown) (k keep : ℕ) → ((e : Envelope) (m : ToNode) (i : ℕ) → envelope_at (post_of x) k ≡ Some e → e.message ≡ mail.ToNode m → e.to ≡ party.Node i → is_within x.parties.cluster.nodes i ≡ false)
    → Happens x x (event.Tear k keep) outcome.NoEnvelope
untorn_happens x k keep out =
    happens_by x x plain (event.Tear k keep) outcome.NoEnvelope (λ w. rw (no_target x k w out) tt) (λ w. rw (no_target x k w out) refl) (λ w. rw (no_target x k w out) refl)

-- ---- a step of the definitions' world

pub leads_to : (x y : Shown) (e : Event) (o : Outcome) → Happens x y e o → (w : WorldState) → Shows x w → Goes y w e o
leads_to x y e o h w has = record {
  after = happens w h.fate e;
  step = record { fate = h.fate; allowed = h.allowed w has; outcome_is = h.gives w has; new_is = refl };
  shows = h.leads w has;
}
