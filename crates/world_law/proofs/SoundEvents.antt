-- Sessions, promises and envelopes: what every event keeps.
use Rattle.std.proofs.Common.{◌≡◌, ◌≢◌, ◌⊎◌, ℕ, ◌+◌, ◌<◌, ◌≤◌, ◌^◌, List, [], ◌∷◌, ◌++◌, arith, refl, Option, Some, None, Bool, true, false, inl, inr, sym, ◌∙◌, ap, map, filter}
use Rattle.std.specs.Prelude.{◌==◌, ◌&&◌, if◌then◌else◌}
use Rattle.std.specs.List.{AllByRecursion}
use Rattle.std.proofs.lemmas.Bool.Decides.{nat_tests}
use Rattle.std.proofs.lemmas.List.{append-nil}
use Rattle.net_model.specs.declared.event.Event.{Event}
use Rattle.net_model.specs.declared.event.Event.TheVariants as event
use Rattle.net_model.specs.declared.outcome.Outcome.{Outcome}
use Rattle.net_model.specs.declared.outcome.Outcome.TheVariants.{Won}
use Rattle.session_register.specs.declared.register.Cas.{Cas as CasAnswer}
use Rattle.session_register.specs.declared.register.Cas.TheVariants.{Won as CasWon, Lost, Exhausted}
use Rattle.proto_model.specs.declared.message.Phase.TheVariants as phase
use Rattle.proto_model.specs.declared.message.ToNode.{ToNode}
use Rattle.proto_model.specs.declared.message.ToNode.TheVariants.{Open, Fetch, Stage, Adopt, Append, Low}
use Rattle.proto_model.specs.declared.refusal.BuildFault.{BuildFault}
use Rattle.proto_model.specs.Crashes.{unstaged, IsCut, IsCrashOf}
use Rattle.client_core.specs.Building.{build_refusal}
use Rattle.proto_model.specs.declared.message.FromNode.{FromNode}
use Rattle.proto_model.specs.declared.client_message.ToServer.{ToServer}
use Rattle.proto_model.specs.declared.client_message.FromServer.{FromServer}
use Rattle.net_model.specs.declared.mail.Party.{Party}
use Rattle.net_model.specs.declared.mail.Party.TheVariants as party
use Rattle.net_model.specs.declared.mail.Mail.{Mail}
use Rattle.net_model.specs.declared.mail.Mail.TheVariants as mail
use Rattle.net_model.specs.declared.mail.Envelope.{Envelope}
use Rattle.proto_model.specs.Sanity.{request_session}
use Rattle.proto_model.specs.Tables.{put}
use Rattle.proto_model.specs.Quorums.{is_within}
use Rattle.session_register.specs.Registers.{cas_answer, number_after, last_session}
use Rattle.proto_model.specs.Replicas.{ReplicaState}
use Rattle.client_core.specs.Clients.{ClientState, after_build}
use Rattle.proto_model.specs.Servers.{ServerState, Waiting, idle_server, drawn, server_after, server_answers}
use Rattle.proto_model.specs.Serving.{served_after, served_answers}
use Rattle.world_law.specs.Worlds.{WorldState, config_of, with_sent, with_node, with_server, envelope_of}
use Rattle.world_law.specs.Deliveries.{to_node_taken, from_node_taken, to_server_taken, from_server_taken, told, is_client, answer_from, taken, sends, delivered, request_at, target_of}
use Rattle.world_law.specs.Steps.{Fate, Allows, wasted, torn_at, MayBeTorn, restarted, submitted, happens, after_cas, after_answer, ticked, envelope_from, advanced, asked, submission}
use Rattle.world_law.specs.Outcomes.{cas_outcome}
use Rattle.world_law.specs.Runs.{WorldStep}
use Rattle.world_law.specs.Soundness.{HaveOwnSessions}
use Rattle.proto_model.proofs.TableLemmas.{all_put, same_index, other_index, either, AllByRecursion-more, AllByRecursion-append}
use Rattle.world_law.proofs.Events.{envelope_get}
use Rattle.world_law.proofs.SoundSteps.{IsKnown, replica_known, server_session, server_idle, served_session, served_idle, messages_of}

-- ---- the register

-- a table's new entry, or an old one
put_some : (f : ℕ → Option ℕ) (i : ℕ) (x : Option ℕ) (k from : ℕ) → put f i x k ≡ Some from → (x ≡ Some from) ⊎ (f k ≡ Some from)
put_some f i x k from =
    elim (k == i) as (λ b. (if b then x else f k) ≡ Some from → (x ≡ Some from) ⊎ (f k ≡ Some from)) [ true ↦ λ p. inl p | false ↦ λ p. inr p ]

-- an answer keeps the number in its range, and never lowers it
pub record Grows (old new : ℕ) : Type 0 where
  pub small : new < 2 ^ 48
  pub no_less : old ≤ new

small_next : (number : ℕ) → number < 2 ^ 48 → (number == last_session) ≡ false → number + 1 < 2 ^ 48
small_next number small other = grind (arith, nat_tests)

cas_grows : (number from : ℕ) → number < 2 ^ 48 → Grows number (number_after number (cas_answer number from))
cas_grows number from small = same (number == from)
  where
    last : (b : Bool) → (number == last_session) ≡ b → Grows number (number_after number (if b then Exhausted else CasWon (number + 1)))
    last true is = record { small = small; no_less = omega arith }
    last false is = record { small = small_next number small is; no_less = omega arith }

    same : (b : Bool) → Grows number (number_after number (if b then (if number == last_session then Exhausted else CasWon (number + 1)) else Lost number))
    same true = last (number == last_session) refl
    same false = record { small = small; no_less = omega arith }

-- what is won is one more than the register's number
pub cas_wins : (number from session : ℕ) → cas_outcome (cas_answer number from) ≡ Won session
    → (session ≡ number + 1) × (number_after number (cas_answer number from) ≡ session)
cas_wins number from session = same (number == from)
  where
    last : (b : Bool) → cas_outcome (if b then Exhausted else CasWon (number + 1)) ≡ Won session
        → (session ≡ number + 1) × (number_after number (if b then Exhausted else CasWon (number + 1)) ≡ session)
    last true won = cc
    last false won = let e : number + 1 ≡ session = cc in (cc, e)

    same : (b : Bool) → cas_outcome (if b then (if number == last_session then Exhausted else CasWon (number + 1)) else Lost number) ≡ Won session
        → (session ≡ number + 1) × (number_after number
        (if b then (if number == last_session then Exhausted else CasWon (number + 1)) else Lost number) ≡ session)
    same true won = last (number == last_session) won
    same false won = cc

-- ---- what every world keeps

-- an envelope asks for no session above the number
abbrev IsAsked : ℕ → Mail → Type 0
IsAsked number (mail.ToNode m) = request_session m ≤ number
IsAsked number (mail.FromNode m) = Unit {0}
IsAsked number (mail.ToServer m) = Unit {0}
IsAsked number (mail.FromServer m) = Unit {0}

abbrev AreAsked : ℕ → List Envelope → Type 0
AreAsked number sent = AllByRecursion (λ (e : Envelope). IsAsked number e.message) sent

pub record Known (w : WorldState) : Type 0 where
  pub number : w.number < 2 ^ 48
  pub kept : (server from : ℕ) → w.kept server ≡ Some from → from ≤ w.number
  pub nodes : (node : ℕ) → IsKnown w.number (w.nodes node)
  pub servers : (server : ℕ) → (w.servers server).session ≤ w.number
  pub sessions : HaveOwnSessions w.servers
  pub sent : AreAsked w.number w.sent

asked_more : (m n : ℕ) → m ≤ n → (mail : Mail) → IsAsked m mail → IsAsked n mail
asked_more m n less (mail.ToNode a) is = omega (arith, less, is)
asked_more m n less (mail.FromNode a) is = tt
asked_more m n less (mail.ToServer a) is = tt
asked_more m n less (mail.FromServer a) is = tt

-- a server that has no other's session
own_put : (f : ℕ → ServerState) (i : ℕ) (x : ServerState) → HaveOwnSessions f
    → ((v : ℕ) → v ≢ i → x.phase ≢ phase.Idle → (f v).phase ≢ phase.Idle → x.session ≢ (f v).session) → HaveOwnSessions (put f i x)
own_put f i x own other u v apart = by_tests (u == i) (v == i) refl refl
  where
    by_tests : (b c : Bool) → (u == i) ≡ b → (v == i) ≡ c → (if b then x else f u).phase ≢ phase.Idle
        → (if c then x else f v).phase ≢ phase.Idle → (if b then x else f u).session ≢ (if c then x else f v).session
    by_tests true true is is' p q = absurd (apart (same_index u i is ∙ sym (same_index v i is')))
    by_tests true false is is' p q = other v (other_index v i is') p q
    by_tests false true is is' p q = λ same. other u (other_index u i is) q p (sym same)
    by_tests false false is is' p q = own u v apart p q

-- ---- each event keeps it, and the number never falls

pub record Keeps (old new : WorldState) : Type 0 where
  pub holds : Known new
  pub no_less : old.number ≤ new.number
  pub more : List Envelope
  pub sent : new.sent ≡ old.sent ++ more

nothing_keeps : (w : WorldState) → Known w → Keeps w w
nothing_keeps w holds = record { holds = holds; no_less = omega arith; more = []; sent = sym (append-nil w.sent) }

below_kept : (w : WorldState) (server : ℕ) (x : Option ℕ) (number : ℕ) → Known w → w.number ≤ number
    → ((n : ℕ) → x ≡ Some n → n ≤ number) → (v n : ℕ) → put w.kept server x v ≡ Some n → n ≤ number
below_kept w server x number holds less new v n is = by_case (put_some w.kept server x v n is)
  where
    by_case : (x ≡ Some n) ⊎ (w.kept v ≡ Some n) → n ≤ number
    by_case (inl same) = new n same
    by_case (inr same) = omega (arith, holds.kept v n same, less)

none_kept : (number n : ℕ) → ◌≡◌ {A = Option ℕ} None (Some n) → n ≤ number
none_kept number n never = cc

-- a compare-and-set that is not won
answer_kept : (w : WorldState) (server : ℕ) → Known w → Keeps w (record w { kept = put w.kept server None })
answer_kept w server holds = record {
  holds = record {
    number = holds.number;
    kept = below_kept w server None w.number holds (omega arith) (none_kept w.number);
    nodes = holds.nodes;
    servers = holds.servers;
    sessions = holds.sessions;
    sent = holds.sent;
  };
  no_less = omega arith;
  more = [];
  sent = sym (append-nil w.sent);
}

-- one that is
answer_won : (w : WorldState) (server session : ℕ) → Known w → w.number < session → session < 2 ^ 48
    → Keeps w (after_answer w server (CasWon session))
answer_won w server session holds above small = record {
  holds = record {
    number = small;
    kept = below_kept w server None session holds (omega arith) (none_kept session);
    nodes = λ i. let known = holds.nodes i in record { adopted = known.adopted; promised = omega (arith, known.promised, above) };
    servers = all_put (λ (sv : ServerState). sv.session ≤ session) w.servers server (drawn session) (omega arith) (λ v. omega (arith, holds.servers v, above));
    sessions = own_put w.servers server (drawn session) holds.sessions (λ v other p q same. absurd (omega (arith, holds.servers v, above, same)));
    sent = AllByRecursion-more _ _ w.sent (λ e. asked_more w.number session (omega arith) e.message) holds.sent;
  };
  no_less = omega arith;
  more = [];
  sent = sym (append-nil w.sent);
}

cas_keeps : (w : WorldState) (server : ℕ) (kept : Option ℕ) → Known w → Keeps w (after_cas w server kept)
cas_keeps w server None holds = nothing_keeps w holds
cas_keeps w server (Some from) holds = by_answer (cas_answer w.number from) refl
  where
    by_answer : (answer : CasAnswer) → cas_answer w.number from ≡ answer → Keeps w (after_answer w server answer)
    by_answer (CasWon session) is =
        let wins = cas_wins w.number from session (ap cas_outcome is) in
        let grows = cas_grows w.number from holds.number in
        answer_won w server session holds (omega (arith, wins.0)) (omega (arith, grows.small, wins.1))
    by_answer (Lost number) is = answer_kept w server holds
    by_answer Exhausted is = answer_kept w server holds

-- one of which the server gets no answer
waste_keeps : (w : WorldState) (server : ℕ) (kept : Option ℕ) → Known w → Keeps w (wasted w server kept)
waste_keeps w server None holds = nothing_keeps w holds
waste_keeps w server (Some from) holds =
    let number = number_after w.number (cas_answer w.number from) in
    let grows = cas_grows w.number from holds.number in
    record {
      holds = record {
        number = grows.small;
        kept = below_kept w server None number holds grows.no_less (none_kept number);
        nodes = λ i. let known = holds.nodes i in record { adopted = known.adopted; promised = omega (arith, known.promised, grows.no_less) };
        servers = λ v. omega (arith, holds.servers v, grows.no_less);
        sessions = holds.sessions;
        sent = AllByRecursion-more _ _ w.sent (λ e. asked_more w.number number grows.no_less e.message) holds.sent;
      };
      no_less = grows.no_less;
      more = [];
      sent = sym (append-nil w.sent);
    }

-- envelopes are sent
sent_keeps : (w : WorldState) (envelopes : List Envelope) → Known w → AreAsked w.number envelopes → Keeps w (with_sent w envelopes)
sent_keeps w envelopes holds asked = record {
  holds = record {
    number = holds.number;
    kept = holds.kept;
    nodes = holds.nodes;
    servers = holds.servers;
    sessions = holds.sessions;
    sent = AllByRecursion-append _ w.sent envelopes holds.sent asked;
  };
  no_less = omega arith;
  more = envelopes;
  sent = refl;
}

asked_from : (server number s : ℕ) (messages : List (ℕ × ToNode)) → s ≤ number
    → AllByRecursion (λ (x : ℕ × ToNode). request_session x.1 ≡ s) messages → AreAsked number (map (envelope_from server) messages)
asked_from server number s [] small all = tt
asked_from server number s (m ∷ messages) small all = (omega (arith, all.0, small), asked_from server number s messages small all.1)

-- a node takes part in an event
node_holds : (w : WorldState) (i : ℕ) (after : ReplicaState) (files : ℕ → List ℕ) → Known w → IsKnown w.number after
    → Known (with_node w i after files)
node_holds w i after files holds known = record {
  number = holds.number;
  kept = holds.kept;
  nodes = all_put (IsKnown w.number) w.nodes i after known holds.nodes;
  servers = holds.servers;
  sessions = holds.sessions;
  sent = holds.sent;
}

-- a server changes, and its session doesn't
server_holds : (w : WorldState) (v : ℕ) (sv : ServerState) → Known w → sv.session ≡ (w.servers v).session
    → ((w.servers v).phase ≡ phase.Idle → sv.phase ≡ phase.Idle) → Known (with_server w v sv)
server_holds w v sv holds same idle = record {
  number = holds.number;
  kept = holds.kept;
  nodes = holds.nodes;
  servers = all_put (λ (x : ServerState). x.session ≤ w.number) w.servers v sv (omega (arith, same, holds.servers v)) holds.servers;
  sessions = own_put w.servers v sv holds.sessions
      (λ u other p q is. holds.sessions v u (λ e. other (sym e)) (λ none. p (idle none)) q (sym same ∙ is));
  sent = holds.sent;
}

to_node_holds : (w : WorldState) (files : ℕ → List ℕ) (to : Party) (m : ToNode) → Known w → request_session m ≤ w.number
    → Known (to_node_taken w files to m)
to_node_holds w files (party.Node i) m holds small =
    either Known (is_within w.cluster.nodes i) _ _ (node_holds w i _ files holds (replica_known w.number (w.nodes i) m (holds.nodes i) small)) holds
to_node_holds w files (party.Server v) m holds small = holds
to_node_holds w files (party.Client c) m holds small = holds

from_node_holds : (w : WorldState) (from to : Party) (m : FromNode) → Known w → Known (from_node_taken w from to m)
from_node_holds w (party.Node i) (party.Server v) m holds =
    let c = config_of w.cluster in
    either Known (is_within w.cluster.nodes i && is_within w.cluster.servers v) _ _
    (server_holds w v (server_after c (w.servers v) i m) holds (server_session c (w.servers v) i m) (server_idle c (w.servers v) i m)) holds
from_node_holds w (party.Node i) (party.Node j) m holds = holds
from_node_holds w (party.Node i) (party.Client c) m holds = holds
from_node_holds w (party.Server u) to m holds = holds
from_node_holds w (party.Client c) to m holds = holds

to_server_holds : (w : WorldState) (to : Party) (m : ToServer) → Known w → Known (to_server_taken w to m)
to_server_holds w (party.Server v) m holds =
    let c = config_of w.cluster in
    either Known (is_within w.cluster.servers v) _ _
    (server_holds w v (served_after c (w.servers v) m) holds (served_session c (w.servers v) m) (served_idle c (w.servers v) m)) holds
to_server_holds w (party.Node i) m holds = holds
to_server_holds w (party.Client c) m holds = holds

-- clients are no part of it
clients_hold : (w : WorldState) (clients : ℕ → ClientState) → Known w → Known (record w { clients = clients })
clients_hold w clients holds =
    record { number = holds.number; kept = holds.kept; nodes = holds.nodes; servers = holds.servers; sessions = holds.sessions; sent = holds.sent }

from_server_holds : (w : WorldState) (to : Party) (m : FromServer) → Known w → Known (from_server_taken w to m)
from_server_holds w (party.Client c) m holds = either Known (is_within w.cluster.clients c) _ _ (clients_hold w _ holds) holds
from_server_holds w (party.Node i) m holds = holds
from_server_holds w (party.Server v) m holds = holds

taken_holds : (w : WorldState) (files : ℕ → List ℕ) (from to : Party) (m : Mail) → Known w → IsAsked w.number m → Known (taken w files from to m)
taken_holds w files from to (mail.ToNode m) holds asked = to_node_holds w files to m holds asked
taken_holds w files from to (mail.FromNode m) holds asked = from_node_holds w from to m holds
taken_holds w files from to (mail.ToServer m) holds asked = to_server_holds w to m holds
taken_holds w files from to (mail.FromServer m) holds asked = from_server_holds w to m holds

-- a delivery leaves the number and the envelopes
abbrev HasSame : WorldState → WorldState → Type 0
HasSame w x = (x.number ≡ w.number) × (x.sent ≡ w.sent)

taken_same : (w : WorldState) (files : ℕ → List ℕ) (from to : Party) (m : Mail) → HasSame w (taken w files from to m)
taken_same w files from (party.Node i) (mail.ToNode m) = either (HasSame w) (is_within w.cluster.nodes i) _ _ (refl, refl) (refl, refl)
taken_same w files from (party.Server v) (mail.ToNode m) = (refl, refl)
taken_same w files from (party.Client c) (mail.ToNode m) = (refl, refl)
taken_same w files (party.Node i) (party.Server v) (mail.FromNode m) =
    either (HasSame w) (is_within w.cluster.nodes i && is_within w.cluster.servers v) _ _ (refl, refl) (refl, refl)
taken_same w files (party.Node i) (party.Node j) (mail.FromNode m) = (refl, refl)
taken_same w files (party.Node i) (party.Client c) (mail.FromNode m) = (refl, refl)
taken_same w files (party.Server u) to (mail.FromNode m) = (refl, refl)
taken_same w files (party.Client c) to (mail.FromNode m) = (refl, refl)
taken_same w files from (party.Server v) (mail.ToServer m) = either (HasSame w) (is_within w.cluster.servers v) _ _ (refl, refl) (refl, refl)
taken_same w files from (party.Node i) (mail.ToServer m) = (refl, refl)
taken_same w files from (party.Client c) (mail.ToServer m) = (refl, refl)
taken_same w files from (party.Client c) (mail.FromServer m) = either (HasSame w) (is_within w.cluster.clients c) _ _ (refl, refl) (refl, refl)
taken_same w files from (party.Node i) (mail.FromServer m) = (refl, refl)
taken_same w files from (party.Server v) (mail.FromServer m) = (refl, refl)

-- what a delivery sends asks for nothing

told_asked : (number v : ℕ) (waiting : List Waiting) → AreAsked number (map (told v) waiting)
told_asked number v [] = tt
told_asked number v (x ∷ waiting) = (tt, told_asked number v waiting)

answers_asked : (number v : ℕ) (asker : Party) (answers : List FromServer) → AreAsked number (map (answer_from v asker) answers)
answers_asked number v asker [] = tt
answers_asked number v asker (x ∷ answers) = (tt, answers_asked number v asker answers)

sends_asked : (w : WorldState) (from to : Party) (m : Mail) (number : ℕ) → AreAsked number (sends w from to m)
sends_asked w from (party.Node i) (mail.ToNode m) number = either (AreAsked number) (is_within w.cluster.nodes i) _ _ (tt, tt) tt
sends_asked w from (party.Server v) (mail.ToNode m) number = tt
sends_asked w from (party.Client c) (mail.ToNode m) number = tt
sends_asked w (party.Node i) (party.Server v) (mail.FromNode m) number =
    either (AreAsked number) (is_within w.cluster.nodes i && is_within w.cluster.servers v) _ _
    (told_asked number v (filter (is_client w) (server_answers (config_of w.cluster) (w.servers v) i m))) tt
sends_asked w (party.Node i) (party.Node j) (mail.FromNode m) number = tt
sends_asked w (party.Node i) (party.Client c) (mail.FromNode m) number = tt
sends_asked w (party.Server u) to (mail.FromNode m) number = tt
sends_asked w (party.Client c) to (mail.FromNode m) number = tt
sends_asked w from (party.Server v) (mail.ToServer m) number =
    either (AreAsked number) (is_within w.cluster.servers v) _ _ (answers_asked number v from (served_answers (config_of w.cluster) (w.servers v) m)) tt
sends_asked w from (party.Node i) (mail.ToServer m) number = tt
sends_asked w from (party.Client c) (mail.ToServer m) number = tt
sends_asked w from to (mail.FromServer m) number = tt

advanced_holds : (w : WorldState) → Known w → Known (record w { cursor = w.cursor + 1 })
advanced_holds w holds =
    record { number = holds.number; kept = holds.kept; nodes = holds.nodes; servers = holds.servers; sessions = holds.sessions; sent = holds.sent }

delivered_keeps : (w : WorldState) (files : ℕ → List ℕ) (found : Option Envelope) → Known w
    → ((e : Envelope) → found ≡ Some e → IsAsked w.number e.message) → Keeps w (delivered w files found)
delivered_keeps w files None holds asked = nothing_keeps w holds
delivered_keeps w files (Some e) holds asked =
    let y : WorldState = taken w files e.from e.to e.message in
    let same = taken_same w files e.from e.to e.message in
    let after = sent_keeps y (sends w e.from e.to e.message) (taken_holds w files e.from e.to e.message holds (asked e refl))
    (sends_asked w e.from e.to e.message y.number) in
    record {
      holds = after.holds;
      no_less = omega (arith, same.0);
      more = sends w e.from e.to e.message;
      sent = ap (λ s. s ++ sends w e.from e.to e.message) same.1;
    }

next_keeps : (w : WorldState) (files : ℕ → List ℕ) (found : Option Envelope) → Known w
    → ((e : Envelope) → found ≡ Some e → IsAsked w.number e.message) → Keeps w (delivered (advanced w found) files found)
next_keeps w files None holds asked = nothing_keeps w holds
next_keeps w files (Some e) holds asked =
    let x : WorldState = record w { cursor = w.cursor + 1 } in
    let after = delivered_keeps x files (Some e) (advanced_holds w holds) asked in
    record { holds = after.holds; no_less = after.no_less; more = after.more; sent = after.sent }

skip_keeps : (w : WorldState) (found : Option Envelope) → Known w → Keeps w (advanced w found)
skip_keeps w None holds = nothing_keeps w holds
skip_keeps w (Some e) holds = record { holds = advanced_holds w holds; no_less = omega arith; more = []; sent = sym (append-nil w.sent) }

-- a node that stops

crash_known : (n : ℕ) (r : ReplicaState) (m : ToNode) (after : ReplicaState) → IsKnown n r → request_session m ≤ n → IsCrashOf r m after
    → IsKnown n after
crash_known n r m after known small (inl e) = rw e (record { adopted = known.adopted; promised = known.promised })
crash_known n r m after known small (inr (inl e)) =
    let stepped = replica_known n r m known small in rw e (record { adopted = stepped.adopted; promised = stepped.promised })
crash_known n r m after known small (inr (inr c)) = cut_known m c
  where
    cut_known : (m : ToNode) → IsCut r m after → IsKnown n after
    cut_known (Append s batch) c = rw c.new_is (record { adopted = known.adopted; promised = known.promised })
    cut_known (Open s) c = absurd c
    cut_known (Fetch s from max) c = absurd c
    cut_known (Stage s batch) c = absurd c
    cut_known (Adopt s len) c = absurd c
    cut_known (Low s k) c = absurd c

node_keeps : (w : WorldState) (i : ℕ) (after : ReplicaState) (files : ℕ → List ℕ) → Known w → IsKnown w.number after
    → Keeps w (with_node w i after files)
node_keeps w i after files holds known =
    record { holds = node_holds w i after files holds known; no_less = omega arith; more = []; sent = sym (append-nil w.sent) }

request_torn : (w : WorldState) (to : Party) (m : Mail) (fate : Fate) → Known w → IsAsked w.number m → MayBeTorn w (request_at w to m) fate.torn
    → Keeps w (torn_at w (request_at w to m) fate)
request_torn w (party.Node i) (mail.ToNode m) fate holds asked may = by_test (is_within w.cluster.nodes i) may
  where
    by_test : (b : Bool) → MayBeTorn w (if b then Some (i, m) else None) fate.torn → Keeps w (torn_at w (if b then Some (i, m) else None) fate)
    by_test true t = node_keeps w i fate.torn fate.files holds (crash_known w.number (w.nodes i) m fate.torn (holds.nodes i) asked t)
    by_test false t = nothing_keeps w holds
request_torn w (party.Node i) (mail.FromNode m) fate holds asked may = nothing_keeps w holds
request_torn w (party.Node i) (mail.ToServer m) fate holds asked may = nothing_keeps w holds
request_torn w (party.Node i) (mail.FromServer m) fate holds asked may = nothing_keeps w holds
request_torn w (party.Server v) m fate holds asked may = nothing_keeps w holds
request_torn w (party.Client c) m fate holds asked may = nothing_keeps w holds

torn_keeps : (w : WorldState) (found : Option Envelope) (fate : Fate) → Known w → ((e : Envelope) → found ≡ Some e → IsAsked w.number e.message)
    → MayBeTorn w (target_of w found) fate.torn → Keeps w (torn_at w (target_of w found) fate)
torn_keeps w None fate holds asked may = nothing_keeps w holds
torn_keeps w (Some e) fate holds asked may = request_torn w e.to e.message fate holds (asked e refl) may

-- an idle server, which keeps no number
restarted_keeps : (w : WorldState) (v : ℕ) → Known w → Keeps w (restarted w v)
restarted_keeps w v holds = record {
  holds = record {
    number = holds.number;
    kept = below_kept w v None w.number holds (omega arith) (none_kept w.number);
    nodes = holds.nodes;
    servers = all_put (λ (sv : ServerState). sv.session ≤ w.number) w.servers v idle_server (omega arith) holds.servers;
    sessions = own_put w.servers v idle_server holds.sessions (λ u other p q. absurd (p refl));
    sent = holds.sent;
  };
  no_less = omega arith;
  more = [];
  sent = sym (append-nil w.sent);
}

-- what a client sends
submitted_keeps : (w : WorldState) (c : ℕ) (e : Envelope) (refusal : Option BuildFault) → Known w → IsAsked w.number e.message
    → Keeps w (submitted w c e refusal)
submitted_keeps w c e None holds asked =
    let after = sent_keeps (record w { clients = put w.clients c (after_build (w.clients c)) }) (e ∷ []) (clients_hold w _ holds) (asked, tt) in
    record { holds = after.holds; no_less = omega arith; more = e ∷ []; sent = refl }
submitted_keeps w c e (Some fault) holds asked = nothing_keeps w holds

found_asked : (w : WorldState) → Known w → (k : ℕ) (e : Envelope) → envelope_of w k ≡ Some e → IsAsked w.number e.message
found_asked w holds k e is = envelope_get (λ (x : Envelope). IsAsked w.number x.message) w holds.sent k e is

happens_keeps : (w : WorldState) (fate : Fate) (e : Event) → Known w → Allows w e fate → Keeps w (happens w fate e)
happens_keeps w fate (event.Read server) holds may = record {
  holds = record {
    number = holds.number;
    kept = below_kept w server (Some w.number) w.number holds (omega arith) (λ n is. let e : w.number ≡ n = cc in omega arith);
    nodes = holds.nodes;
    servers = holds.servers;
    sessions = holds.sessions;
    sent = holds.sent;
  };
  no_less = omega arith;
  more = [];
  sent = sym (append-nil w.sent);
}
happens_keeps w fate (event.Cas server) holds may = cas_keeps w server (w.kept server) holds
happens_keeps w fate (event.Waste server) holds may = waste_keeps w server (w.kept server) holds
happens_keeps w fate (event.Tick server) holds may =
    sent_keeps w (ticked w server) holds
    (asked_from server w.number (w.servers server).session _ (holds.servers server) (messages_of (config_of w.cluster) (w.servers server) w.cluster.nodes))
happens_keeps w fate event.Next holds may = next_keeps w fate.files (envelope_of w w.cursor) holds (found_asked w holds w.cursor)
happens_keeps w fate event.Skip holds may = skip_keeps w (envelope_of w w.cursor) holds
happens_keeps w fate (event.Deliver k) holds may = delivered_keeps w fate.files (envelope_of w k) holds (found_asked w holds k)
happens_keeps w fate (event.Tear k bytes) holds may = torn_keeps w (envelope_of w k) fate holds (found_asked w holds k) may
happens_keeps w fate (event.Crash node) holds may =
    let known = holds.nodes node in
    node_keeps w node (unstaged (w.nodes node)) fate.files holds (record { adopted = known.adopted; promised = known.promised })
happens_keeps w fate (event.Restart server) holds may = restarted_keeps w server holds
happens_keeps w fate (event.Reboot client) holds may =
    record { holds = clients_hold w _ holds; no_less = omega arith; more = []; sent = sym (append-nil w.sent) }
happens_keeps w fate (event.Append client server writes reads ops) holds may =
    submitted_keeps w client (submission w client server writes reads ops) (build_refusal (w.clients client) writes reads ops) holds tt
happens_keeps w fate (event.Ask client server) holds may = sent_keeps w _ holds (tt, tt)
happens_keeps w fate (event.Flush client server) holds may = sent_keeps w _ holds (tt, tt)
happens_keeps w fate (event.Show node) holds may = nothing_keeps w holds
happens_keeps w fate (event.Server server) holds may = nothing_keeps w holds
happens_keeps w fate (event.App client) holds may = nothing_keeps w holds
happens_keeps w fate (event.Log from) holds may = nothing_keeps w holds
happens_keeps w fate (event.Dump node file at) holds may = nothing_keeps w holds

pub step_keeps : (old : WorldState) (event : Event) (outcome : Outcome) (new : WorldState) → Known old → WorldStep old event outcome new → Keeps old new
step_keeps old event outcome new holds step = rw step.new_is (happens_keeps old step.fate event holds step.allowed)
