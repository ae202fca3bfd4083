-- What an event adds to the votes and the books of a world.
use Rattle.std.proofs.Common.{◌≡◌, ◌∙◌, ◌⊎◌, inl, inr, ℕ, ◌+◌, ◌<◌, ◌≤◌, List, length, Bool, true, false, refl, sym, ap, subst, arith, Option, None, Some}
use Rattle.std.specs.Prelude.{◌&&◌, ◌==◌, if◌then◌else◌}
use Rattle.std.proofs.lemmas.Bool.Decides.{nat_tests}
use Rattle.proto_model.specs.declared.message.Phase.{Phase}
use Rattle.proto_model.specs.declared.message.Phase.TheVariants.{Idle, Opening, Fetching, Repairing, Running, Closed}
use Rattle.proto_model.specs.declared.message.ToNode.{ToNode}
use Rattle.proto_model.specs.declared.refusal.BuildFault.{BuildFault}
use Rattle.proto_model.specs.Tables.{put}
use Rattle.proto_model.specs.Quorums.{is_within}
use Rattle.proto_model.specs.Replicas.{ReplicaState}
use Rattle.proto_model.specs.Crashes.{unstaged}
use Rattle.proto_model.specs.Servers.{Config, ServerState, drawn, has_fetched}
use Rattle.proto_model.proofs.TableLemmas.{either, if_each, same_index}
use Rattle.client_core.specs.Building.{build_refusal}
use Rattle.net_model.specs.declared.mail.Party.{Party}
use Rattle.net_model.specs.declared.mail.Party.TheVariants as party
use Rattle.net_model.specs.declared.mail.Mail.{Mail}
use Rattle.net_model.specs.declared.mail.Mail.TheVariants as mail
use Rattle.net_model.specs.declared.mail.Envelope.{Envelope}
use Rattle.net_model.specs.declared.event.Event.{Event}
use Rattle.net_model.specs.declared.event.Event.TheVariants as event
use Rattle.session_register.specs.declared.register.Cas.{Cas as CasAnswer}
use Rattle.session_register.specs.declared.register.Cas.TheVariants as answer
use Rattle.session_register.specs.Registers.{cas_answer, number_after, last_session}
use Rattle.world_law.specs.Worlds.{WorldState, Book, config_of, envelope_of, book_in, with_server, with_node, with_sent}
use Rattle.world_law.specs.OneLog.{voted}
use Rattle.world_law.specs.Deliveries.{taken, sends, delivered, target_of}
use Rattle.world_law.specs.Steps.{Fate, happens, after_answer, after_cas, wasted, advanced, torn_at, submission, submitted}
use Rattle.world_law.proofs.Votes.{cast_inv}
use Rattle.world_core.specs.Noted.{is_cast_by}

-- the book of a session that changed is that of a server which repairs or runs
pub record ServesBook (w : WorldState) (s : ℕ) : Type 0 where
  pub server : ℕ
  pub within : is_within w.cluster.servers server ≡ true
  pub session : (w.servers server).session ≡ s
  pub fetched : has_fetched (w.servers server).phase ≡ true

-- A new vote is what its node's state tells, and a book that changed is a server's. The number rises by one at most.
pub record Recorded (w v : WorldState) : Type 0 where
  pub votes : (s k i : ℕ) → voted v.votes s k i ≡ true → (voted w.votes s k i ≡ true) ⊎ (is_cast_by v.nodes s k i ≡ true)
  pub books : (s : ℕ) → ((v.books s).log ≡ (w.books s).log) ⊎ ServesBook v s
  pub later : w.number ≤ v.number
  pub once : v.number ≤ w.number + 1

pub no_true : false ≡ true → ⊥
no_true h = let e : false ≡ true = h in cc

same : (w : WorldState) → Recorded w w
same w = record { votes = λ s k i h. inl h; books = λ s. inl refl; later = omega arith; once = omega arith }

-- ---- a node

cast_by : (nodes : ℕ → ReplicaState) (r : ReplicaState) (s k i : ℕ) → nodes i ≡ r → s ≡ r.adopted → k ≤ length r.log → 0 < r.adopted → is_cast_by nodes s k i ≡ true
cast_by nodes r s k i is session fits some = rw is (grind (arith, nat_tests, session, fits, some))

put_same : {A : Type 0} (f : ℕ → A) (i j : ℕ) (x : A) → i ≡ j → put f i x j ≡ x
put_same f i j x same = grind (arith, nat_tests, same)

node_recorded : (w : WorldState) (i : ℕ) (r : ReplicaState) (files : ℕ → List ℕ) → Recorded w (with_node w i r files)
node_recorded w i r files = record {
  votes = λ s k j h. elim (cast_inv w.votes i r s k j h) [
    | inl old ↦ inl old
    | inr new ↦ inr (cast_by (put w.nodes i r) r s k j (put_same w.nodes i j r new.0) new.1 new.2 new.3)
  ];
  books = λ s. inl refl;
  later = omega arith;
  once = omega arith;
}

-- ---- a server

book_log : (p : Phase) (c : Config) (sv : ServerState) (book : Book) → ((book_in p c sv book).log ≡ book.log) ⊎ (has_fetched p ≡ true)
book_log Idle c sv book = inl refl
book_log Opening c sv book = inl refl
book_log Fetching c sv book = inl refl
book_log Repairing c sv book = inr refl
book_log Running c sv book = inr refl
book_log (Closed p) c sv book = inl refl

book_at : (b : Bool) (new old : Book) (P : Type 0) → (b ≡ true → (new.log ≡ old.log) ⊎ P) → (Book.log (if b then new else old) ≡ old.log) ⊎ P
book_at true new old P f = f refl
book_at false new old P f = inl refl

server_books : (w : WorldState) (u : ℕ) (sv : ServerState) (s : ℕ) → (has_fetched sv.phase ≡ true → is_within w.cluster.servers u ≡ true) → (((with_server w u sv).books s).log ≡ (w.books s).log) ⊎ ServesBook (with_server w u sv) s
server_books w u sv s within =
    let book : Book = w.books sv.session in
    book_at (s == sv.session) (book_in sv.phase (config_of w.cluster) sv book) (w.books s) (ServesBook (with_server w u sv) s)
    (λ at. let here : s ≡ sv.session = same_index s sv.session at in elim (book_log sv.phase (config_of w.cluster) sv book) [
      | inl kept ↦ inl (kept ∙ ap (λ n. (w.books n).log) (sym here))
      | inr fetched ↦ inr (record {
        server = u;
        within = within fetched;
        session = ap (λ (x : ServerState). x.session) (put_same w.servers u u sv refl) ∙ sym here;
        fetched = ap (λ (x : ServerState). has_fetched x.phase) (put_same w.servers u u sv refl) ∙ fetched;
      })
    ])

server_recorded : (w : WorldState) (u : ℕ) (sv : ServerState) → (has_fetched sv.phase ≡ true → is_within w.cluster.servers u ≡ true) → Recorded w (with_server w u sv)
server_recorded w u sv within = record {
  votes = λ s k i h. inl h;
  books = λ s. server_books w u sv s within;
  later = omega arith;
  once = omega arith;
}

-- ---- deliveries

sent_recorded : (w v : WorldState) (l : List Envelope) → Recorded w v → Recorded w (with_sent v l)
sent_recorded w v l r = record {
  votes = r.votes;
  books = λ s. elim (r.books s) [
    | inl kept ↦ inl kept
    | inr serves ↦ inr (record { server = serves.server; within = serves.within; session = serves.session; fetched = serves.fetched })
  ];
  later = r.later;
  once = r.once;
}

both_of : (a b : Bool) → (a && b) ≡ true → b ≡ true
both_of a b h = grind (arith, h)

taken_recorded : (w : WorldState) (files : ℕ → List ℕ) (from to : Party) (m : Mail) → Recorded w (taken w files from to m)
taken_recorded w files from (party.Node i) (mail.ToNode m) = either (Recorded w) (is_within w.cluster.nodes i) _ w (node_recorded w i _ files) (same w)
taken_recorded w files from (party.Server i) (mail.ToNode m) = same w
taken_recorded w files from (party.Client i) (mail.ToNode m) = same w
taken_recorded w files (party.Node i) (party.Server s) (mail.FromNode m) =
    if_each (Recorded w) (is_within w.cluster.nodes i && is_within w.cluster.servers s) _ w (λ both. server_recorded w s _ (λ fetched. both_of (is_within w.cluster.nodes i) (is_within w.cluster.servers s) both)) (λ no. same w)
taken_recorded w files (party.Node i) (party.Node s) (mail.FromNode m) = same w
taken_recorded w files (party.Node i) (party.Client s) (mail.FromNode m) = same w
taken_recorded w files (party.Server i) to (mail.FromNode m) = same w
taken_recorded w files (party.Client i) to (mail.FromNode m) = same w
taken_recorded w files from (party.Server s) (mail.ToServer m) = if_each (Recorded w) (is_within w.cluster.servers s) _ w (λ within. server_recorded w s _ (λ fetched. within)) (λ no. same w)
taken_recorded w files from (party.Node s) (mail.ToServer m) = same w
taken_recorded w files from (party.Client s) (mail.ToServer m) = same w
taken_recorded w files from (party.Client c) (mail.FromServer m) = either (Recorded w) (is_within w.cluster.clients c) _ w (record { votes = λ s k i h. inl h; books = λ s. inl refl; later = omega arith; once = omega arith }) (same w)
taken_recorded w files from (party.Node c) (mail.FromServer m) = same w
taken_recorded w files from (party.Server c) (mail.FromServer m) = same w

delivered_recorded : (w : WorldState) (files : ℕ → List ℕ) (o : Option Envelope) → Recorded w (delivered w files o)
delivered_recorded w files None = same w
delivered_recorded w files (Some e) = sent_recorded w (taken w files e.from e.to e.message) (sends w e.from e.to e.message) (taken_recorded w files e.from e.to e.message)

-- the cursor is nothing to it
next_recorded : (w : WorldState) (files : ℕ → List ℕ) (o : Option Envelope) → Recorded w (delivered (advanced w o) files o)
next_recorded w files None = same w
next_recorded w files (Some e) =
    let on : WorldState = record w { cursor = w.cursor + 1 } in
    let r = delivered_recorded on files (Some e) in
    record { votes = r.votes; books = r.books; later = r.later; once = r.once }

torn_recorded : (w : WorldState) (o : Option (ℕ × ToNode)) (fate : Fate) → Recorded w (torn_at w o fate)
torn_recorded w None fate = same w
torn_recorded w (Some target) fate = node_recorded w target.0 fate.torn fate.files

-- ---- the register

light : (w v : WorldState) → v.votes ≡ w.votes → v.books ≡ w.books → w.number ≤ v.number → v.number ≤ w.number + 1 → Recorded w v
light w v votes books later once = record {
  votes = λ s k i h. inl (subst (λ l. voted l s k i ≡ true) votes h);
  books = λ s. inl (ap (λ (f : ℕ → Book). (f s).log) books);
  later = later;
  once = once;
}

won_recorded : (w : WorldState) (u session : ℕ) → w.number ≤ session → session ≤ w.number + 1 → Recorded w (after_answer w u (answer.Won session))
won_recorded w u session later once =
    let on : WorldState = record w { number = session; kept = put w.kept u None } in
    let r = server_recorded on u (drawn session) (λ fetched. absurd (no_true fetched)) in
    record { votes = r.votes; books = r.books; later = later; once = once }

answered_recorded : (w : WorldState) (u from : ℕ) → Recorded w (after_answer w u (cas_answer w.number from))
answered_recorded w u from =
    let P : CasAnswer → Type 0 = λ a. Recorded w (after_answer w u a) in
    let won : P (answer.Won (w.number + 1)) = won_recorded w u (w.number + 1) (omega arith) (omega arith) in
    let full : P answer.Exhausted = light w (record w { kept = put w.kept u None }) refl refl (omega arith) (omega arith) in
    let lost : P (answer.Lost w.number) = light w (record w { kept = put w.kept u None }) refl refl (omega arith) (omega arith) in
    either P (w.number == from) (if w.number == last_session then answer.Exhausted else answer.Won (w.number + 1)) (answer.Lost w.number)
    (either P (w.number == last_session) answer.Exhausted (answer.Won (w.number + 1)) full won) lost

cas_recorded : (w : WorldState) (u : ℕ) (o : Option ℕ) → Recorded w (after_cas w u o)
cas_recorded w u None = same w
cas_recorded w u (Some from) = answered_recorded w u from

wasted_by : (w : WorldState) (u from : ℕ) → Recorded w (record w { number = number_after w.number (cas_answer w.number from); kept = put w.kept u None })
wasted_by w u from =
    let P : CasAnswer → Type 0 = λ a. Recorded w (record w { number = number_after w.number a; kept = put w.kept u None }) in
    let won : P (answer.Won (w.number + 1)) = light w (record w { number = w.number + 1; kept = put w.kept u None }) refl refl (omega arith) (omega arith) in
    let full : P answer.Exhausted = light w (record w { kept = put w.kept u None }) refl refl (omega arith) (omega arith) in
    let lost : P (answer.Lost w.number) = light w (record w { kept = put w.kept u None }) refl refl (omega arith) (omega arith) in
    either P (w.number == from) (if w.number == last_session then answer.Exhausted else answer.Won (w.number + 1)) (answer.Lost w.number)
    (either P (w.number == last_session) answer.Exhausted (answer.Won (w.number + 1)) full won) lost

wasted_recorded : (w : WorldState) (u : ℕ) (o : Option ℕ) → Recorded w (wasted w u o)
wasted_recorded w u None = same w
wasted_recorded w u (Some from) = wasted_by w u from

-- ---- every event

skipped_recorded : (w : WorldState) (o : Option Envelope) → Recorded w (advanced w o)
skipped_recorded w None = same w
skipped_recorded w (Some e) = light w (record w { cursor = w.cursor + 1 }) refl refl (omega arith) (omega arith)

submitted_recorded : (w : WorldState) (c : ℕ) (e : Envelope) (o : Option BuildFault) → Recorded w (submitted w c e o)
submitted_recorded w c e None = light w _ refl refl (omega arith) (omega arith)
submitted_recorded w c e (Some fault) = same w

pub recorded : (w : WorldState) (fate : Fate) (e : Event) → Recorded w (happens w fate e)
recorded w fate (event.Read v) = light w _ refl refl (omega arith) (omega arith)
recorded w fate (event.Cas v) = cas_recorded w v (w.kept v)
recorded w fate (event.Waste v) = wasted_recorded w v (w.kept v)
recorded w fate (event.Tick v) = light w _ refl refl (omega arith) (omega arith)
recorded w fate event.Next = next_recorded w fate.files (envelope_of w w.cursor)
recorded w fate event.Skip = skipped_recorded w (envelope_of w w.cursor)
recorded w fate (event.Deliver k) = delivered_recorded w fate.files (envelope_of w k)
recorded w fate (event.Tear k bytes) = torn_recorded w (target_of w (envelope_of w k)) fate
recorded w fate (event.Crash i) = node_recorded w i (unstaged (w.nodes i)) fate.files
recorded w fate (event.Restart v) = light w _ refl refl (omega arith) (omega arith)
recorded w fate (event.Reboot c) = light w _ refl refl (omega arith) (omega arith)
recorded w fate (event.Append c v writes reads ops) = submitted_recorded w c (submission w c v writes reads ops) (build_refusal (w.clients c) writes reads ops)
recorded w fate (event.Ask c v) = light w _ refl refl (omega arith) (omega arith)
recorded w fate (event.Flush c v) = light w _ refl refl (omega arith) (omega arith)
recorded w fate (event.Show i) = same w
recorded w fate (event.Server v) = same w
recorded w fate (event.App c) = same w
recorded w fate (event.Log from) = same w
recorded w fate (event.Dump i file at) = same w
