-- The envelopes that an event made are those that its outcome tells.
use Rattle.std.proofs.Common.{◌≡◌, ℕ, ◌+◌, ◌&&◌, List, [], ◌∷◌, ◌++◌, length, refl, sym, ◌∙◌, ap, subst, Option, Some, None}
use Rattle.std.proofs.lemmas.List.{append-nil}
use Rattle.proto_model.proofs.TableLemmas.{either}
use Rattle.proto_model.specs.declared.message.Phase.{Phase}
use Rattle.proto_model.specs.declared.message.Phase.TheVariants as phase
use Rattle.proto_model.specs.declared.message.ToNode.{ToNode}
use Rattle.proto_model.specs.declared.client_message.FromServer.{FromServer}
use Rattle.proto_model.specs.declared.refusal.BuildFault.{BuildFault}
use Rattle.proto_model.specs.Quorums.{is_within}
use Rattle.proto_model.specs.Servers.{Config, ServerState}
use Rattle.client_core.specs.Building.{build_refusal}
use Rattle.session_register.specs.declared.register.Cas.{Cas}
use Rattle.session_register.specs.declared.register.Cas.TheVariants as cas
use Rattle.session_register.specs.Registers.{cas_answer}
use Rattle.net_model.specs.declared.event.Event.{Event}
use Rattle.net_model.specs.declared.event.Event.TheVariants as event
use Rattle.net_model.specs.declared.mail.Party.{Party}
use Rattle.net_model.specs.declared.mail.Party.TheVariants as party
use Rattle.net_model.specs.declared.mail.Mail.{Mail}
use Rattle.net_model.specs.declared.mail.Mail.TheVariants as mail
use Rattle.net_model.specs.declared.mail.Envelope.{Envelope}
use Rattle.net_model.specs.declared.outcome.Outcome.{Outcome}
use Rattle.net_model.specs.declared.outcome.Outcome.TheVariants as outcome
use Rattle.net_model.specs.Briefs.{items_from}
use Rattle.world_law.specs.Worlds.{WorldState, config_of, envelope_of, with_sent}
use Rattle.world_law.specs.Deliveries.{taken, sends, delivered, target_of}
use Rattle.world_law.specs.Steps.{Fate, happens, after_answer, after_cas, wasted, ticked, advanced, torn_at, asked, submission, submitted}
use Rattle.world_law.specs.Outcomes.{outcome_of, cas_outcome, outcome_of_cas, wasted_outcome, sent_outcome, submission_outcome, got_outcome, mail_outcome, delivery_outcome, skip_outcome, torn_outcome, outcome_in}
use Rattle.world_law.specs.Runs.{WorldStep}
use Rattle.schedule_replay.specs.Drilling.{items_of}

pub record Made (old : WorldState) (o : Outcome) (new : WorldState) : Type 0 where
  pub more : List Envelope
  pub sent : new.sent ≡ old.sent ++ more
  pub told : items_of o ≡ items_from (length old.sent + 1) more

none_made : (old : WorldState) (o : Outcome) (new : WorldState) → new.sent ≡ old.sent → items_of o ≡ [] → Made old o new
none_made old o new same told = record { more = []; sent = same ∙ sym (append-nil old.sent); told = told }

made : (old new : WorldState) (more : List Envelope) → new.sent ≡ old.sent ++ more → Made old (sent_outcome old more) new
made old new [] sent = record { more = []; sent = sent; told = refl }
made old new (e ∷ more) sent = record { more = e ∷ more; sent = sent; told = refl }

-- ---- deliveries

abbrev Leaves : List Envelope → WorldState → Type 0
Leaves sent x = x.sent ≡ sent

taken_leaves : (w : WorldState) (files : ℕ → List ℕ) (from to : Party) (m : Mail) → Leaves w.sent (taken w files from to m)
taken_leaves w files from (party.Node i) (mail.ToNode m) = either (Leaves w.sent) (is_within w.cluster.nodes i) _ _ refl refl
taken_leaves w files from (party.Server v) (mail.ToNode m) = refl
taken_leaves w files from (party.Client c) (mail.ToNode m) = refl
taken_leaves w files (party.Node i) (party.Server v) (mail.FromNode m) =
    either (Leaves w.sent) (is_within w.cluster.nodes i && is_within w.cluster.servers v) _ _ refl refl
taken_leaves w files (party.Node i) (party.Node j) (mail.FromNode m) = refl
taken_leaves w files (party.Node i) (party.Client c) (mail.FromNode m) = refl
taken_leaves w files (party.Server u) to (mail.FromNode m) = refl
taken_leaves w files (party.Client c) to (mail.FromNode m) = refl
taken_leaves w files from (party.Server v) (mail.ToServer m) = either (Leaves w.sent) (is_within w.cluster.servers v) _ _ refl refl
taken_leaves w files from (party.Node i) (mail.ToServer m) = refl
taken_leaves w files from (party.Client c) (mail.ToServer m) = refl
taken_leaves w files from (party.Client c) (mail.FromServer m) = either (Leaves w.sent) (is_within w.cluster.clients c) _ _ refl refl
taken_leaves w files from (party.Node i) (mail.FromServer m) = refl
taken_leaves w files from (party.Server v) (mail.FromServer m) = refl

got_nothing : (w : WorldState) (to : Party) (m : FromServer) → items_of (got_outcome w to m) ≡ []
got_nothing w (party.Client c) m = either (λ (o : Outcome). items_of o ≡ []) (is_within w.cluster.clients c) _ _ refl refl
got_nothing w (party.Node i) m = refl
got_nothing w (party.Server v) m = refl

-- the cursor is nothing to what is sent
sends_at : (w : WorldState) (cursor : ℕ) (from to : Party) (m : Mail) → sends (record w { cursor = cursor }) from to m ≡ sends w from to m
sends_at w cursor from (party.Node i) (mail.ToNode m) = refl
sends_at w cursor from (party.Server v) (mail.ToNode m) = refl
sends_at w cursor from (party.Client c) (mail.ToNode m) = refl
sends_at w cursor (party.Node i) (party.Server v) (mail.FromNode m) = refl
sends_at w cursor (party.Node i) (party.Node j) (mail.FromNode m) = refl
sends_at w cursor (party.Node i) (party.Client c) (mail.FromNode m) = refl
sends_at w cursor (party.Server u) to (mail.FromNode m) = refl
sends_at w cursor (party.Client c) to (mail.FromNode m) = refl
sends_at w cursor from (party.Server v) (mail.ToServer m) = refl
sends_at w cursor from (party.Node i) (mail.ToServer m) = refl
sends_at w cursor from (party.Client c) (mail.ToServer m) = refl
sends_at w cursor from to (mail.FromServer m) = refl

-- from a world x that differs from w in its cursor alone
delivery_sent : (w x : WorldState) (files : ℕ → List ℕ) (from to : Party) (m : Mail) → x.sent ≡ w.sent → sends x from to m ≡ sends w from to m
    → (with_sent (taken x files from to m) (sends x from to m)).sent ≡ w.sent ++ sends w from to m
delivery_sent w x files from to m same sends_same =
    let kept : (taken x files from to m).sent ≡ w.sent = taken_leaves x files from to m ∙ same in
    ap (λ s. s ++ sends x from to m) kept ∙ ap (λ s. w.sent ++ s) sends_same

mail_made : (w x : WorldState) (files : ℕ → List ℕ) (from to : Party) (m : Mail) → x.sent ≡ w.sent → sends x from to m ≡ sends w from to m
    → Made w (mail_outcome w from to m) (with_sent (taken x files from to m) (sends x from to m))
mail_made w x files from to (mail.ToNode m) same so = made w _ (sends w from to (mail.ToNode m)) (delivery_sent w x files from to (mail.ToNode m) same so)
mail_made w x files from to (mail.FromNode m) same so = made w _ (sends w from to (mail.FromNode m)) (delivery_sent w x files from to (mail.FromNode m) same so)
mail_made w x files from to (mail.ToServer m) same so = made w _ (sends w from to (mail.ToServer m)) (delivery_sent w x files from to (mail.ToServer m) same so)
mail_made w x files from to (mail.FromServer m) same so =
    none_made w (got_outcome w to m) _ (delivery_sent w x files from to (mail.FromServer m) same so ∙ append-nil w.sent) (got_nothing w to m)

delivered_made : (w : WorldState) (files : ℕ → List ℕ) (found : Option Envelope) → Made w (delivery_outcome w found) (delivered w files found)
delivered_made w files None = none_made w outcome.NoEnvelope w refl refl
delivered_made w files (Some e) = mail_made w w files e.from e.to e.message refl refl

next_made : (w : WorldState) (files : ℕ → List ℕ) (found : Option Envelope) → Made w (delivery_outcome w found) (delivered (advanced w found) files found)
next_made w files None = none_made w outcome.NoEnvelope w refl refl
next_made w files (Some e) =
    mail_made w (record w { cursor = w.cursor + 1 }) files e.from e.to e.message refl (sends_at w (w.cursor + 1) e.from e.to e.message)

-- ---- other events

skip_made : (w : WorldState) (found : Option Envelope) → Made w (skip_outcome w found) (advanced w found)
skip_made w None = none_made w outcome.NoEnvelope w refl refl
skip_made w (Some e) = none_made w (outcome.Skipped w.cursor) _ refl refl

answer_made : (w : WorldState) (v : ℕ) (a : Cas) → Made w (cas_outcome a) (after_answer w v a)
answer_made w v (cas.Won s) = none_made w (outcome.Won s) _ refl refl
answer_made w v (cas.Lost n) = none_made w (outcome.Lost n) _ refl refl
answer_made w v cas.Exhausted = none_made w outcome.Exhausted _ refl refl

cas_made : (w : WorldState) (v : ℕ) (kept : Option ℕ) → Made w (outcome_of_cas w kept) (after_cas w v kept)
cas_made w v None = none_made w outcome.Unread w refl refl
cas_made w v (Some from) = answer_made w v (cas_answer w.number from)

waste_made : (w : WorldState) (v : ℕ) (kept : Option ℕ) → Made w (wasted_outcome w kept) (wasted w v kept)
waste_made w v None = none_made w outcome.Unread w refl refl
waste_made w v (Some from) = none_made w _ _ refl refl

torn_made : (w : WorldState) (target : Option (ℕ × ToNode)) (fate : Fate) → Made w (torn_outcome target fate.torn) (torn_at w target fate)
torn_made w None fate = none_made w outcome.NoEnvelope w refl refl
torn_made w (Some target) fate = none_made w _ _ refl refl

submitted_made : (w : WorldState) (c : ℕ) (e : Envelope) (refusal : Option BuildFault) → Made w (submission_outcome w e refusal) (submitted w c e refusal)
submitted_made w c e None = made w _ (e ∷ []) refl
submitted_made w c e (Some fault) = none_made w (outcome.Refused fault) w refl refl

shown_made : (w : WorldState) (p : Phase) (v : ℕ) (c : Config) (sv : ServerState) → Made w (outcome_in p v c sv) w
shown_made w phase.Idle v c sv = none_made w _ w refl refl
shown_made w phase.Opening v c sv = none_made w _ w refl refl
shown_made w phase.Fetching v c sv = none_made w _ w refl refl
shown_made w phase.Repairing v c sv = none_made w _ w refl refl
shown_made w phase.Running v c sv = none_made w _ w refl refl
shown_made w (phase.Closed s) v c sv = none_made w _ w refl refl

happens_made : (w : WorldState) (fate : Fate) (e : Event) → Made w (outcome_of w fate e) (happens w fate e)
happens_made w fate (event.Read v) = none_made w _ _ refl refl
happens_made w fate (event.Cas v) = cas_made w v (w.kept v)
happens_made w fate (event.Waste v) = waste_made w v (w.kept v)
happens_made w fate (event.Tick v) = made w _ (ticked w v) refl
happens_made w fate event.Next = next_made w fate.files (envelope_of w w.cursor)
happens_made w fate event.Skip = skip_made w (envelope_of w w.cursor)
happens_made w fate (event.Deliver k) = delivered_made w fate.files (envelope_of w k)
happens_made w fate (event.Tear k bytes) = torn_made w (target_of w (envelope_of w k)) fate
happens_made w fate (event.Crash i) = none_made w _ _ refl refl
happens_made w fate (event.Restart v) = none_made w _ _ refl refl
happens_made w fate (event.Reboot c) = none_made w _ _ refl refl
happens_made w fate (event.Append c v writes reads ops) =
    submitted_made w c (submission w c v writes reads ops) (build_refusal (w.clients c) writes reads ops)
happens_made w fate (event.Ask c v) = made w _ (asked c v _ ∷ []) refl
happens_made w fate (event.Flush c v) = made w _ (asked c v _ ∷ []) refl
happens_made w fate (event.Show i) = none_made w _ _ refl refl
happens_made w fate (event.Server v) = shown_made w (w.servers v).phase v (config_of w.cluster) (w.servers v)
happens_made w fate (event.App c) = none_made w _ _ refl refl
happens_made w fate (event.Log from) = none_made w _ _ refl refl
happens_made w fate (event.Dump i file at) = none_made w _ _ refl refl

pub step_made : (old : WorldState) (e : Event) (o : Outcome) (new : WorldState) → WorldStep old e o new → Made old o new
step_made old e o new step =
    let M : Outcome → Type 0 = λ x. Made old x new in
    let N : WorldState → Type 0 = λ x. Made old (outcome_of old step.fate e) x in
    subst M (sym step.outcome_is) (subst N (sym step.new_is) (happens_made old step.fate e))
