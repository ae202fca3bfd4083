-- Without a torn delivery and without a dump the files of the nodes decide nothing: a run has one end but for them.
use Rattle.std.proofs.Common.{◌≡◌, ℕ, ◌+◌, ◌&&◌, List, [], ◌∷◌, map, filter, refl, sym, ◌∙◌, ap, Option, Some, None, Bool, true, false, if◌then◌else◌}
use Rattle.std.specs.List.{AllByRecursion}
use Rattle.proto_model.specs.declared.refusal.BuildFault.{BuildFault}
use Rattle.proto_model.specs.Quorums.{is_within}
use Rattle.proto_model.specs.Replicas.{replica_after}
use Rattle.proto_model.specs.Servers.{ServerState, server_after, server_answers}
use Rattle.proto_model.specs.Serving.{served_after, served_answers}
use Rattle.client_core.specs.Clients.{client_step}
use Rattle.client_core.specs.Building.{build_refusal}
use Rattle.session_register.specs.declared.register.Cas.{Cas}
use Rattle.session_register.specs.declared.register.Cas.TheVariants as cas
use Rattle.session_register.specs.Registers.{cas_answer}
use Rattle.net_model.specs.declared.event.Event.{Event}
use Rattle.net_model.specs.declared.event.Event.TheVariants as event
use Rattle.net_model.specs.declared.mail.Party.{Party}
use Rattle.net_model.specs.declared.mail.Party.TheVariants as party
use Rattle.net_model.specs.declared.mail.Mail.{Mail}
use Rattle.net_model.specs.declared.mail.Mail.TheVariants as mail
use Rattle.net_model.specs.declared.mail.Envelope.{Envelope}
use Rattle.net_model.specs.declared.outcome.Outcome.{Outcome}
use Rattle.world_law.specs.Worlds.{WorldState, config_of, envelope_of, with_server, with_node, with_client, with_sent}
use Rattle.world_law.specs.Deliveries.{taken, sends, delivered, reply_of, is_client, told, answer_from}
use Rattle.world_law.specs.Steps.{Fate, happens, after_answer, after_cas, wasted, advanced, submission, submitted}
use Rattle.world_law.specs.Outcomes.{outcome_of}
use Rattle.world_law.specs.Runs.{WorldStep, IsRun, last_world}
use Rattle.schedule_replay.specs.NumberedLaws.{IsFixed, bare}

-- ---- what each event makes of a world, but for the files

abbrev AreAlike : WorldState → WorldState → Type 0
AreAlike v w = bare v ≡ bare w

mail_alike : (w : WorldState) (files other : ℕ → List ℕ) (from to : Party) (m : Mail)
    → AreAlike (with_sent (taken w files from to m) (sends w from to m)) (with_sent (taken (bare w) other from to m) (sends (bare w) from to m))
mail_alike w files other from (party.Node i) (mail.ToNode m) = by_test (is_within w.cluster.nodes i)
  where
    by_test : (b : Bool) → AreAlike (with_sent (if b then with_node w i (replica_after (w.nodes i) m) files else w) (if b then reply_of w i from m ∷ [] else []))
        (with_sent (if b then with_node (bare w) i (replica_after (w.nodes i) m) other else bare w) (if b then reply_of w i from m ∷ [] else []))
    by_test true = refl
    by_test false = refl
mail_alike w files other from (party.Server v) (mail.ToNode m) = refl
mail_alike w files other from (party.Client c) (mail.ToNode m) = refl
mail_alike w files other (party.Node i) (party.Server v) (mail.FromNode m) = by_test (is_within w.cluster.nodes i && is_within w.cluster.servers v)
  where
    after : ServerState
    after = server_after (config_of w.cluster) (w.servers v) i m

    made : List Envelope
    made = map (told v) (filter (is_client w) (server_answers (config_of w.cluster) (w.servers v) i m))

    by_test : (b : Bool) → AreAlike (with_sent (if b then with_server w v after else w) (if b then made else []))
        (with_sent (if b then with_server (bare w) v after else bare w) (if b then made else []))
    by_test true = refl
    by_test false = refl
mail_alike w files other (party.Node i) (party.Node j) (mail.FromNode m) = refl
mail_alike w files other (party.Node i) (party.Client c) (mail.FromNode m) = refl
mail_alike w files other (party.Server u) to (mail.FromNode m) = refl
mail_alike w files other (party.Client c) to (mail.FromNode m) = refl
mail_alike w files other from (party.Server v) (mail.ToServer m) = by_test (is_within w.cluster.servers v)
  where
    after : ServerState
    after = served_after (config_of w.cluster) (w.servers v) m

    made : List Envelope
    made = map (answer_from v from) (served_answers (config_of w.cluster) (w.servers v) m)

    by_test : (b : Bool) → AreAlike (with_sent (if b then with_server w v after else w) (if b then made else []))
        (with_sent (if b then with_server (bare w) v after else bare w) (if b then made else []))
    by_test true = refl
    by_test false = refl
mail_alike w files other from (party.Node i) (mail.ToServer m) = refl
mail_alike w files other from (party.Client c) (mail.ToServer m) = refl
mail_alike w files other from (party.Client c) (mail.FromServer m) = by_test (is_within w.cluster.clients c)
  where
    by_test : (b : Bool) → AreAlike (with_sent (if b then with_client w c (client_step (w.clients c) m) else w) [])
        (with_sent (if b then with_client (bare w) c (client_step (w.clients c) m) else bare w) [])
    by_test true = refl
    by_test false = refl
mail_alike w files other from (party.Node i) (mail.FromServer m) = refl
mail_alike w files other from (party.Server v) (mail.FromServer m) = refl

delivered_alike : (w : WorldState) (files other : ℕ → List ℕ) (found : Option Envelope) → AreAlike (delivered w files found) (delivered (bare w) other found)
delivered_alike w files other None = refl
delivered_alike w files other (Some e) = mail_alike w files other e.from e.to e.message

next_alike : (w : WorldState) (files other : ℕ → List ℕ) (found : Option Envelope) → AreAlike (delivered (advanced w found) files found) (delivered (advanced (bare w) found) other found)
next_alike w files other None = refl
next_alike w files other (Some e) = mail_alike (record w { cursor = w.cursor + 1 }) files other e.from e.to e.message

skip_alike : (w : WorldState) (found : Option Envelope) → AreAlike (advanced w found) (advanced (bare w) found)
skip_alike w None = refl
skip_alike w (Some e) = refl

answer_alike : (w : WorldState) (v : ℕ) (a : Cas) → AreAlike (after_answer w v a) (after_answer (bare w) v a)
answer_alike w v (cas.Won s) = refl
answer_alike w v (cas.Lost n) = refl
answer_alike w v cas.Exhausted = refl

cas_alike : (w : WorldState) (v : ℕ) (kept : Option ℕ) → AreAlike (after_cas w v kept) (after_cas (bare w) v kept)
cas_alike w v None = refl
cas_alike w v (Some from) = answer_alike w v (cas_answer w.number from)

waste_alike : (w : WorldState) (v : ℕ) (kept : Option ℕ) → AreAlike (wasted w v kept) (wasted (bare w) v kept)
waste_alike w v None = refl
waste_alike w v (Some from) = refl

submitted_alike : (w : WorldState) (c : ℕ) (e : Envelope) (refusal : Option BuildFault) → AreAlike (submitted w c e refusal) (submitted (bare w) c e refusal)
submitted_alike w c e None = refl
submitted_alike w c e (Some fault) = refl

happens_alike : (w : WorldState) (fate other : Fate) (e : Event) → IsFixed e → AreAlike (happens w fate e) (happens (bare w) other e)
happens_alike w fate other (event.Read v) fixed = refl
happens_alike w fate other (event.Cas v) fixed = cas_alike w v (w.kept v)
happens_alike w fate other (event.Waste v) fixed = waste_alike w v (w.kept v)
happens_alike w fate other (event.Tick v) fixed = refl
happens_alike w fate other event.Next fixed = next_alike w fate.files other.files (envelope_of w w.cursor)
happens_alike w fate other event.Skip fixed = skip_alike w (envelope_of w w.cursor)
happens_alike w fate other (event.Deliver k) fixed = delivered_alike w fate.files other.files (envelope_of w k)
happens_alike w fate other (event.Tear k bytes) fixed = absurd fixed
happens_alike w fate other (event.Crash i) fixed = refl
happens_alike w fate other (event.Restart v) fixed = refl
happens_alike w fate other (event.Reboot c) fixed = refl
happens_alike w fate other (event.Append c v writes reads ops) fixed =
    submitted_alike w c (submission w c v writes reads ops) (build_refusal (w.clients c) writes reads ops)
happens_alike w fate other (event.Ask c v) fixed = refl
happens_alike w fate other (event.Flush c v) fixed = refl
happens_alike w fate other (event.Show i) fixed = refl
happens_alike w fate other (event.Server v) fixed = refl
happens_alike w fate other (event.App c) fixed = refl
happens_alike w fate other (event.Log from) fixed = refl
happens_alike w fate other (event.Dump i file at) fixed = absurd fixed

outcome_alike : (w : WorldState) (fate other : Fate) (e : Event) → IsFixed e → outcome_of w fate e ≡ outcome_of (bare w) other e
outcome_alike w fate other (event.Tear k bytes) fixed = absurd fixed
outcome_alike w fate other (event.Dump i file at) fixed = absurd fixed
outcome_alike w fate other _ fixed = refl

-- ---- a step, and a run

record Agree (o p : Outcome) (v w : WorldState) : Type 0 where
  outcome : o ≡ p
  world : bare v ≡ bare w

steps_agree : (v w : WorldState) (e : Event) (o p : Outcome) (v1 w1 : WorldState) → IsFixed e → bare v ≡ bare w → WorldStep v e o v1 → WorldStep w e p w1 → Agree o p v1 w1
steps_agree v w e o p v1 w1 fixed same s t = record {
  outcome = s.outcome_is ∙ (outcome_alike v s.fate s.fate e fixed ∙ (ap (λ x. outcome_of x s.fate e) same ∙ (sym (outcome_alike w t.fate s.fate e fixed) ∙ sym t.outcome_is)));
  world = ap bare s.new_is ∙ (happens_alike v s.fate s.fate e fixed ∙ (ap (λ x. bare (happens x s.fate e)) same ∙ (sym (happens_alike w t.fate s.fate e fixed) ∙ sym (ap bare t.new_is))));
}

pub record RunsAgree (os ps : List Outcome) (v w : WorldState) : Type 0 where
  pub outcomes : os ≡ ps
  pub world : bare v ≡ bare w

pub runs_agree : (v w : WorldState) (es : List Event) (os ps : List Outcome) (vs ws : List WorldState) → AllByRecursion IsFixed es → bare v ≡ bare w → IsRun v es os vs → IsRun w es ps ws
    → RunsAgree os ps (last_world v vs) (last_world w ws)
runs_agree v w [] [] [] [] [] fixed same r s = record { outcomes = refl; world = same }
runs_agree v w (e ∷ es) (o ∷ os) (p ∷ ps) (x ∷ vs) (y ∷ ws) fixed same r s =
    let step = steps_agree v w e o p x y fixed.0 same r.0 s.0 in
    let rest = runs_agree x y es os ps vs ws fixed.1 step.world r.1 s.1 in
    let first : o ≡ p = step.outcome in
    let others : os ≡ ps = rest.outcomes in
    record { outcomes = cc; world = rest.world }
runs_agree v w [] (o ∷ os) ps vs ws fixed same r s = absurd r
runs_agree v w [] [] ps (x ∷ vs) ws fixed same r s = absurd r
runs_agree v w [] [] (p ∷ ps) [] ws fixed same r s = absurd s
runs_agree v w [] [] [] [] (y ∷ ws) fixed same r s = absurd s
runs_agree v w (e ∷ es) [] ps vs ws fixed same r s = absurd r
runs_agree v w (e ∷ es) (o ∷ os) ps [] ws fixed same r s = absurd r
runs_agree v w (e ∷ es) (o ∷ os) [] (x ∷ vs) ws fixed same r s = absurd s
runs_agree v w (e ∷ es) (o ∷ os) (p ∷ ps) (x ∷ vs) [] fixed same r s = absurd s
