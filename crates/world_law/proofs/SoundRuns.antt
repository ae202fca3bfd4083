-- Every run is sound: a session is won once, and an envelope stays what it was.
use Rattle.std.proofs.Common.{◌≡◌, ℕ, zero, suc, ◌<◌, List, [], ◌∷◌, arith, refl, Option, Some, None, lit<, slice_get, sym, ◌∙◌, ap}
use Rattle.std.specs.List.{AllByRecursion}
use Rattle.net_model.specs.declared.cluster.Cluster.{Cluster}
use Rattle.net_model.specs.declared.event.Event.{Event}
use Rattle.net_model.specs.declared.event.Event.TheVariants as event
use Rattle.net_model.specs.declared.outcome.Outcome.{Outcome}
use Rattle.net_model.specs.declared.outcome.Outcome.TheVariants.{Won}
use Rattle.session_register.specs.declared.register.Cas.{Cas as CasAnswer}
use Rattle.session_register.specs.declared.register.Cas.TheVariants.{Won as CasWon, Lost, Exhausted}
use Rattle.proto_model.specs.declared.message.Phase.{Phase}
use Rattle.proto_model.specs.declared.message.Phase.TheVariants as phase
use Rattle.proto_model.specs.declared.message.ToNode.{ToNode}
use Rattle.proto_model.specs.declared.refusal.BuildFault.{BuildFault}
use Rattle.client_core.specs.Building.{build_refusal}
use Rattle.proto_model.specs.declared.client_message.FromServer.{FromServer}
use Rattle.net_model.specs.declared.mail.Party.{Party}
use Rattle.net_model.specs.declared.mail.Party.TheVariants as party
use Rattle.net_model.specs.declared.mail.Mail.{Mail}
use Rattle.net_model.specs.declared.mail.Mail.TheVariants as mail
use Rattle.net_model.specs.declared.mail.Envelope.{Envelope}
use Rattle.proto_model.specs.Quorums.{is_within}
use Rattle.session_register.specs.Registers.{cas_answer}
use Rattle.proto_model.specs.Replicas.{ReplicaState}
use Rattle.proto_model.specs.Servers.{Config, ServerState}
use Rattle.world_law.specs.Worlds.{WorldState, start, config_of, envelope_of}
use Rattle.world_law.specs.Deliveries.{target_of}
use Rattle.world_law.specs.Steps.{Fate, happens, after_cas, after_answer, ticked, submission}
use Rattle.world_law.specs.Outcomes.{wasted_outcome, skip_outcome, torn_outcome, outcome_in, submission_outcome, outcome_of, outcome_of_cas, cas_outcome, mail_outcome, got_outcome, delivery_outcome, sent_outcome}
use Rattle.world_law.specs.Runs.{WorldStep, IsRun}
use Rattle.world_law.specs.Soundness.{IsSoundWorld, WonAtMostOnce, EnvelopesStay}
use Rattle.world_law.specs.Laws.{EveryRunIsSound}
use Rattle.proto_model.proofs.TableLemmas.{either, slice_get-append}
use Rattle.world_law.proofs.SoundEvents.{Known, cas_wins, step_keeps}

-- ---- a session that is won is above the number before, and is the number after

not_won : (w : WorldState) (envelopes : List Envelope) (session : ℕ) → sent_outcome w envelopes ≡ Won session → ⊥
not_won w [] session is = cc
not_won w (e ∷ envelopes) session is = cc

got_not_won : (w : WorldState) (to : Party) (m : FromServer) (session : ℕ) → got_outcome w to m ≡ Won session → ⊥
got_not_won w (party.Client c) m session = either (λ (o : Outcome). o ≡ Won session → ⊥) (is_within w.cluster.clients c) _ _ (λ is. cc) (λ is. cc)
got_not_won w (party.Node i) m session = λ is. cc
got_not_won w (party.Server v) m session = λ is. cc

mail_not_won : (w : WorldState) (from to : Party) (m : Mail) (session : ℕ) → mail_outcome w from to m ≡ Won session → ⊥
mail_not_won w from to (mail.FromServer m) session is = got_not_won w to m session is
mail_not_won w from to (mail.ToNode m) session is = not_won w _ session is
mail_not_won w from to (mail.FromNode m) session is = not_won w _ session is
mail_not_won w from to (mail.ToServer m) session is = not_won w _ session is

delivery_not_won : (w : WorldState) (found : Option Envelope) (session : ℕ) → delivery_outcome w found ≡ Won session → ⊥
delivery_not_won w None session is = cc
delivery_not_won w (Some e) session is = mail_not_won w e.from e.to e.message session is

cas_answer_wins : (w : WorldState) (server session : ℕ) (answer : CasAnswer) → cas_outcome answer ≡ Won session
    → (after_answer w server answer).number ≡ session
cas_answer_wins w server session (CasWon x) is = cc
cas_answer_wins w server session (Lost x) is = cc
cas_answer_wins w server session Exhausted is = cc

submission_not_won : (w : WorldState) (e : Envelope) (refusal : Option BuildFault) (session : ℕ) → submission_outcome w e refusal ≡ Won session → ⊥
submission_not_won w e None session is = cc
submission_not_won w e (Some fault) session is = cc

waste_not_won : (w : WorldState) (kept : Option ℕ) (session : ℕ) → wasted_outcome w kept ≡ Won session → ⊥
waste_not_won w None session is = cc
waste_not_won w (Some from) session is = cc

skip_not_won : (w : WorldState) (found : Option Envelope) (session : ℕ) → skip_outcome w found ≡ Won session → ⊥
skip_not_won w None session is = cc
skip_not_won w (Some e) session is = cc

torn_not_won : (target : Option (ℕ × ToNode)) (after : ReplicaState) (session : ℕ) → torn_outcome target after ≡ Won session → ⊥
torn_not_won None after session is = cc
torn_not_won (Some target) after session is = cc

server_not_won : (p : Phase) (server : ℕ) (c : Config) (sv : ServerState) (session : ℕ) → outcome_in p server c sv ≡ Won session → ⊥
server_not_won phase.Idle server c sv session is = cc
server_not_won phase.Opening server c sv session is = cc
server_not_won phase.Fetching server c sv session is = cc
server_not_won phase.Repairing server c sv session is = cc
server_not_won phase.Running server c sv session is = cc
server_not_won (phase.Closed p) server c sv session is = cc

wins : (w : WorldState) (fate : Fate) (e : Event) (session : ℕ) → outcome_of w fate e ≡ Won session
    → (w.number < session) × ((happens w fate e).number ≡ session)
wins w fate (event.Cas server) session won = with_kept (w.kept server) won
  where
    with_kept : (kept : Option ℕ) → outcome_of_cas w kept ≡ Won session → (w.number < session) × ((after_cas w server kept).number ≡ session)
    with_kept None is = cc
    with_kept (Some from) is =
        let h = cas_wins w.number from session is in
        (omega (arith, h.0), cas_answer_wins w server session (cas_answer w.number from) is)
wins w fate (event.Read server) session won = cc
wins w fate (event.Waste server) session won = absurd (waste_not_won w (w.kept server) session won)
wins w fate (event.Tick server) session won = absurd (not_won w (ticked w server) session won)
wins w fate event.Next session won = absurd (delivery_not_won w (envelope_of w w.cursor) session won)
wins w fate event.Skip session won = absurd (skip_not_won w (envelope_of w w.cursor) session won)
wins w fate (event.Deliver k) session won = absurd (delivery_not_won w (envelope_of w k) session won)
wins w fate (event.Tear k bytes) session won = absurd (torn_not_won (target_of w (envelope_of w k)) fate.torn session won)
wins w fate (event.Crash node) session won = cc
wins w fate (event.Restart server) session won = cc
wins w fate (event.Reboot client) session won = cc
wins w fate (event.Append client server writes reads ops) session won =
    absurd (submission_not_won w (submission w client server writes reads ops) (build_refusal (w.clients client) writes reads ops) session won)
wins w fate (event.Ask client server) session won = cc
wins w fate (event.Flush client server) session won = cc
wins w fate (event.Show node) session won = cc
wins w fate (event.Server server) session won = absurd (server_not_won (w.servers server).phase server (config_of w.cluster) (w.servers server) session won)
wins w fate (event.App client) session won = cc
wins w fate (event.Log from) session won = cc
wins w fate (event.Dump node file at) session won = cc

step_wins : (old : WorldState) (event : Event) (outcome : Outcome) (new : WorldState) (session : ℕ) → WorldStep old event outcome new
    → outcome ≡ Won session → (old.number < session) × (new.number ≡ session)
step_wins old event outcome new session step won =
    let h = wins old step.fate event session (sym step.outcome_is ∙ won) in (h.0, ap (λ (w : WorldState). w.number) step.new_is ∙ h.1)

-- ---- runs

-- what a run wins is above the number before it
won_above : (old : WorldState) (events : List Event) (outcomes : List Outcome) (worlds : List WorldState) (k session : ℕ) → Known old
    → IsRun old events outcomes worlds → slice_get outcomes k ≡ Some (Won session) → old.number < session
won_above old (e ∷ es) (o ∷ os) (w ∷ ws) zero session sound run is = (step_wins old e o w session run.0 cc).0
won_above old (e ∷ es) (o ∷ os) (w ∷ ws) (suc k) session sound run is =
    let keeps = step_keeps old e o w sound run.0 in
    omega (arith, keeps.no_less, won_above w es os ws k session keeps.holds run.1 is)
won_above old [] [] [] k session sound run is = cc
won_above old [] [] (w ∷ ws) k session sound run is = absurd run
won_above old [] (o ∷ os) ws k session sound run is = absurd run
won_above old (e ∷ es) [] ws k session sound run is = absurd run
won_above old (e ∷ es) (o ∷ os) [] k session sound run is = absurd run

won_once : (old : WorldState) (events : List Event) (outcomes : List Outcome) (worlds : List WorldState) → Known old → IsRun old events outcomes worlds
    → WonAtMostOnce outcomes
won_once old (e ∷ es) (o ∷ os) (w ∷ ws) sound run i zero session less p q = omega arith
won_once old (e ∷ es) (o ∷ os) (w ∷ ws) sound run zero (suc j) session less p q =
    let won = step_wins old e o w session run.0 cc in
    let above = won_above w es os ws j session (step_keeps old e o w sound run.0).holds run.1 q in
    omega (arith, won.1, above)
won_once old (e ∷ es) (o ∷ os) (w ∷ ws) sound run (suc i) (suc j) session less p q =
    won_once w es os ws (step_keeps old e o w sound run.0).holds run.1 i j session (omega arith) p q
won_once old [] [] [] sound run i j session less p q = cc
won_once old [] [] (w ∷ ws) sound run i j session less p q = absurd run
won_once old [] (o ∷ os) ws sound run i j session less p q = absurd run
won_once old (e ∷ es) [] ws sound run i j session less p q = absurd run
won_once old (e ∷ es) (o ∷ os) [] sound run i j session less p q = absurd run

sound_world : (w : WorldState) → Known w → IsSoundWorld w
sound_world w holds = record {
  number = holds.number;
  kept = holds.kept;
  adopted = λ i. (holds.nodes i).adopted;
  promised = λ i. (holds.nodes i).promised;
  sessions = holds.sessions;
}

all_sound : (old : WorldState) (events : List Event) (outcomes : List Outcome) (worlds : List WorldState) → Known old → IsRun old events outcomes worlds
    → AllByRecursion IsSoundWorld (old ∷ worlds)
all_sound old [] [] [] holds run = (sound_world old holds, tt)
all_sound old (e ∷ es) (o ∷ os) (w ∷ ws) holds run = (sound_world old holds, all_sound w es os ws (step_keeps old e o w holds run.0).holds run.1)
all_sound old [] [] (w ∷ ws) holds run = absurd run
all_sound old [] (o ∷ os) ws holds run = absurd run
all_sound old (e ∷ es) [] ws holds run = absurd run
all_sound old (e ∷ es) (o ∷ os) [] holds run = absurd run

-- an envelope of the first world stands in each later one
stays : (old : WorldState) (events : List Event) (outcomes : List Outcome) (worlds : List WorldState) (j k : ℕ) (w : WorldState) (e : Envelope)
    → Known old → IsRun old events outcomes worlds → slice_get (old ∷ worlds) j ≡ Some w → slice_get old.sent k ≡ Some e
    → slice_get w.sent k ≡ Some e
stays old events outcomes worlds zero k w e holds run is sent = let same : old ≡ w = cc in rw (← same) sent
stays old (f ∷ es) (o ∷ os) (x ∷ ws) (suc j) k w e holds run is sent =
    let keeps = step_keeps old f o x holds run.0 in
    stays x es os ws j k w e keeps.holds run.1 is (rw keeps.sent (slice_get-append old.sent keeps.more k e sent))
stays old [] [] [] (suc j) k w e holds run is sent = cc
stays old [] [] (x ∷ ws) (suc j) k w e holds run is sent = absurd run
stays old [] (o ∷ os) ws (suc j) k w e holds run is sent = absurd run
stays old (f ∷ es) [] ws (suc j) k w e holds run is sent = absurd run
stays old (f ∷ es) (o ∷ os) [] (suc j) k w e holds run is sent = absurd run

envelopes_stay : (old : WorldState) (events : List Event) (outcomes : List Outcome) (worlds : List WorldState) → Known old
    → IsRun old events outcomes worlds → EnvelopesStay (old ∷ worlds)
envelopes_stay old events outcomes worlds holds run zero j k v w e less is is' sent =
    let same : old ≡ v = cc in
    stays old events outcomes worlds j k w e holds run is' (rw same sent)
envelopes_stay old events outcomes worlds holds run (suc i) zero k v w e less is is' sent = absurd (omega arith)
envelopes_stay old (f ∷ es) (o ∷ os) (x ∷ ws) holds run (suc i) (suc j) k v w e less is is' sent =
    envelopes_stay x es os ws (step_keeps old f o x holds run.0).holds run.1 i j k v w e (omega arith) is is' sent
envelopes_stay old [] [] [] holds run (suc i) (suc j) k v w e less is is' sent = cc
envelopes_stay old [] [] (x ∷ ws) holds run (suc i) (suc j) k v w e less is is' sent = absurd run
envelopes_stay old [] (o ∷ os) ws holds run (suc i) (suc j) k v w e less is is' sent = absurd run
envelopes_stay old (f ∷ es) [] ws holds run (suc i) (suc j) k v w e less is is' sent = absurd run
envelopes_stay old (f ∷ es) (o ∷ os) [] holds run (suc i) (suc j) k v w e less is is' sent = absurd run

start_holds : (cluster : Cluster) → Known (start cluster)
start_holds cluster = record {
  number = lit< tt;
  kept = λ server from is. cc;
  nodes = λ i. record { adopted = omega arith; promised = omega arith };
  servers = λ v. omega arith;
  sessions = λ u v apart p q. absurd (p refl);
  sent = tt;
}

pub every_run : EveryRunIsSound
every_run cluster events outcomes worlds run = record {
  each = all_sound (start cluster) events outcomes worlds (start_holds cluster) run;
  won = won_once (start cluster) events outcomes worlds (start_holds cluster) run;
  envelopes = envelopes_stay (start cluster) events outcomes worlds (start_holds cluster) run;
}
