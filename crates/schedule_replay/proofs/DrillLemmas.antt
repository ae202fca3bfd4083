-- A drill, event by event, and its last world.
use Rattle.std.proofs.Common.{◌≡◌, ℕ, suc, ◌+◌, ◌<◌, ◌≤◌, List, [], ◌∷◌, ◌++◌, length, arith, refl, sym, ◌∙◌, ap, subst, add-one, Option}
use Rattle.std.specs.Io.KnownBytes.{Appends}
use Rattle.io_core.specs.Bytes.{AppendsPrefix}
use Rattle.proto_model.proofs.TableLemmas.{AllByRecursion-append}
use Rattle.net_model.specs.declared.cluster.Cluster.{Cluster}
use Rattle.net_model.specs.declared.event.Event.{Event}
use Rattle.net_model.specs.Events.{IsInRange}
use Rattle.net_model.specs.declared.outcome.Outcome.{Outcome}
use Rattle.world_law.specs.Worlds.{WorldState, start}
use Rattle.world_law.specs.Runs.{IsRunOnFiles, HasFiles, last_world}
use Rattle.world_law.specs.OneLog.{one_log}
use Rattle.world_law.proofs.Runs.{IsRun-push, last_world-push}
use Rattle.schedule_replay.specs.Plays.{StandFor, Leads}
use Rattle.schedule_replay.specs.Numbered.{numbered_cluster, numbered_from, state_after, event_after, numbered_events}
use Rattle.schedule_replay.specs.Drills.{refusals, summary_text, PrintsCounts, PrintsPart}
use Rattle.schedule_replay.specs.Drilling.{items_of, refusals_told, AreNumberedFrom, IsTallyOf, Drilled, Shows, IsShown, Sums, text_of_summary}
use Rattle.schedule_replay.specs.declared.drilling.Tally.{Tally}
use Rattle.schedule_replay.specs.declared.summary.Summary.{Summary}
use Rattle.schedule_replay.proofs.NumberedLemmas.{numbered_in_range}
use Rattle.schedule_replay.proofs.Made.{step_made}
use Rattle.schedule_replay.proofs.Counted.{tally_numbered, tally_fits, tally_more}
use Rattle.schedule_replay.proofs.Exactly.{reliable}

-- the event that was made is the next one, and is in range
pub event_is : (number events state : ℕ) (e : Event) → state ≡ state_after number events → e ≡ (numbered_from (events + 1) state).event → e ≡ event_after number events
event_is number events state e is made =
    rw add-one at (made ∙ ap (λ s. (numbered_from (events + 1) s).event) is)

pub event_in_range : (cluster : Cluster) (events state : ℕ) (e : Event) → cluster ≡ numbered_cluster → events < 20000 → e ≡ (numbered_from (events + 1) state).event → IsInRange cluster e
event_in_range cluster events state e is few made =
    let R : Event → Type 0 = λ x. IsInRange numbered_cluster x in
    let C : Cluster → Type 0 = λ c. IsInRange c e in
    subst C (sym is) (subst R (sym made) (numbered_in_range (events + 1) state (omega arith) (omega arith)))

module _ (P : Type 0) (shows : P → WorldState → Type 0) where
  pub drilled_first : (number : ℕ) (p : P) (t : Tally) → ((p : P) (w : WorldState) → shows p w → HasFiles StandFor w) → shows p (start numbered_cluster)
      → t.envelopes ≡ 0 → t.refused ≡ 0 → Drilled shows number 0 p t
  drilled_first number p t standing shown none no_refusal = record {
    outcomes = [];
    worlds = [];
    run = record { run = tt; files = (standing p (start numbered_cluster) shown, tt) };
    shown = shown;
    tally = record { envelopes = none; refused = no_refusal };
  }

  -- what the next event tells of its envelopes
  pub drilled_numbered : (number events : ℕ) (old new : P) (t : Tally) (e : Event) (o : Outcome) → Drilled shows number events old t
      → Leads (shows old) (shows new) e o → AreNumberedFrom (t.envelopes + 1) (items_of o)
  drilled_numbered number events old new t e o drilled leads =
      let w : WorldState = last_world (start numbered_cluster) drilled.worlds in
      let to = leads w drilled.shown in
      tally_numbered w t o to.new drilled.tally (step_made w e o to.new to.step)

  pub drilled_fits : (number events : ℕ) (p : P) (t : Tally) → Drilled shows number events p t → t.refused ≤ t.envelopes
  drilled_fits number events p t drilled = tally_fits (last_world (start numbered_cluster) drilled.worlds) t drilled.tally

  -- one event more
  pub drilled_more : (number events : ℕ) (old new : P) (s t : Tally) (e : Event) (o : Outcome) → ((p : P) (w : WorldState) → shows p w → HasFiles StandFor w)
      → Drilled shows number events old s → e ≡ event_after number events → Leads (shows old) (shows new) e o
      → t.envelopes ≡ s.envelopes + length (items_of o) → t.refused ≡ s.refused + refusals_told (items_of o) → Drilled shows number (events + 1) new t
  drilled_more number events old new s t e o standing drilled is leads more refused =
      let first : WorldState = start numbered_cluster in
      let w : WorldState = last_world first drilled.worlds in
      let to = leads w drilled.shown in
      let D : ℕ → Type 0 = λ n. Drilled shows number n new t in
      let E : Event → Type 0 = λ x. Leads (shows old) (shows new) x o in
      let V : WorldState → Type 0 = λ x. shows new x in
      let T : WorldState → Type 0 = λ x. IsTallyOf x t in
      let last : last_world first (drilled.worlds ++ to.new ∷ []) ≡ to.new = last_world-push first drilled.worlds to.new in
      let events_are : numbered_events number events ++ e ∷ [] ≡ numbered_events number (suc events) = ap (λ x. numbered_events number events ++ x ∷ []) is in
      let R : List Event → Type 0 = λ es. IsRunOnFiles StandFor first es (drilled.outcomes ++ o ∷ []) (drilled.worlds ++ to.new ∷ []) in
      let next : Drilled shows number (suc events) new t = record {
        outcomes = drilled.outcomes ++ o ∷ [];
        worlds = drilled.worlds ++ to.new ∷ [];
        run = subst R events_are (record {
          run = IsRun-push first (numbered_events number events) drilled.outcomes drilled.worlds e o to.new drilled.run.run to.step;
          files = AllByRecursion-append (HasFiles StandFor) (first ∷ drilled.worlds) (to.new ∷ []) drilled.run.files (standing new to.new to.shown, tt);
        });
        shown = subst V (sym last) to.shown;
        tally = subst T (sym last) (tally_more w s t o to.new drilled.tally (step_made w e o to.new to.step) more refused);
      } in
      rw add-one next

  -- what is summed up
  pub summed : (number events : ℕ) (p q : P) (t : Tally) (committed sessions : ℕ) → Drilled shows number events p t → Shows shows p q (λ w. committed ≡ length (one_log w))
      → ((w : WorldState) → shows q w → sessions ≡ w.number)
      → Sums number events (record { events = events; envelopes = t.envelopes; sessions = sessions; committed = committed; refused = t.refused })
  summed number events p q t committed sessions drilled log number_of =
      let w : WorldState = last_world (start numbered_cluster) drilled.worlds in
      let envelopes : t.envelopes ≡ length w.sent = drilled.tally.envelopes in
      let refused : t.refused ≡ refusals w.sent = drilled.tally.refused in
      let size : committed ≡ length (one_log w) = log.told w drilled.shown in
      let last : sessions ≡ w.number = number_of w (log.same w drilled.shown) in
      record {
        world = w;
        leads = record {
          outcomes = drilled.outcomes;
          worlds = drilled.worlds;
          run = drilled.run;
          reliable = reliable numbered_cluster (numbered_events number events) drilled.outcomes drilled.worlds drilled.run.run;
          last = refl;
        };
        text = ap (λ n. summary_text events n sessions committed t.refused ++ 10 ∷ []) envelopes
            ∙ (ap (λ n. summary_text events (length w.sent) n committed t.refused ++ 10 ∷ []) last
            ∙ (ap (λ n. summary_text events (length w.sent) w.number n t.refused ++ 10 ∷ []) size
            ∙ ap (λ n. summary_text events (length w.sent) w.number (length (one_log w)) n ++ 10 ∷ []) refused));
      }

  -- some world is shown afterwards
  pub still_shown : (number events : ℕ) (p q : P) (t : Tally) (tells : WorldState → Type 0) → Drilled shows number events p t → Shows shows p q tells → IsShown shows q
  still_shown number events p q t tells drilled log =
      let w : WorldState = last_world (start numbered_cluster) drilled.worlds in
      (w, log.same w drilled.shown)

-- ---- what is printed

pub prints_counts : (number events : ℕ) (s : Summary) (h0 h1 : Option (List ℕ)) (bytes : List ℕ) → Sums number events s → bytes ≡ text_of_summary s ++ 10 ∷ []
    → Appends h0 h1 bytes → PrintsCounts number events h0 h1
prints_counts number events s h0 h1 bytes sums text held =
    record { world = sums.world; leads = sums.leads; text = subst (λ t. Appends h0 h1 t) (text ∙ sums.text) held }

pub prints_part : (number events : ℕ) (s : Summary) (h0 h1 : Option (List ℕ)) (bytes : List ℕ) → Sums number events s → bytes ≡ text_of_summary s ++ 10 ∷ []
    → AppendsPrefix h0 h1 bytes → PrintsPart number events h0 h1
prints_part number events s h0 h1 bytes sums text held =
    record { world = sums.world; leads = sums.leads; text = subst (λ t. AppendsPrefix h0 h1 t) (text ∙ sums.text) held }
