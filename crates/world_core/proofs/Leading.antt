-- Every event of the world.
use Rattle.std.proofs.Common.{◌≡◌, ◌∙◌, ℕ, zero, suc, List, [], refl, sym, ap, subst}
use Rattle.std.specs.List.{AllByRecursion}
use Rattle.proto_model.specs.declared.message.Status.{Status}
use Rattle.proto_model.specs.Replicas.{ReplicaState}
use Rattle.net_model.specs.declared.cluster.Cluster.{Cluster}
use Rattle.net_model.specs.declared.event.Event.{Event}
use Rattle.net_model.specs.declared.event.Event.TheVariants as event
use Rattle.net_model.specs.declared.outcome.Outcome.{Outcome}
use Rattle.world_law.specs.Worlds.{WorldState, start}
use Rattle.world_law.specs.Runs.{WorldStep}
use Rattle.world_core.specs.declared.tally.Row.{Row}
use Rattle.world_core.specs.Kept.{KeptSystem, KeptWorld, Shows, shown_of}
use Rattle.quorum_append.specs.Kept.{nothing_kept, has_kept}
use Rattle.world_core.specs.Tallies.{IsBounded, IsRowOf, acks_of, entries_of, rows_outcome}
use Rattle.world_core.specs.Told.{IsOfRun, IsTallied}
use Rattle.world_core.specs.Stepping.{Steps, Takes, Goes, GoesFrom, IsStepped, LeadsTo}
use Rattle.world_core.proofs.Events.{leads_to, plain}
use Rattle.world_core.proofs.Fits.{stays}
use Rattle.world_core.proofs.Tallied.{good_of_run, run_goes_on, shows_one_log, nothing_has}
use Rattle.world_core.proofs.Tallying.{bounded_rows}

-- an event other than `log`
pub stepped_by : (e : Event) → ((from : ℕ) → e ≡ event.Log from → ⊥) → IsStepped e
stepped_by (event.Read v) other = tt
stepped_by (event.Cas v) other = tt
stepped_by (event.Waste v) other = tt
stepped_by (event.Tick v) other = tt
stepped_by event.Next other = tt
stepped_by event.Skip other = tt
stepped_by (event.Deliver k) other = tt
stepped_by (event.Tear k bytes) other = tt
stepped_by (event.Crash i) other = tt
stepped_by (event.Restart v) other = tt
stepped_by (event.Reboot c) other = tt
stepped_by (event.Append c v writes reads ops) other = tt
stepped_by (event.Ask c v) other = tt
stepped_by (event.Flush c v) other = tt
stepped_by (event.Show i) other = tt
stepped_by (event.Server v) other = tt
stepped_by (event.App c) other = tt
stepped_by (event.Log from) other = absurd (other from refl)
stepped_by (event.Dump i file at) other = tt

pub steps_take : {R : Type 0} (state : R → ReplicaState) (files : R → ℕ → List ℕ) (f : R → Type 0) (s : R → Status) (old new : KeptSystem R) (rows : List Row) (e : Event) (o : Outcome) → Steps state files f s old new e o → Takes state files f s old new rows e o
steps_take state files f s old new rows e o steps = record {
  cluster_same = steps.cluster_same;
  goes = λ w has run tallied. leads_to (shown_of state files old) (shown_of state files new) e o steps.happens_so w has;
  system = steps.system;
}

log_goes : {R : Type 0} (state : R → ReplicaState) (files : R → ℕ → List ℕ) (k : KeptSystem R) (rows : List Row) (from : ℕ) (o : Outcome) → (AllByRecursion IsBounded rows → o ≡ rows_outcome k.cluster.nodes rows from) → AllByRecursion (IsRowOf k.cluster.nodes) rows
    → GoesFrom (shown_of state files k) rows (shown_of state files k) (event.Log from) o
log_goes state files k rows from o said of w has run tallied =
    let cluster : w.cluster ≡ k.cluster = ap (λ (v : WorldState). v.cluster) has in
    let own : AllByRecursion (IsRowOf w.cluster.nodes) rows = subst (λ (c : Cluster). AllByRecursion (IsRowOf c.nodes) rows) (sym cluster) of in
    let bounded = bounded_rows w (good_of_run w run) rows tallied own in
    let shown : o ≡ rows_outcome w.cluster.nodes rows from = said bounded ∙ ap (λ (c : Cluster). rows_outcome c.nodes rows from) (sym cluster) in
    record { after = w; step = record { fate = plain; allowed = tt; outcome_is = shown ∙ shows_one_log rows w from tallied; new_is = refl }; shows = has }

pub log_takes : {R : Type 0} (state : R → ReplicaState) (files : R → ℕ → List ℕ) (f : R → Type 0) (s : R → Status) (k : KeptSystem R) (rows : List Row) (from : ℕ) (o : Outcome) → (AllByRecursion IsBounded rows → o ≡ rows_outcome k.cluster.nodes rows from)
    → AllByRecursion (IsRowOf k.cluster.nodes) rows → Takes state files f s k k rows (event.Log from) o
log_takes state files f s k rows from o said of = record { cluster_same = refl; goes = log_goes state files k rows from o said of; system = λ n is. stays f s n k is }

pub world_leads : {R : Type 0} (state : R → ReplicaState) (files : R → ℕ → List ℕ) (old new : KeptWorld R) (k : KeptSystem R) (e : Event) (o : Outcome) → k.cluster ≡ old.system.cluster → GoesFrom (shown_of state files old.system) old.rows (shown_of state files k) e o → new.system ≡ k
    → ((w after : WorldState) (e : Event) (o : Outcome) → IsOfRun w → WorldStep w e o after → Shows (shown_of state files k) after → IsTallied old.rows w → IsTallied new.rows after) → LeadsTo state files old new e o
world_leads state files old new k e o same goes system tallied w is =
    let g : Goes (shown_of state files k) w e o = goes w is.view is.run is.tallied in
    let cluster : g.after.cluster ≡ w.cluster = ap (λ (v : WorldState). v.cluster) g.shows ∙ (same ∙ sym (ap (λ (v : WorldState). v.cluster) is.view)) in
    record {
      after = g.after;
      step = g.step;
      shown = record {
        view = subst (λ m. Shows (shown_of state files m) g.after) (sym system) g.shows;
        run = run_goes_on w e o g.after cluster is.run g.step;
        tallied = tallied w g.after e o is.run g.step g.shows is.tallied;
      };
    }

-- ---- the start

no_entries : (s : ℕ) → entries_of [] s ≡ []
no_entries zero = refl
no_entries (suc s) = refl

no_acks : (n s : ℕ) → acks_of n [] s ≡ nothing_kept n
no_acks n zero = refl
no_acks n (suc s) = refl

pub start_run : (c : Cluster) → IsOfRun (start c)
start_run c = record { events = []; outcomes = []; worlds = []; run = tt; last = refl }

pub start_tallied : (c : Cluster) → IsTallied [] (start c)
start_tallied c = record {
  count = refl;
  votes = λ s k i within. ap (λ a. has_kept a k i) (no_acks c.nodes s) ∙ nothing_has c.nodes k i;
  entries = λ s. no_entries s;
}
