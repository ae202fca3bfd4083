-- The one log is well-locked, and what a client read at its mark still stands just before its transaction's place.
use Rattle.std.proofs.Common.{◌≡◌, ℕ, zero, suc, ◌+◌, ◌-◌, ◌<◌, ◌≤◌, ◌⊎◌, ◌||◌, true, arith, refl, ap, sym, ◌∙◌, inl, inr, subst, List, [], ◌∷◌, get_or, Contains, Some, true≢false, bytes_eq}
use Rattle.std.proofs.Math.Bool.{or-true}
use Rattle.std.proofs.lemmas.Bool.{or_cases}
use Rattle.std.proofs.lemmas.Slice.Eq.{bytes_eq-Decides}
use Rattle.std.specs.FinMap as finite
use Rattle.std.specs.List.{AllByRecursion}
use Rattle.tx_model.specs.declared.record.Record.{Record}
use Rattle.tx_model.specs.Applications.{Application, after_payload, serial}
use Rattle.tx_model.specs.Logs.{record_at, IsClean}
use Rattle.tx_model.specs.Transactions.{named_locks, held_locks, is_before, is_among}
use Rattle.tx_model.proofs.Names.{is_among-from_Contains, Contains-from_is_among}
use Rattle.kv_app.specs.WellLocked.{Covers, IsCovered, IsWellLocked}
use Rattle.client_core.specs.Clients.{ClientState, with_name, in_order, built}
use Rattle.client_core.proofs.Covered.{keys_are_locked}
use Rattle.net_model.specs.declared.event.Event.{Event}
use Rattle.net_model.specs.declared.event.Event.TheVariants as event
use Rattle.net_model.specs.declared.outcome.Outcome.{Outcome}
use Rattle.world_law.specs.Worlds.{WorldState, start}
use Rattle.world_law.specs.OneLog.{committed_length, longest, one_log}
use Rattle.world_law.specs.Runs.{WorldStep, IsRun}
use Rattle.world_law.specs.Gains.{HasValidReads}
use Rattle.world_law.specs.Laws.{InEveryWorld, TheOneLogIsWellLocked, CleanLogsHaveValidReads, ReadsAreValid}
use Rattle.world_law.proofs.OriginEvents.{WorldMade, NewHas, step_made, start_made}
use Rattle.world_law.proofs.OneLog.{one_log_clean}
use Rattle.world_law.proofs.Places.{get_at, at_within, serial_next}
use Rattle.world_law.proofs.EnterOnce.{at_made}
use Rattle.world_law.proofs.SafeRuns.{step_ahead}
use Rattle.world_law.proofs.Served.{all_taken}
use Rattle.world_law.proofs.Steps.{Good, good_start}
use Rattle.world_law.proofs.Tests.{if_each}
use Rattle.world_law.proofs.Touched.{payload_leaves}

-- a record that doesn't hold the key leaves it
record_leaves : (r : Record) (app : Application) (key : List ℕ) → IsCovered r.tx → ¬ Contains (held_locks r.tx) key
    → finite.get (after_payload app r.tx.payload) key ≡ finite.get app key
record_leaves r app key covered free = payload_leaves app r.tx.payload key (λ named. free (covered key named))

place_in : (log : List Record) (t k : ℕ) (later : Record) → record_at log t ≡ Some later → k < t → 1 ≤ k
    → (r : Record) × (record_at log k ≡ Some r)
place_in log t zero later is lt some = absurd (omega arith)
place_in log t (suc k) later is lt some =
    let w = at_within log t later is in
    (get_or log k later, get_at log k later (let a = w.1 in omega arith))

reads_at : (log : List Record) → IsClean log → IsWellLocked log → (t : ℕ) (later : Record) (key : List ℕ) → record_at log t ≡ Some later
    → Contains (named_locks later.tx) key
    → (d k : ℕ) → k ≡ later.tx.mark + d → k < t → finite.get (serial log k) key ≡ finite.get (serial log later.tx.mark) key
reads_at log clean locked t later key is named zero k e lt = ap (λ (j : ℕ). finite.get (serial log j) key) (omega (arith, e))
reads_at log clean locked t later key is named (suc d) zero e lt = absurd (omega (arith, e))
reads_at log clean locked t later key is named (suc d) (suc k) e lt =
    let place = place_in log t (suc k) later is lt (omega arith) in
    let r = place.0 in
    let free : ¬ Contains (held_locks r.tx) key = λ held. clean.apart t (suc k) later r key is place.1 (omega (arith, e)) lt held named in
    ap (λ (app : Application). finite.get app key) (serial_next log k r place.1)
    ∙ (record_leaves r (serial log k) key (locked (suc k) r place.1) free ∙ reads_at log clean locked t later key is named d k (omega (arith, e)) (omega arith))

pub reads_stand : CleanLogsHaveValidReads
reads_stand log clean locked t later key is named =
    let below = clean.below t later is in
    reads_at log clean locked t later key is named (t - 1 - later.tx.mark) (t - 1) (omega (arith, below)) (omega (arith, below))

with_among : (key name : List ℕ) (names : List (List ℕ)) → (key ≡ name) ⊎ (is_among key names ≡ true)
    → is_among key (with_name name names) ≡ true
unfolding is_among
with_among key name [] (inl e) = rw (e, (bytes_eq-Decides name name).1 refl) refl
with_among key name [] (inr f) = absurd (true≢false (sym f))
with_among key name (other ∷ others) f =
    if_each (λ (l : List (List ℕ)). is_among key l ≡ true) (is_before other name) (other ∷ with_name name others) (name ∷ other ∷ others)
    (λ _. among_there key name other others f (λ g. with_among key name others g)) (λ _. among_here key name (other ∷ others) f)
  where
    among_here : (key name : List ℕ) (names : List (List ℕ)) → (key ≡ name) ⊎ (is_among key names ≡ true)
        → (bytes_eq key name || is_among key names) ≡ true
    among_here key name names (inl e) = rw (e, (bytes_eq-Decides name name).1 refl) refl
    among_here key name names (inr g) = rw g (or-true (bytes_eq key name))

    among_there : (key name other : List ℕ) (others : List (List ℕ)) → (key ≡ name) ⊎ ((bytes_eq key other || is_among key others) ≡ true)
        → ((key ≡ name) ⊎ (is_among key others ≡ true) → is_among key (with_name name others) ≡ true)
        → (bytes_eq key other || is_among key (with_name name others)) ≡ true
    among_there key name other others (inl e) rest = rw (rest (inl e)) (or-true (bytes_eq key other))
    among_there key name other others (inr g) rest = elim (or_cases (bytes_eq key other) (is_among key others) g) [
      | inl a ↦ rw a refl
      | inr b ↦ rw (rest (inr b)) (or-true (bytes_eq key other))
    ]

in_order_among : (key : List ℕ) (names : List (List ℕ)) → is_among key names ≡ true → is_among key (in_order names) ≡ true
unfolding is_among
in_order_among key [] e = e
in_order_among key (name ∷ names) e = elim (or_cases (bytes_eq key name) (is_among key names) e) [
  | inl a ↦ with_among key name (in_order names) (inl ((bytes_eq-Decides key name).0 a))
  | inr b ↦ with_among key name (in_order names) (inr (in_order_among key names b))
]

in_order_has : (names : List (List ℕ)) (key : List ℕ) → Contains names key → Contains (in_order names) key
in_order_has names key has = Contains-from_is_among key (in_order names) (in_order_among key names (is_among-from_Contains key names has))

-- what a client builds holds the keys that it changes
built_covered : (cl : ClientState) (c : ℕ) (writes reads : List (List ℕ)) (ops : List ℕ) → Covers writes ops
    → IsCovered (built cl c writes reads ops)
built_covered cl c writes reads ops f key named = in_order_has writes key (f key named)

new_covered : (w : WorldState) (e : Event) → NewHas IsCovered w e
new_covered w (event.Append c v writes reads ops) =
    λ none. built_covered (w.clients c) c writes reads ops (keys_are_locked (w.clients c) writes reads ops none)
new_covered w (event.Read v) = tt
new_covered w (event.Cas v) = tt
new_covered w (event.Waste v) = tt
new_covered w (event.Tick v) = tt
new_covered w event.Next = tt
new_covered w event.Skip = tt
new_covered w (event.Deliver k) = tt
new_covered w (event.Tear k bytes) = tt
new_covered w (event.Crash i) = tt
new_covered w (event.Restart v) = tt
new_covered w (event.Reboot c) = tt
new_covered w (event.Ask c v) = tt
new_covered w (event.Flush c v) = tt
new_covered w (event.Show i) = tt
new_covered w (event.Server v) = tt
new_covered w (event.App c) = tt
new_covered w (event.Log from) = tt
new_covered w (event.Dump i file at) = tt

covered_step : (old : WorldState) (e : Event) (o : Outcome) (new : WorldState) → WorldMade IsCovered old → WorldStep old e o new
    → WorldMade IsCovered new
covered_step old e o new m step = subst (WorldMade IsCovered) (sym step.new_is) (step_made IsCovered old step.fate e m (new_covered old e) step.allowed)

well_locked : (w : WorldState) → WorldMade IsCovered w → IsWellLocked (one_log w)
well_locked w g t r is =
    let s = longest w w.number in
    at_made IsCovered (one_log w) (all_taken (λ (x : Record). IsCovered x.tx) (committed_length w s) (w.books s).log (g.books s)) t r is

in_run : (P : WorldState → Type 0) → ((w : WorldState) → Good w → WorldMade IsCovered w → P w)
    → (old : WorldState) (events : List Event) (outcomes : List Outcome) (worlds : List WorldState)
    → Good old → WorldMade IsCovered old → IsRun old events outcomes worlds → AllByRecursion P (old ∷ worlds)
in_run P f old [] [] [] g m run = (f old g m, tt)
in_run P f old (e ∷ es) (o ∷ os) (w ∷ ws) g m run =
    (f old g m, in_run P f w es os ws (step_ahead old e o w g run.0).good (covered_step old e o w m run.0) run.1)
in_run P f old [] [] (w ∷ ws) g m run = absurd run
in_run P f old [] (o ∷ os) ws g m run = absurd run
in_run P f old (e ∷ es) [] ws g m run = absurd run
in_run P f old (e ∷ es) (o ∷ os) [] g m run = absurd run

in_every_world : (P : WorldState → Type 0) → ((w : WorldState) → Good w → WorldMade IsCovered w → P w) → InEveryWorld P
in_every_world P f c events outcomes worlds run = in_run P f (start c) events outcomes worlds (good_start c) (start_made IsCovered c) run

pub log_well_locked : TheOneLogIsWellLocked
log_well_locked = in_every_world (λ (w : WorldState). IsWellLocked (one_log w)) (λ w g m. well_locked w m)

pub valid_reads : ReadsAreValid
valid_reads = in_every_world (λ (w : WorldState). HasValidReads (one_log w)) (λ w g m. reads_stand (one_log w) (one_log_clean w g.holds) (well_locked w m))
