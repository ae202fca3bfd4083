-- What is true of a server's state, and what each step leaves of it.
use Rattle.std.proofs.Common.{◌≡◌, ℕ, ◌+◌, ◌-◌, ◌<◌, ◌≤◌, max, nat_lt, nat_le, ◌==◌, ◌&&◌, not, if◌then◌else◌, Bool, true, false, List, [], ◌∷◌, ◌++◌, length, take, All, Option, Some, None, refl, ap, sym, subst, ◌∙◌, arith, length-append}
use Rattle.std.proofs.lemmas.Bool.Decides.{nat_tests}
use Rattle.tx_model.specs.declared.record.Record.{Record}
use Rattle.tx_model.specs.Transactions.{Transaction}
use Rattle.tx_model.specs.Records.{IsPlace, IsBatch, IsRecord, RiseByOne, first_id}
use Rattle.tx_model.specs.Spelling.{IsCount}
use Rattle.tx_model.proofs.Batches.{RiseByOne-id}
use Rattle.lock_table.specs.Tables.{Table, TableStandsFor}
use Rattle.lock_table.proofs.Tables.{stands_for_low}
use Rattle.proto_model.specs.declared.message.Report.{Report}
use Rattle.proto_model.specs.declared.message.Phase.{Phase}
use Rattle.proto_model.specs.declared.message.Phase.TheVariants.{Idle, Opening, Fetching, Repairing, Running, Closed}
use Rattle.proto_model.specs.Tables.{put}
use Rattle.proto_model.specs.Quorums.{count, quorum}
use Rattle.proto_model.specs.Choices.{recovery_choice}
use Rattle.proto_model.specs.Servers.{Config, ServerState, Waiting, chosen_len, commit_mark, drawn, idle_server, with_choice, reported_by, after_report, after_records, with_fetched, after_staged, after_low, after_stale, after_ack, acked_by, answered, begun, takes_ack, takes_records, length_of, has_fetched, is_active, phase_reported, waits_on}
use Rattle.proto_model.specs.Serving.{assigned, assigned_record}
use Rattle.proto_model.specs.Validity.{IsWord}
use Rattle.proto_model.proofs.TableLemmas.{either, if_each}
use Rattle.session_recovery.specs.Sound.{IsSound, has_chosen}
use Rattle.session_recovery.proofs.SoundSteps.{drawn_sound, idle_sound, choice_stays, report_keeps, Taken, records_taken, fetched_not_running, records_keep, staged_keeps, AckTaken, ack_taken, ack_keeps, low_keeps, stale_keeps}
use Rattle.feed_service.proofs.Parts.{rise_pushed}
use Rattle.partition_server.specs.Held.{IsClosedBySession, is_running, IsServing}
use Rattle.partition_server.specs.Waits.{WaitUpTo}
use Rattle.partition_server.proofs.Waits.{waits_append, waits_left}

-- the parts that a sound state doesn't have
record Serves (c : Config) (locks : Table) (sv : ServerState) : Type 0 where
  pub closed : IsClosedBySession sv.phase
  pub waiting : WaitUpTo (length sv.log) sv.waiting
  pub quiet : is_running sv.phase ≡ false → sv.waiting ≡ []
  pub stands : sv.phase ≡ Running → TableStandsFor locks (chosen_len c sv) sv.log

serves : (c : Config) (sv : ServerState) (locks : Table) → IsServing c sv locks → Serves c locks sv
serves c sv locks ok = record { closed = ok.closed; waiting = ok.waiting; quiet = ok.quiet; stands = ok.stands }

serving : (c : Config) (sv : ServerState) (locks : Table) → IsSound c sv → Serves c locks sv → IsServing c sv locks
serving c sv locks sound ok = record { sound = sound; closed = ok.closed; waiting = ok.waiting; quiet = ok.quiet; stands = ok.stands }

-- ---- the start

pub drawn_serves : (c : Config) (s : ℕ) (locks : Table) → IsPlace s → IsServing c (drawn s) locks
drawn_serves c s locks place = record {
  sound = drawn_sound c s place;
  closed = tt;
  waiting = tt;
  quiet = λ p. refl;
  stands = λ p. absurd (let e : Opening ≡ Running = p in cc);
}

pub idle_serves : (c : Config) (locks : Table) → IsServing c idle_server locks
idle_serves c locks = record {
  sound = idle_sound c;
  closed = tt;
  waiting = tt;
  quiet = λ p. refl;
  stands = λ p. absurd (let e : Idle ≡ Running = p in cc);
}

-- ---- a report

running_fetched : (b : Bool) → (if b then Repairing else Fetching) ≡ Running → ⊥
running_fetched true h = let e : Repairing ≡ Running = h in cc
running_fetched false h = let e : Fetching ≡ Running = h in cc

running_choice : (choice : Option Report) → phase_reported choice Opening ≡ Running → ⊥
running_choice None e = let f : Opening ≡ Running = e in cc
running_choice (Some r) e = running_fetched (r.length == 0) e

running_before : (choice : Option Report) (phase : Phase) → phase_reported choice phase ≡ Running → phase ≡ Running
running_before choice Idle e = e
running_before choice Opening e = absurd (running_choice choice e)
running_before choice Fetching e = e
running_before choice Repairing e = e
running_before choice Running e = refl
running_before choice (Closed p) e = e

quiet_before : (choice : Option Report) (phase : Phase) → is_running (phase_reported choice phase) ≡ false → is_running phase ≡ false
quiet_before choice Idle e = refl
quiet_before choice Opening e = refl
quiet_before choice Fetching e = refl
quiet_before choice Repairing e = refl
quiet_before choice Running e = e
quiet_before choice (Closed p) e = refl

closed_after : (choice : Option Report) (phase : Phase) → IsClosedBySession phase → IsClosedBySession (phase_reported choice phase)
closed_after choice Idle h = h
closed_after None Opening h = h
closed_after (Some r) Opening h = either IsClosedBySession (r.length == 0) Repairing Fetching tt tt
closed_after choice Fetching h = h
closed_after choice Repairing h = h
closed_after choice Running h = h
closed_after choice (Closed p) h = h

choice_serves : (c : Config) (sv : ServerState) (r : Report) (locks : Table) → IsServing c sv locks → Serves c locks (with_choice c (reported_by sv r))
choice_serves c sv r locks ok =
    let choice : Option Report = recovery_choice (quorum c.nodes) (sv.reports ++ r ∷ []) in
    record {
      closed = closed_after choice sv.phase ok.closed;
      waiting = ok.waiting;
      quiet = λ p. ok.quiet (quiet_before choice sv.phase p);
      stands = λ p.
          let q = running_before choice sv.phase p in
          subst (λ (n : ℕ). TableStandsFor locks n sv.log) (ap length_of (sym (choice_stays c sv r ok.sound (ap has_chosen q)))) (ok.stands q);
    }

pub report_serves : (c : Config) (sv : ServerState) (r : Report) (locks : Table) → IsServing c sv locks → is_active sv.phase ≡ true → IsCount r.length → IsServing c (after_report c sv r) locks
report_serves c sv r locks ok active small =
    serving c (after_report c sv r) locks (report_keeps c sv r ok.sound active small)
    (either (Serves c locks) (not (sv.reported r.node) && nat_lt r.adopted sv.session) (with_choice c (reported_by sv r)) sv (choice_serves c sv r locks ok) (serves c sv locks ok))

-- ---- the chosen node's records

more_serves : (c : Config) (sv : ServerState) (log : List Record) (first : ℕ) (locks : Table) → IsServing c sv locks → Taken c sv first → Serves c locks (with_fetched (chosen_len c sv) sv log)
more_serves c sv log first locks ok took =
    let none : sv.waiting ≡ [] = ok.quiet (ap is_running took.phase) in
    record {
      closed = either IsClosedBySession (length log == chosen_len c sv) Repairing Fetching tt tt;
      waiting = subst (λ (l : List Waiting). WaitUpTo (length log) l) (sym none) tt;
      quiet = λ p. none;
      stands = λ p. absurd (fetched_not_running c sv log p);
    }

pub records_serve : (c : Config) (sv : ServerState) (i : ℕ) (batch : List Record) (locks : Table) → IsServing c sv locks → IsBatch batch → IsServing c (after_records c sv i batch) locks
records_serve c sv i batch locks ok is =
    let log : List Record = sv.log ++ take (chosen_len c sv - length sv.log) batch in
    serving c (after_records c sv i batch) locks (records_keep c sv i batch ok.sound is)
    (if_each (Serves c locks) (takes_records c sv i (first_id batch)) (with_fetched (chosen_len c sv) sv log) sv
    (λ takes. more_serves c sv log (first_id batch) locks ok (records_taken c sv i (first_id batch) takes)) (λ _. serves c sv locks ok))

-- ---- progress, a low-water mark, and a later session

pub staged_serves : (c : Config) (sv : ServerState) (i upto : ℕ) (locks : Table) → IsServing c sv locks → IsServing c (after_staged sv i upto) locks
staged_serves c sv i upto locks ok =
    serving c (after_staged sv i upto) locks (staged_keeps c sv i upto ok.sound)
    (either (Serves c locks) (sv.reported i && not (sv.adopted i)) (record sv { staged = put sv.staged i upto }) sv
    (record { closed = ok.closed; waiting = ok.waiting; quiet = ok.quiet; stands = ok.stands }) (serves c sv locks ok))

pub low_serves : (c : Config) (sv : ServerState) (i low : ℕ) (locks : Table) → IsServing c sv locks → IsServing c (after_low c sv i low) locks
low_serves c sv i low locks ok =
    serving c (after_low c sv i low) locks (low_keeps c sv i low ok.sound)
    (either (Serves c locks) (sv.adopted i && nat_le low (commit_mark c sv)) (record sv { low = put sv.low i (max (sv.low i) low) }) sv
    (record { closed = ok.closed; waiting = ok.waiting; quiet = ok.quiet; stands = ok.stands }) (serves c sv locks ok))

pub stale_serves : (c : Config) (sv : ServerState) (s p : ℕ) (locks : Table) → IsServing c sv locks → (s < p → IsPlace p) → IsServing c (after_stale sv s p) locks
stale_serves c sv s p locks ok place =
    serving c (after_stale sv s p) locks (stale_keeps c sv s p ok.sound)
    (if_each (Serves c locks) (nat_lt s p) (record sv { phase = Closed p; waiting = [] }) sv
    (λ less. record {
      closed = place (grind (arith, nat_tests, less));
      waiting = tt;
      quiet = λ e. refl;
      stands = λ e. absurd (let f : Closed p ≡ Running = e in cc);
    }) (λ _. serves c sv locks ok))

-- ---- an acknowledgement

low_ids : (log : List Record) (start : ℕ) → RiseByOne 1 log → length log ≡ start → All (λ (r : Record). r.id ≤ start) log
low_ids log start rise e = λ k d l. let id = RiseByOne-id 1 log k d rise l in omega (arith, id)

begun_stands : (phase : Phase) (next : Phase) (locks locks' : Table) (start : ℕ) (log : List Record) → has_fetched phase ≡ true → RiseByOne 1 log →
    (phase ≡ Repairing → length log ≡ start) → (phase ≡ Running → TableStandsFor locks start log) →
    (phase ≡ Running → locks' ≡ locks) → (phase ≡ Repairing → next ≡ Running → TableStandsFor locks' start []) → next ≡ Running → TableStandsFor locks' start log
begun_stands Repairing next locks locks' start log repair rise whole stands kept begun e = stands_for_low locks' start log (low_ids log start rise (whole refl)) (begun refl e)
begun_stands Running next locks locks' start log repair rise whole stands kept begun e = subst (λ (t : Table). TableStandsFor t start log) (sym (kept refl)) (stands refl)
begun_stands Idle next locks locks' start log repair rise whole stands kept begun e = absurd (let f : false ≡ true = repair in cc)
begun_stands Opening next locks locks' start log repair rise whole stands kept begun e = absurd (let f : false ≡ true = repair in cc)
begun_stands Fetching next locks locks' start log repair rise whole stands kept begun e = absurd (let f : false ≡ true = repair in cc)
begun_stands (Closed p) next locks locks' start log repair rise whole stands kept begun e = absurd (let f : false ≡ true = repair in cc)

quiet_begun : (b : Bool) (phase : Phase) → is_running (if b then Running else phase) ≡ false → is_running phase ≡ false
quiet_begun true phase e = absurd (let f : true ≡ false = e in cc)
quiet_begun false phase e = e

-- the phase once an acknowledgement is taken
abbrev pub acked_phase : Config → ServerState → ℕ → ℕ → Phase
acked_phase c sv i len = (begun c (acked_by sv i len)).phase

acked_serves : (c : Config) (sv : ServerState) (i len : ℕ) (locks locks' : Table) → IsServing c sv locks → AckTaken c sv i len → (sv.phase ≡ Running → locks' ≡ locks) →
    (sv.phase ≡ Repairing → acked_phase c sv i len ≡ Running → TableStandsFor locks' (chosen_len c sv) []) → Serves c locks' (answered c (begun c (acked_by sv i len)))
acked_serves c sv i len locks locks' ok took kept begins =
    let b : Bool = nat_le (quorum c.nodes) (count (put sv.adopted i true) c.nodes) in
    let mark : ℕ = commit_mark c (begun c (acked_by sv i len)) in
    record {
      closed = either IsClosedBySession b Running sv.phase tt ok.closed;
      waiting = waits_left (length sv.log) mark sv.waiting ok.waiting;
      quiet = λ p. ap (λ (l : List Waiting). waits_on mark l) (ok.quiet (quiet_begun b sv.phase p));
      stands = begun_stands sv.phase (acked_phase c sv i len) locks locks' (chosen_len c sv) sv.log took.repair ok.sound.rise ok.sound.whole ok.stands kept begins;
    }

pub ack_serves : (c : Config) (sv : ServerState) (i len : ℕ) (locks locks' : Table) → IsServing c sv locks → takes_ack c sv i len ≡ true → (sv.phase ≡ Running → locks' ≡ locks) →
    (sv.phase ≡ Repairing → acked_phase c sv i len ≡ Running → TableStandsFor locks' (chosen_len c sv) []) → IsServing c (after_ack c sv i len) locks'
ack_serves c sv i len locks locks' ok takes kept begins =
    serving c (after_ack c sv i len) locks' (ack_keeps c sv i len ok.sound)
    (if_each (Serves c locks') (takes_ack c sv i len) (answered c (begun c (acked_by sv i len))) sv
    (λ _. acked_serves c sv i len locks locks' ok (ack_taken c sv i len takes) kept begins)
    (λ off. absurd (let e : true ≡ false = sym takes ∙ off in cc)))

-- ---- a new record

pub assigned_sound : (c : Config) (sv : ServerState) (tx : Transaction) → IsSound c sv → sv.phase ≡ Running → IsRecord (assigned_record sv tx) → IsSound c (assigned sv tx)
assigned_sound c sv tx ok running valid =
    let longer : length (sv.log ++ assigned_record sv tx ∷ []) ≡ length sv.log + 1 = length-append sv.log (assigned_record sv tx ∷ []) in
    record {
      session = ok.session;
      counts = ok.counts;
      chose = ok.chose;
      rise = rise_pushed sv.log (assigned_record sv tx) ok.rise valid refl;
      empty = λ p. absurd (let e : Running ≡ Opening = sym running ∙ p in cc);
      fetching = λ p. absurd (let e : Running ≡ Fetching = sym running ∙ p in cc);
      whole = λ p. absurd (let e : Running ≡ Repairing = sym running ∙ p in cc);
      long = λ p. let x = ok.long p in omega (arith, x, longer);
      within = λ i. let x = ok.within i in omega (arith, x, longer);
    }

pub assigned_serves : (c : Config) (sv : ServerState) (tx : Transaction) (locks locks' : Table) → IsServing c sv locks → sv.phase ≡ Running → IsRecord (assigned_record sv tx) → IsWord tx.request →
    (TableStandsFor locks (chosen_len c sv) sv.log → TableStandsFor locks' (chosen_len c sv) (sv.log ++ assigned_record sv tx ∷ [])) → IsServing c (assigned sv tx) locks'
assigned_serves c sv tx locks locks' ok running valid word noted =
    let w : Waiting = record { id = length sv.log + 1; client = tx.client; request = tx.request } in
    let longer : length (sv.log ++ assigned_record sv tx ∷ []) ≡ length sv.log + 1 = length-append sv.log (assigned_record sv tx ∷ []) in
    record {
      sound = assigned_sound c sv tx ok.sound running valid;
      closed = ok.closed;
      waiting = subst (λ n. WaitUpTo n (sv.waiting ++ w ∷ [])) (sym longer) (waits_append (length sv.log) sv.waiting w ok.waiting refl word);
      quiet = λ p. absurd (let e : true ≡ false = ap is_running (sym running) ∙ p in cc);
      stands = λ p. noted (ok.stands p);
    }
