-- What is true of a server's state, and what each reply leaves of it.
use Rattle.std.proofs.Common.{◌≡◌, ◌≢◌, ℕ, zero, suc, ◌+◌, ◌-◌, ◌<◌, ◌≤◌, max, nat_lt, nat_le, ◌==◌, ◌&&◌, not, if◌then◌else◌, Bool, true, false, List, [], ◌∷◌, ◌++◌, length, take, Option, Some, None, inl, inr, ◌⊎◌, refl, ap, sym, ◌∙◌, arith, lit<, length-append}
use Rattle.std.specs.List.{AllByRecursion}
use Rattle.std.proofs.lemmas.List.{length-take}
use Rattle.std.proofs.lemmas.Bool.Decides.{nat_tests}
use Rattle.std.proofs.lemmas.Bool.{cases_eq}
use Rattle.tx_model.specs.declared.record.Record.{Record}
use Rattle.tx_model.specs.Records.{IsPlace, IsBatch, RiseByOne, first_id}
use Rattle.tx_model.specs.Spelling.{IsCount}
use Rattle.tx_model.proofs.Batches.{RiseByOne-append, RiseByOne-take}
use Rattle.proto_model.specs.declared.message.Report.{Report}
use Rattle.proto_model.specs.declared.message.Phase.{Phase}
use Rattle.proto_model.specs.declared.message.Phase.TheVariants.{Idle, Opening, Fetching, Repairing, Running, Closed}
use Rattle.proto_model.specs.Tables.{put}
use Rattle.proto_model.specs.Quorums.{count, quorum}
use Rattle.proto_model.specs.Choices.{recovery_choice, best, better, beats}
use Rattle.proto_model.specs.Servers.{Config, ServerState, chosen_len, chosen, commit_mark, drawn, idle_server, with_choice, reported_by, after_report, after_records, with_fetched, after_staged, after_low, after_stale, after_ack, acked_by, answered, begun, takes_ack, takes_records, length_of, has_fetched, is_active, is_fetching, is_of, phase_reported}
use Rattle.proto_model.specs.Sanity.{IsValidServer}
use Rattle.proto_model.proofs.TableLemmas.{either, if_each, AllByRecursion-append}
use Rattle.session_recovery.specs.Sound.{IsSound, has_chosen}
use Rattle.session_recovery.proofs.Choosing.{choice-append, chosen_among}
use Rattle.session_recovery.proofs.Counts.{put_here, put_there}

-- ---- phases

pub and_true : (a b : Bool) → (a && b) ≡ true → (a ≡ true) × (b ≡ true)
and_true true b h = (refl, h)
and_true false b h = absurd (let e : false ≡ true = h in cc)

pub both_true : (a b : Bool) → a ≡ true → b ≡ true → (a && b) ≡ true
both_true true b e f = f
both_true false b e f = absurd (let g : false ≡ true = e in cc)

pub repair_chosen : (phase : Phase) → has_fetched phase ≡ true → has_chosen phase ≡ true
repair_chosen Repairing h = refl
repair_chosen Running h = refl
repair_chosen Idle h = h
repair_chosen Opening h = h
repair_chosen Fetching h = refl
repair_chosen (Closed p) h = h

pub repair_active : (phase : Phase) → has_fetched phase ≡ true → is_active phase ≡ true
repair_active Repairing h = refl
repair_active Running h = refl
repair_active Opening h = refl
repair_active Fetching h = refl
repair_active Idle h = absurd (let e : false ≡ true = h in cc)
repair_active (Closed p) h = absurd (let e : false ≡ true = h in cc)

pub fetching_row : (phase : Phase) → is_fetching phase ≡ true → phase ≡ Fetching
fetching_row Fetching h = refl
fetching_row Idle h = absurd (let e : false ≡ true = h in cc)
fetching_row Opening h = absurd (let e : false ≡ true = h in cc)
fetching_row Repairing h = absurd (let e : false ≡ true = h in cc)
fetching_row Running h = absurd (let e : false ≡ true = h in cc)
fetching_row (Closed p) h = absurd (let e : false ≡ true = h in cc)

-- ---- the start

nothing_rises : RiseByOne 1 []
unfolding RiseByOne
nothing_rises = tt

pub drawn_sound : (c : Config) (s : ℕ) → IsPlace s → IsSound c (drawn s)
drawn_sound c s place = record {
  session = λ _. place;
  counts = tt;
  chose = λ p. absurd (let e : false ≡ true = p in cc);
  rise = nothing_rises;
  empty = λ p. refl;
  fetching = λ p. absurd (let e : Opening ≡ Fetching = p in cc);
  whole = λ p. absurd (let e : Opening ≡ Repairing = p in cc);
  long = λ p. absurd (let e : false ≡ true = p in cc);
  within = λ i. omega arith;
}

pub idle_sound : (c : Config) → IsSound c idle_server
idle_sound c = record {
  session = λ p. absurd (let e : false ≡ true = p in cc);
  counts = tt;
  chose = λ p. absurd (let e : false ≡ true = p in cc);
  rise = nothing_rises;
  empty = λ p. refl;
  fetching = λ p. absurd (let e : Idle ≡ Fetching = p in cc);
  whole = λ p. absurd (let e : Idle ≡ Repairing = p in cc);
  long = λ p. absurd (let e : false ≡ true = p in cc);
  within = λ i. omega arith;
}

-- ---- a report

opening_before : (choice : Option Report) (phase : Phase) → phase_reported choice phase ≡ Opening → phase ≡ Opening
opening_before choice Idle e = e
opening_before choice Opening e = refl
opening_before choice Fetching e = e
opening_before choice Repairing e = e
opening_before choice Running e = e
opening_before choice (Closed p) e = e

some_chose : (q : ℕ) (reports : List Report) (choice : Option Report) → recovery_choice q reports ≡ choice → has_chosen (phase_reported choice Opening) ≡ true → q ≤ length reports
some_chose q reports None e h = absurd (let f : false ≡ true = h in cc)
some_chose q reports (Some r) e h = chosen_among q reports r e

chose_after : (q : ℕ) (reports : List Report) (phase : Phase) → (has_chosen phase ≡ true → q ≤ length reports) → has_chosen (phase_reported (recovery_choice q reports) phase) ≡ true → q ≤ length reports
chose_after q reports Idle before h = before h
chose_after q reports Opening before h = some_chose q reports (recovery_choice q reports) refl h
chose_after q reports Fetching before h = before h
chose_after q reports Repairing before h = before h
chose_after q reports Running before h = before h
chose_after q reports (Closed p) before h = before h

empty_choice : (n : ℕ) → has_fetched (if n == 0 then Repairing else Fetching) ≡ true → n ≡ 0
empty_choice n h = grind (arith, nat_tests)

-- where the phase is in repair right after the first choice, the chosen log is empty
pub fresh_choice : (choice : Option Report) → has_fetched (phase_reported choice Opening) ≡ true → length_of choice ≡ 0
fresh_choice None h = refl
fresh_choice (Some r) h = empty_choice r.length h

some_row : (n : ℕ) → has_fetched (if n == 0 then Repairing else Fetching) ≡ false → 0 < n
some_row n h = grind (arith, nat_tests)

-- where the server is fetching right after it, it isn't
some_choice : (choice : Option Report) → phase_reported choice Opening ≡ Fetching → 0 < length_of choice
some_choice None h = absurd (let e : Opening ≡ Fetching = h in cc)
some_choice (Some r) h = some_row r.length (ap has_fetched h)

short_after : (choice : Option Report) (phase : Phase) (log : List Record) → (phase ≡ Opening → log ≡ []) → (phase ≡ Fetching → length log < length_of choice) →
    phase_reported choice phase ≡ Fetching → length log < length_of choice
short_after choice Idle log empty before h = before h
short_after choice Opening log empty before h = let e : length log ≡ 0 = ap length (empty refl) in let some = some_choice choice h in omega (arith, e, some)
short_after choice Fetching log empty before h = before h
short_after choice Repairing log empty before h = before h
short_after choice Running log empty before h = before h
short_after choice (Closed p) log empty before h = before h

whole_after : (choice : Option Report) (phase : Phase) (log : List Record) → (phase ≡ Opening → log ≡ []) → (phase ≡ Repairing → length log ≡ length_of choice) →
    phase_reported choice phase ≡ Repairing → length log ≡ length_of choice
whole_after choice Idle log empty before h = absurd (let e : Idle ≡ Repairing = h in cc)
whole_after choice Opening log empty before h = ap length (empty refl) ∙ sym (fresh_choice choice (ap has_fetched h))
whole_after choice Fetching log empty before h = absurd (let e : Fetching ≡ Repairing = h in cc)
whole_after choice Repairing log empty before h = before refl
whole_after choice Running log empty before h = absurd (let e : Running ≡ Repairing = h in cc)
whole_after choice (Closed p) log empty before h = absurd (let e : Closed p ≡ Repairing = h in cc)

long_after : (choice : Option Report) (phase : Phase) (n : ℕ) → (has_fetched phase ≡ true → length_of choice ≤ n) → has_fetched (phase_reported choice phase) ≡ true → length_of choice ≤ n
long_after choice Idle n before h = before h
long_after choice Opening n before h = let e = fresh_choice choice h in omega (arith, e)
long_after choice Fetching n before h = before h
long_after choice Repairing n before h = before h
long_after choice Running n before h = before h
long_after choice (Closed p) n before h = before h

-- later reports leave the choice as it is
pub choice_stays : (c : Config) (sv : ServerState) (r : Report) → IsSound c sv → has_chosen sv.phase ≡ true → recovery_choice (quorum c.nodes) (sv.reports ++ r ∷ []) ≡ chosen c sv
choice_stays c sv r ok p = choice-append (quorum c.nodes) sv.reports r (omega arith) (ok.chose p)

pub choice_sound : (c : Config) (sv : ServerState) (r : Report) → IsSound c sv → is_active sv.phase ≡ true → IsCount r.length → IsSound c (with_choice c (reported_by sv r))
choice_sound c sv r ok active small =
    let reports : List Report = sv.reports ++ r ∷ [] in
    let choice : Option Report = recovery_choice (quorum c.nodes) reports in
    let longer : length reports ≡ length sv.reports + 1 = length-append sv.reports (r ∷ []) in
    let same : has_chosen sv.phase ≡ true → choice ≡ chosen c sv = choice_stays c sv r ok in
    record {
      session = λ _. ok.session active;
      counts = AllByRecursion-append (λ (x : Report). IsCount x.length) sv.reports (r ∷ []) ok.counts (small, tt);
      chose = λ p. chose_after (quorum c.nodes) reports sv.phase (λ q. let x = ok.chose q in omega (arith, x, longer)) p;
      rise = ok.rise;
      empty = λ p. ok.empty (opening_before choice sv.phase p);
      fetching = λ p. short_after choice sv.phase sv.log ok.empty
          (λ q. let x = ok.fetching q in let y = ap length_of (same (ap has_chosen q)) in omega (arith, x, y)) p;
      whole = λ p. whole_after choice sv.phase sv.log ok.empty (λ q. ok.whole q ∙ ap length_of (sym (same (ap has_chosen q)))) p;
      long = λ p. long_after choice sv.phase (length sv.log) (λ q. let x = ok.long q in let y = ap length_of (same (repair_chosen sv.phase q)) in omega (arith, x, y)) p;
      within = ok.within;
    }

pub report_keeps : (c : Config) (sv : ServerState) (r : Report) → IsSound c sv → is_active sv.phase ≡ true → IsCount r.length → IsSound c (after_report c sv r)
report_keeps c sv r ok active small =
    either (IsSound c) (not (sv.reported r.node) && nat_lt r.adopted sv.session) (with_choice c (reported_by sv r)) sv (choice_sound c sv r ok active small) ok

-- ---- the chosen node's records

of_chosen : (q : ℕ) (reports : List Report) (i : ℕ) (choice : Option Report) → recovery_choice q reports ≡ choice → is_of i choice ≡ true → q ≤ length reports
of_chosen q reports i None e h = absurd (let f : false ≡ true = h in cc)
of_chosen q reports i (Some r) e h = chosen_among q reports r e

-- records that are taken follow the log
pub record Taken (c : Config) (sv : ServerState) (first : ℕ) : Type 0 where
  pub phase : sv.phase ≡ Fetching
  pub chose : quorum c.nodes ≤ length sv.reports
  pub follow : first ≡ length sv.log + 1

pub records_taken : (c : Config) (sv : ServerState) (i first : ℕ) → takes_records c sv i first ≡ true → Taken c sv first
records_taken c sv i first e =
    let t = first == length sv.log + 1 in
    let p = and_true (is_fetching sv.phase) (is_of i (chosen c sv) && t) e in
    let q = and_true (is_of i (chosen c sv)) t p.1 in
    let x = q.1 in
    record {
      phase = fetching_row sv.phase p.0;
      chose = of_chosen (quorum c.nodes) sv.reports i (chosen c sv) refl q.0;
      follow = grind (arith, nat_tests, x);
    }

more_rise : (log batch : List Record) (n : ℕ) → RiseByOne 1 log → IsBatch batch → first_id batch ≡ length log + 1 → RiseByOne 1 (log ++ take n batch)
more_rise log batch n rise is first =
    let place : first_id batch ≡ 1 + length log = omega (arith, first) in
    let back : RiseByOne (1 + length log) batch = rw place at is.rise in
    RiseByOne-append 1 log (take n batch) rise (RiseByOne-take (1 + length log) batch n back)

pub repaired_row : (m n : ℕ) → has_fetched (if m == n then Repairing else Fetching) ≡ true → m ≡ n
repaired_row m n h = grind (arith, nat_tests)

part_row : (m n : ℕ) → has_fetched (if m == n then Repairing else Fetching) ≡ false → m ≢ n
part_row m n h = grind (arith, nat_tests)

opening_bool : (b : Bool) → (if b then Repairing else Fetching) ≡ Opening → ⊥
opening_bool true h = let e : Repairing ≡ Opening = h in cc
opening_bool false h = let e : Fetching ≡ Opening = h in cc

pub running_bool : (b : Bool) → (if b then Repairing else Fetching) ≡ Running → ⊥
running_bool true h = let e : Repairing ≡ Running = h in cc
running_bool false h = let e : Fetching ≡ Running = h in cc

-- while records are fetched the server doesn't run
pub fetched_not_running : (c : Config) (sv : ServerState) (log : List Record) → (with_fetched (chosen_len c sv) sv log).phase ≡ Running → ⊥
fetched_not_running c sv log h = running_bool (length log == chosen_len c sv) h

pub more_sound : (c : Config) (sv : ServerState) (batch : List Record) → IsSound c sv → IsBatch batch → Taken c sv (first_id batch) →
    IsSound c (with_fetched (chosen_len c sv) sv (sv.log ++ take (chosen_len c sv - length sv.log) batch))
more_sound c sv batch ok is took =
    let b : ℕ = chosen_len c sv in
    let log : List Record = sv.log ++ take (b - length sv.log) batch in
    let longer : length log ≡ length sv.log + length (take (b - length sv.log) batch) = length-append sv.log (take (b - length sv.log) batch) in
    record {
      session = λ p. ok.session (ap is_active took.phase);
      counts = ok.counts;
      chose = λ p. took.chose;
      rise = more_rise sv.log batch (b - length sv.log) ok.rise is took.follow;
      empty = λ p. absurd (opening_bool (length log == b) p);
      fetching = λ p.
          let other = part_row (length log) b (ap has_fetched p) in
          let short = ok.fetching took.phase in
          let part = length-take (b - length sv.log) batch in
          omega (arith, other, short, part, longer);
      whole = λ p. repaired_row (length log) b (ap has_fetched p);
      long = λ p. let e = repaired_row (length log) b p in omega (arith, e);
      within = λ i. let x = ok.within i in omega (arith, x, longer);
    }

pub records_keep : (c : Config) (sv : ServerState) (i : ℕ) (batch : List Record) → IsSound c sv → IsBatch batch → IsSound c (after_records c sv i batch)
records_keep c sv i batch ok is =
    if_each (IsSound c) (takes_records c sv i (first_id batch)) (with_fetched (chosen_len c sv) sv (sv.log ++ take (chosen_len c sv - length sv.log) batch)) sv
    (λ takes. more_sound c sv batch ok is (records_taken c sv i (first_id batch) takes)) (λ _. ok)

-- ---- progress

pub staged_keeps : (c : Config) (sv : ServerState) (i upto : ℕ) → IsSound c sv → IsSound c (after_staged sv i upto)
staged_keeps c sv i upto ok =
    either (IsSound c) (sv.reported i && not (sv.adopted i)) (record sv { staged = put sv.staged i upto }) sv
    (record {
      session = ok.session;
      counts = ok.counts;
      chose = ok.chose;
      rise = ok.rise;
      empty = ok.empty;
      fetching = ok.fetching;
      whole = ok.whole;
      long = ok.long;
      within = ok.within;
    }) ok

-- ---- adoption

pub record AckTaken (c : Config) (sv : ServerState) (i len : ℕ) : Type 0 where
  pub repair : has_fetched sv.phase ≡ true
  pub reported : sv.reported i ≡ true
  pub low : chosen_len c sv ≤ len
  pub high : len ≤ length sv.log

pub ack_taken : (c : Config) (sv : ServerState) (i len : ℕ) → takes_ack c sv i len ≡ true → AckTaken c sv i len
ack_taken c sv i len e =
    let t1 = nat_le (chosen_len c sv) len in
    let t2 = nat_le len (length sv.log) in
    let p = and_true (has_fetched sv.phase) (sv.reported i && (t1 && t2)) e in
    let q = and_true (sv.reported i) (t1 && t2) p.1 in
    let both = and_true t1 t2 q.1 in
    let x = both.0 in
    let y = both.1 in
    record { repair = p.0; reported = q.0; low = grind (arith, nat_tests, x); high = grind (arith, nat_tests, y) }

acked_row : (f : ℕ → ℕ) (i m n k : ℕ) → m ≤ n → ((j : ℕ) → f j ≤ n) → (k ≡ i) ⊎ (k ≢ i) → put f i m k ≤ n
acked_row f i m n k low all (inl same) = let e : put f i m k ≡ m = ap (put f i m) same ∙ put_here f i m in omega (arith, e, low)
acked_row f i m n k low all (inr other) = let e = put_there f i m k other in let x = all k in omega (arith, e, x)

pub begun_repair : (b : Bool) (phase : Phase) → has_fetched phase ≡ true → has_fetched (if b then Running else phase) ≡ true
begun_repair b phase h = either (λ p. has_fetched p ≡ true) b Running phase refl h

not_in_repair : (b : Bool) (phase next : Phase) → has_fetched phase ≡ true → has_fetched next ≡ false → (if b then Running else phase) ≡ next → ⊥
not_in_repair b phase next repair out e = let f : false ≡ true = sym out ∙ (ap has_fetched (sym e) ∙ begun_repair b phase repair) in cc

begun_repairing : (b : Bool) (phase : Phase) → (if b then Running else phase) ≡ Repairing → phase ≡ Repairing
begun_repairing true phase e = absurd (let f : Running ≡ Repairing = e in cc)
begun_repairing false phase e = e

pub acked_sound : (c : Config) (sv : ServerState) (i len : ℕ) → IsSound c sv → AckTaken c sv i len → IsSound c (answered c (begun c (acked_by sv i len)))
acked_sound c sv i len ok took =
    let b : Bool = nat_le (quorum c.nodes) (count (put sv.adopted i true) c.nodes) in
    let top = ok.within i in
    let high = took.high in
    record {
      session = λ p. ok.session (repair_active sv.phase took.repair);
      counts = ok.counts;
      chose = λ p. ok.chose (repair_chosen sv.phase took.repair);
      rise = ok.rise;
      empty = λ p. absurd (not_in_repair b sv.phase Opening took.repair refl p);
      fetching = λ p. absurd (not_in_repair b sv.phase Fetching took.repair refl p);
      whole = λ p. ok.whole (begun_repairing b sv.phase p);
      long = λ p. ok.long took.repair;
      within = λ k. acked_row sv.acked i (max (sv.acked i) len) (length sv.log) k (omega (arith, top, high)) ok.within (cases_eq k i);
    }

pub ack_keeps : (c : Config) (sv : ServerState) (i len : ℕ) → IsSound c sv → IsSound c (after_ack c sv i len)
ack_keeps c sv i len ok =
    if_each (IsSound c) (takes_ack c sv i len) (answered c (begun c (acked_by sv i len))) sv
    (λ takes. acked_sound c sv i len ok (ack_taken c sv i len takes)) (λ _. ok)

-- ---- the rest of what replies do

pub low_keeps : (c : Config) (sv : ServerState) (i low : ℕ) → IsSound c sv → IsSound c (after_low c sv i low)
low_keeps c sv i low ok =
    either (IsSound c) (sv.adopted i && nat_le low (commit_mark c sv)) (record sv { low = put sv.low i (max (sv.low i) low) }) sv
    (record {
      session = ok.session;
      counts = ok.counts;
      chose = ok.chose;
      rise = ok.rise;
      empty = ok.empty;
      fetching = ok.fetching;
      whole = ok.whole;
      long = ok.long;
      within = ok.within;
    }) ok

pub stale_keeps : (c : Config) (sv : ServerState) (s p : ℕ) → IsSound c sv → IsSound c (after_stale sv s p)
stale_keeps c sv s p ok =
    either (IsSound c) (nat_lt s p) (record sv { phase = Closed p; waiting = [] }) sv
    (record {
      session = λ e. absurd (let f : false ≡ true = e in cc);
      counts = ok.counts;
      chose = λ e. absurd (let f : false ≡ true = e in cc);
      rise = ok.rise;
      empty = λ e. absurd (let f : Closed p ≡ Opening = e in cc);
      fetching = λ e. absurd (let f : Closed p ≡ Fetching = e in cc);
      whole = λ e. absurd (let f : Closed p ≡ Repairing = e in cc);
      long = λ e. absurd (let f : false ≡ true = e in cc);
      within = ok.within;
    }) ok

-- ---- what is valid of it

none_count : IsCount 0
none_count = lit< tt

best_count : (r : Report) (reports : List Report) → IsCount r.length → AllByRecursion (λ (x : Report). IsCount x.length) reports → IsCount (best r reports).length
best_count r [] one all = one
best_count r (x ∷ reports) one all = best_count (better r x) reports (either (λ y. IsCount y.length) (beats x r) x r all.0 one) all.1

counts_take : (n : ℕ) (reports : List Report) → AllByRecursion (λ (x : Report). IsCount x.length) reports → AllByRecursion (λ (x : Report). IsCount x.length) (take n reports)
counts_take zero reports all = tt
counts_take (suc n) [] all = tt
counts_take (suc n) (r ∷ reports) all = (all.0, counts_take n reports all.1)

choice_count : (q : ℕ) (reports : List Report) → AllByRecursion (λ (x : Report). IsCount x.length) reports → IsCount (length_of (recovery_choice q reports))
choice_count q [] all = none_count
choice_count q (r ∷ reports) all =
    either (λ choice. IsCount (length_of choice)) (nat_le q (suc (length reports))) (Some (best r (take (q - 1) reports))) None
    (best_count r (take (q - 1) reports) all.0 (counts_take (q - 1) reports all.1)) none_count

pub sound_valid : (c : Config) (sv : ServerState) → IsSound c sv → IsValidServer c sv
sound_valid c sv ok = record {
  session = ok.session;
  log = ok.rise;
  fetching = ok.fetching;
  chosen = choice_count (quorum c.nodes) sv.reports ok.counts;
  repairing = ok.long;
}
