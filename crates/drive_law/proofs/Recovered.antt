-- A server that runs after its recovery has the chosen log.
use Rattle.std.proofs.Common.{◌≡◌, ℕ, ◌+◌, ◌-◌, ◌≤◌, nat_lt, nat_le, ◌==◌, ◌&&◌, not, if◌then◌else◌, Bool, true, false, List, [], ◌∷◌, ◌++◌, length, take, Option, Some, None, refl, ap, sym, ◌∙◌, inl, inr, arith, length-append}
use Rattle.tx_model.specs.declared.record.Record.{Record}
use Rattle.tx_model.specs.Records.{first_id}
use Rattle.proto_model.specs.declared.message.Phase.{Phase}
use Rattle.proto_model.specs.declared.message.Phase.TheVariants.{Idle, Opening, Fetching, Repairing, Running, Closed}
use Rattle.proto_model.specs.declared.message.Report.{Report}
use Rattle.proto_model.specs.declared.message.FromNode.{FromNode}
use Rattle.proto_model.specs.declared.message.FromNode.TheVariants.{Opened, Stale, Unopened, Records, Staged, StageAt, Adopted, Acked, Gap, NotAdopted, LowSet}
use Rattle.proto_model.specs.Tables.{put}
use Rattle.proto_model.specs.Quorums.{quorum}
use Rattle.proto_model.specs.Choices.{recovery_choice}
use Rattle.proto_model.specs.Servers.{Config, ServerState, drawn, chosen_len, length_of, commit_mark, has_fetched, is_heard, phase_reported, with_choice, reported_by, with_fetched, takes_records, takes_ack, answered, begun, acked_by, after_report, after_records, after_staged, after_ack, after_low, after_stale, received}
use Rattle.proto_model.proofs.TableLemmas.{either, if_each}
use Rattle.session_recovery.specs.Sound.{has_chosen}
use Rattle.session_recovery.proofs.Choosing.{choice-append, chosen_among}
use Rattle.session_recovery.proofs.SoundSteps.{and_true, repair_chosen, fresh_choice, repaired_row, fetching_row, ack_taken}
use Rattle.server_loop.specs.Drives.{Driving, driving, IsDrive, is_closed}
use Rattle.drive_law.specs.Causes.{HasChosenLog, RecoveredLogIsChosen}
use Rattle.drive_law.proofs.Kept.{Lasts, round_keeps, rounds_keep}

-- ---- a report

opening_before : (choice : Option Report) (phase : Phase) → phase_reported choice phase ≡ Opening → phase ≡ Opening
opening_before choice Idle e = e
opening_before choice Opening e = refl
opening_before choice Fetching e = e
opening_before choice Repairing e = e
opening_before choice Running e = e
opening_before choice (Closed p) e = e

some_chose : (q : ℕ) (reports : List Report) (choice : Option Report) → recovery_choice q reports ≡ choice → has_chosen (phase_reported choice Opening) ≡ true → q ≤ length reports
some_chose q reports None e h = absurd (let f : false ≡ true = h in cc)
some_chose q reports (Some r) e h = chosen_among q reports r e

chose_after : (q : ℕ) (reports : List Report) (phase : Phase) → (has_chosen phase ≡ true → q ≤ length reports) → has_chosen (phase_reported (recovery_choice q reports) phase) ≡ true → q ≤ length reports
chose_after q reports Idle before h = before h
chose_after q reports Opening before h = some_chose q reports (recovery_choice q reports) refl h
chose_after q reports Fetching before h = before h
chose_after q reports Repairing before h = before h
chose_after q reports Running before h = before h
chose_after q reports (Closed p) before h = before h

whole_after : (choice : Option Report) (phase : Phase) (log : List Record) → (phase ≡ Opening → log ≡ []) → (has_fetched phase ≡ true → length log ≡ length_of choice) →
    has_fetched (phase_reported choice phase) ≡ true → length log ≡ length_of choice
whole_after choice Idle log empty before h = before h
whole_after choice Opening log empty before h = ap length (empty refl) ∙ sym (fresh_choice choice h)
whole_after choice Fetching log empty before h = before h
whole_after choice Repairing log empty before h = before h
whole_after choice Running log empty before h = before h
whole_after choice (Closed p) log empty before h = before h

reported_log : (c : Config) (sv : ServerState) (r : Report) → HasChosenLog c sv → HasChosenLog c (with_choice c (reported_by sv r))
reported_log c sv r ok =
    let q : ℕ = quorum c.nodes in
    let reports : List Report = sv.reports ++ r ∷ [] in
    let longer : length reports ≡ length sv.reports + 1 = length-append sv.reports (r ∷ []) in
    record {
      empty = λ p. ok.empty (opening_before (recovery_choice q reports) sv.phase p);
      chose = λ p. chose_after q reports sv.phase (λ e. let x = ok.chose e in omega (arith, x, longer)) p;
      whole = λ p. whole_after (recovery_choice q reports) sv.phase sv.log ok.empty
          (λ e. let many = ok.chose (repair_chosen sv.phase e) in ok.whole e ∙ ap length_of (sym (choice-append q sv.reports r (omega arith) many))) p;
    }

report_log : (c : Config) (sv : ServerState) (r : Report) → HasChosenLog c sv → HasChosenLog c (after_report c sv r)
report_log c sv r ok = either (HasChosenLog c) (not (sv.reported r.node) && nat_lt r.adopted sv.session) (with_choice c (reported_by sv r)) sv (reported_log c sv r ok) ok

-- ---- the other replies

fetched_row : (b : Bool) → (if b then Repairing else Fetching) ≡ Opening → ⊥
fetched_row true h = let e : Repairing ≡ Opening = h in cc
fetched_row false h = let e : Fetching ≡ Opening = h in cc

records_log : (c : Config) (sv : ServerState) (i : ℕ) (batch : List Record) → HasChosenLog c sv → HasChosenLog c (after_records c sv i batch)
records_log c sv i batch ok =
    let log : List Record = sv.log ++ take (chosen_len c sv - length sv.log) batch in
    if_each (HasChosenLog c) (takes_records c sv i (first_id batch)) (with_fetched (chosen_len c sv) sv log) sv
    (λ takes.
    let fetching = fetching_row sv.phase (and_true _ _ takes).0 in
    record {
      empty = λ p. absurd (fetched_row (length log == chosen_len c sv) p);
      chose = λ p. ok.chose (ap has_chosen fetching);
      whole = λ p. repaired_row (length log) (chosen_len c sv) p;
    })
    (λ _. ok)

begun_opening : (b : Bool) (phase : Phase) → (if b then Running else phase) ≡ Opening → phase ≡ Opening
begun_opening true phase e = absurd (let f : Running ≡ Opening = e in cc)
begun_opening false phase e = e

ack_log : (c : Config) (sv : ServerState) (i len : ℕ) → HasChosenLog c sv → HasChosenLog c (after_ack c sv i len)
ack_log c sv i len ok =
    if_each (HasChosenLog c) (takes_ack c sv i len) (answered c (begun c (acked_by sv i len))) sv
    (λ takes.
    let fetched = (ack_taken c sv i len takes).repair in
    record {
      empty = λ p. ok.empty (begun_opening _ sv.phase p);
      chose = λ p. ok.chose (repair_chosen sv.phase fetched);
      whole = λ p. ok.whole fetched;
    })
    (λ _. ok)

same_log : (c : Config) (sv : ServerState) (staged low : ℕ → ℕ) → HasChosenLog c sv → HasChosenLog c (record sv { staged = staged; low = low })
same_log c sv staged low ok = record { empty = ok.empty; chose = ok.chose; whole = ok.whole }

staged_log : (c : Config) (sv : ServerState) (i upto : ℕ) → HasChosenLog c sv → HasChosenLog c (after_staged sv i upto)
staged_log c sv i upto ok = either (HasChosenLog c) (sv.reported i && not (sv.adopted i)) _ sv (same_log c sv (put sv.staged i upto) sv.low ok) ok

low_log : (c : Config) (sv : ServerState) (i low : ℕ) → HasChosenLog c sv → HasChosenLog c (after_low c sv i low)
low_log c sv i low ok = either (HasChosenLog c) (sv.adopted i && nat_le low (commit_mark c sv)) _ sv (same_log c sv sv.staged _ ok) ok

stale_log : (c : Config) (sv : ServerState) (s p : ℕ) → HasChosenLog c sv → HasChosenLog c (after_stale sv s p)
stale_log c sv s p ok =
    either (HasChosenLog c) (nat_lt s p) (record sv { phase = Closed p; waiting = [] }) sv
    (record {
      empty = λ q. absurd (let e : Closed p ≡ Opening = q in cc);
      chose = λ q. absurd (let e : false ≡ true = q in cc);
      whole = λ q. absurd (let e : false ≡ true = q in cc);
    })
    ok

received_log : (c : Config) (sv : ServerState) (i : ℕ) (m : FromNode) → HasChosenLog c sv → HasChosenLog c (received c sv i m)
received_log c sv i (Opened s adopted low len) ok = report_log c sv (record { node = i; adopted = adopted; low = low; length = len }) ok
received_log c sv i (Stale s p) ok = stale_log c sv s p ok
received_log c sv i (Unopened s p) ok = ok
received_log c sv i (Records s batch) ok = records_log c sv i batch ok
received_log c sv i (Staged s upto) ok = staged_log c sv i upto ok
received_log c sv i (StageAt s next) ok = either (HasChosenLog c) (nat_le 1 next) (after_staged sv i (next - 1)) sv (staged_log c sv i (next - 1) ok) ok
received_log c sv i (Adopted s len) ok = ack_log c sv i len ok
received_log c sv i (Acked s len) ok = ack_log c sv i len ok
received_log c sv i (Gap s len) ok = ok
received_log c sv i (NotAdopted s adopted) ok = ok
received_log c sv i (LowSet s low) ok = low_log c sv i low ok

log_lasts : (c : Config) → Lasts c (HasChosenLog c)
log_lasts c sv i m some low ok = either (HasChosenLog c) (is_heard sv m) (received c sv i m) sv (received_log c sv i m ok) ok

drawn_log : (c : Config) (s : ℕ) → HasChosenLog c (drawn s)
drawn_log c s = record {
  empty = λ p. refl;
  chose = λ p. absurd (let e : false ≡ true = p in cc);
  whole = λ p. absurd (let e : false ≡ true = p in cc);
}

-- ---- the drive

drive_log : (c : Config) (ports : List ℕ) (a d : Driving) → IsDrive c ports a d → is_closed d.state.phase ≡ false → HasChosenLog c a.state → HasChosenLog c d.state
drive_log c ports a d drive works ok =
    let before = rounds_keep c (HasChosenLog c) ports a drive.before (log_lasts c) drive.rounds ok in
    elim drive.ends [
      | inl silent ↦ round_keeps c (HasChosenLog c) ports drive.before c.nodes false d (log_lasts c) silent (omega arith) before
      | inr closed ↦ absurd (let e : false ≡ true = sym works ∙ closed.closed in cc)
    ]

pub recovered : RecoveredLogIsChosen
recovered c ports s outs past d drive running =
    (drive_log c ports (driving (drawn s) outs past) d drive (ap is_closed running) (drawn_log c s)).whole (ap has_fetched running)
