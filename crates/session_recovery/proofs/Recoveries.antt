-- What is true of the server in a recovery, and what each change leaves of it.
use Rattle.std.proofs.Common.{◌≡◌, ◌≢◌, ℕ, ◌-◌, ◌<◌, max, nat_lt, nat_le, ◌==◌, ◌&&◌, not, if◌then◌else◌, Bool, true, false, List, [], ◌∷◌, ◌++◌, length, take, slice_index, slice_set, replicate, Option, Some, None, IfSome, inl, inr, ◌⊎◌, refl, ap, sym, subst, ◌∙◌, arith, length-append}
use Rattle.std.proofs.lemmas.List.{length-take}
use Rattle.std.proofs.lemmas.Bool.Decides.{nat_tests}
use Rattle.std.proofs.lemmas.Bool.{cases_eq}
use Rattle.tx_model.specs.declared.record.Record.{Record}
use Rattle.tx_model.specs.Records.{IsPlace, IsBatch, first_id}
use Rattle.tx_model.specs.Spelling.{IsCount}
use Rattle.proto_model.specs.declared.message.Report.{Report}
use Rattle.proto_model.specs.declared.message.Phase.{Phase}
use Rattle.proto_model.specs.declared.message.Phase.TheVariants.{Idle, Opening, Fetching, Repairing, Running, Closed}
use Rattle.proto_model.specs.declared.message.ToNode.{ToNode}
use Rattle.proto_model.specs.declared.message.FromNode.{FromNode}
use Rattle.proto_model.specs.declared.message.FromNode.TheVariants.{Records}
use Rattle.proto_model.specs.Tables.{put}
use Rattle.proto_model.specs.Quorums.{count, quorum}
use Rattle.proto_model.specs.Choices.{recovery_choice}
use Rattle.proto_model.specs.Servers.{Config, ServerState, chosen_len, commit_mark, drawn, holds, with_choice, reported_by, after_report, after_records, with_fetched, after_staged, after_ack, acked_by, answered, begun, takes_ack, takes_records, length_of, has_fetched, is_active, phase_reported, received, server_after, session_of}
use Rattle.proto_model.specs.Sending.{next_message}
use Rattle.proto_model.specs.Validity.{IsValidToNode}
use Rattle.proto_model.proofs.TableLemmas.{either, if_each}
use Rattle.proto_model.proofs.SaneServers.{messages}
use Rattle.session_recovery.specs.Known.{Known, Rest, column, nothing_else, server_of, config_of as config_of_known}
use Rattle.session_recovery.specs.declared.draft.Draft.{Draft}
use Rattle.session_recovery.specs.Drafts.{drafted}
use Rattle.session_recovery.specs.Sound.{IsSound}
use Rattle.session_recovery.specs.Recovering.{Recovering, IsRecovering, HasAll, config_of, state_of}
use Rattle.session_recovery.proofs.Counts.{column-set, column-replicate, put_here, put_there, reached_by as mark_reached}
use Rattle.session_recovery.proofs.SoundSteps.{and_true, both_true, repair_chosen, repair_active, fresh_choice, choice_stays, repaired_row, Taken, records_taken, AckTaken, ack_taken, begun_repair, drawn_sound, report_keeps, records_keep, staged_keeps, ack_keeps, sound_valid}

-- ---- the start

pub drawn_recovers : (c : Config) (s : ℕ) → IsPlace s → IsRecovering c (drawn s)
drawn_recovers c s place = record {
  sound = drawn_sound c s place;
  active = refl;
  whole = λ p. absurd (let e : false ≡ true = p in cc);
  adopters = λ i p. absurd (let e : false ≡ true = p in cc);
}

-- ---- a report

active_after : (choice : Option Report) (phase : Phase) → is_active phase ≡ true → is_active (phase_reported choice phase) ≡ true
active_after choice Idle h = h
active_after None Opening h = refl
active_after (Some r) Opening h = either (λ p. is_active p ≡ true) (r.length == 0) Repairing Fetching refl refl
active_after choice Fetching h = refl
active_after choice Repairing h = refl
active_after choice Running h = refl
active_after choice (Closed p) h = h

repair_after : (choice : Option Report) (phase : Phase) → has_fetched phase ≡ true → has_fetched (phase_reported choice phase) ≡ true
repair_after choice Idle h = h
repair_after choice Opening h = absurd (let e : false ≡ true = h in cc)
repair_after choice Fetching h = h
repair_after choice Repairing h = refl
repair_after choice Running h = refl
repair_after choice (Closed p) h = h

whole_after : (choice : Option Report) (phase : Phase) (log : List Record) → (phase ≡ Opening → log ≡ []) → (has_fetched phase ≡ true → length log ≡ length_of choice) →
    has_fetched (phase_reported choice phase) ≡ true → length log ≡ length_of choice
whole_after choice Idle log empty before h = before h
whole_after choice Opening log empty before h = ap length (empty refl) ∙ sym (fresh_choice choice h)
whole_after choice Fetching log empty before h = before h
whole_after choice Repairing log empty before h = before h
whole_after choice Running log empty before h = before h
whole_after choice (Closed p) log empty before h = before h

-- the parts that a sound state doesn't have
record Recovers (c : Config) (sv : ServerState) : Type 0 where
  pub active : is_active sv.phase ≡ true
  pub whole : has_fetched sv.phase ≡ true → length sv.log ≡ chosen_len c sv
  pub adopters : (i : ℕ) → sv.adopted i ≡ true → HasAll sv i

recovers : (c : Config) (sv : ServerState) → IsRecovering c sv → Recovers c sv
recovers c sv ok = record { active = ok.active; whole = ok.whole; adopters = ok.adopters }

choice_recovers : (c : Config) (sv : ServerState) (r : Report) → IsRecovering c sv → Recovers c (with_choice c (reported_by sv r))
choice_recovers c sv r ok =
    let choice : Option Report = recovery_choice (quorum c.nodes) (sv.reports ++ r ∷ []) in
    record {
      active = active_after choice sv.phase ok.active;
      whole = λ p. whole_after choice sv.phase sv.log ok.sound.empty (λ q. ok.whole q ∙ ap length_of (sym (choice_stays c sv r ok.sound (repair_chosen sv.phase q)))) p;
      adopters = λ i p. let all = ok.adopters i p in record {
        reported = either (λ b. b ≡ true) (i == r.node) true (sv.reported i) refl all.reported;
        repair = repair_after choice sv.phase all.repair;
        whole = all.whole;
      };
    }

made : (c : Config) (sv : ServerState) → IsSound c sv → Recovers c sv → IsRecovering c sv
made c sv sound ok = record { sound = sound; active = ok.active; whole = ok.whole; adopters = ok.adopters }

pub report_recovers : (c : Config) (sv : ServerState) (r : Report) → IsRecovering c sv → IsCount r.length → IsRecovering c (after_report c sv r)
report_recovers c sv r ok small =
    made c (after_report c sv r) (report_keeps c sv r ok.sound ok.active small)
    (either (Recovers c) (not (sv.reported r.node) && nat_lt r.adopted sv.session) (with_choice c (reported_by sv r)) sv (choice_recovers c sv r ok) (recovers c sv ok))

-- ---- the chosen node's records

more_recovers : (c : Config) (sv : ServerState) (log : List Record) (first : ℕ) → IsRecovering c sv → Taken c sv first → Recovers c (with_fetched (chosen_len c sv) sv log)
more_recovers c sv log first ok took = record {
  active = either (λ p. is_active p ≡ true) (length log == chosen_len c sv) Repairing Fetching refl refl;
  whole = λ p. repaired_row (length log) (chosen_len c sv) p;
  adopters = λ i p. absurd (let e : has_fetched Fetching ≡ true = ap has_fetched (sym took.phase) ∙ (ok.adopters i p).repair in let f : false ≡ true = e in cc);
}

pub records_recover : (c : Config) (sv : ServerState) (i : ℕ) (batch : List Record) → IsRecovering c sv → IsBatch batch → IsRecovering c (after_records c sv i batch)
records_recover c sv i batch ok is =
    let log : List Record = sv.log ++ take (chosen_len c sv - length sv.log) batch in
    made c (after_records c sv i batch) (records_keep c sv i batch ok.sound is)
    (if_each (Recovers c) (takes_records c sv i (first_id batch)) (with_fetched (chosen_len c sv) sv log) sv
    (λ takes. more_recovers c sv log (first_id batch) ok (records_taken c sv i (first_id batch) takes)) (λ _. recovers c sv ok))

-- ---- progress

pub staged_recovers : (c : Config) (sv : ServerState) (i upto : ℕ) → IsRecovering c sv → IsRecovering c (after_staged sv i upto)
staged_recovers c sv i upto ok =
    made c (after_staged sv i upto) (staged_keeps c sv i upto ok.sound)
    (either (Recovers c) (sv.reported i && not (sv.adopted i)) (record sv { staged = put sv.staged i upto }) sv
    (record {
      active = ok.active;
      whole = ok.whole;
      adopters = λ k p. let all = ok.adopters k p in record { reported = all.reported; repair = all.repair; whole = all.whole };
    }) (recovers c sv ok))

-- ---- adoption

adopter_row : (c : Config) (sv : ServerState) (i len k : ℕ) → IsRecovering c sv → AckTaken c sv i len → (k ≡ i) ⊎ (k ≢ i) → put sv.adopted i true k ≡ true →
    HasAll (answered c (begun c (acked_by sv i len))) k
adopter_row c sv i len k ok took (inl same) p =
    let m : ℕ = max (sv.acked i) len in
    let e : put sv.acked i m k ≡ m = ap (put sv.acked i m) same ∙ put_here sv.acked i m in
    let w = ok.whole took.repair in
    let low = took.low in
    let high = took.high in
    let top = ok.sound.within i in
    record {
      reported = ap sv.reported same ∙ took.reported;
      repair = begun_repair (nat_le (quorum c.nodes) (count (put sv.adopted i true) c.nodes)) sv.phase took.repair;
      whole = omega (arith, e, w, low, high, top);
    }
adopter_row c sv i len k ok took (inr other) p =
    let all = ok.adopters k (sym (put_there sv.adopted i true k other) ∙ p) in
    record {
      reported = all.reported;
      repair = begun_repair (nat_le (quorum c.nodes) (count (put sv.adopted i true) c.nodes)) sv.phase all.repair;
      whole = put_there sv.acked i (max (sv.acked i) len) k other ∙ all.whole;
    }

adopter_recovers : (c : Config) (sv : ServerState) (i len : ℕ) → IsRecovering c sv → AckTaken c sv i len → Recovers c (answered c (begun c (acked_by sv i len)))
adopter_recovers c sv i len ok took =
    let b : Bool = nat_le (quorum c.nodes) (count (put sv.adopted i true) c.nodes) in
    record {
      active = repair_active (if b then Running else sv.phase) (begun_repair b sv.phase took.repair);
      whole = λ p. ok.whole took.repair;
      adopters = λ k p. adopter_row c sv i len k ok took (cases_eq k i) p;
    }

pub ack_recovers : (c : Config) (sv : ServerState) (i len : ℕ) → IsRecovering c sv → IsRecovering c (after_ack c sv i len)
ack_recovers c sv i len ok =
    made c (after_ack c sv i len) (ack_keeps c sv i len ok.sound)
    (if_each (Recovers c) (takes_ack c sv i len) (answered c (begun c (acked_by sv i len))) sv
    (λ takes. adopter_recovers c sv i len ok (ack_taken c sv i len takes)) (λ _. recovers c sv ok))

-- ---- the code's state

pub fresh_state : (known : Known) (log : List Record) (acked : List ℕ) (s : ℕ) → log ≡ [] → acked ≡ replicate 8 0 → server_of known nothing_else ≡ drawn s → state_of (record { known = known; log = log; acked = acked }) ≡ drawn s
fresh_state known log acked s none zeros is =
    let col : column 0 acked ≡ (λ i. 0) = ap (column 0) zeros ∙ column-replicate 8 0 in
    (λ j. server_of known (record { log = none j; acked = col j; waiting = [] })) ∙ is

-- another state that is the same
pub carried : (k k' : Known) (sv sv' : ServerState) → k'.nodes ≡ k.nodes → sv' ≡ sv → IsRecovering (config_of_known k) sv → IsRecovering (config_of_known k') sv'
carried k k' sv sv' n s ok =
    subst (λ (x : ServerState). IsRecovering (config_of_known k') x) (sym s) (subst (λ (m : ℕ). IsRecovering (record { nodes = m; rows = 0; slots = 0 }) sv) (sym n) ok)

-- a reply to the session of a recovery is heard
pub heard_step : (h h' : Recovering) (i : ℕ) (m : FromNode) → h ≡ h' → IsRecovering (config_of h) (state_of h) → session_of m ≡ h'.known.session →
    received (config_of h') (state_of h') i m ≡ server_after (config_of h') (state_of h') i m
heard_step h h' i m same ok mine =
    let active : is_active h'.known.phase ≡ true = ap (λ (x : Recovering). is_active x.known.phase) (sym same) ∙ ok.active in
    let test : (session_of m == h'.known.session) ≡ true = grind (arith, nat_tests, mine) in
    ap (λ b. if b then received (config_of h') (state_of h') i m else state_of h') (sym (both_true (is_active h'.known.phase) (session_of m == h'.known.session) active test))

abbrev pub rest_of : Recovering → Rest
rest_of r = record { log = r.log; acked = column 0 r.acked; waiting = [] }

-- what is not taken changes nothing
pub ack_missed : (h : Recovering) (i len : ℕ) → takes_ack (config_of h) (state_of h) i len ≡ false → state_of h ≡ after_ack (config_of h) (state_of h) i len
ack_missed h i len off = ap (λ t. if t then answered (config_of h) (begun (config_of h) (acked_by (state_of h) i len)) else state_of h) (sym off)

pub records_missed : (h : Recovering) (i : ℕ) (batch : List Record) → takes_records (config_of h) (state_of h) i (first_id batch) ≡ false → state_of h ≡ after_records (config_of h) (state_of h) i batch
records_missed h i batch off =
    let b : ℕ = chosen_len (config_of h) (state_of h) in
    ap (λ t. if t then with_fetched b (state_of h) (h.log ++ take (b - length h.log) batch) else state_of h) (sym off)

pub fetched_state : (h : Recovering) (known : Known) (log : List Record) (len i : ℕ) (batch : List Record) → takes_records (config_of h) (state_of h) i (first_id batch) ≡ true →
    log ≡ h.log ++ take (chosen_len (config_of h) (state_of h) - length h.log) batch → len ≡ length log →
    server_of known (record (rest_of h) { log = log }) ≡ record (state_of h) { log = log; phase = if len == chosen_len (config_of h) (state_of h) then Repairing else Fetching } →
    state_of (record { known = known; log = log; acked = h.acked }) ≡ after_records (config_of h) (state_of h) i batch
fetched_state h known log len i batch takes is same made =
    let b : ℕ = chosen_len (config_of h) (state_of h) in
    let sv : ServerState = state_of h in
    made ∙ ((λ j. record sv { log = log; phase = if same j == b then Repairing else Fetching })
    ∙ (ap (with_fetched b sv) is ∙ ap (λ t. if t then with_fetched b sv (h.log ++ take (b - length h.log) batch) else sv) (sym takes)))

-- records that are taken make the log longer
pub records_longer : (h h' : Recovering) (i : ℕ) (batch : List Record) → h ≡ h' → IsRecovering (config_of h) (state_of h) → IsBatch batch → takes_records (config_of h) (state_of h) i (first_id batch) ≡ true →
    length h'.log < length (server_after (config_of h') (state_of h') i (Records h'.known.session batch)).log
records_longer h h' i batch same ok is takes =
    let b : ℕ = chosen_len (config_of h) (state_of h) in
    let more : List Record = take (b - length h.log) batch in
    let short = ok.sound.fetching (records_taken (config_of h) (state_of h) i (first_id batch) takes).phase in
    let some = is.some in
    let part = length-take (b - length h.log) batch in
    let longer = length-append h.log more in
    let heard = heard_step h h i (Records h.known.session batch) refl ok refl in
    let taken : after_records (config_of h) (state_of h) i batch ≡ with_fetched b (state_of h) (h.log ++ more) =
    ap (λ t. if t then with_fetched b (state_of h) (h.log ++ more) else state_of h) takes in
    let log : length (server_after (config_of h) (state_of h) i (Records h.known.session batch)).log ≡ length (h.log ++ more) =
    ap (λ (x : ServerState). length x.log) (sym heard ∙ taken) in
    subst (λ (x : Recovering). length x.log < length (server_after (config_of x) (state_of x) i (Records x.known.session batch)).log) same
    (omega (arith, short, some, part, longer, log))

pub acked_state : (h : Recovering) (known : Known) (i len most : ℕ) → i < length h.acked → takes_ack (config_of h) (state_of h) i len ≡ true → most ≡ max (slice_index h.acked i) len →
    server_of known (record (rest_of h) { acked = column 0 (slice_set h.acked i most) }) ≡
    begun (config_of h) (record (state_of h) { acked = column 0 (slice_set h.acked i most); adopted = put (column false h.known.adopted) i true }) →
    state_of (record { known = known; log = h.log; acked = slice_set h.acked i most }) ≡ after_ack (config_of h) (state_of h) i len
acked_state h known i len most within takes is made =
    let sv : ServerState = state_of h in
    let col : column 0 (slice_set h.acked i most) ≡ put (column 0 h.acked) i (max (slice_index h.acked i) len) =
    column-set h.acked i most 0 within ∙ ap (put (column 0 h.acked) i) is in
    made ∙ ((λ j. begun (config_of h) (record sv { acked = col j; adopted = put (column false h.known.adopted) i true }))
    ∙ ap (λ t. if t then answered (config_of h) (begun (config_of h) (acked_by sv i len)) else sv) (sym takes))

-- ---- what is sent

held_parts : (sv : ServerState) (k i : ℕ) → holds sv k i ≡ true → sv.adopted i ≡ true
held_parts sv k i h = (and_true (sv.adopted i) (nat_le k (sv.acked i)) h).0

holds_whole : (c : Config) (sv : ServerState) (i : ℕ) → IsRecovering c sv → sv.adopted i ≡ true → holds sv (length sv.log) i ≡ true
holds_whole c sv i ok is =
    let w = (ok.adopters i is).whole in
    let t : nat_le (length sv.log) (sv.acked i) ≡ true = grind (arith, nat_tests, w) in
    both_true (sv.adopted i) (nat_le (length sv.log) (sv.acked i)) is t

-- the whole log is committed once a quorum adopted, and nothing before
whole_committed : (c : Config) (sv : ServerState) → IsRecovering c sv → (if nat_le (quorum c.nodes) (count sv.adopted c.nodes) then length sv.log else 0) ≡ commit_mark c sv
whole_committed c sv ok =
    mark_reached c.nodes (holds sv) sv.adopted (length sv.log) (nat_le (quorum c.nodes) (count sv.adopted c.nodes)) refl (held_parts sv) (λ i is. holds_whole c sv i ok is)

pub mark_done : (h h' : Recovering) (b : Bool) → h ≡ h' → IsRecovering (config_of h) (state_of h) → b ≡ nat_le (quorum (config_of h').nodes) (count (state_of h').adopted (config_of h').nodes) →
    (if b then length h.log else 0) ≡ commit_mark (config_of h') (state_of h')
mark_done h h' b same ok is =
    let n : length h.log ≡ length h'.log = ap (λ (x : Recovering). length x.log) same in
    let ok' : IsRecovering (config_of h') (state_of h') = subst (λ (x : Recovering). IsRecovering (config_of x) (state_of x)) same ok in
    (λ j. if is j then n j else 0) ∙ whole_committed (config_of h') (state_of h') ok'

-- ---- what is sent is valid

pub message_valid : (h h' : Recovering) (i : ℕ) (m : Option ToNode) → h ≡ h' → IsRecovering (config_of h) (state_of h) → m ≡ next_message (config_of h') (state_of h') i → IfSome m IsValidToNode
message_valid h h' i None same ok is = tt
message_valid h h' i (Some m) same ok is =
    messages (config_of h') (state_of h') i m (sound_valid (config_of h') (state_of h') (subst (λ (x : Recovering). IsSound (config_of x) (state_of x)) same ok.sound)) (sym is)

-- what a draft says of each server that knows the same of its nodes, it says of this one
pub draft_of : (h h' : Recovering) (last i : ℕ) (d : Option Draft) → h ≡ h' → last ≡ length h.log →
    ((rest : Rest) → length rest.log ≡ last → drafted (config_of h) (server_of h.known rest) i d ≡ next_message (config_of h) (server_of h.known rest) i) →
    drafted (config_of h') (state_of h') i d ≡ next_message (config_of h') (state_of h') i
draft_of h h' last i d same len is =
    subst (λ (x : Recovering). drafted (config_of x) (state_of x) i d ≡ next_message (config_of x) (state_of x) i) same (is (rest_of h) (sym len))
