-- What a server holds, and what its parts' changes make of it.
use Rattle.std.proofs.Common.{◌≡◌, ℕ, ◌-◌, ◌<◌, ◌≤◌, max, nat_lt, nat_le, ◌==◌, ◌&&◌, not, if◌then◌else◌, true, false, List, [], ◌++◌, length, take, slice_index_or, Option, None, Some, refl, ap, sym, subst, ◌∙◌, arith, length-set, length-append}
use Rattle.std.proofs.lemmas.Bool.Decides.{nat_tests}
use Rattle.std.proofs.lemmas.List.{length-take}
use Rattle.tx_model.specs.declared.record.Record.{Record}
use Rattle.tx_model.specs.Records.{IsBatch, first_id}
use Rattle.lock_table.specs.Tables.{Table, TableStandsFor}
use Rattle.proto_model.specs.declared.message.Report.{Report}
use Rattle.proto_model.specs.declared.message.Phase.{Phase}
use Rattle.proto_model.specs.declared.message.Phase.TheVariants.{Idle, Opening, Fetching, Repairing, Running, Closed}
use Rattle.proto_model.specs.Tables.{put}
use Rattle.proto_model.specs.Servers.{Config, ServerState, ack_answers, acked_by, after_ack, after_low, after_records, after_report, after_staged, after_stale, answered, begun, chosen_len, commit_mark, is_due, reported_by, takes_ack, takes_records, waits_on, with_choice, with_fetched}
use Rattle.proto_model.specs.Sending.{message_in, next_message}
use Rattle.proto_model.specs.Sanity.{IsValidServer}
use Rattle.proto_model.proofs.TableLemmas.{either}
use Rattle.quorum_append.specs.Kept.{Kept, greater, has_kept, kept_with, nothing_kept}
use Rattle.session_recovery.specs.declared.draft.Draft.{Draft}
use Rattle.session_recovery.specs.declared.draft.Draft.TheVariants.{Message, Stage, Adopted}
use Rattle.session_recovery.specs.Drafts.{drafted}
use Rattle.session_recovery.specs.Known.{Known, Rest, column, nothing_else, server_of, config_of as config_of_known}
use Rattle.session_recovery.proofs.SoundSteps.{ack_taken, acked_sound, both_true, records_taken, sound_valid}
use Rattle.partition_server.specs.Held.{Held, IsHeld, IsServing, config_of, rest_of, state_of}
use Rattle.partition_server.proofs.Servings.{ack_serves, acked_phase}
use Rattle.partition_server.proofs.Kepts.{AreColumns, IsMarkOf, columns_with, mark_kept, none_kept, zeros_kept}

-- ---- the start

pub fresh_state : (h : Held) (nodes : ℕ) (sv : ServerState) → h.kept ≡ nothing_kept nodes → h.log ≡ [] → h.waiting ≡ [] → server_of h.known nothing_else ≡ sv → state_of h ≡ sv
fresh_state h nodes sv kept log waiting is =
    (λ j. server_of h.known (record { log = log j; acked = λ i. zeros_kept h.kept nodes i kept j; waiting = waiting j })) ∙ is

pub fresh_held : (h : Held) (nodes : ℕ) (sv : ServerState) (locks : Table) → 1 ≤ nodes → nodes ≤ 7 → h.known.nodes ≡ nodes → h.kept ≡ nothing_kept nodes → h.log ≡ [] → h.waiting ≡ [] →
    server_of h.known nothing_else ≡ sv → ((i : ℕ) → sv.adopted i ≡ false) → IsServing (config_of h) sv locks → IsHeld h locks
fresh_held h nodes sv locks some few same kept log waiting is none serving =
    let state : state_of h ≡ sv = fresh_state h nodes sv kept log waiting is in
    record {
      some = omega (arith, some, same);
      few = omega (arith, few, same);
      nodes = ap (λ (k : Kept). k.nodes) kept ∙ sym same;
      places = ap (λ (k : Kept). length k.lens) kept;
      heard = λ i. ap (λ (x : ServerState). x.adopted i) state ∙ (none i ∙ sym (none_kept h.kept nodes i kept));
      is = subst (λ (x : ServerState). IsServing (config_of h) x locks) (sym state) serving;
    }

-- ---- the commit mark

pub columns_held : (h : Held) (locks : Table) → IsHeld h locks → AreColumns h.kept (state_of h)
columns_held h locks ok = record { acked = λ i. refl; adopted = λ i. sym (ok.heard i) }

pub mark_held : (h : Held) (locks : Table) (mark : ℕ) → IsHeld h locks → IsMarkOf h.kept mark → mark ≡ commit_mark (config_of h) (state_of h)
mark_held h locks mark ok is = mark_kept (config_of h) h.kept (state_of h) mark ok.nodes (columns_held h locks ok) ok.is.sound.within is

-- ---- a change that leaves the acknowledgements

pub changed_held : (h h' : Held) (locks locks' : Table) (sv : ServerState) → IsHeld h locks → h'.kept ≡ h.kept → config_of h' ≡ config_of h → state_of h' ≡ sv →
    ((i : ℕ) → sv.adopted i ≡ (state_of h).adopted i) → IsServing (config_of h) sv locks' → IsHeld h' locks'
changed_held h h' locks locks' sv ok kept config is same serving =
    let nodes : h'.known.nodes ≡ h.known.nodes = ap (λ (c : Config). c.nodes) config in
    let some = ok.some in
    let few = ok.few in
    record {
      some = omega (arith, some, nodes);
      few = omega (arith, few, nodes);
      nodes = ap (λ (k : Kept). k.nodes) kept ∙ (ok.nodes ∙ sym nodes);
      places = ap (λ (k : Kept). length k.lens) kept ∙ ok.places;
      heard = λ i. ap (λ (x : ServerState). x.adopted i) is ∙ (same i ∙ (ok.heard i ∙ ap (λ (k : Kept). has_kept k 0 i) (sym kept)));
      is = subst (λ (c : Config). IsServing c (state_of h') locks') (sym config) (subst (λ (x : ServerState). IsServing (config_of h) x locks') (sym is) serving);
    }

-- none of these changes who adopted
abbrev HasAdopters : ServerState → ServerState → Type 0
HasAdopters sv x = (i : ℕ) → x.adopted i ≡ sv.adopted i

pub report_adopters : (c : Config) (sv : ServerState) (r : Report) → HasAdopters sv (after_report c sv r)
report_adopters c sv r = either (HasAdopters sv) (not (sv.reported r.node) && nat_lt r.adopted sv.session) (with_choice c (reported_by sv r)) sv (λ i. refl) (λ i. refl)

pub records_adopters : (c : Config) (sv : ServerState) (node : ℕ) (batch : List Record) → HasAdopters sv (after_records c sv node batch)
records_adopters c sv node batch =
    either (HasAdopters sv) (takes_records c sv node (first_id batch)) (with_fetched (chosen_len c sv) sv (sv.log ++ take (chosen_len c sv - length sv.log) batch)) sv (λ i. refl) (λ i. refl)

pub staged_adopters : (sv : ServerState) (node upto : ℕ) → HasAdopters sv (after_staged sv node upto)
staged_adopters sv node upto = either (HasAdopters sv) (sv.reported node && not (sv.adopted node)) (record sv { staged = put sv.staged node upto }) sv (λ i. refl) (λ i. refl)

pub low_adopters : (c : Config) (sv : ServerState) (node low : ℕ) → HasAdopters sv (after_low c sv node low)
low_adopters c sv node low =
    either (HasAdopters sv) (sv.adopted node && nat_le low (commit_mark c sv)) (record sv { low = put sv.low node (max (sv.low node) low) }) sv (λ i. refl) (λ i. refl)

pub stale_adopters : (sv : ServerState) (s p : ℕ) → HasAdopters sv (after_stale sv s p)
stale_adopters sv s p = either (HasAdopters sv) (nat_lt s p) (record sv { phase = Closed p; waiting = [] }) sv (λ i. refl) (λ i. refl)

-- ---- what the changed parts stand for

pub config_same : (h h' : Held) → h'.known.nodes ≡ h.known.nodes → h'.rows ≡ h.rows → h'.slots ≡ h.slots → config_of h' ≡ config_of h
config_same h h' nodes rows slots = λ j. record { nodes = nodes j; rows = rows j; slots = slots j }

-- records that are taken
pub fetched_state : (h : Held) (known : Known) (log : List Record) (len node : ℕ) (batch : List Record) → takes_records (config_of h) (state_of h) node (first_id batch) ≡ true →
    log ≡ h.log ++ take (chosen_len (config_of h) (state_of h) - length h.log) batch → len ≡ length log →
    server_of known (record (rest_of h) { log = log }) ≡ record (state_of h) { log = log; phase = if len == chosen_len (config_of h) (state_of h) then Repairing else Fetching } →
    state_of (record h { known = known; log = log }) ≡ after_records (config_of h) (state_of h) node batch
fetched_state h known log len node batch takes is same made =
    let b : ℕ = chosen_len (config_of h) (state_of h) in
    let sv : ServerState = state_of h in
    made ∙ ((λ j. record sv { log = log; phase = if same j == b then Repairing else Fetching })
    ∙ (ap (with_fetched b sv) is ∙ ap (λ t. if t then with_fetched b sv (h.log ++ take (b - length h.log) batch) else sv) (sym takes)))

-- what is not taken changes nothing
pub records_missed : (c : Config) (sv : ServerState) (node : ℕ) (batch : List Record) → takes_records c sv node (first_id batch) ≡ false → sv ≡ after_records c sv node batch
records_missed c sv node batch off =
    ap (λ t. if t then with_fetched (chosen_len c sv) sv (sv.log ++ take (chosen_len c sv - length sv.log) batch) else sv) (sym off)

pub ack_missed : (c : Config) (sv : ServerState) (node len : ℕ) → takes_ack c sv node len ≡ false → sv ≡ after_ack c sv node len
ack_missed c sv node len off = ap (λ t. if t then answered c (begun c (acked_by sv node len)) else sv) (sym off)

pub none_answered : (c : Config) (sv : ServerState) (node len : ℕ) → takes_ack c sv node len ≡ false → ack_answers c sv node len ≡ []
none_answered c sv node len off = ap (λ t. if t then is_due (commit_mark c (acked_by sv node len)) sv.waiting else []) off

-- records that are taken make the log longer
pub records_longer : (c : Config) (sv : ServerState) (node : ℕ) (batch : List Record) (locks : Table) → IsServing c sv locks → IsBatch batch → takes_records c sv node (first_id batch) ≡ true →
    length sv.log < length (after_records c sv node batch).log
records_longer c sv node batch locks ok is takes =
    let b : ℕ = chosen_len c sv in
    let more : List Record = take (b - length sv.log) batch in
    let short = ok.sound.fetching (records_taken c sv node (first_id batch) takes).phase in
    let some = is.some in
    let part = length-take (b - length sv.log) batch in
    let longer = length-append sv.log more in
    let log : length (after_records c sv node batch).log ≡ length (sv.log ++ more) = ap (λ t. length (if t then with_fetched b sv (sv.log ++ more) else sv).log) takes in
    omega (arith, short, some, part, longer, log)

pub low_taken : (c : Config) (sv : ServerState) (node low : ℕ) → sv.adopted node ≡ true → low ≤ commit_mark c sv → record sv { low = put sv.low node (max (sv.low node) low) } ≡ after_low c sv node low
low_taken c sv node low adopted within =
    let test : nat_le low (commit_mark c sv) ≡ true = grind (arith, nat_tests, within) in
    ap (λ t. if t then record sv { low = put sv.low node (max (sv.low node) low) } else sv) (sym (both_true (sv.adopted node) (nat_le low (commit_mark c sv)) adopted test))

pub stale_taken : (sv : ServerState) (s p : ℕ) → s < p → record sv { phase = Closed p; waiting = [] } ≡ after_stale sv s p
stale_taken sv s p less =
    let test : nat_lt s p ≡ true = grind (arith, nat_tests, less) in
    ap (λ t. if t then record sv { phase = Closed p; waiting = [] } else sv) (sym test)

-- ---- an acknowledgement

acked_columns : (h : Held) (locks : Table) (kept : Kept) (node len : ℕ) → IsHeld h locks → node ≤ h.known.nodes → kept ≡ kept_with node len h.kept → AreColumns kept (acked_by (state_of h) node len)
acked_columns h locks kept node len ok within is =
    let few = ok.few in
    let places = ok.places in
    subst (λ (k : Kept). AreColumns k (acked_by (state_of h) node len)) (sym is)
    (columns_with h.kept (state_of h) node len (omega (arith, few, places, within)) (columns_held h locks ok))

pub acked_mark : (h : Held) (locks : Table) (kept : Kept) (node len mark : ℕ) → IsHeld h locks → node ≤ h.known.nodes → takes_ack (config_of h) (state_of h) node len ≡ true →
    kept ≡ kept_with node len h.kept → IsMarkOf kept mark → mark ≡ commit_mark (config_of h) (acked_by (state_of h) node len)
acked_mark h locks kept node len mark ok within takes is found =
    let took = ack_taken (config_of h) (state_of h) node len takes in
    mark_kept (config_of h) kept (acked_by (state_of h) node len) mark (ap (λ (k : Kept). k.nodes) is ∙ ok.nodes) (acked_columns h locks kept node len ok within is)
    (acked_sound (config_of h) (state_of h) node len ok.is.sound took).within found

pub acked_answers : (h : Held) (locks : Table) (kept : Kept) (node len mark : ℕ) → IsHeld h locks → node ≤ h.known.nodes → takes_ack (config_of h) (state_of h) node len ≡ true →
    kept ≡ kept_with node len h.kept → IsMarkOf kept mark → is_due mark h.waiting ≡ ack_answers (config_of h) (state_of h) node len
acked_answers h locks kept node len mark ok within takes is found =
    ap (λ m. is_due m h.waiting) (acked_mark h locks kept node len mark ok within takes is found)
    ∙ ap (λ t. if t then is_due (commit_mark (config_of h) (acked_by (state_of h) node len)) h.waiting else []) (sym takes)

-- what the parts are after it
pub record AreAcked (h h' : Held) (node len mark : ℕ) : Type 0 where
  pub within : node ≤ h.known.nodes
  pub takes : takes_ack (config_of h) (state_of h) node len ≡ true
  pub known : (rest : Rest) → server_of h'.known rest ≡ begun (config_of h) (record (server_of h.known rest) { adopted = put (column false h.known.adopted) node true })
  pub config : config_of h' ≡ config_of h
  pub kept : h'.kept ≡ kept_with node len h.kept
  pub found : IsMarkOf h'.kept mark
  pub log : h'.log ≡ h.log
  pub waiting : h'.waiting ≡ waits_on mark h.waiting

acked_parts : (h h' : Held) (locks : Table) (node len mark : ℕ) → IsHeld h locks → AreAcked h h' node len mark → state_of h' ≡ answered (config_of h) (begun (config_of h) (acked_by (state_of h) node len))
acked_parts h h' locks node len mark ok are =
    let sv : ServerState = state_of h in
    let cols = acked_columns h locks h'.kept node len ok are.within are.kept in
    let m : mark ≡ commit_mark (config_of h) (acked_by sv node len) = acked_mark h locks h'.kept node len mark ok are.within are.takes are.kept are.found in
    let w : h'.waiting ≡ waits_on (commit_mark (config_of h) (acked_by sv node len)) h.waiting = are.waiting ∙ ap (λ n. waits_on n h.waiting) m in
    are.known (rest_of h')
    ∙ (λ j. begun (config_of h) (record sv { adopted = put sv.adopted node true; log = are.log j; acked = λ i. cols.acked i j; waiting = w j }))

pub acked_state : (h h' : Held) (locks : Table) (node len mark : ℕ) → IsHeld h locks → AreAcked h h' node len mark → state_of h' ≡ after_ack (config_of h) (state_of h) node len
acked_state h h' locks node len mark ok are =
    acked_parts h h' locks node len mark ok are
    ∙ ap (λ t. if t then answered (config_of h) (begun (config_of h) (acked_by (state_of h) node len)) else state_of h) (sym are.takes)

pub acked_held : (h h' : Held) (locks locks' : Table) (node len mark : ℕ) → IsHeld h locks → AreAcked h h' node len mark → (h.known.phase ≡ Running → locks' ≡ locks) →
    (h.known.phase ≡ Repairing → acked_phase (config_of h) (state_of h) node len ≡ Running → TableStandsFor locks' (chosen_len (config_of h) (state_of h)) []) → IsHeld h' locks'
acked_held h h' locks locks' node len mark ok are same begins =
    let nodes : h'.known.nodes ≡ h.known.nodes = ap (λ (c : Config). c.nodes) are.config in
    let some = ok.some in
    let few = ok.few in
    let cols = acked_columns h locks h'.kept node len ok are.within are.kept in
    let state = acked_state h h' locks node len mark ok are in
    record {
      some = omega (arith, some, nodes);
      few = omega (arith, few, nodes);
      nodes = ap (λ (k : Kept). k.nodes) are.kept ∙ (ok.nodes ∙ sym nodes);
      places = ap (λ (k : Kept). length k.lens) are.kept ∙ (length-set h.kept.lens node (greater (slice_index_or h.kept.lens node None) len) ∙ ok.places);
      heard = λ i. ap (λ (x : ServerState). x.adopted i) (acked_parts h h' locks node len mark ok are) ∙ sym (cols.adopted i);
      is = subst (λ (c : Config). IsServing c (state_of h') locks') (sym are.config)
          (subst (λ (x : ServerState). IsServing (config_of h) x locks') (sym state) (ack_serves (config_of h) (state_of h) node len locks locks' ok.is are.takes same begins));
    }

-- ---- what is sent

pub held_valid : (h : Held) (locks : Table) → IsHeld h locks → IsValidServer (config_of h) (state_of h)
held_valid h locks ok = sound_valid (config_of h) (state_of h) ok.is.sound

pub view_valid : (h h' : Held) (locks : Table) → h ≡ h' → IsHeld h locks → IsValidServer (config_of h') (state_of h')
view_valid h h' locks same ok = subst (λ (x : Held). IsValidServer (config_of x) (state_of x)) same (held_valid h locks ok)

-- the shape of the lock table is in no message
any_draft : (nodes rows slots : ℕ) (sv : ServerState) (i : ℕ) (d : Option Draft) → drafted (record { nodes = nodes; rows = rows; slots = slots }) sv i d ≡ drafted (record { nodes = nodes; rows = 0; slots = 0 }) sv i d
any_draft nodes rows slots sv i None = refl
any_draft nodes rows slots sv i (Some (Message m)) = refl
any_draft nodes rows slots sv i (Some (Stage from upto)) = refl
any_draft nodes rows slots sv i (Some Adopted) = refl

any_message : (phase : Phase) (nodes rows slots : ℕ) (sv : ServerState) (i : ℕ) → message_in phase (record { nodes = nodes; rows = 0; slots = 0 }) sv i ≡ message_in phase (record { nodes = nodes; rows = rows; slots = slots }) sv i
any_message Idle nodes rows slots sv i = refl
any_message Opening nodes rows slots sv i = refl
any_message Fetching nodes rows slots sv i = refl
any_message Repairing nodes rows slots sv i = refl
any_message Running nodes rows slots sv i = refl
any_message (Closed p) nodes rows slots sv i = refl

-- what a draft says of each server that knows the same of its nodes, it says of this one
pub draft_of : (h h' : Held) (last i : ℕ) (d : Option Draft) → h ≡ h' → last ≡ length h.log →
    ((rest : Rest) → length rest.log ≡ last → drafted (config_of_known h.known) (server_of h.known rest) i d ≡ next_message (config_of_known h.known) (server_of h.known rest) i) →
    drafted (config_of h') (state_of h') i d ≡ next_message (config_of h') (state_of h') i
draft_of h h' last i d same len is =
    let here : drafted (config_of h) (state_of h) i d ≡ next_message (config_of h) (state_of h) i =
    any_draft h.known.nodes h.rows h.slots (state_of h) i d ∙ (is (rest_of h) (sym len) ∙ any_message h.known.phase h.known.nodes h.rows h.slots (state_of h) i) in
    subst (λ (x : Held). drafted (config_of x) (state_of x) i d ≡ next_message (config_of x) (state_of x) i) same here
