-- Each awaited reply to a node's next message lessens what the nodes lack.
use Rattle.std.proofs.Common.{◌≡◌, ℕ, ◌+◌, ◌-◌, ◌<◌, ◌≤◌, max, min, nat_lt, nat_le, ◌==◌, ◌&&◌, not, if◌then◌else◌, Bool, true, false, List, [], ◌∷◌, ◌++◌, length, take, drop, Option, Some, None, refl, ap, subst, arith, length-append, length-drop}
use Rattle.std.proofs.lemmas.Bool.Decides.{nat_tests}
use Rattle.std.proofs.lemmas.List.{length-take}
use Rattle.tx_model.specs.declared.record.Record.{Record}
use Rattle.tx_model.specs.Records.{IsBatch, RiseByOne, first_id}
use Rattle.tx_model.proofs.Batches.{RiseByOne-take, RiseByOne-drop}
use Rattle.proto_model.specs.declared.message.Phase.{Phase}
use Rattle.proto_model.specs.declared.message.Phase.TheVariants.{Idle, Opening, Fetching, Repairing, Running, Closed}
use Rattle.proto_model.specs.declared.message.Report.{Report}
use Rattle.proto_model.specs.declared.message.ToNode.{ToNode}
use Rattle.proto_model.specs.declared.message.ToNode.TheVariants.{Open, Fetch, Stage, Adopt, Append, Low}
use Rattle.proto_model.specs.declared.message.FromNode.{FromNode}
use Rattle.proto_model.specs.declared.message.FromNode.TheVariants.{Opened, Stale, Unopened, Records, Staged, StageAt, Adopted, Acked, Gap, NotAdopted, LowSet}
use Rattle.proto_model.specs.Tables.{put}
use Rattle.proto_model.specs.Servers.{Config, ServerState, chosen, chosen_len, commit_mark, is_of, is_active, is_fetching, is_heard, has_fetched, takes_records, takes_ack, with_choice, reported_by, with_fetched, answered, begun, acked_by, after_ack, received, server_after, session_of}
use Rattle.proto_model.specs.Sending.{message_in, opening_message, fetching_message, chosen_message, append_message, repair_message}
use Rattle.proto_model.specs.Validity.{IsValidFromNode}
use Rattle.proto_model.proofs.TableLemmas.{if_each}
use Rattle.proto_model.proofs.SaneSteps.{log_count}
use Rattle.session_recovery.specs.Sound.{IsSound}
use Rattle.server_loop.specs.Drives.{last_place, is_awaited, MovesForward}
use Rattle.server_host.specs.Lacking.{bound, node_lack, lack_at, lack_to, lack_of, AreCaughtUp}
use Rattle.server_host.proofs.Lacking.{same_to, less_at, put_here, put_there}

-- ---- tests

and_true : (a b : Bool) → (a && b) ≡ true → (a ≡ true) × (b ≡ true)
and_true true b h = (refl, h)
and_true false b h = absurd (let e : false ≡ true = h in cc)

both_true : (a b : Bool) → a ≡ true → b ≡ true → (a && b) ≡ true
both_true true b e f = f
both_true false b e f = absurd (let g : false ≡ true = e in cc)

if_true : {A : Type 0} (P : A → Type 0) (b : Bool) (x y : A) → b ≡ true → P x → P (if b then x else y)
if_true P true x y e p = p
if_true P false x y e p = absurd (let f : false ≡ true = e in cc)

not_true : (a : Bool) → not a ≡ true → a ≡ false
not_true false h = refl
not_true true h = absurd (let e : false ≡ true = h in cc)

not_false : (a : Bool) → not a ≡ false → a ≡ true
not_false true h = refl
not_false false h = absurd (let e : true ≡ false = h in cc)

-- ---- where a message is a node's next one

record IsOpening (sv : ServerState) (i s : ℕ) : Type 0 where
  pub session : s ≡ sv.session
  pub active : is_active sv.phase ≡ true
  pub reported : sv.reported i ≡ false

record IsFetched (c : Config) (sv : ServerState) (i s first : ℕ) : Type 0 where
  pub session : s ≡ sv.session
  pub phase : sv.phase ≡ Fetching
  pub is_chosen : is_of i (chosen c sv) ≡ true
  pub next : first ≡ length sv.log + 1

-- once the log is fetched, to a node that reported
record IsLate (sv : ServerState) (i s : ℕ) (has : Bool) : Type 0 where
  pub session : s ≡ sv.session
  pub phase : has_fetched sv.phase ≡ true
  pub reported : sv.reported i ≡ true
  pub adopted : sv.adopted i ≡ has

abbrev Row : Config → ServerState → ℕ → ToNode → Type 0
Row c sv i (Open s) = IsOpening sv i s
Row c sv i (Fetch s from max) = IsFetched c sv i s from
Row c sv i (Stage s batch) = IsLate sv i s false × (sv.staged i < chosen_len c sv)
    × (batch ≡ take 8 (drop (sv.staged i) (take (chosen_len c sv) sv.log)))
Row c sv i (Adopt s len) = IsLate sv i s false × (len ≡ chosen_len c sv)
Row c sv i (Append s batch) = IsLate sv i s true × (sv.acked i < length sv.log)
    × (batch ≡ take 8 (drop (sv.acked i) sv.log))
Row c sv i (Low s k) = IsLate sv i s true × (sv.low i < commit_mark c sv) × (k ≡ commit_mark c sv)

abbrev Rows : Config → ServerState → ℕ → Option ToNode → Type 0
Rows c sv i o = (m : ToNode) → o ≡ Some m → Row c sv i m

none_row : (c : Config) (sv : ServerState) (i : ℕ) → Rows c sv i None
none_row c sv i m e = absurd (cc)

some_row : (c : Config) (sv : ServerState) (i : ℕ) (x : ToNode) → Row c sv i x → Rows c sv i (Some x)
some_row c sv i x row m e = let same : x ≡ m = cc in subst (Row c sv i) same row

opening_row : (c : Config) (sv : ServerState) (i : ℕ) → is_active sv.phase ≡ true → Rows c sv i (opening_message sv i)
opening_row c sv i active = if_each (Rows c sv i) (sv.reported i) None (Some (Open sv.session)) (λ _. none_row c sv i)
    (λ new. some_row c sv i (Open sv.session) (record { session = refl; active = active; reported = new }))

fetching_row : (c : Config) (sv : ServerState) (i : ℕ) → sv.phase ≡ Fetching → Rows c sv i (fetching_message c sv i)
fetching_row c sv i is = if_each (Rows c sv i) (not (sv.reported i)) _ _
    (λ new. some_row c sv i (Open sv.session) (record { session = refl; active = ap is_active is; reported = not_true (sv.reported i) new }))
    (λ _. if_each (Rows c sv i) (is_of i (chosen c sv)) _ None
    (λ of. some_row c sv i (Fetch sv.session (length sv.log + 1) (min 8 (chosen_len c sv - length sv.log))) (record { session = refl; phase = is; is_chosen = of; next = refl }))
    (λ _. none_row c sv i))

late_active : (phase : Phase) → has_fetched phase ≡ true → is_active phase ≡ true
late_active Repairing h = refl
late_active Running h = refl
late_active Opening h = refl
late_active Fetching h = refl
late_active Idle h = absurd (let e : false ≡ true = h in cc)
late_active (Closed p) h = absurd (let e : false ≡ true = h in cc)

append_row : (c : Config) (sv : ServerState) (i : ℕ) → IsLate sv i sv.session true → Rows c sv i (append_message c sv i)
append_row c sv i late = if_each (Rows c sv i) (nat_lt (sv.acked i) (length sv.log)) _ _
    (λ less. some_row c sv i (Append sv.session (take 8 (drop (sv.acked i) sv.log))) (late, (let l : sv.acked i < length sv.log = grind (arith, nat_tests, less) in l), refl))
    (λ _. if_each (Rows c sv i) (nat_lt (sv.low i) (commit_mark c sv)) _ None
    (λ less. some_row c sv i (Low sv.session (commit_mark c sv)) (late, (let l : sv.low i < commit_mark c sv = grind (arith, nat_tests, less) in l), refl))
    (λ _. none_row c sv i))

repair_row : (c : Config) (sv : ServerState) (i : ℕ) → IsLate sv i sv.session false → Rows c sv i (repair_message c sv i)
repair_row c sv i late = if_each (Rows c sv i) (nat_lt (sv.staged i) (chosen_len c sv)) _ _
    (λ less. some_row c sv i (Stage sv.session (take 8 (drop (sv.staged i) (take (chosen_len c sv) sv.log)))) (late, (let l : sv.staged i < chosen_len c sv = grind (arith, nat_tests, less) in l), refl))
    (λ _. some_row c sv i (Adopt sv.session (chosen_len c sv)) (late, refl))

chosen_row : (c : Config) (sv : ServerState) (i : ℕ) → has_fetched sv.phase ≡ true → Rows c sv i (chosen_message c sv i)
chosen_row c sv i is = if_each (Rows c sv i) (not (sv.reported i)) _ _
    (λ new. some_row c sv i (Open sv.session) (record { session = refl; active = late_active sv.phase is; reported = not_true (sv.reported i) new }))
    (λ old. if_each (Rows c sv i) (sv.adopted i) _ _
    (λ yes. append_row c sv i (record { session = refl; phase = is; reported = not_false (sv.reported i) old; adopted = yes }))
    (λ no. repair_row c sv i (record { session = refl; phase = is; reported = not_false (sv.reported i) old; adopted = no })))

phase_row : (c : Config) (sv : ServerState) (i : ℕ) (phase : Phase) → sv.phase ≡ phase → Rows c sv i (message_in phase c sv i)
phase_row c sv i Idle is = none_row c sv i
phase_row c sv i Opening is = opening_row c sv i (ap is_active is)
phase_row c sv i Fetching is = fetching_row c sv i is
phase_row c sv i Repairing is = chosen_row c sv i (ap has_fetched is)
phase_row c sv i Running is = chosen_row c sv i (ap has_fetched is)
phase_row c sv i (Closed p) is = none_row c sv i

-- ---- what is heard

-- less is lacking after this than before
abbrev IsLess : ServerState → ServerState → Type 0
IsLess old new = lack_of new < lack_of old

heard_less : (c : Config) (sv : ServerState) (i : ℕ) (reply : FromNode) → is_active sv.phase ≡ true → session_of reply ≡ sv.session → IsLess sv (received c sv i reply) → IsLess sv (server_after c sv i reply)
heard_less c sv i reply active same less =
    let equal : (session_of reply == sv.session) ≡ true = grind (arith, nat_tests, same) in
    if_true (IsLess sv) (is_heard sv reply) (received c sv i reply) sv (both_true (is_active sv.phase) (session_of reply == sv.session) active equal) less

same_session : (t s own : ℕ) → (t == s) ≡ true → s ≡ own → t ≡ own
same_session t s own e f = grind (arith, nat_tests, e, f)

-- ---- reports

report_lack : (adopted : Bool) (staged acked low again : ℕ) → node_lack true adopted again acked again < node_lack false adopted staged acked low
report_lack true staged acked low again = omega arith
report_lack false staged acked low again = omega arith

opened_less : (c : Config) (sv : ServerState) (i s t adopted low len : ℕ) → 1 ≤ i → i ≤ 7 → IsOpening sv i s → is_awaited (Open s) (Opened t adopted low len) (length sv.log) ≡ true →
    IsLess sv (server_after c sv i (Opened t adopted low len))
opened_less c sv i s t adopted low len some few row awaited =
    let both = and_true (t == s) (nat_lt adopted s) awaited in
    let session = same_session t s sv.session both.0 row.session in
    let r : Report = record { node = i; adopted = adopted; low = low; length = len } in
    let before : nat_lt adopted sv.session ≡ true = subst (λ (n : ℕ). nat_lt adopted n ≡ true) row.session both.1 in
    let new : not (sv.reported i) ≡ true = ap not row.reported in
    heard_less c sv i (Opened t adopted low len) row.active session
    (if_true (IsLess sv) (not (sv.reported i) && nat_lt adopted sv.session) (with_choice c (reported_by sv r)) sv (both_true (not (sv.reported i)) (nat_lt adopted sv.session) new before)
    (less_at sv (with_choice c (reported_by sv r)) i some few refl
    (rw (put_here sv.reported i true, put_here sv.staged i low, put_here sv.low i low, row.reported) (report_lack (sv.adopted i) (sv.staged i) (sv.acked i) (sv.low i) low))
    (λ j other. rw (put_there sv.reported i true j other, put_there sv.staged i low j other, put_there sv.low i low j other) (omega arith))))

-- ---- records

fetched_less : (sv sw : ServerState) → lack_to sw 7 ≤ lack_to sv 7 → length sv.log < bound → length sv.log < length sw.log → lack_of sw < lack_of sv
fetched_less sv sw same small more = omega (arith, same, small, more)

records_less : (c : Config) (sv : ServerState) (i s from most t : ℕ) (batch : List Record) → IsSound c sv → IsBatch batch → IsFetched c sv i s from → is_awaited (Fetch s from most) (Records t batch) (length sv.log) ≡ true →
    IsLess sv (server_after c sv i (Records t batch))
records_less c sv i s from most t batch ok is row awaited =
    let both = and_true (t == s) (first_id batch == from && nat_le (length batch) most) awaited in
    let session = same_session t s sv.session both.0 row.session in
    let first = (and_true (first_id batch == from) (nat_le (length batch) most) both.1).0 in
    let next : (first_id batch == length sv.log + 1) ≡ true = subst (λ (n : ℕ). (first_id batch == n) ≡ true) row.next first in
    let phase : is_fetching sv.phase ≡ true = ap is_fetching row.phase in
    let more : List Record = take (chosen_len c sv - length sv.log) batch in
    let short = ok.fetching row.phase in
    let longer : length (sv.log ++ more) ≡ length sv.log + length more = length-append sv.log more in
    let part = length-take (chosen_len c sv - length sv.log) batch in
    let some = is.some in
    let most_len = log_count sv.log ok.rise in
    heard_less c sv i (Records t batch) (ap is_active row.phase) session
    (if_true (IsLess sv) (takes_records c sv i (first_id batch)) (with_fetched (chosen_len c sv) sv (sv.log ++ more)) sv
    (both_true (is_fetching sv.phase) (is_of i (chosen c sv) && first_id batch == length sv.log + 1) phase (both_true (is_of i (chosen c sv)) (first_id batch == length sv.log + 1) row.is_chosen next))
    (fetched_less sv (with_fetched (chosen_len c sv) sv (sv.log ++ more)) (same_to sv (with_fetched (chosen_len c sv) sv (sv.log ++ more)) 7 (λ j _ _. omega arith)) most_len (omega (arith, short, longer, part, some))))

-- ---- stages

first_rise : (id : ℕ) (records : List Record) → RiseByOne id records → 1 ≤ length records → first_id records ≡ id
unfolding RiseByOne
first_rise id [] rise some = absurd (omega (arith, some))
first_rise id (r ∷ records) rise some = rise.1

-- the last id of a part of a log
record IsPart (log batch : List Record) (at : ℕ) : Type 0 where
  pub above : at < last_place batch
  pub within : last_place batch ≤ length log

part_place : (log : List Record) (at : ℕ) → RiseByOne 1 log → at < length log → IsPart log (take 8 (drop at log)) at
part_place log at rise within =
    let batch : List Record = take 8 (drop at log) in
    let drops : length (drop at log) ≡ length log - at = length-drop at log in
    let takes : length batch ≡ min 8 (length (drop at log)) = length-take 8 (drop at log) in
    let first : first_id batch ≡ 1 + at = first_rise (1 + at) batch (RiseByOne-take (1 + at) (drop at log) 8 (RiseByOne-drop 1 log at (omega (arith, within)) rise)) (omega (arith, takes, drops, within)) in
    record { above = omega (arith, takes, drops, first, within); within = omega (arith, takes, drops, first, within) }

staged_lack : (reported adopted : Bool) (staged acked low upto : ℕ) → staged < upto → staged < bound → node_lack reported adopted upto acked low < node_lack reported adopted staged acked low
staged_lack reported adopted staged acked low upto more small = omega (arith, more, small)

staged_less : (c : Config) (sv : ServerState) (i s t upto : ℕ) (batch : List Record) → 1 ≤ i → i ≤ 7 → IsSound c sv → Row c sv i (Stage s batch) → is_awaited (Stage s batch) (Staged t upto) (length sv.log) ≡ true →
    IsLess sv (server_after c sv i (Staged t upto))
staged_less c sv i s t upto batch some few ok row awaited =
    let late = row.0 in
    let both = and_true (t == s) (upto == last_place batch) awaited in
    let session = same_session t s sv.session both.0 late.session in
    let long = ok.long late.phase in
    let chosen_log : List Record = take (chosen_len c sv) sv.log in
    let cut : length chosen_log ≡ min (chosen_len c sv) (length sv.log) = length-take (chosen_len c sv) sv.log in
    let most = log_count sv.log ok.rise in
    let less = row.1 in
    let place = part_place chosen_log (sv.staged i) (RiseByOne-take 1 sv.log (chosen_len c sv) ok.rise) (omega (arith, cut, long, less)) in
    let same : upto ≡ last_place (take 8 (drop (sv.staged i) chosen_log)) = subst (λ (b : List Record). upto ≡ last_place b) row.2 (let e = both.1 in grind (arith, nat_tests, e)) in
    let above = place.above in
    let more : sv.staged i < upto = omega (arith, same, above) in
    let small : sv.staged i < bound = omega (arith, less, long, most) in
    heard_less c sv i (Staged t upto) (late_active sv.phase late.phase) session
    (if_true (IsLess sv) (sv.reported i && not (sv.adopted i)) (record sv { staged = put sv.staged i upto }) sv
    (both_true (sv.reported i) (not (sv.adopted i)) late.reported (ap not late.adopted))
    (less_at sv (record sv { staged = put sv.staged i upto }) i some few refl
    (rw (put_here sv.staged i upto) (staged_lack (sv.reported i) (sv.adopted i) (sv.staged i) (sv.acked i) (sv.low i) upto more small))
    (λ j other. rw (put_there sv.staged i upto j other) (omega arith))))

-- ---- adoptions and acknowledgements

adopted_lack : (reported : Bool) (staged acked low upto : ℕ) → acked ≤ upto → node_lack reported true staged upto low < node_lack reported false staged acked low
adopted_lack reported staged acked low upto more = omega (arith, more)

acked_lack : (reported : Bool) (staged acked low upto : ℕ) → acked < upto → acked < bound → node_lack reported true staged upto low < node_lack reported true staged acked low
acked_lack reported staged acked low upto more small = omega (arith, more, small)

-- an acknowledgement is taken
taken_ack : (c : Config) (sv : ServerState) (i s len : ℕ) (adopted : Bool) → IsLate sv i s adopted → chosen_len c sv ≤ len → len ≤ length sv.log → takes_ack c sv i len ≡ true
taken_ack c sv i s len adopted late low high =
    let t1 : nat_le (chosen_len c sv) len ≡ true = grind (arith, nat_tests, low) in
    let t2 : nat_le len (length sv.log) ≡ true = grind (arith, nat_tests, high) in
    both_true (has_fetched sv.phase) (sv.reported i && (nat_le (chosen_len c sv) len && nat_le len (length sv.log))) late.phase
    (both_true (sv.reported i) (nat_le (chosen_len c sv) len && nat_le len (length sv.log)) late.reported
    (both_true (nat_le (chosen_len c sv) len) (nat_le len (length sv.log)) t1 t2))

acked_less : (c : Config) (sv : ServerState) (i len : ℕ) → 1 ≤ i → i ≤ 7 → takes_ack c sv i len ≡ true →
    node_lack (sv.reported i) true (sv.staged i) (max (sv.acked i) len) (sv.low i) < lack_at sv i → IsLess sv (after_ack c sv i len)
acked_less c sv i len some few takes less =
    if_true (IsLess sv) (takes_ack c sv i len) (answered c (begun c (acked_by sv i len))) sv takes
    (less_at sv (answered c (begun c (acked_by sv i len))) i some few refl
    (rw (put_here sv.adopted i true, put_here sv.acked i (max (sv.acked i) len)) less)
    (λ j other. rw (put_there sv.adopted i true j other, put_there sv.acked i (max (sv.acked i) len) j other) (omega arith)))

adopted_less : (c : Config) (sv : ServerState) (i s t base len : ℕ) → 1 ≤ i → i ≤ 7 → Row c sv i (Adopt s base) → is_awaited (Adopt s base) (Adopted t len) (length sv.log) ≡ true →
    IsLess sv (server_after c sv i (Adopted t len))
adopted_less c sv i s t base len some few row awaited =
    let late = row.0 in
    let both = and_true (t == s) (nat_le base len && nat_le len (length sv.log)) awaited in
    let session = same_session t s sv.session both.0 late.session in
    let tests = and_true (nat_le base len) (nat_le len (length sv.log)) both.1 in
    let t0 = tests.0 in
    let t1 = tests.1 in
    let base_is = row.1 in
    let low : base ≤ len = grind (arith, nat_tests, t0) in
    let low' : chosen_len c sv ≤ len = omega (arith, low, base_is) in
    let high : len ≤ length sv.log = grind (arith, nat_tests, t1) in
    heard_less c sv i (Adopted t len) (late_active sv.phase late.phase) session
    (acked_less c sv i len some few (taken_ack c sv i s len false late low' high)
    (rw late.adopted (adopted_lack (sv.reported i) (sv.staged i) (sv.acked i) (sv.low i) (max (sv.acked i) len) (omega arith))))

appended_less : (c : Config) (sv : ServerState) (i s t len : ℕ) (batch : List Record) → 1 ≤ i → i ≤ 7 → IsSound c sv → AreCaughtUp c sv → Row c sv i (Append s batch) → is_awaited (Append s batch) (Acked t len) (length sv.log) ≡ true →
    IsLess sv (server_after c sv i (Acked t len))
appended_less c sv i s t len batch some few ok caught row awaited =
    let late = row.0 in
    let both = and_true (t == s) (nat_le (last_place batch) len && nat_le len (length sv.log)) awaited in
    let session = same_session t s sv.session both.0 late.session in
    let tests = and_true (nat_le (last_place batch) len) (nat_le len (length sv.log)) both.1 in
    let t0 = tests.0 in
    let t1 = tests.1 in
    let low : last_place batch ≤ len = grind (arith, nat_tests, t0) in
    let high : len ≤ length sv.log = grind (arith, nat_tests, t1) in
    let less = row.1 in
    let above = (part_place sv.log (sv.acked i) ok.rise less).above in
    let same : last_place batch ≡ last_place (take 8 (drop (sv.acked i) sv.log)) = ap last_place row.2 in
    let more : sv.acked i < len = omega (arith, low, above, same) in
    let most = log_count sv.log ok.rise in
    let up = (caught i late.adopted).acked in
    heard_less c sv i (Acked t len) (late_active sv.phase late.phase) session
    (acked_less c sv i len some few (taken_ack c sv i s len true late (omega (arith, up, more)) high)
    (rw late.adopted (acked_lack (sv.reported i) (sv.staged i) (sv.acked i) (sv.low i) (max (sv.acked i) len) (omega (arith, more)) (omega (arith, less, most)))))

-- ---- low-water marks

low_lack : (reported adopted : Bool) (staged acked low k : ℕ) → low < k → low < bound → node_lack reported adopted staged acked k < node_lack reported adopted staged acked low
low_lack reported adopted staged acked low k more small = omega (arith, more, small)

lowered_less : (c : Config) (sv : ServerState) (i s t k low : ℕ) → 1 ≤ i → i ≤ 7 → IsSound c sv → commit_mark c sv ≤ length sv.log → Row c sv i (Low s k) → is_awaited (Low s k) (LowSet t low) (length sv.log) ≡ true →
    IsLess sv (server_after c sv i (LowSet t low))
lowered_less c sv i s t k low some few ok within row awaited =
    let late = row.0 in
    let both = and_true (t == s) (low == k) awaited in
    let session = same_session t s sv.session both.0 late.session in
    let test = both.1 in
    let is : low ≡ k = grind (arith, nat_tests, test) in
    let less = row.1 in
    let mark = row.2 in
    let most = log_count sv.log ok.rise in
    let fits : nat_le low (commit_mark c sv) ≡ true = grind (arith, nat_tests, is, mark) in
    heard_less c sv i (LowSet t low) (late_active sv.phase late.phase) session
    (if_true (IsLess sv) (sv.adopted i && nat_le low (commit_mark c sv)) (record sv { low = put sv.low i (max (sv.low i) low) }) sv
    (both_true (sv.adopted i) (nat_le low (commit_mark c sv)) late.adopted fits)
    (less_at sv (record sv { low = put sv.low i (max (sv.low i) low) }) i some few refl
    (rw (put_here sv.low i (max (sv.low i) low)) (low_lack (sv.reported i) (sv.adopted i) (sv.staged i) (sv.acked i) (sv.low i) (max (sv.low i) low) (omega (arith, is, less, mark)) (omega (arith, less, within, most))))
    (λ j other. rw (put_there sv.low i (max (sv.low i) low) j other) (omega arith))))

-- ---- every pair

row_less : (c : Config) (sv : ServerState) (i : ℕ) (m : ToNode) (reply : FromNode) → 1 ≤ i → i ≤ 7 → IsSound c sv → AreCaughtUp c sv → commit_mark c sv ≤ length sv.log → IsValidFromNode reply → Row c sv i m →
    is_awaited m reply (length sv.log) ≡ true → IsLess sv (server_after c sv i reply)
row_less c sv i (Open s) (Opened t adopted low len) some few ok caught within valid row h = opened_less c sv i s t adopted low len some few row h
row_less c sv i (Open s) (Stale t p) some few ok caught within valid row h = absurd (let e : false ≡ true = h in cc)
row_less c sv i (Open s) (Unopened t p) some few ok caught within valid row h = absurd (let e : false ≡ true = h in cc)
row_less c sv i (Open s) (Records t others) some few ok caught within valid row h = absurd (let e : false ≡ true = h in cc)
row_less c sv i (Open s) (Staged t upto) some few ok caught within valid row h = absurd (let e : false ≡ true = h in cc)
row_less c sv i (Open s) (StageAt t next) some few ok caught within valid row h = absurd (let e : false ≡ true = h in cc)
row_less c sv i (Open s) (Adopted t len) some few ok caught within valid row h = absurd (let e : false ≡ true = h in cc)
row_less c sv i (Open s) (Acked t len) some few ok caught within valid row h = absurd (let e : false ≡ true = h in cc)
row_less c sv i (Open s) (Gap t len) some few ok caught within valid row h = absurd (let e : false ≡ true = h in cc)
row_less c sv i (Open s) (NotAdopted t a) some few ok caught within valid row h = absurd (let e : false ≡ true = h in cc)
row_less c sv i (Open s) (LowSet t low) some few ok caught within valid row h = absurd (let e : false ≡ true = h in cc)
row_less c sv i (Fetch s from most) (Opened t adopted low len) some few ok caught within valid row h = absurd (let e : false ≡ true = h in cc)
row_less c sv i (Fetch s from most) (Stale t p) some few ok caught within valid row h = absurd (let e : false ≡ true = h in cc)
row_less c sv i (Fetch s from most) (Unopened t p) some few ok caught within valid row h = absurd (let e : false ≡ true = h in cc)
row_less c sv i (Fetch s from most) (Records t others) some few ok caught within valid row h = records_less c sv i s from most t others ok valid.1 row h
row_less c sv i (Fetch s from most) (Staged t upto) some few ok caught within valid row h = absurd (let e : false ≡ true = h in cc)
row_less c sv i (Fetch s from most) (StageAt t next) some few ok caught within valid row h = absurd (let e : false ≡ true = h in cc)
row_less c sv i (Fetch s from most) (Adopted t len) some few ok caught within valid row h = absurd (let e : false ≡ true = h in cc)
row_less c sv i (Fetch s from most) (Acked t len) some few ok caught within valid row h = absurd (let e : false ≡ true = h in cc)
row_less c sv i (Fetch s from most) (Gap t len) some few ok caught within valid row h = absurd (let e : false ≡ true = h in cc)
row_less c sv i (Fetch s from most) (NotAdopted t a) some few ok caught within valid row h = absurd (let e : false ≡ true = h in cc)
row_less c sv i (Fetch s from most) (LowSet t low) some few ok caught within valid row h = absurd (let e : false ≡ true = h in cc)
row_less c sv i (Stage s batch) (Opened t adopted low len) some few ok caught within valid row h = absurd (let e : false ≡ true = h in cc)
row_less c sv i (Stage s batch) (Stale t p) some few ok caught within valid row h = absurd (let e : false ≡ true = h in cc)
row_less c sv i (Stage s batch) (Unopened t p) some few ok caught within valid row h = absurd (let e : false ≡ true = h in cc)
row_less c sv i (Stage s batch) (Records t others) some few ok caught within valid row h = absurd (let e : false ≡ true = h in cc)
row_less c sv i (Stage s batch) (Staged t upto) some few ok caught within valid row h = staged_less c sv i s t upto batch some few ok row h
row_less c sv i (Stage s batch) (StageAt t next) some few ok caught within valid row h = absurd (let e : false ≡ true = h in cc)
row_less c sv i (Stage s batch) (Adopted t len) some few ok caught within valid row h = absurd (let e : false ≡ true = h in cc)
row_less c sv i (Stage s batch) (Acked t len) some few ok caught within valid row h = absurd (let e : false ≡ true = h in cc)
row_less c sv i (Stage s batch) (Gap t len) some few ok caught within valid row h = absurd (let e : false ≡ true = h in cc)
row_less c sv i (Stage s batch) (NotAdopted t a) some few ok caught within valid row h = absurd (let e : false ≡ true = h in cc)
row_less c sv i (Stage s batch) (LowSet t low) some few ok caught within valid row h = absurd (let e : false ≡ true = h in cc)
row_less c sv i (Adopt s base) (Opened t adopted low len) some few ok caught within valid row h = absurd (let e : false ≡ true = h in cc)
row_less c sv i (Adopt s base) (Stale t p) some few ok caught within valid row h = absurd (let e : false ≡ true = h in cc)
row_less c sv i (Adopt s base) (Unopened t p) some few ok caught within valid row h = absurd (let e : false ≡ true = h in cc)
row_less c sv i (Adopt s base) (Records t others) some few ok caught within valid row h = absurd (let e : false ≡ true = h in cc)
row_less c sv i (Adopt s base) (Staged t upto) some few ok caught within valid row h = absurd (let e : false ≡ true = h in cc)
row_less c sv i (Adopt s base) (StageAt t next) some few ok caught within valid row h = absurd (let e : false ≡ true = h in cc)
row_less c sv i (Adopt s base) (Adopted t len) some few ok caught within valid row h = adopted_less c sv i s t base len some few row h
row_less c sv i (Adopt s base) (Acked t len) some few ok caught within valid row h = absurd (let e : false ≡ true = h in cc)
row_less c sv i (Adopt s base) (Gap t len) some few ok caught within valid row h = absurd (let e : false ≡ true = h in cc)
row_less c sv i (Adopt s base) (NotAdopted t a) some few ok caught within valid row h = absurd (let e : false ≡ true = h in cc)
row_less c sv i (Adopt s base) (LowSet t low) some few ok caught within valid row h = absurd (let e : false ≡ true = h in cc)
row_less c sv i (Append s batch) (Opened t adopted low len) some few ok caught within valid row h = absurd (let e : false ≡ true = h in cc)
row_less c sv i (Append s batch) (Stale t p) some few ok caught within valid row h = absurd (let e : false ≡ true = h in cc)
row_less c sv i (Append s batch) (Unopened t p) some few ok caught within valid row h = absurd (let e : false ≡ true = h in cc)
row_less c sv i (Append s batch) (Records t others) some few ok caught within valid row h = absurd (let e : false ≡ true = h in cc)
row_less c sv i (Append s batch) (Staged t upto) some few ok caught within valid row h = absurd (let e : false ≡ true = h in cc)
row_less c sv i (Append s batch) (StageAt t next) some few ok caught within valid row h = absurd (let e : false ≡ true = h in cc)
row_less c sv i (Append s batch) (Adopted t len) some few ok caught within valid row h = absurd (let e : false ≡ true = h in cc)
row_less c sv i (Append s batch) (Acked t len) some few ok caught within valid row h = appended_less c sv i s t len batch some few ok caught row h
row_less c sv i (Append s batch) (Gap t len) some few ok caught within valid row h = absurd (let e : false ≡ true = h in cc)
row_less c sv i (Append s batch) (NotAdopted t a) some few ok caught within valid row h = absurd (let e : false ≡ true = h in cc)
row_less c sv i (Append s batch) (LowSet t low) some few ok caught within valid row h = absurd (let e : false ≡ true = h in cc)
row_less c sv i (Low s k) (Opened t adopted low len) some few ok caught within valid row h = absurd (let e : false ≡ true = h in cc)
row_less c sv i (Low s k) (Stale t p) some few ok caught within valid row h = absurd (let e : false ≡ true = h in cc)
row_less c sv i (Low s k) (Unopened t p) some few ok caught within valid row h = absurd (let e : false ≡ true = h in cc)
row_less c sv i (Low s k) (Records t others) some few ok caught within valid row h = absurd (let e : false ≡ true = h in cc)
row_less c sv i (Low s k) (Staged t upto) some few ok caught within valid row h = absurd (let e : false ≡ true = h in cc)
row_less c sv i (Low s k) (StageAt t next) some few ok caught within valid row h = absurd (let e : false ≡ true = h in cc)
row_less c sv i (Low s k) (Adopted t len) some few ok caught within valid row h = absurd (let e : false ≡ true = h in cc)
row_less c sv i (Low s k) (Acked t len) some few ok caught within valid row h = absurd (let e : false ≡ true = h in cc)
row_less c sv i (Low s k) (Gap t len) some few ok caught within valid row h = absurd (let e : false ≡ true = h in cc)
row_less c sv i (Low s k) (NotAdopted t a) some few ok caught within valid row h = absurd (let e : false ≡ true = h in cc)
row_less c sv i (Low s k) (LowSet t low) some few ok caught within valid row h = lowered_less c sv i s t k low some few ok within row h

pub moves_forward : (c : Config) (sv : ServerState) (i : ℕ) (reply : FromNode) → 1 ≤ i → i ≤ 7 → IsSound c sv → AreCaughtUp c sv → commit_mark c sv ≤ length sv.log → IsValidFromNode reply →
    MovesForward c sv i reply (lack_of sv) (lack_of (server_after c sv i reply))
moves_forward c sv i reply some few ok caught within valid m wanted awaited = row_less c sv i m reply some few ok caught within valid (phase_row c sv i sv.phase refl m wanted) awaited
