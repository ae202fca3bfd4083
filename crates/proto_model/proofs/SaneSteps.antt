-- One step of a node: its session, its promise and its log, and that what is valid is answered by what is valid.
use Rattle.std.proofs.Common.{◌≡◌, ℕ, ◌+◌, ◌-◌, ◌<◌, ◌≤◌, ◌^◌, List, [], ◌∷◌, ◌++◌, Bool, false, arith, refl, lit≤, length, take, drop, length-append, length-drop}
use Rattle.std.specs.Prelude.{◌==◌, nat_lt, nat_le, if◌then◌else◌}
use Rattle.std.proofs.lemmas.Bool.Decides.{nat_tests}
use Rattle.std.proofs.lemmas.Grind.{common_steps}
use Rattle.tx_model.specs.declared.record.Record.{Record}
use Rattle.tx_model.specs.Records.{IsPlace, RiseByOne, IsBatch, first_id}
use Rattle.tx_model.specs.Spelling.{IsCount}
use Rattle.tx_model.proofs.Batches.{RiseByOne-take, RiseByOne-drop, IsBatch-from_RiseByOne}
use Rattle.proto_model.specs.declared.message.ToNode.{ToNode}
use Rattle.proto_model.specs.declared.message.ToNode.TheVariants.{Open, Fetch, Stage, Adopt, Append, Low}
use Rattle.proto_model.specs.declared.message.FromNode.{FromNode}
use Rattle.proto_model.specs.declared.message.FromNode.TheVariants.{Opened, Stale, Records, Staged, StageAt, Adopted, Acked, Gap, NotAdopted, LowSet}
use Rattle.proto_model.specs.Replicas.{ReplicaState, replica_after, replica_reply, opened, staged_after, adopted_after, appended_after, lowered_after, if_promised, next_staged, grown, gated, has_records, fetch_reply, stage_reply, adopt_reply, append_reply, low_reply}
use Rattle.proto_model.specs.Servers.{session_of}
use Rattle.proto_model.specs.Validity.{IsValidFromNode}
use Rattle.proto_model.specs.Sanity.{request_session, may_change_log, EveryStepIsSane, IsValidReplica, RepliesAreValid}
use Rattle.proto_model.proofs.TableLemmas.{either, if_each}

-- ---- the session of a reply

abbrev IsTo : ℕ → FromNode → Type 0
IsTo s reply = session_of reply ≡ s

gated_to : (r : ReplicaState) (s : ℕ) (reply : FromNode) → IsTo s reply → IsTo s (gated r s reply)
gated_to r s reply is = either (IsTo s) (nat_lt s r.promised) _ _ refl (either (IsTo s) (nat_lt r.promised s) _ _ refl is)

two_to : (s : ℕ) (b : Bool) (x y : FromNode) → IsTo s x → IsTo s y → IsTo s (if b then x else y)
two_to s b x y p q = either (IsTo s) b x y p q

reply_to : (r : ReplicaState) (m : ToNode) → IsTo (request_session m) (replica_reply r m)
reply_to r (Open s) = two_to s (nat_lt s r.promised) (Stale s r.promised) (Opened s r.adopted r.low (length r.log)) refl refl
reply_to r (Fetch s from max) =
    gated_to r s (fetch_reply r s from max) (two_to s (has_records r from max) (Records s (take max (drop (from - 1) r.log))) (Gap s (length r.log)) refl refl)
reply_to r (Stage s batch) =
    let staged = if first_id batch == next_staged r then Staged s (r.low + length r.staged + length batch) else StageAt s (next_staged r) in
    gated_to r s (stage_reply r s batch) (two_to s (r.adopted == s) (Adopted s (length r.log)) staged refl
    (two_to s (first_id batch == next_staged r) (Staged s (r.low + length r.staged + length batch)) (StageAt s (next_staged r)) refl refl))
reply_to r (Adopt s len) =
    let taken = if len + 1 == next_staged r then Adopted s len else StageAt s (next_staged r) in
    gated_to r s (adopt_reply r s len) (two_to s (r.adopted == s) (Adopted s (length r.log)) taken refl
    (two_to s (len + 1 == next_staged r) (Adopted s len) (StageAt s (next_staged r)) refl refl))
reply_to r (Append s batch) =
    let taken = if nat_lt (length r.log + 1) (first_id batch) then Gap s (length r.log) else Acked s (length (grown r.log batch)) in
    gated_to r s (append_reply r s batch) (two_to s (r.adopted == s) taken (NotAdopted s r.adopted)
    (two_to s (nat_lt (length r.log + 1) (first_id batch)) (Gap s (length r.log)) (Acked s (length (grown r.log batch))) refl refl) refl)
reply_to r (Low s k) =
    let known = if nat_le k r.low then LowSet s r.low else LowSet s k in
    let taken = if nat_lt (length r.log) k then Gap s (length r.log) else known in
    gated_to r s (low_reply r s k) (two_to s (r.adopted == s) taken (NotAdopted s r.adopted)
    (two_to s (nat_lt (length r.log) k) (Gap s (length r.log)) known refl (two_to s (nat_le k r.low) (LowSet s r.low) (LowSet s k) refl refl)) refl)

-- ---- the promise and the log

-- what a step keeps of a replica, besides what it may do to the log
pub record IsLater (r x : ReplicaState) : Type 0 where
  pub promised : r.promised ≤ x.promised
  pub adopted : r.adopted ≤ r.promised → x.adopted ≤ x.promised

later_same : (r : ReplicaState) → IsLater r r
later_same r = record { promised = omega arith; adopted = λ less. less }

promised_later : (r : ReplicaState) (s : ℕ) (after : ReplicaState) → (s ≤ r.promised → IsLater r after) → IsLater r (if_promised r s after)
promised_later r s after later = if_each (IsLater r) (s == r.promised) after r (λ is. later (grind (arith, nat_tests))) (λ _. later_same r)

open_later : (r : ReplicaState) (s : ℕ) → IsLater r (opened r s)
open_later r s = if_each (IsLater r) (nat_lt r.promised s) _ r (λ is. let less : r.promised ≤ s = grind (arith, nat_tests) in record { promised = less; adopted = λ a. omega (arith, a, less) }) (λ _. later_same r)

adopt_later : (r : ReplicaState) (s len : ℕ) → s ≤ r.promised → IsLater r (adopted_after r s len)
adopt_later r s len less =
    either (IsLater r) (r.adopted == s) r _ (later_same r)
    (either (IsLater r) (len + 1 == next_staged r) _ r (record { promised = omega arith; adopted = λ a. less }) (later_same r))

kept_later : (r : ReplicaState) (low : ℕ) (log staged : List Record) → IsLater r (record { promised = r.promised; adopted = r.adopted; low = low; log = log; staged = staged })
kept_later r low log staged = record { promised = omega arith; adopted = λ less. less }

step_later : (r : ReplicaState) (m : ToNode) → IsLater r (replica_after r m)
step_later r (Open s) = open_later r s
step_later r (Fetch s from max) = later_same r
step_later r (Stage s batch) = promised_later r s (staged_after r s batch) (λ _.
    either (IsLater r) (r.adopted == s) r _ (later_same r) (either (IsLater r) (first_id batch == next_staged r) _ r (kept_later r r.low r.log (r.staged ++ batch)) (later_same r)))
step_later r (Adopt s len) = promised_later r s (adopted_after r s len) (adopt_later r s len)
step_later r (Append s batch) = promised_later r s (appended_after r s batch) (λ _.
    either (IsLater r) (r.adopted == s) _ r (either (IsLater r) (nat_lt (length r.log + 1) (first_id batch)) r _ (later_same r) (kept_later r r.low (grown r.log batch) r.staged)) (later_same r))
step_later r (Low s k) = promised_later r s (lowered_after r s k) (λ _.
    either (IsLater r) (r.adopted == s) _ r (either (IsLater r) (nat_lt (length r.log) k) r _ (later_same r) (either (IsLater r) (nat_le k r.low) r _ (later_same r) (kept_later r k r.log r.staged))) (later_same r))

abbrev HasLog : List Record → ReplicaState → Type 0
HasLog log x = x.log ≡ log

step_log : (r : ReplicaState) (m : ToNode) → may_change_log m ≡ false → HasLog r.log (replica_after r m)
step_log r (Open s) is = either (HasLog r.log) (nat_lt r.promised s) _ _ refl refl
step_log r (Fetch s from max) is = refl
step_log r (Stage s batch) is =
    either (HasLog r.log) (s == r.promised) (staged_after r s batch) r (either (HasLog r.log) (r.adopted == s) r _ refl (either (HasLog r.log) (first_id batch == next_staged r) _ r refl refl)) refl
step_log r (Adopt s len) is = absurd cc
step_log r (Append s batch) is = absurd cc
step_log r (Low s k) is =
    either (HasLog r.log) (s == r.promised) (lowered_after r s k) r
    (either (HasLog r.log) (r.adopted == s) _ r (either (HasLog r.log) (nat_lt (length r.log) k) r _ refl (either (HasLog r.log) (nat_le k r.low) r _ refl refl)) refl) refl

pub every_step : EveryStepIsSane
every_step r m =
    let later = step_later r m in
    record { session = reply_to r m; promised = later.promised; adopted = later.adopted; log = step_log r m }

-- ---- valid replies

-- ids that rise by one from here end within the range
pub rise_count : (id : ℕ) (records : List Record) → id ≤ 2 ^ 48 → RiseByOne id records → id + length records ≤ 2 ^ 48
unfolding RiseByOne
rise_count id [] small rise = omega arith
rise_count id (r ∷ records) small rise =
    let place = rise.0.id.below in
    let next : id + 1 ≤ 2 ^ 48 = omega (arith, place, rise.1) in
    let rest = rise_count (id + 1) records next rise.2 in
    omega (arith, rest)

-- a log's length is a count
pub log_count : (log : List Record) → RiseByOne 1 log → IsCount (length log)
log_count log rise = let all = rise_count 1 log (lit≤ tt) rise in omega (arith, all)

-- records of a log are a batch
pub part_of_log : (log : List Record) (at n : ℕ) → RiseByOne 1 log → at < length log → 1 ≤ n → n ≤ 8 → IsBatch (take n (drop at log))
part_of_log log at n rise within some few =
    let drops : length (drop at log) ≡ length log - at = length-drop at log in
    IsBatch-from_RiseByOne (1 + at) (take n (drop at log)) (grind (arith, common_steps)) (grind (arith, common_steps))
    (RiseByOne-take (1 + at) (drop at log) n (RiseByOne-drop 1 log at (omega arith) rise))

gated_valid : (r : ReplicaState) (s : ℕ) (reply : FromNode) → IsValidReplica r → IsPlace s → (s ≡ r.promised → IsValidFromNode reply) → IsValidFromNode (gated r s reply)
gated_valid r s reply valid place is =
    if_each IsValidFromNode (nat_lt s r.promised) _ _ (λ _. (place, valid.promised)) (λ p.
    if_each IsValidFromNode (nat_lt r.promised s) _ _ (λ _. (place, valid.promised)) (λ q. is (grind (arith, nat_tests))))

fetch_valid : (r : ReplicaState) (s from max : ℕ) → IsValidReplica r → IsPlace s → IsValidFromNode (fetch_reply r s from max)
fetch_valid r s from max valid place =
    if_each IsValidFromNode (has_records r from max) _ _ (λ has.
    let some : 1 ≤ from = grind (arith, nat_tests) in
    let within : from ≤ length r.log = grind (arith, nat_tests) in
    let one : 1 ≤ max = grind (arith, nat_tests) in
    let few : max ≤ 8 = grind (arith, nat_tests) in
    (place, part_of_log r.log (from - 1) max valid.log (omega arith) one few)) (λ _. (place, log_count r.log valid.log))

low_count : (r : ReplicaState) → IsValidReplica r → IsCount r.low
low_count r valid = let log = log_count r.log valid.log in let low = valid.low in omega (arith, log, low)

-- where staged records end is a place, also the one after them
staged_count : (r : ReplicaState) → IsValidReplica r → next_staged r ≤ 2 ^ 48
staged_count r valid =
    let low = low_count r valid in
    let all = rise_count (r.low + 1) r.staged (omega (arith, low)) valid.staged in
    omega (arith, all)

batch_end : (batch : List Record) → IsBatch batch → first_id batch ≤ 2 ^ 48 → first_id batch + length batch ≤ 2 ^ 48
batch_end batch is small = rise_count (first_id batch) batch small is.rise

stage_valid : (r : ReplicaState) (s : ℕ) (batch : List Record) → IsValidReplica r → IsPlace s → IsBatch batch → IsValidFromNode (stage_reply r s batch)
stage_valid r s batch valid place is =
    let next = staged_count r valid in
    if_each IsValidFromNode (r.adopted == s) _ _ (λ _. (place, log_count r.log valid.log)) (λ _.
    if_each IsValidFromNode (first_id batch == next_staged r) _ _
    (λ same. let at : first_id batch ≡ next_staged r = grind (arith, nat_tests) in
    let all = batch_end batch is (omega (arith, at, next)) in
    (place, omega (arith, all, at)))
    (λ _. (place, record { some = omega arith; within = next })))

adopt_valid : (r : ReplicaState) (s len : ℕ) → IsValidReplica r → IsPlace s → IsCount len → IsValidFromNode (adopt_reply r s len)
adopt_valid r s len valid place small =
    either IsValidFromNode (r.adopted == s) _ _ (place, log_count r.log valid.log)
    (either IsValidFromNode (len + 1 == next_staged r) _ _ (place, small) (place, record { some = omega arith; within = staged_count r valid }))

adopted_count : (r : ReplicaState) → IsValidReplica r → IsCount r.adopted
adopted_count r valid = let a = valid.adopted in let p = valid.promised in omega (arith, a, p)

grown_count : (log batch : List Record) (first : ℕ) → length log < 2 ^ 48 → first + length batch ≤ 2 ^ 48 → 1 ≤ first → first ≤ length log + 1 → length (log ++ drop (length log + 1 - first) batch) < 2 ^ 48
grown_count log batch first small all some low =
    let n = length-append log (drop (length log + 1 - first) batch) in
    let d = length-drop (length log + 1 - first) batch in
    omega (arith, n, d)

batch_first : (batch : List Record) → IsBatch batch → IsPlace (first_id batch)
unfolding RiseByOne
batch_first [] is = absurd (let some = is.some in omega arith)
batch_first (r ∷ batch) is = is.rise.0.id

append_valid : (r : ReplicaState) (s : ℕ) (batch : List Record) → IsValidReplica r → IsPlace s → IsBatch batch → IsValidFromNode (append_reply r s batch)
append_valid r s batch valid place is =
    let log = log_count r.log valid.log in
    let first = batch_first batch is in
    let below = first.below in
    let some = first.some in
    let all = batch_end batch is (omega (arith, below)) in
    either IsValidFromNode (r.adopted == s) _ _
    (if_each IsValidFromNode (nat_lt (length r.log + 1) (first_id batch)) _ _ (λ _. (place, log))
    (λ fits. let low : first_id batch ≤ length r.log + 1 = grind (arith, nat_tests) in (place, grown_count r.log batch (first_id batch) log all some low)))
    (place, adopted_count r valid)

low_valid : (r : ReplicaState) (s k : ℕ) → IsValidReplica r → IsPlace s → IsCount k → IsValidFromNode (low_reply r s k)
low_valid r s k valid place small =
    either IsValidFromNode (r.adopted == s) _ _
    (either IsValidFromNode (nat_lt (length r.log) k) _ _ (place, log_count r.log valid.log)
    (either IsValidFromNode (nat_le k r.low) _ _ (place, low_count r valid) (place, small)))
    (place, adopted_count r valid)

pub replies : RepliesAreValid
replies r (Open s) valid m =
    either IsValidFromNode (nat_lt s r.promised) _ _ (m, valid.promised) (m, adopted_count r valid, low_count r valid, log_count r.log valid.log)
replies r (Fetch s from max) valid m = gated_valid r s (fetch_reply r s from max) valid m.0 (λ _. fetch_valid r s from max valid m.0)
replies r (Stage s batch) valid m = gated_valid r s (stage_reply r s batch) valid m.0 (λ _. stage_valid r s batch valid m.0 m.1)
replies r (Adopt s len) valid m = gated_valid r s (adopt_reply r s len) valid m.0 (λ _. adopt_valid r s len valid m.0 m.1)
replies r (Append s batch) valid m = gated_valid r s (append_reply r s batch) valid m.0 (λ _. append_valid r s batch valid m.0 m.1)
replies r (Low s k) valid m = gated_valid r s (low_reply r s k) valid m.0 (λ _. low_valid r s k valid m.0 m.1)
