-- A server's messages are valid where it is, and its commit mark doesn't fall.
use Rattle.std.proofs.Common.{◌≡◌, ℕ, zero, suc, ◌+◌, ◌-◌, ◌<◌, ◌≤◌, ◌^◌, min, max, List, [], ◌++◌, Bool, true, false, arith, refl, sym, ◌∙◌, ap, subst, length, take, Option, Some, None, length-append}
use Rattle.std.specs.Prelude.{◌==◌, ◌&&◌, not, nat_lt, nat_le, if◌then◌else◌}
use Rattle.std.proofs.lemmas.Bool.Decides.{nat_tests}
use Rattle.std.proofs.lemmas.List.{length-take-le}
use Rattle.tx_model.specs.declared.record.Record.{Record}
use Rattle.tx_model.specs.Records.{IsPlace, RiseByOne, first_id}
use Rattle.tx_model.specs.Spelling.{IsCount}
use Rattle.tx_model.proofs.Batches.{RiseByOne-take}
use Rattle.proto_model.specs.declared.message.Phase.{Phase}
use Rattle.proto_model.specs.declared.message.Phase.TheVariants.{Idle, Opening, Fetching, Repairing, Running, Closed}
use Rattle.proto_model.specs.declared.message.Report.{Report}
use Rattle.proto_model.specs.declared.message.ToNode.{ToNode}
use Rattle.proto_model.specs.declared.message.ToNode.TheVariants.{Open, Fetch}
use Rattle.proto_model.specs.declared.message.FromNode.{FromNode}
use Rattle.proto_model.specs.declared.message.FromNode.TheVariants.{Opened, Stale, Unopened, Records, Staged, StageAt, Adopted, Acked, Gap, NotAdopted, LowSet}
use Rattle.proto_model.specs.Tables.{put}
use Rattle.proto_model.specs.Quorums.{count, quorum, reached}
use Rattle.proto_model.specs.Servers.{Config, ServerState, server_after, received, is_heard, after_report, reported_by, with_choice, after_records, takes_records, with_fetched, after_staged, after_ack, takes_ack, acked_by, begun, answered, after_low, after_stale, chosen_len, chosen, commit_mark, holds, is_of, has_fetched, is_active}
use Rattle.proto_model.specs.Sending.{message_in, repair_message, append_message, chosen_message}
use Rattle.proto_model.specs.Validity.{IsValidToNode}
use Rattle.proto_model.specs.Sanity.{IsValidServer, MessagesAreValid, EveryReceiveIsSane}
use Rattle.proto_model.proofs.TableLemmas.{either, if_each}
use Rattle.proto_model.proofs.SaneSteps.{log_count, part_of_log}

-- ---- messages

abbrev IsValidOrNone : Option ToNode → Type 0
IsValidOrNone None = Unit {0}
IsValidOrNone (Some m) = IsValidToNode m

reached_within : (n : ℕ) (reaches : ℕ → ℕ → Bool) (k : ℕ) → reached n reaches k ≤ k
reached_within n reaches zero = omega arith
reached_within n reaches (suc k) =
    let rest = reached_within n reaches k in
    either (λ x. x ≤ suc k) (nat_le (quorum n) (count (reaches (suc k)) n)) (suc k) (reached n reaches k) (omega arith) (omega (arith, rest))

committed_count : (c : Config) (sv : ServerState) → RiseByOne 1 sv.log → IsCount (commit_mark c sv)
committed_count c sv rise = let a = reached_within c.nodes (holds sv) (length sv.log) in let b = log_count sv.log rise in omega (arith, a, b)

append_valid : (c : Config) (sv : ServerState) (i : ℕ) → IsPlace sv.session → RiseByOne 1 sv.log → IsValidOrNone (append_message c sv i)
append_valid c sv i place rise =
    if_each IsValidOrNone (nat_lt (sv.acked i) (length sv.log)) _ _
    (λ is. let less : sv.acked i < length sv.log = grind (arith, nat_tests) in (place, part_of_log sv.log (sv.acked i) 8 rise less (omega arith) (omega arith)))
    (λ _. either IsValidOrNone (nat_lt (sv.low i) (commit_mark c sv)) _ _ (place, committed_count c sv rise) tt)

repair_valid : (c : Config) (sv : ServerState) (i : ℕ) → IsPlace sv.session → RiseByOne 1 sv.log → chosen_len c sv ≤ length sv.log → chosen_len c sv < 2 ^ 48 → IsValidOrNone (repair_message c sv i)
repair_valid c sv i place rise within small =
    if_each IsValidOrNone (nat_lt (sv.staged i) (chosen_len c sv)) _ _
    (λ is. let less : sv.staged i < chosen_len c sv = grind (arith, nat_tests) in
    let len : length (take (chosen_len c sv) sv.log) ≡ chosen_len c sv = length-take-le (chosen_len c sv) sv.log within in
    (place, part_of_log (take (chosen_len c sv) sv.log) (sv.staged i) 8 (RiseByOne-take 1 sv.log (chosen_len c sv) rise) (omega (arith, less, len)) (omega arith) (omega arith)))
    (λ _. (place, small))

chosen_valid : (c : Config) (sv : ServerState) (i : ℕ) → IsPlace sv.session → RiseByOne 1 sv.log → chosen_len c sv ≤ length sv.log → chosen_len c sv < 2 ^ 48 → IsValidOrNone (chosen_message c sv i)
chosen_valid c sv i place rise within small =
    either IsValidOrNone (not (sv.reported i)) (Some (Open sv.session)) (if sv.adopted i then append_message c sv i else repair_message c sv i) place
    (either IsValidOrNone (sv.adopted i) (append_message c sv i) (repair_message c sv i) (append_valid c sv i place rise) (repair_valid c sv i place rise within small))

fetch_valid : (s last all : ℕ) → IsPlace s → last < all → all < 2 ^ 48 → IsValidToNode (Fetch s (last + 1) (min 8 (all - last)))
fetch_valid s last all place less small = (place, record { some = omega arith; within = omega arith }, record { some = omega arith; few = omega arith })

message_valid : (phase : Phase) (c : Config) (sv : ServerState) (i : ℕ) → sv.phase ≡ phase → IsValidServer c sv → IsValidOrNone (message_in phase c sv i)
message_valid Idle c sv i is valid = tt
message_valid Opening c sv i is valid = either IsValidOrNone (sv.reported i) None (Some (Open sv.session)) tt (valid.session (ap is_active is))
message_valid Fetching c sv i is valid =
    let place = valid.session (ap is_active is) in
    let fetch = Fetch sv.session (length sv.log + 1) (min 8 (chosen_len c sv - length sv.log)) in
    either IsValidOrNone (not (sv.reported i)) (Some (Open sv.session)) (if is_of i (chosen c sv) then Some fetch else None) place
    (either IsValidOrNone (is_of i (chosen c sv)) (Some fetch) None (fetch_valid sv.session (length sv.log) (chosen_len c sv) place (valid.fetching is) valid.chosen) tt)
message_valid Repairing c sv i is valid = chosen_valid c sv i (valid.session (ap is_active is)) valid.log (valid.repairing (ap has_fetched is)) valid.chosen
message_valid Running c sv i is valid = chosen_valid c sv i (valid.session (ap is_active is)) valid.log (valid.repairing (ap has_fetched is)) valid.chosen
message_valid (Closed p) c sv i is valid = tt

pub messages : MessagesAreValid
messages c sv i m valid is = subst IsValidOrNone is (message_valid sv.phase c sv i refl valid)

-- ---- the commit mark

-- what a reply keeps: no node's acknowledgement is taken back, and the log is no shorter
pub record IsOnward (sv x : ServerState) : Type 0 where
  pub session : x.session ≡ sv.session
  pub log : length sv.log ≤ length x.log
  pub holds : (k i : ℕ) → holds sv k i ≡ true → holds x k i ≡ true

count_more : (p q : ℕ → Bool) (n : ℕ) → ((i : ℕ) → p i ≡ true → q i ≡ true) → count p n ≤ count q n
count_more p q zero more = omega arith
count_more p q (suc n) more = one (p (suc n)) (q (suc n)) (more (suc n)) (count_more p q n more)
  where
    one : (a b : Bool) → (a ≡ true → b ≡ true) → count p n ≤ count q n → (if a then 1 else 0) + count p n ≤ (if b then 1 else 0) + count q n
    one true true more rest = omega (arith, rest)
    one true false more rest = absurd (let e = more refl in cc)
    one false true more rest = omega (arith, rest)
    one false false more rest = omega (arith, rest)

-- what is reached up to k is reached in more, up to more
reached_at_least : (n : ℕ) (reaches : ℕ → ℕ → Bool) (k j : ℕ) → j ≤ k → nat_le (quorum n) (count (reaches j) n) ≡ true → j ≤ reached n reaches k
reached_at_least n reaches zero j less is = omega arith
reached_at_least n reaches (suc k) j less is =
    if_each (λ x. j ≤ x) (nat_le (quorum n) (count (reaches (suc k)) n)) (suc k) (reached n reaches k) (λ _. less)
    (λ never. let other = apart never in reached_at_least n reaches k j (grind (arith, other)) is)
  where
    apart : nat_le (quorum n) (count (reaches (suc k)) n) ≡ false → j ≡ suc k → ⊥
    apart never same = let P : ℕ → Type 0 = λ x. nat_le (quorum n) (count (reaches x) n) ≡ true in let yes : nat_le (quorum n) (count (reaches (suc k)) n) ≡ true = subst P same is in absurd (let e : ◌≡◌ {A = Bool} true false = sym yes ∙ never in cc)

reached_more : (n : ℕ) (f g : ℕ → ℕ → Bool) (k m : ℕ) → k ≤ m → ((j i : ℕ) → f j i ≡ true → g j i ≡ true) → reached n f k ≤ reached n g m
reached_more n f g zero m less more = omega arith
reached_more n f g (suc k) m less more =
    if_each (λ x. x ≤ reached n g m) (nat_le (quorum n) (count (f (suc k)) n)) (suc k) (reached n f k)
    (λ is. let all = count_more (f (suc k)) (g (suc k)) n (more (suc k)) in reached_at_least n g m (suc k) less (grind (arith, nat_tests, all)))
    (λ _. reached_more n f g k m (omega arith) more)

onward_mark : (c : Config) (sv x : ServerState) → IsOnward sv x → commit_mark c sv ≤ commit_mark c x
onward_mark c sv x on = reached_more c.nodes (holds sv) (holds x) (length sv.log) (length x.log) on.log on.holds

onward_same : (sv : ServerState) → IsOnward sv sv
onward_same sv = record { session = refl; log = omega arith; holds = λ k i is. is }

-- an acknowledgement of one node more
holds_acked : (sv : ServerState) (j len k i : ℕ) → holds sv k i ≡ true → holds (acked_by sv j len) k i ≡ true
holds_acked sv j len k i is = one (i == j) refl
  where
    one : (b : Bool) → (i == j) ≡ b → ((if b then true else sv.adopted i) && nat_le k (if b then max (sv.acked j) len else sv.acked i)) ≡ true
    one false e = is
    one true e =
        let same : i ≡ j = grind (arith, nat_tests) in
        let old : nat_le k (sv.acked i) ≡ true = grind (arith, nat_tests, is) in
        let P : ℕ → Type 0 = λ x. nat_le k (sv.acked x) ≡ true in
        let here : nat_le k (sv.acked j) ≡ true = subst P same old in
        grind (arith, nat_tests, here)

ack_onward : (c : Config) (sv : ServerState) (i len : ℕ) → IsOnward sv (after_ack c sv i len)
ack_onward c sv i len =
    either (IsOnward sv) (takes_ack c sv i len) (answered c (begun c (acked_by sv i len))) sv
    (record { session = refl; log = omega arith; holds = λ k j is. holds_acked sv i len k j is }) (onward_same sv)

report_onward : (c : Config) (sv : ServerState) (r : Report) → IsOnward sv (after_report c sv r)
report_onward c sv r =
    either (IsOnward sv) (not (sv.reported r.node) && nat_lt r.adopted sv.session) (with_choice c (reported_by sv r)) sv
    (record { session = refl; log = omega arith; holds = λ k i is. is }) (onward_same sv)

records_onward : (c : Config) (sv : ServerState) (i : ℕ) (batch : List Record) → IsOnward sv (after_records c sv i batch)
records_onward c sv i batch =
    let log = sv.log ++ take (chosen_len c sv - length sv.log) batch in
    either (IsOnward sv) (takes_records c sv i (first_id batch)) (with_fetched (chosen_len c sv) sv log) sv
    (record { session = refl; log = omega (arith, length-append sv.log (take (chosen_len c sv - length sv.log) batch)); holds = λ k j is. is }) (onward_same sv)

staged_onward : (sv : ServerState) (i upto : ℕ) → IsOnward sv (after_staged sv i upto)
staged_onward sv i upto =
    either (IsOnward sv) (sv.reported i && not (sv.adopted i)) (record sv { staged = put sv.staged i upto }) sv
    (record { session = refl; log = omega arith; holds = λ k j is. is }) (onward_same sv)

low_onward : (c : Config) (sv : ServerState) (i low : ℕ) → IsOnward sv (after_low c sv i low)
low_onward c sv i low =
    either (IsOnward sv) (sv.adopted i && nat_le low (commit_mark c sv)) (record sv { low = put sv.low i (max (sv.low i) low) }) sv
    (record { session = refl; log = omega arith; holds = λ k j is. is }) (onward_same sv)

stale_onward : (sv : ServerState) (s p : ℕ) → IsOnward sv (after_stale sv s p)
stale_onward sv s p =
    either (IsOnward sv) (nat_lt s p) (record sv { phase = Closed p; waiting = [] }) sv
    (record { session = refl; log = omega arith; holds = λ k j is. is }) (onward_same sv)

received_onward : (c : Config) (sv : ServerState) (i : ℕ) (m : FromNode) → IsOnward sv (received c sv i m)
received_onward c sv i (Opened s adopted low len) = report_onward c sv (record { node = i; adopted = adopted; low = low; length = len })
received_onward c sv i (Stale s p) = stale_onward sv s p
received_onward c sv i (Unopened s p) = onward_same sv
received_onward c sv i (Records s batch) = records_onward c sv i batch
received_onward c sv i (Staged s upto) = staged_onward sv i upto
received_onward c sv i (StageAt s next) = either (IsOnward sv) (nat_le 1 next) (after_staged sv i (next - 1)) sv (staged_onward sv i (next - 1)) (onward_same sv)
received_onward c sv i (Adopted s len) = ack_onward c sv i len
received_onward c sv i (Acked s len) = ack_onward c sv i len
received_onward c sv i (Gap s len) = onward_same sv
received_onward c sv i (NotAdopted s adopted) = onward_same sv
received_onward c sv i (LowSet s low) = low_onward c sv i low

pub every_receive : EveryReceiveIsSane
every_receive c sv i m =
    let on = either (IsOnward sv) (is_heard sv m) (received c sv i m) sv (received_onward c sv i m) (onward_same sv) in
    record { session = on.session; committed = onward_mark c sv (server_after c sv i m) on }
