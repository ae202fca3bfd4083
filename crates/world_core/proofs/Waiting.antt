-- How many requests wait at a server, and how many messages a step sends.
use Rattle.std.proofs.Common.{◌≡◌, ℕ, zero, suc, ◌+◌, ◌≤◌, List, [], ◌∷◌, length, Bool, true, false, arith, length-append, refl, Option, None, Some}
use Rattle.std.specs.Prelude.{if◌then◌else◌, nat_lt, nat_le}
use Rattle.std.proofs.lemmas.Bool.Decides.{nat_tests}
use Rattle.proto_model.specs.declared.message.FromNode.{FromNode}
use Rattle.proto_model.specs.declared.message.FromNode.TheVariants.{Opened, Stale, Unopened, Records, Staged, StageAt, Adopted, Acked, Gap, NotAdopted, LowSet}
use Rattle.proto_model.specs.declared.message.Phase.TheVariants.{Closed}
use Rattle.proto_model.specs.declared.message.ToNode.{ToNode}
use Rattle.proto_model.specs.declared.client_message.ToServer.{ToServer}
use Rattle.proto_model.specs.declared.client_message.ToServer.TheVariants as wish
use Rattle.proto_model.specs.declared.refusal.Refusal.{Refusal}
use Rattle.tx_model.specs.Transactions.{Transaction}
use Rattle.proto_model.specs.Servers.{Config, ServerState, Waiting, server_after, server_answers, is_heard, received, received_answers, waits_on, is_due, commit_mark, answered, begun, acked_by, takes_ack, after_staged}
use Rattle.proto_model.specs.Serving.{served_after, served_answers, append_refusal, append_answers, assigned, if_taken}
use Rattle.proto_model.specs.Sending.{next_messages, one_message, next_message}
use Rattle.proto_model.proofs.TableLemmas.{either}

-- ---- a reply of a node: each request that is answered waits no more

one_place : (b d : Bool) (w : Waiting) (xs ys ws : List Waiting) → (b ≡ true → d ≡ true → ⊥) → length xs + length ys ≤ length ws → length (if b then w ∷ xs else xs) + length (if d then w ∷ ys else ys) ≤ length (w ∷ ws)
one_place true true w xs ys ws apart few = absurd (apart refl refl)
one_place true false w xs ys ws apart few = omega (arith, few)
one_place false true w xs ys ws apart few = omega (arith, few)
one_place false false w xs ys ws apart few = omega (arith, few)

apart_at : (mark id : ℕ) → nat_lt mark id ≡ true → nat_le id mark ≡ true → ⊥
apart_at mark id over due = grind (arith, nat_tests)

split_few : (mark : ℕ) (ws : List Waiting) → length (waits_on mark ws) + length (is_due mark ws) ≤ length ws
split_few mark [] = omega arith
split_few mark (w ∷ ws) = one_place (nat_lt mark w.id) (nat_le w.id mark) w (waits_on mark ws) (is_due mark ws) ws (apart_at mark w.id) (split_few mark ws)

either_few : (b : Bool) (x y : ServerState) (p q : List Waiting) (n : ℕ) → length x.waiting + length p ≤ n → length y.waiting + length q ≤ n → length (ServerState.waiting (if b then x else y)) + length (if b then p else q) ≤ n
either_few true x y p q n h k = h
either_few false x y p q n h k = k

same_few : (n : ℕ) → n + 0 ≤ n
same_few n = omega arith

none_few : (n : ℕ) → 0 + 0 ≤ n
none_few n = omega arith

ack_few : (c : Config) (sv : ServerState) (i len : ℕ) → length (ServerState.waiting (if takes_ack c sv i len then answered c (begun c (acked_by sv i len)) else sv)) + length (if takes_ack c sv i len then is_due (commit_mark c (acked_by sv i len)) sv.waiting else []) ≤ length sv.waiting
ack_few c sv i len = either_few (takes_ack c sv i len) (answered c (begun c (acked_by sv i len))) sv (is_due (commit_mark c (acked_by sv i len)) sv.waiting) [] (length sv.waiting) (split_few (commit_mark c (acked_by sv i len)) sv.waiting) (same_few (length sv.waiting))

staged_few : (sv : ServerState) (i upto : ℕ) → length (after_staged sv i upto).waiting + 0 ≤ length sv.waiting
staged_few sv i upto = either (λ (x : ServerState). length x.waiting + 0 ≤ length sv.waiting) _ _ sv (same_few (length sv.waiting)) (same_few (length sv.waiting))

received_few : (c : Config) (sv : ServerState) (i : ℕ) (m : FromNode) → length (received c sv i m).waiting + length (received_answers c sv i m) ≤ length sv.waiting
received_few c sv i (Opened s adopted low len) = either (λ (x : ServerState). length x.waiting + 0 ≤ length sv.waiting) _ _ sv (same_few (length sv.waiting)) (same_few (length sv.waiting))
received_few c sv i (Stale s p) = either (λ (x : ServerState). length x.waiting + 0 ≤ length sv.waiting) (nat_lt s p) (record sv { phase = Closed p; waiting = [] }) sv (none_few (length sv.waiting)) (same_few (length sv.waiting))
received_few c sv i (Unopened s p) = same_few (length sv.waiting)
received_few c sv i (Records s batch) = either (λ (x : ServerState). length x.waiting + 0 ≤ length sv.waiting) _ _ sv (same_few (length sv.waiting)) (same_few (length sv.waiting))
received_few c sv i (Staged s upto) = staged_few sv i upto
received_few c sv i (StageAt s next) = either (λ (x : ServerState). length x.waiting + 0 ≤ length sv.waiting) _ _ sv (staged_few sv i _) (same_few (length sv.waiting))
received_few c sv i (Adopted s len) = ack_few c sv i len
received_few c sv i (Acked s len) = ack_few c sv i len
received_few c sv i (Gap s len) = same_few (length sv.waiting)
received_few c sv i (NotAdopted s adopted) = same_few (length sv.waiting)
received_few c sv i (LowSet s low) = either (λ (x : ServerState). length x.waiting + 0 ≤ length sv.waiting) _ _ sv (same_few (length sv.waiting)) (same_few (length sv.waiting))

pub heard_few : (c : Config) (sv : ServerState) (i : ℕ) (m : FromNode) → length (server_after c sv i m).waiting + length (server_answers c sv i m) ≤ length sv.waiting
heard_few c sv i m = either_few (is_heard sv m) (received c sv i m) sv (received_answers c sv i m) [] (length sv.waiting) (received_few c sv i m) (same_few (length sv.waiting))

-- ---- a client's request: it is answered, or waits

append_few : (sv : ServerState) (tx : Transaction) (refusal : Option Refusal) → length (if_taken refusal sv (assigned sv tx)).waiting + length (append_answers tx refusal) ≤ length sv.waiting + 1
append_few sv tx None = let more = length-append sv.waiting (record { id = length sv.log + 1; client = tx.client; request = tx.request } ∷ []) in omega (arith, more)
append_few sv tx (Some refusal) = omega arith

pub served_few : (c : Config) (sv : ServerState) (m : ToServer) → length (served_after c sv m).waiting + length (served_answers c sv m) ≤ length sv.waiting + 1
served_few c sv (wish.Append tx) = append_few sv tx (append_refusal c sv tx)
served_few c sv (wish.Feed from max) = omega arith
served_few c sv (wish.Get id) = omega arith
served_few c sv wish.Flush = omega arith

-- ---- a tick: a message to each node at most

one_few : (i : ℕ) (m : Option ToNode) → length (one_message i m) ≤ 1
one_few i None = omega arith
one_few i (Some m) = omega arith

pub ticked_few : (c : Config) (sv : ServerState) (k : ℕ) → length (next_messages c sv k) ≤ k
ticked_few c sv zero = omega arith
ticked_few c sv (suc k) =
    let both = length-append (next_messages c sv k) (one_message (suc k) (next_message c sv (suc k))) in
    let rest = ticked_few c sv k in
    let one = one_few (suc k) (next_message c sv (suc k)) in
    omega (arith, both, rest, one)
