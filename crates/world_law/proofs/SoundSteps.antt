-- What the steps of nodes and servers keep of sessions: promises are at most the number, and a server keeps its session.
use Rattle.std.proofs.Common.{◌≡◌, ℕ, zero, suc, ◌+◌, ◌-◌, ◌≤◌, List, [], ◌++◌, Bool, true, false, arith, refl, sym, subst, Option, Some, None, min, take, drop, length}
use Rattle.std.specs.Prelude.{◌==◌, nat_lt, nat_le, not, if◌then◌else◌}
use Rattle.std.specs.List.{AllByRecursion}
use Rattle.std.proofs.lemmas.Bool.Decides.{nat_tests}
use Rattle.tx_model.specs.declared.record.Record.{Record}
use Rattle.tx_model.specs.Records.{first_id}
use Rattle.proto_model.specs.declared.message.Phase.{Phase}
use Rattle.proto_model.specs.declared.message.Phase.TheVariants.{Idle, Opening, Fetching, Repairing, Running, Closed}
use Rattle.proto_model.specs.declared.message.ToNode.{ToNode}
use Rattle.proto_model.specs.declared.message.ToNode.TheVariants.{Open, Fetch, Stage, Adopt, Append, Low}
use Rattle.proto_model.specs.declared.message.FromNode.{FromNode}
use Rattle.proto_model.specs.Sanity.{request_session}
use Rattle.proto_model.proofs.SaneServers.{every_receive}
use Rattle.proto_model.specs.Replicas.{ReplicaState, replica_after, opened, staged_after, adopted_after, appended_after, lowered_after, if_promised, next_staged, grown}
use Rattle.proto_model.specs.Servers.{Config, ServerState, server_after, is_heard, chosen_len, commit_mark, chosen, is_of}
use Rattle.tx_model.specs.Transactions.{Transaction}
use Rattle.proto_model.specs.declared.refusal.Refusal.{Refusal}
use Rattle.proto_model.specs.declared.client_message.ToServer.{ToServer}
use Rattle.proto_model.specs.declared.client_message.ToServer.TheVariants as to_server
use Rattle.proto_model.specs.Serving.{served_after, if_taken, assigned, append_refusal, refusal_in, running_refusal}
use Rattle.proto_model.specs.Sending.{next_message, next_messages, one_message, message_in, chosen_message, append_message, repair_message}
use Rattle.proto_model.proofs.TableLemmas.{either, AllByRecursion-append}

-- ---- a node

-- the adopted session is at most the promised one, which is at most the number
pub record IsKnown (number : ℕ) (r : ReplicaState) : Type 0 where
  pub adopted : r.adopted ≤ r.promised
  pub promised : r.promised ≤ number

same_test : (s p : ℕ) → (s == p) ≡ true → s ≤ p
same_test s p is = grind (arith, nat_tests)

less_test : (p s : ℕ) → nat_lt p s ≡ true → p ≤ s
less_test p s is = grind (arith, nat_tests)

open_known : (n : ℕ) (r : ReplicaState) (s : ℕ) → IsKnown n r → s ≤ n → IsKnown n (opened r s)
open_known n r s known small = by_test (nat_lt r.promised s) refl
  where
    by_test : (b : Bool) → nat_lt r.promised s ≡ b → IsKnown n (if b then record r { promised = s; staged = [] } else r)
    by_test true is = record { adopted = omega (arith, known.adopted, less_test r.promised s is); promised = small }
    by_test false is = known

adopt_known : (n : ℕ) (r : ReplicaState) (s len : ℕ) → IsKnown n r → s ≤ r.promised → IsKnown n (adopted_after r s len)
adopt_known n r s len known small =
    either (IsKnown n) (r.adopted == s) _ _ known
    (either (IsKnown n) (len + 1 == (r.low + length r.staged + 1)) _ _ (record { adopted = small; promised = known.promised }) known)

-- where the session is the promised one
promised_known : (n : ℕ) (r : ReplicaState) (s : ℕ) (after : ReplicaState) → IsKnown n r → (s ≤ r.promised → IsKnown n after)
    → IsKnown n (if_promised r s after)
promised_known n r s after known there = by_test (s == r.promised) refl
  where
    by_test : (b : Bool) → (s == r.promised) ≡ b → IsKnown n (if b then after else r)
    by_test true is = there (same_test s r.promised is)
    by_test false is = known

kept : (n : ℕ) (r : ReplicaState) (low : ℕ) (log staged : List Record) → IsKnown n r
    → IsKnown n (record { promised = r.promised; adopted = r.adopted; low = low; log = log; staged = staged })
kept n r low log staged known = record { adopted = known.adopted; promised = known.promised }

stage_known : (n : ℕ) (r : ReplicaState) (s : ℕ) (batch : List Record) → IsKnown n r → IsKnown n (staged_after r s batch)
stage_known n r s batch known =
    either (IsKnown n) (r.adopted == s) r (if first_id batch == next_staged r then record r { staged = r.staged ++ batch } else r) known
    (either (IsKnown n) (first_id batch == next_staged r) (record r { staged = r.staged ++ batch }) r (kept n r r.low r.log (r.staged ++ batch) known) known)

append_known : (n : ℕ) (r : ReplicaState) (s : ℕ) (batch : List Record) → IsKnown n r → IsKnown n (appended_after r s batch)
append_known n r s batch known =
    either (IsKnown n) (r.adopted == s) (if nat_lt (length r.log + 1) (first_id batch) then r else record r { log = grown r.log batch }) r
    (either (IsKnown n) (nat_lt (length r.log + 1) (first_id batch)) r (record r { log = grown r.log batch }) known
    (kept n r r.low (grown r.log batch) r.staged known)) known

lower_known : (n : ℕ) (r : ReplicaState) (s k : ℕ) → IsKnown n r → IsKnown n (lowered_after r s k)
lower_known n r s k known =
    either (IsKnown n) (r.adopted == s) (if nat_lt (length r.log) k then r else if nat_le k r.low then r else record r { low = k }) r
    (either (IsKnown n) (nat_lt (length r.log) k) r (if nat_le k r.low then r else record r { low = k }) known
    (either (IsKnown n) (nat_le k r.low) r (record r { low = k }) known (kept n r k r.log r.staged known))) known

pub replica_known : (n : ℕ) (r : ReplicaState) (m : ToNode) → IsKnown n r → request_session m ≤ n → IsKnown n (replica_after r m)
replica_known n r (Open s) known small = open_known n r s known small
replica_known n r (Fetch s from max) known small = known
replica_known n r (Stage s batch) known small = promised_known n r s (staged_after r s batch) known (λ _. stage_known n r s batch known)
replica_known n r (Adopt s len) known small = promised_known n r s (adopted_after r s len) known (λ here. adopt_known n r s len known here)
replica_known n r (Append s batch) known small = promised_known n r s (appended_after r s batch) known (λ _. append_known n r s batch known)
replica_known n r (Low s k) known small = promised_known n r s (lowered_after r s k) known (λ _. lower_known n r s k known)

-- ---- a server

-- a reply leaves the session
pub server_session : (c : Config) (sv : ServerState) (i : ℕ) (m : FromNode) → (server_after c sv i m).session ≡ sv.session
server_session c sv i m = (every_receive c sv i m).session

-- and an idle server idle
pub server_idle : (c : Config) (sv : ServerState) (i : ℕ) (m : FromNode) → sv.phase ≡ Idle → (server_after c sv i m).phase ≡ Idle
server_idle c sv i m idle =
    let quiet : is_heard sv m ≡ false = rw idle refl in
    rw quiet idle

-- ---- a client's request

taken_session : (sv : ServerState) (tx : Transaction) (refusal : Option Refusal) → (if_taken refusal sv (assigned sv tx)).session ≡ sv.session
taken_session sv tx None = refl
taken_session sv tx (Some r) = refl

-- it leaves the session
pub served_session : (c : Config) (sv : ServerState) (m : ToServer) → (served_after c sv m).session ≡ sv.session
served_session c sv (to_server.Append tx) = taken_session sv tx (append_refusal c sv tx)
served_session c sv (to_server.Feed from max) = refl
served_session c sv (to_server.Get id) = refl
served_session c sv to_server.Flush = refl

-- and an idle server idle
pub served_idle : (c : Config) (sv : ServerState) (m : ToServer) → sv.phase ≡ Idle → (served_after c sv m).phase ≡ Idle
served_idle c sv (to_server.Append tx) idle =
    let P : Phase → Type 0 = λ p. (if_taken (refusal_in p (running_refusal c sv tx)) sv (assigned sv tx)).phase ≡ Idle in
    subst P (sym idle) idle
served_idle c sv (to_server.Feed from max) idle = idle
served_idle c sv (to_server.Get id) idle = idle
served_idle c sv to_server.Flush idle = idle

-- ---- its messages

abbrev IsOf : ℕ → Option ToNode → Type 0
IsOf s None = Unit {0}
IsOf s (Some m) = request_session m ≡ s

append_of : (c : Config) (sv : ServerState) (i : ℕ) → IsOf sv.session (append_message c sv i)
append_of c sv i =
    either (IsOf sv.session) (nat_lt (sv.acked i) (length sv.log)) (Some (Append sv.session (take 8 (drop (sv.acked i) sv.log))))
    (if nat_lt (sv.low i) (commit_mark c sv) then Some (Low sv.session (commit_mark c sv)) else None) refl
    (either (IsOf sv.session) (nat_lt (sv.low i) (commit_mark c sv)) (Some (Low sv.session (commit_mark c sv))) None refl tt)

repair_of : (c : Config) (sv : ServerState) (i : ℕ) → IsOf sv.session (repair_message c sv i)
repair_of c sv i =
    either (IsOf sv.session) (nat_lt (sv.staged i) (chosen_len c sv)) (Some (Stage sv.session (take 8 (drop (sv.staged i) (take (chosen_len c sv) sv.log)))))
    (Some (Adopt sv.session (chosen_len c sv))) refl refl

chosen_of : (c : Config) (sv : ServerState) (i : ℕ) → IsOf sv.session (chosen_message c sv i)
chosen_of c sv i =
    either (IsOf sv.session) (not (sv.reported i)) (Some (Open sv.session)) (if sv.adopted i then append_message c sv i else repair_message c sv i) refl
    (either (IsOf sv.session) (sv.adopted i) (append_message c sv i) (repair_message c sv i) (append_of c sv i) (repair_of c sv i))

pub message_of : (phase : Phase) (c : Config) (sv : ServerState) (i : ℕ) → IsOf sv.session (message_in phase c sv i)
message_of Idle c sv i = tt
message_of Opening c sv i = either (IsOf sv.session) (sv.reported i) None (Some (Open sv.session)) tt refl
message_of Fetching c sv i =
    let fetch = Fetch sv.session (length sv.log + 1) (min 8 (chosen_len c sv - length sv.log)) in
    either (IsOf sv.session) (not (sv.reported i)) (Some (Open sv.session)) (if is_of i (chosen c sv) then Some fetch else None) refl
    (either (IsOf sv.session) (is_of i (chosen c sv)) (Some fetch) None refl tt)
message_of Repairing c sv i = chosen_of c sv i
message_of Running c sv i = chosen_of c sv i
message_of (Closed p) c sv i = tt

one_of : (s i : ℕ) (m : Option ToNode) → IsOf s m → AllByRecursion (λ (x : ℕ × ToNode). request_session x.1 ≡ s) (one_message i m)
one_of s i None is = tt
one_of s i (Some m) is = (is, tt)

-- each is of the server's session
pub messages_of : (c : Config) (sv : ServerState) (k : ℕ)
    → AllByRecursion (λ (x : ℕ × ToNode). request_session x.1 ≡ sv.session) (next_messages c sv k)
messages_of c sv zero = tt
messages_of c sv (suc k) =
    AllByRecursion-append _ (next_messages c sv k) (one_message (suc k) (next_message c sv (suc k))) (messages_of c sv k)
    (one_of sv.session (suc k) (next_message c sv (suc k)) (message_of sv.phase c sv (suc k)))
