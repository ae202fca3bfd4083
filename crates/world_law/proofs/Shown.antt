-- What a server takes for committed begins the one log.
use Rattle.std.proofs.Common.{◌≡◌, ℕ, ◌-◌, ◌<◌, ◌≤◌, ◌⊎◌, ◌==◌, ◌&&◌, not, max, nat_lt, nat_le, true, false, arith, refl, ap, sym, ◌∙◌, inl, inr, subst, List, [], ◌++◌, length, take, length-take, Option, Some, None, true≢false}
use Rattle.proto_model.specs.Quorums.{count, quorum}
use Rattle.proto_model.specs.Servers.{Config, ServerState, chosen, chosen_len, commit_mark, reported_by, phase_reported, with_choice, takes_records, with_fetched, after_staged, takes_ack, acked_by, begun, answered, after_ack, is_active, session_of, received, server_after}
use Rattle.proto_model.specs.Serving.{running_refusal, refusal_in, append_refusal, assigned, if_taken, committed_log, served_after}
use Rattle.proto_model.specs.Tables.{put}
use Rattle.proto_model.specs.declared.client_message.ToServer.{ToServer}
use Rattle.proto_model.specs.declared.message.FromNode.{FromNode}
use Rattle.proto_model.specs.declared.message.FromNode.TheVariants.{Opened, Stale, Unopened, Records, Staged, StageAt, Adopted, Acked, Gap, NotAdopted, LowSet}
use Rattle.proto_model.specs.declared.message.Phase.{Phase}
use Rattle.proto_model.specs.declared.message.Phase.TheVariants.{Idle, Opening, Fetching, Repairing, Running, Closed}
use Rattle.proto_model.specs.declared.message.Report.{Report}
use Rattle.proto_model.specs.declared.refusal.Refusal.{Refusal}
use Rattle.world_law.specs.OneLog.{one_log}
use Rattle.world_law.specs.Worlds.{Book, WorldState, config_of}
use Rattle.tx_model.specs.Records.{first_id}
use Rattle.tx_model.specs.Transactions.{Transaction}
use Rattle.tx_model.specs.declared.record.Record.{Record}
use Rattle.world_law.proofs.ServerAssigns.{taken_phase}
use Rattle.world_law.proofs.Invariant.{ActiveFacts, RepairFacts, PhaseFacts, Holds}
use Rattle.world_law.proofs.Lists.{IsFront}
use Rattle.world_law.proofs.OneLog.{in_one_log, voted_by, either}
use Rattle.world_law.proofs.ServerSends.{low_warranted}
use Rattle.world_law.proofs.Tests.{if_each, and_left}
use Rattle.proto_model.specs.declared.client_message.ToServer.TheVariants as to_server

pub none_front : (xs ys : List Record) → length xs ≡ 0 → IsFront xs ys
none_front xs ys none = record { fits = omega (arith, none); same = λ i d lt. absurd (omega (arith, none)) }

none_taken : (k : ℕ) (xs : List Record) → k ≡ 0 → length (take k xs) ≡ 0
none_taken k xs none = omega (arith, none, length-take k xs)

-- the server's log is its session's book
repair_shown : (w : WorldState) → Holds w → (sv : ServerState) → ActiveFacts w sv → RepairFacts (config_of w.cluster) w.books sv
    → (1 ≤ commit_mark (config_of w.cluster) sv) ⊎ (commit_mark (config_of w.cluster) sv < 1)
    → IsFront (committed_log (config_of w.cluster) sv) (one_log w)
repair_shown w h sv f r (inl some) =
    let c = low_warranted w sv f (omega arith) in
    subst (λ (log : List Record). IsFront (take (commit_mark (config_of w.cluster) sv) log) (one_log w)) (ap (λ (b : Book). b.log) r.book)
    (in_one_log w h sv.session (commit_mark (config_of w.cluster) sv) c)
repair_shown w h sv f r (inr none) =
    none_front (committed_log (config_of w.cluster) sv) (one_log w) (none_taken (commit_mark (config_of w.cluster) sv) sv.log (omega arith))

-- before repairing nothing is committed
fetch_shown : (w : WorldState) → Holds w → (sv : ServerState) → ActiveFacts w sv → (w.books sv.session).repaired ≡ false
    → (1 ≤ commit_mark (config_of w.cluster) sv) ⊎ (commit_mark (config_of w.cluster) sv < 1)
    → IsFront (committed_log (config_of w.cluster) sv) (one_log w)
fetch_shown w h sv f not_yet (inl some) =
    let c = low_warranted w sv f (omega arith) in
    absurd (true≢false (sym (voted_by w h sv.session (commit_mark (config_of w.cluster) sv) c.enough).0 ∙ not_yet))
fetch_shown w h sv f not_yet (inr none) =
    none_front (committed_log (config_of w.cluster) sv) (one_log w) (none_taken (commit_mark (config_of w.cluster) sv) sv.log (omega arith))

phase_shown : (w : WorldState) → Holds w → (sv : ServerState) (p : Phase) → is_active p ≡ true → ActiveFacts w sv
    → PhaseFacts (config_of w.cluster) w.books sv p → IsFront (committed_log (config_of w.cluster) sv) (one_log w)
phase_shown w h sv Idle act a f = absurd (true≢false (sym act))
phase_shown w h sv (Closed by) act a f = absurd (true≢false (sym act))
phase_shown w h sv Opening act a f = fetch_shown w h sv a (ap (λ (b : Book). b.repaired) f.book) (either 1 (commit_mark (config_of w.cluster) sv))
phase_shown w h sv Fetching act a f = fetch_shown w h sv a (ap (λ (b : Book). b.repaired) f.book) (either 1 (commit_mark (config_of w.cluster) sv))
phase_shown w h sv Repairing act a f = repair_shown w h sv a f (either 1 (commit_mark (config_of w.cluster) sv))
phase_shown w h sv Running act a f = repair_shown w h sv a f (either 1 (commit_mark (config_of w.cluster) sv))

pub active_shown : (w : WorldState) → Holds w → (v : ℕ) → is_active (w.servers v).phase ≡ true
    → IsFront (committed_log (config_of w.cluster) (w.servers v)) (one_log w)
active_shown w h v act = phase_shown w h (w.servers v) (w.servers v).phase act (h.active v act) (h.phases v)

abbrev pub StaysShown : Config → ServerState → ServerState → Type 0
StaysShown c old new = (is_active new.phase ≡ true) ⊎ (committed_log c new ≡ committed_log c old)

active_settled : (p : Phase) (o : Option Report) → is_active p ≡ true → is_active (phase_reported o p) ≡ true
active_settled Idle o act = act
active_settled Opening None act = refl
active_settled Opening (Some r) act = if_each (λ (p : Phase). is_active p ≡ true) (r.length == 0) Repairing Fetching (λ _. refl) (λ _. refl)
active_settled Fetching o act = act
active_settled Repairing o act = act
active_settled Running o act = act
active_settled (Closed by) o act = act

ack_shown : (c : Config) (sv : ServerState) (i len : ℕ) → is_active sv.phase ≡ true → StaysShown c sv (after_ack c sv i len)
ack_shown c sv i len act =
    if_each (StaysShown c sv) (takes_ack c sv i len) (answered c (begun c (acked_by sv i len))) sv
    (λ _. inl (if_each (λ (p : Phase). is_active p ≡ true) (nat_le (quorum c.nodes)
    (count (acked_by sv i len).adopted c.nodes)) Running sv.phase (λ _. refl) (λ _. act)))
    (λ _. inl act)

staged_shown : (c : Config) (sv : ServerState) (i upto : ℕ) → is_active sv.phase ≡ true → StaysShown c sv (after_staged sv i upto)
staged_shown c sv i upto act =
    if_each (StaysShown c sv) (sv.reported i && not (sv.adopted i)) (record sv { staged = put sv.staged i upto }) sv (λ _. inl act) (λ _. inl act)

received_shown : (c : Config) (sv : ServerState) (i : ℕ) (m : FromNode) → is_active sv.phase ≡ true → StaysShown c sv (received c sv i m)
received_shown c sv i (Opened s a low len) act =
    let r : Report = record { node = i; adopted = a; low = low; length = len } in
    if_each (StaysShown c sv) (not (sv.reported i) && nat_lt a sv.session) (with_choice c (reported_by sv r)) sv
    (λ _. inl (active_settled sv.phase (chosen c (reported_by sv r)) act)) (λ _. inl act)
received_shown c sv i (Stale s p) act =
    if_each (StaysShown c sv) (nat_lt s p) (record sv { phase = Closed p; waiting = [] }) sv (λ _. inr refl) (λ _. inl act)
received_shown c sv i (Unopened s p) act = inl act
received_shown c sv i (Records s batch) act =
    let log = sv.log ++ take (chosen_len c sv - length sv.log) batch in
    if_each (StaysShown c sv) (takes_records c sv i (first_id batch)) (with_fetched (chosen_len c sv) sv log) sv
    (λ _. inl (if_each (λ (p : Phase). is_active p ≡ true) (length log == chosen_len c sv) Repairing Fetching (λ _. refl) (λ _. refl))) (λ _. inl act)
received_shown c sv i (Staged s upto) act = staged_shown c sv i upto act
received_shown c sv i (StageAt s next) act =
    if_each (StaysShown c sv) (nat_le 1 next) (after_staged sv i (next - 1)) sv (λ _. staged_shown c sv i (next - 1) act) (λ _. inl act)
received_shown c sv i (Adopted s len) act = ack_shown c sv i len act
received_shown c sv i (Acked s len) act = ack_shown c sv i len act
received_shown c sv i (Gap s len) act = inl act
received_shown c sv i (NotAdopted s adopted) act = inl act
received_shown c sv i (LowSet s low) act =
    if_each (StaysShown c sv) (sv.adopted i && nat_le low (commit_mark c sv)) (record sv { low = put sv.low i (max (sv.low i) low) }) sv (λ _. inl act)
    (λ _. inl act)

pub reply_shown : (c : Config) (sv : ServerState) (i : ℕ) (m : FromNode) → StaysShown c sv (server_after c sv i m)
reply_shown c sv i m =
    if_each (StaysShown c sv) (is_active sv.phase && session_of m == sv.session) (received c sv i m) sv
    (λ e. received_shown c sv i m (and_left (is_active sv.phase) (session_of m == sv.session) e)) (λ _. inr refl)

running_only : (p : Phase) (o : Option Refusal) → refusal_in p o ≡ None → is_active p ≡ true
running_only p o e = rw (taken_phase p o e).0 refl

append_shown : (c : Config) (sv : ServerState) (tx : Transaction) (o : Option Refusal) → append_refusal c sv tx ≡ o
    → StaysShown c sv (if_taken o sv (assigned sv tx))
append_shown c sv tx None e = inl (running_only sv.phase (running_refusal c sv tx) e)
append_shown c sv tx (Some r) e = inr refl

pub to_server_shown : (c : Config) (sv : ServerState) (m : ToServer) → StaysShown c sv (served_after c sv m)
to_server_shown c sv (to_server.Append tx) = append_shown c sv tx (append_refusal c sv tx) refl
to_server_shown c sv (to_server.Feed from max) = inr refl
to_server_shown c sv (to_server.Get id) = inr refl
to_server_shown c sv to_server.Flush = inr refl
