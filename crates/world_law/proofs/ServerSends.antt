-- The next messages of a server are warranted.
use Rattle.std.proofs.Common.{◌≡◌, ℕ, zero, suc, ◌+◌, ◌-◌, ◌<◌, ◌≤◌, not, min, nat_lt, nat_le, if◌then◌else◌, Bool, true, arith, refl, ap, sym, ◌∙◌, subst, List, [], ◌∷◌, length, take, drop, Option, Some, None, le_trans, map}
use Rattle.proto_model.proofs.TableLemmas.{AllByRecursion-append}
use Rattle.proto_model.specs.Quorums.{count, quorum, reached}
use Rattle.proto_model.specs.Sending.{fetching_message, repair_message, append_message, chosen_message, message_in, next_message, one_message, next_messages}
use Rattle.proto_model.specs.Servers.{ServerState, length_of, chosen, chosen_len, holds, commit_mark, is_of, is_active}
use Rattle.proto_model.specs.declared.message.Phase.{Phase}
use Rattle.proto_model.specs.declared.message.Phase.TheVariants.{Idle, Opening, Fetching, Repairing, Running, Closed}
use Rattle.proto_model.specs.declared.message.Report.{Report}
use Rattle.proto_model.specs.declared.message.ToNode.{ToNode}
use Rattle.proto_model.specs.declared.message.ToNode.TheVariants.{Open, Fetch, Stage, Adopt, Append, Low}
use Rattle.world_law.specs.OneLog.{voted, IsCommitted}
use Rattle.world_law.specs.Worlds.{Book, WorldState, config_of, with_sent}
use Rattle.world_law.specs.Steps.{envelope_from, ticked}
use Rattle.net_model.specs.declared.mail.Envelope.{Envelope}
use Rattle.std.proofs.lemmas.Grind.{common_steps}
use Rattle.std.specs.List.{AllByRecursion}
use Rattle.tx_model.specs.declared.record.Record.{Record}
use Rattle.world_law.proofs.Invariant.{StageWarrant, AskWarrant, Warranted, ActiveFacts, RepairFacts, PhaseFacts, Holds}
use Rattle.world_law.proofs.Later.{Onward, counts}
use Rattle.world_law.proofs.LightFrame.{sent_event}
use Rattle.world_law.proofs.Lists.{HasIds, taken, ids_front, part_of, no_record}
use Rattle.world_law.proofs.Tests.{if_each, above, within, and_right, and_left}
use Rattle.world_law.proofs.Votes.{fewer}
use Rattle.world_law.specs.Promises.{chosen_from, chosen_log}

mark_step : (n : ℕ) (p : ℕ → ℕ → Bool) (k : ℕ) → (0 < reached n p k → quorum n ≤ count (p (reached n p k)) n) → 0 < reached n p (suc k)
    → quorum n ≤ count (p (reached n p (suc k))) n
mark_step n p k ih =
    if_each (λ (m : ℕ). 0 < m → quorum n ≤ count (p m) n) (nat_le (quorum n) (count (p (suc k)) n)) (suc k) (reached n p k)
    (λ e some. within (quorum n) (count (p (suc k)) n) e) (λ e. ih)

pub mark_enough : (n : ℕ) (p : ℕ → ℕ → Bool) (k : ℕ) → 0 < reached n p k → quorum n ≤ count (p (reached n p k)) n
mark_enough n p zero some = absurd (omega arith)
mark_enough n p (suc k) some = mark_step n p k (mark_enough n p k) some

acked_voted : (w : WorldState) (sv : ServerState) → ActiveFacts w sv → (k i : ℕ) → holds sv k i ≡ true → voted w.votes sv.session k i ≡ true
acked_voted w sv f k i e =
    fewer w.votes sv.session (sv.acked i) k i (within k (sv.acked i) (and_right (sv.adopted i) (nat_le k (sv.acked i)) e))
    (f.acks i (and_left (sv.adopted i) (nat_le k (sv.acked i)) e))

-- what a server takes for committed is committed
pub low_warranted : (w : WorldState) (sv : ServerState) → ActiveFacts w sv → 0 < commit_mark (config_of w.cluster) sv
    → IsCommitted w sv.session (commit_mark (config_of w.cluster) sv)
low_warranted w sv f some = record {
  some = f.some;
  enough = le_trans (mark_enough w.cluster.nodes (holds sv) (length sv.log) some)
      (counts (holds sv (commit_mark (config_of w.cluster) sv)) (voted w.votes sv.session (commit_mark (config_of w.cluster) sv)) w.cluster.nodes
      (λ i. acked_voted w sv f (commit_mark (config_of w.cluster) sv) i));
}

taken_length : (log : List Record) (n k : ℕ) → k < n → n ≤ length log → k < length (take n log)
taken_length log n k lt le = grind (arith, common_steps)

-- what holds of a message, if there is one
AskIf : WorldState → ℕ → Option ToNode → Type 0
AskIf w i None = Unit {0}
AskIf w i (Some m) = AskWarrant w i m

stage_warranted : (w : WorldState) → Holds w → (sv : ServerState) (c : Report) → ActiveFacts w sv
    → w.books sv.session ≡ record { log = sv.log; choice = Some c; repaired = true } → (k : ℕ) → k < c.length
    → StageWarrant w sv.session (take 8 (drop k (take c.length sv.log)))
stage_warranted w h sv c f e k lt =
    let chosen : (w.books sv.session).choice ≡ Some c = ap (λ (b : Book). b.choice) e in
    let came : (w.books sv.session).repaired ≡ true = ap (λ (b : Book). b.repaired) e in
    let log : (w.books sv.session).log ≡ sv.log = ap (λ (b : Book). b.log) e in
    let kept = h.kept sv.session c chosen came in
    let long : c.length ≤ length sv.log = rw log at kept.long in
    let the_log : chosen_log w sv.session ≡ take c.length sv.log = ap (chosen_from w.books) chosen ∙ sym kept.same ∙ ap (take c.length) log in
    record {
      some = f.some;
      chosen = (c, chosen);
      part = rw the_log (part_of (take c.length sv.log) k 8 no_record
          (ids_front (take c.length sv.log) sv.log (taken sv.log c.length) (subst HasIds log (h.ids sv.session))) (taken_length sv.log c.length k lt long)
          (omega arith));
    }

repair_warranted : (w : WorldState) → Holds w → (sv : ServerState) → ActiveFacts w sv → RepairFacts (config_of w.cluster) w.books sv → (i : ℕ)
    → AskIf w i (repair_message (config_of w.cluster) sv i)
unfolding AskIf
repair_warranted w h sv f r i =
    let s = sv.session in
    let n = config_of w.cluster in
    let e = r.book in
    let len : r.choice.length ≡ chosen_len n sv = sym (ap length_of r.chose) in
    let came : (w.books s).repaired ≡ true = ap (λ (b : Book). b.repaired) e in
    if_each (AskIf w i) (nat_lt (sv.staged i) (chosen_len n sv)) (Some (Stage s (take 8 (drop (sv.staged i) (take (chosen_len n sv) sv.log)))))
    (Some (Adopt s (chosen_len n sv)))
    (λ u. subst (λ (k : ℕ). sv.staged i < k → StageWarrant w s (take 8 (drop (sv.staged i) (take k sv.log)))) len
    (stage_warranted w h sv r.choice f e (sv.staged i)) (above (sv.staged i) (chosen_len n sv) u))
    (λ u. record { some = f.some; repaired = came; chosen_len = sym len ∙ sym (ap (λ (b : Book). length_of b.choice) e) })

append_warranted : (w : WorldState) → Holds w → (sv : ServerState) → ActiveFacts w sv → RepairFacts (config_of w.cluster) w.books sv → (i : ℕ)
    → AskIf w i (append_message (config_of w.cluster) sv i)
unfolding AskIf
append_warranted w h sv f r i =
    let s = sv.session in
    let n = config_of w.cluster in
    let e = r.book in
    let came : (w.books s).repaired ≡ true = ap (λ (b : Book). b.repaired) e in
    let low = if nat_lt (sv.low i) (commit_mark n sv) then Some (Low s (commit_mark n sv)) else None in
    if_each (AskIf w i) (nat_lt (sv.acked i) (length sv.log)) (Some (Append s (take 8 (drop (sv.acked i) sv.log)))) low
    (λ u. record {
      some = f.some;
      repaired = came;
      part = rw e
          (part_of sv.log (sv.acked i) 8 no_record (subst HasIds (ap (λ (b : Book). b.log) e) (h.ids s)) (above (sv.acked i) (length sv.log) u) (omega arith));
    })
    (λ u. if_each (AskIf w i) (nat_lt (sv.low i) (commit_mark n sv)) (Some (Low s (commit_mark n sv))) None
    (λ u'. low_warranted w sv f (let lt = above (sv.low i) (commit_mark n sv) u' in omega arith))
    (λ u'. tt))

chosen_warranted : (w : WorldState) → Holds w → (sv : ServerState) → ActiveFacts w sv → RepairFacts (config_of w.cluster) w.books sv → (i : ℕ)
    → AskIf w i (chosen_message (config_of w.cluster) sv i)
unfolding AskIf
chosen_warranted w h sv f r i =
    let n = config_of w.cluster in
    if_each (AskIf w i) (not (sv.reported i)) (Some (Open sv.session)) (if sv.adopted i then append_message n sv i else repair_message n sv i)
    (λ t. tt)
    (λ t. if_each (AskIf w i) (sv.adopted i) (append_message n sv i) (repair_message n sv i) (λ u. append_warranted w h sv f r i)
    (λ u. repair_warranted w h sv f r i))

fetch_warranted : (w : WorldState) (sv : ServerState) (i : ℕ) → AskIf w i (fetching_message (config_of w.cluster) sv i)
unfolding AskIf
fetch_warranted w sv i =
    let n = config_of w.cluster in
    let fetch = Some (Fetch sv.session (length sv.log + 1) (min 8 (chosen_len n sv - length sv.log))) in
    if_each (AskIf w i) (not (sv.reported i)) (Some (Open sv.session)) (if is_of i (chosen n sv) then fetch else None)
    (λ e. tt)
    (λ e. if_each (AskIf w i) (is_of i (chosen n sv)) fetch None (λ e'. tt) (λ e'. tt))

phase_warranted : (w : WorldState) → Holds w → (sv : ServerState) (p : Phase) → (is_active p ≡ true → ActiveFacts w sv)
    → PhaseFacts (config_of w.cluster) w.books sv p → (i : ℕ) → AskIf w i (message_in p (config_of w.cluster) sv i)
unfolding AskIf
phase_warranted w h sv Idle a f i = tt
phase_warranted w h sv Opening a f i = if_each (AskIf w i) (sv.reported i) None (Some (Open sv.session)) (λ e. tt) (λ e. tt)
phase_warranted w h sv Fetching a f i = fetch_warranted w sv i
phase_warranted w h sv Repairing a f i = chosen_warranted w h sv (a refl) f i
phase_warranted w h sv Running a f i = chosen_warranted w h sv (a refl) f i
phase_warranted w h sv (Closed by) a f i = tt

one_warranted : (w : WorldState) (v i : ℕ) (m : Option ToNode) → AskIf w i m
    → AllByRecursion (λ (x : ℕ × ToNode). AskWarrant w x.0 x.1) (one_message i m)
unfolding AskIf
one_warranted w v i None f = tt
one_warranted w v i (Some m) f = (f, tt)

messages_warranted : (w : WorldState) → Holds w → (v k : ℕ)
    → AllByRecursion (λ (x : ℕ × ToNode). AskWarrant w x.0 x.1) (next_messages (config_of w.cluster) (w.servers v) k)
messages_warranted w h v zero = tt
messages_warranted w h v (suc k) =
    let sv = w.servers v in
    let n = config_of w.cluster in
    AllByRecursion-append (λ (x : ℕ × ToNode). AskWarrant w x.0 x.1) (next_messages n sv k) (one_message (suc k) (next_message n sv (suc k)))
    (messages_warranted w h v k)
    (one_warranted w v (suc k) (next_message n sv (suc k)) (phase_warranted w h sv sv.phase (h.active v) (h.phases v) (suc k)))

pub all_map : {A B : Type 0} (P : B → Type 0) (f : A → B) (xs : List A) → AllByRecursion (λ (x : A). P (f x)) xs → AllByRecursion P (map f xs)
all_map P f [] all = tt
all_map P f (x ∷ xs) all = (all.0, all_map P f xs all.1)

-- whatever the elements are
pub all_mapped : {A B : Type 0} (P : B → Type 0) (f : A → B) → ((x : A) → P (f x)) → (xs : List A) → AllByRecursion P (map f xs)
all_mapped P f each [] = tt
all_mapped P f each (x ∷ xs) = (each x, all_mapped P f each xs)

pub tick_event : (w : WorldState) → Holds w → (v : ℕ) → Onward w (with_sent w (ticked w v))
tick_event w h v =
    sent_event w h (ticked w v)
    (all_map (λ (e : Envelope). Warranted w e) (envelope_from v) (next_messages (config_of w.cluster) (w.servers v) w.cluster.nodes)
    (messages_warranted w h v w.cluster.nodes))
