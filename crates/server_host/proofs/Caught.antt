-- A node that adopted acknowledged the chosen log, whatever replies come.
use Rattle.std.proofs.Common.{◌≡◌, ℕ, ◌+◌, ◌≤◌, max, nat_lt, nat_le, ◌&&◌, not, Bool, true, false, List, [], ◌∷◌, ◌++◌, length, ◌-◌, Option, Some, None, inl, inr, refl, ap, sym, ◌∙◌, arith, length-append}
use Rattle.std.proofs.lemmas.Bool.Decides.{nat_tests}
use Rattle.std.proofs.lemmas.Bool.{cases_eq}
use Rattle.tx_model.specs.declared.record.Record.{Record}
use Rattle.tx_model.specs.Records.{first_id}
use Rattle.tx_model.specs.Transactions.{Transaction}
use Rattle.proto_model.specs.declared.message.Phase.{Phase}
use Rattle.proto_model.specs.declared.message.Phase.TheVariants.{Idle, Opening, Fetching, Repairing, Running, Closed}
use Rattle.proto_model.specs.declared.message.Report.{Report}
use Rattle.proto_model.specs.declared.message.FromNode.{FromNode}
use Rattle.proto_model.specs.declared.message.FromNode.TheVariants.{Opened, Stale, Unopened, Records, Staged, StageAt, Adopted, Acked, Gap, NotAdopted, LowSet}
use Rattle.proto_model.specs.declared.refusal.Refusal.{Refusal}
use Rattle.proto_model.specs.Tables.{put}
use Rattle.proto_model.specs.Quorums.{quorum}
use Rattle.proto_model.specs.Servers.{Config, ServerState, drawn, idle_server, chosen_len, length_of, commit_mark, has_fetched, is_heard, takes_records, takes_ack, with_choice, reported_by, answered, begun, acked_by, after_report, after_records, after_staged, after_ack, after_low, after_stale, received, server_after}
use Rattle.proto_model.specs.declared.client_message.ToServer.{ToServer}
use Rattle.proto_model.specs.declared.client_message.ToServer.TheVariants as to_server
use Rattle.proto_model.specs.Serving.{served_after, after_append, assigned, append_refusal, if_taken}
use Rattle.proto_model.proofs.TableLemmas.{either, if_each}
use Rattle.session_recovery.specs.Sound.{IsSound, has_chosen}
use Rattle.session_recovery.proofs.Choosing.{choice-append}
use Rattle.server_host.specs.Lacking.{AreCaughtUp}
use Rattle.server_host.proofs.Lacking.{put_here, put_there}

none_adopted : {P : Type 0} → false ≡ true → P
none_adopted e = absurd (let f : false ≡ true = e in cc)

pub drawn_caught : (c : Config) (s : ℕ) → AreCaughtUp c (drawn s)
drawn_caught c s i e = none_adopted e

pub idle_caught : (c : Config) → AreCaughtUp c idle_server
idle_caught c i e = none_adopted e

-- a report more leaves the choice
reported_caught : (c : Config) (sv : ServerState) (r : Report) → AreCaughtUp c sv → AreCaughtUp c (with_choice c (reported_by sv r))
reported_caught c sv r ok i adopted =
    let here = ok i adopted in
    let chose = here.chose in
    let acked = here.acked in
    let longer : length (sv.reports ++ r ∷ []) ≡ length sv.reports + 1 = length-append sv.reports (r ∷ []) in
    let same : chosen_len c (with_choice c (reported_by sv r)) ≡ chosen_len c sv = ap length_of (choice-append (quorum c.nodes) sv.reports r (omega arith) chose) in
    record { chose = omega (arith, chose, longer); acked = omega (arith, acked, same) }

report_caught : (c : Config) (sv : ServerState) (r : Report) → AreCaughtUp c sv → AreCaughtUp c (after_report c sv r)
report_caught c sv r ok = either (AreCaughtUp c) (not (sv.reported r.node) && nat_lt r.adopted sv.session) (with_choice c (reported_by sv r)) sv (reported_caught c sv r ok) ok

-- what leaves reports, adoptions and acknowledgements
kept_caught : (c : Config) (sv sw : ServerState) → sw.reports ≡ sv.reports → sw.adopted ≡ sv.adopted → sw.acked ≡ sv.acked → AreCaughtUp c sv → AreCaughtUp c sw
kept_caught c sv sw reports adopted acked ok i is =
    let here = ok i (sym (ap (λ f. f i) adopted) ∙ is) in
    let chose = here.chose in
    let up = here.acked in
    let count : length sw.reports ≡ length sv.reports = ap length reports in
    let same : chosen_len c sw ≡ chosen_len c sv = ap (λ (l : List Report). chosen_len c (record sv { reports = l })) reports in
    let acks : sw.acked i ≡ sv.acked i = ap (λ f. f i) acked in
    record { chose = omega (arith, chose, count); acked = omega (arith, up, same, acks) }

records_caught : (c : Config) (sv : ServerState) (i : ℕ) (batch : List Record) → AreCaughtUp c sv → AreCaughtUp c (after_records c sv i batch)
records_caught c sv i batch ok = either (AreCaughtUp c) (takes_records c sv i (first_id batch)) _ sv (kept_caught c sv _ refl refl refl ok) ok

staged_caught : (c : Config) (sv : ServerState) (i upto : ℕ) → AreCaughtUp c sv → AreCaughtUp c (after_staged sv i upto)
staged_caught c sv i upto ok = either (AreCaughtUp c) (sv.reported i && not (sv.adopted i)) (record sv { staged = put sv.staged i upto }) sv (kept_caught c sv _ refl refl refl ok) ok

low_caught : (c : Config) (sv : ServerState) (i low : ℕ) → AreCaughtUp c sv → AreCaughtUp c (after_low c sv i low)
low_caught c sv i low ok = either (AreCaughtUp c) (sv.adopted i && nat_le low (commit_mark c sv)) (record sv { low = put sv.low i (max (sv.low i) low) }) sv (kept_caught c sv _ refl refl refl ok) ok

stale_caught : (c : Config) (sv : ServerState) (s p : ℕ) → AreCaughtUp c sv → AreCaughtUp c (after_stale sv s p)
stale_caught c sv s p ok = either (AreCaughtUp c) (nat_lt s p) (record sv { phase = Closed p; waiting = [] }) sv (kept_caught c sv _ refl refl refl ok) ok

-- ---- acknowledgements

and_true : (a b : Bool) → (a && b) ≡ true → (a ≡ true) × (b ≡ true)
and_true true b h = (refl, h)
and_true false b h = absurd (let e : false ≡ true = h in cc)

fetched_chose : (phase : Phase) → has_fetched phase ≡ true → has_chosen phase ≡ true
fetched_chose Repairing h = refl
fetched_chose Running h = refl
fetched_chose Fetching h = refl
fetched_chose Idle h = h
fetched_chose Opening h = h
fetched_chose (Closed p) h = h

acked_caught : (c : Config) (sv : ServerState) (i len : ℕ) → IsSound c sv → AreCaughtUp c sv → takes_ack c sv i len ≡ true → AreCaughtUp c (answered c (begun c (acked_by sv i len)))
acked_caught c sv i len sound ok takes k adopted =
    let t1 = nat_le (chosen_len c sv) len in
    let t2 = nat_le len (length sv.log) in
    let p = and_true (has_fetched sv.phase) (sv.reported i && (t1 && t2)) takes in
    let q = and_true (sv.reported i) (t1 && t2) p.1 in
    let x = (and_true t1 t2 q.1).0 in
    let low : chosen_len c sv ≤ len = grind (arith, nat_tests, x) in
    let chose = sound.chose (fetched_chose sv.phase p.0) in
    elim (cases_eq k i) [
      | inl same ↦
          (let e : put sv.acked i (max (sv.acked i) len) k ≡ max (sv.acked i) len = ap (put sv.acked i (max (sv.acked i) len)) same ∙ put_here sv.acked i (max (sv.acked i) len) in
          record { chose = chose; acked = omega (arith, e, low) })
      | inr other ↦
          (let e : put sv.acked i (max (sv.acked i) len) k ≡ sv.acked k = put_there sv.acked i (max (sv.acked i) len) k other in
          let f : put sv.adopted i true k ≡ sv.adopted k = put_there sv.adopted i true k other in
          let up = (ok k (sym f ∙ adopted)).acked in
          record { chose = chose; acked = omega (arith, e, up) })
    ]

ack_caught : (c : Config) (sv : ServerState) (i len : ℕ) → IsSound c sv → AreCaughtUp c sv → AreCaughtUp c (after_ack c sv i len)
ack_caught c sv i len sound ok = if_each (AreCaughtUp c) (takes_ack c sv i len) (answered c (begun c (acked_by sv i len))) sv (λ takes. acked_caught c sv i len sound ok takes) (λ _. ok)

received_caught : (c : Config) (sv : ServerState) (i : ℕ) (m : FromNode) → IsSound c sv → AreCaughtUp c sv → AreCaughtUp c (received c sv i m)
received_caught c sv i (Opened s adopted low len) sound ok = report_caught c sv (record { node = i; adopted = adopted; low = low; length = len }) ok
received_caught c sv i (Stale s p) sound ok = stale_caught c sv s p ok
received_caught c sv i (Unopened s p) sound ok = ok
received_caught c sv i (Records s batch) sound ok = records_caught c sv i batch ok
received_caught c sv i (Staged s upto) sound ok = staged_caught c sv i upto ok
received_caught c sv i (StageAt s next) sound ok = either (AreCaughtUp c) (nat_le 1 next) (after_staged sv i (next - 1)) sv (staged_caught c sv i (next - 1) ok) ok
received_caught c sv i (Adopted s len) sound ok = ack_caught c sv i len sound ok
received_caught c sv i (Acked s len) sound ok = ack_caught c sv i len sound ok
received_caught c sv i (Gap s len) sound ok = ok
received_caught c sv i (NotAdopted s adopted) sound ok = ok
received_caught c sv i (LowSet s low) sound ok = low_caught c sv i low ok

pub caught_after : (c : Config) (sv : ServerState) (i : ℕ) (m : FromNode) → IsSound c sv → AreCaughtUp c sv → AreCaughtUp c (server_after c sv i m)
caught_after c sv i m sound ok = either (AreCaughtUp c) (is_heard sv m) (received c sv i m) sv (received_caught c sv i m sound ok) ok

-- ---- appends

taken_caught : (c : Config) (sv : ServerState) (tx : Transaction) (o : Option Refusal) → AreCaughtUp c sv → AreCaughtUp c (if_taken o sv (assigned sv tx))
taken_caught c sv tx None ok = kept_caught c sv (assigned sv tx) refl refl refl ok
taken_caught c sv tx (Some refusal) ok = ok

pub append_caught : (c : Config) (sv : ServerState) (tx : Transaction) → AreCaughtUp c sv → AreCaughtUp c (after_append c sv tx)
append_caught c sv tx ok = taken_caught c sv tx (append_refusal c sv tx) ok

pub served_caught : (c : Config) (sv : ServerState) (m : ToServer) → AreCaughtUp c sv → AreCaughtUp c (served_after c sv m)
served_caught c sv (to_server.Append tx) ok = append_caught c sv tx ok
served_caught c sv (to_server.Feed from max) ok = ok
served_caught c sv (to_server.Get id) ok = ok
served_caught c sv to_server.Flush ok = ok
