-- A session's commit mark is that of the acknowledgements that were taken.
use Rattle.std.proofs.Common.{◌≡◌, ◌≢◌, ℕ, ◌-◌, ◌≤◌, max, nat_lt, nat_le, ◌==◌, ◌&&◌, ◌||◌, not, if◌then◌else◌, Bool, true, false, List, [], ◌∷◌, ◌++◌, length, take, Option, None, Some, inl, inr, ◌⊎◌, refl, ap, sym, subst, ◌∙◌, arith, append_assoc, append-nil, length-append}
use Rattle.std.proofs.lemmas.Bool.Decides.{nat_tests}
use Rattle.std.proofs.lemmas.Bool.{cases_eq}
use Rattle.tx_model.specs.declared.record.Record.{Record}
use Rattle.tx_model.specs.Records.{first_id}
use Rattle.tx_model.specs.Transactions.{Transaction}
use Rattle.proto_model.specs.declared.message.Report.{Report}
use Rattle.proto_model.specs.declared.message.Phase.TheVariants.{Closed}
use Rattle.proto_model.specs.declared.message.FromNode.{FromNode}
use Rattle.proto_model.specs.declared.message.FromNode.TheVariants as from_node
use Rattle.proto_model.specs.declared.refusal.Refusal.{Refusal}
use Rattle.proto_model.specs.Tables.{put}
use Rattle.proto_model.specs.Quorums.{reached}
use Rattle.proto_model.specs.Servers.{Config, ServerState, acked_by, after_low, after_records, after_report, after_staged, after_stale, answered, begun, chosen_len, commit_mark, drawn, holds, is_heard, received, reported_by, server_after, takes_ack, takes_records, with_choice, with_fetched}
use Rattle.proto_model.specs.Serving.{after_append, append_refusal, assigned, assigned_record, if_taken}
use Rattle.proto_model.proofs.TableLemmas.{either}
use Rattle.quorum_append.specs.Acknowledgements.{Ack, AreWithin, IsCommitMark, has_acked}
use Rattle.quorum_append.proofs.Counts.{marks_are_found}
use Rattle.session_recovery.proofs.Counts.{put_here, put_there}
use Rattle.session_recovery.proofs.SoundSteps.{ack_taken}
use Rattle.partition_server.specs.CommitMarks.{Input, after, ack_of, taken, state_after, acks_after, CommitMarksAreExact}

-- the server's columns are these acknowledgements
record IsExact (sv : ServerState) (acks : List Ack) : Type 0 where
  pub held : (k i : ℕ) → holds sv k i ≡ has_acked acks k i
  pub within : AreWithin (length sv.log) acks
  pub unheard : (i : ℕ) → sv.adopted i ≡ false → sv.acked i ≡ 0

drawn_exact : (s : ℕ) → IsExact (drawn s) []
drawn_exact s = record { held = λ k i. refl; within = tt; unheard = λ i e. refl }

-- ---- what leaves the acknowledgements

within_more : (bound more : ℕ) (acks : List Ack) → bound ≤ more → AreWithin bound acks → AreWithin more acks
within_more bound more [] less all = tt
within_more bound more (ack ∷ acks) less all = (let h = all.0 in omega (arith, h, less), within_more bound more acks less all.1)

report_exact : (c : Config) (sv : ServerState) (r : Report) (acks : List Ack) → IsExact sv acks → IsExact (after_report c sv r) acks
report_exact c sv r acks ok =
    either (λ x. IsExact x acks) (not (sv.reported r.node) && nat_lt r.adopted sv.session) (with_choice c (reported_by sv r)) sv
    (record { held = ok.held; within = ok.within; unheard = ok.unheard }) ok

records_exact : (c : Config) (sv : ServerState) (i : ℕ) (batch : List Record) (acks : List Ack) → IsExact sv acks → IsExact (after_records c sv i batch) acks
records_exact c sv i batch acks ok =
    let more : List Record = take (chosen_len c sv - length sv.log) batch in
    let longer = length-append sv.log more in
    either (λ x. IsExact x acks) (takes_records c sv i (first_id batch)) (with_fetched (chosen_len c sv) sv (sv.log ++ more)) sv
    (record { held = ok.held; within = within_more (length sv.log) (length (sv.log ++ more)) acks (omega (arith, longer)) ok.within; unheard = ok.unheard }) ok

staged_exact : (sv : ServerState) (i upto : ℕ) (acks : List Ack) → IsExact sv acks → IsExact (after_staged sv i upto) acks
staged_exact sv i upto acks ok =
    either (λ x. IsExact x acks) (sv.reported i && not (sv.adopted i)) (record sv { staged = put sv.staged i upto }) sv
    (record { held = ok.held; within = ok.within; unheard = ok.unheard }) ok

low_exact : (c : Config) (sv : ServerState) (i low : ℕ) (acks : List Ack) → IsExact sv acks → IsExact (after_low c sv i low) acks
low_exact c sv i low acks ok =
    either (λ x. IsExact x acks) (sv.adopted i && nat_le low (commit_mark c sv)) (record sv { low = put sv.low i (max (sv.low i) low) }) sv
    (record { held = ok.held; within = ok.within; unheard = ok.unheard }) ok

stale_exact : (sv : ServerState) (s p : ℕ) (acks : List Ack) → IsExact sv acks → IsExact (after_stale sv s p) acks
stale_exact sv s p acks ok =
    either (λ x. IsExact x acks) (nat_lt s p) (record sv { phase = Closed p; waiting = [] }) sv
    (record { held = ok.held; within = ok.within; unheard = ok.unheard }) ok

if_taken_row : (P : ServerState → Type 0) (refusal : Option Refusal) (old new : ServerState) → P old → P new → P (if_taken refusal old new)
if_taken_row P None old new p q = q
if_taken_row P (Some refusal) old new p q = p

append_exact : (c : Config) (sv : ServerState) (tx : Transaction) (acks : List Ack) → IsExact sv acks → IsExact (after_append c sv tx) acks
append_exact c sv tx acks ok =
    let longer = length-append sv.log (assigned_record sv tx ∷ []) in
    if_taken_row (λ x. IsExact x acks) (append_refusal c sv tx) sv (assigned sv tx) ok
    (record { held = ok.held; within = within_more (length sv.log) (length (assigned sv tx).log) acks (omega (arith, longer)) ok.within; unheard = ok.unheard })

-- ---- an acknowledgement

here_row : (adopted : Bool) (k old len : ℕ) → (adopted ≡ false → old ≡ 0) → nat_le k (max old len) ≡ (nat_le k len || (adopted && nat_le k old))
here_row true k old len none = grind (arith, nat_tests)
here_row false k old len none = let e = none refl in grind (arith, nat_tests, e)

acked_row : (sv : ServerState) (node len k i : ℕ) (acks : List Ack) → IsExact sv acks → (i ≡ node) ⊎ (i ≢ node) →
    holds (acked_by sv node len) k i ≡ has_acked (record { node = node; len = len } ∷ acks) k i
acked_row sv node len k i acks ok (inl same) =
    let here : holds (acked_by sv node len) k node ≡ nat_le k (max (sv.acked node) len) =
    (λ j. put_here sv.adopted node true j && nat_le k (put_here sv.acked node (max (sv.acked node) len) j)) in
    let test : (node == node) ≡ true = grind (arith, nat_tests) in
    let told : has_acked (record { node = node; len = len } ∷ acks) k node ≡ (nat_le k len || holds sv k node) =
    (λ j. (test j && nat_le k len) || sym (ok.held k node) j) in
    ap (holds (acked_by sv node len) k) same
    ∙ (here ∙ (here_row (sv.adopted node) k (sv.acked node) len (ok.unheard node) ∙ (sym told ∙ ap (has_acked (record { node = node; len = len } ∷ acks) k) (sym same))))
acked_row sv node len k i acks ok (inr other) =
    let there : holds (acked_by sv node len) k i ≡ holds sv k i =
    (λ j. put_there sv.adopted node true i other j && nat_le k (put_there sv.acked node (max (sv.acked node) len) i other j)) in
    let test : (node == i) ≡ false = grind (arith, nat_tests, other) in
    there ∙ (ok.held k i ∙ ap (λ b. (b && nat_le k len) || has_acked acks k i) (sym test))

unheard_row : (sv : ServerState) (node len i : ℕ) (acks : List Ack) → IsExact sv acks → (i ≡ node) ⊎ (i ≢ node) →
    (acked_by sv node len).adopted i ≡ false → (acked_by sv node len).acked i ≡ 0
unheard_row sv node len i acks ok (inl same) e =
    absurd (let f : true ≡ false = sym (put_here sv.adopted node true) ∙ (ap (put sv.adopted node true) (sym same) ∙ e) in cc)
unheard_row sv node len i acks ok (inr other) e =
    put_there sv.acked node (max (sv.acked node) len) i other ∙ ok.unheard i (sym (put_there sv.adopted node true i other) ∙ e)

acked_exact : (c : Config) (sv : ServerState) (node len : ℕ) (acks : List Ack) → IsExact sv acks → len ≤ length sv.log →
    IsExact (answered c (begun c (acked_by sv node len))) (record { node = node; len = len } ∷ acks)
acked_exact c sv node len acks ok low = record {
  held = λ k i. acked_row sv node len k i acks ok (cases_eq i node);
  within = (low, ok.within);
  unheard = λ i e. unheard_row sv node len i acks ok (cases_eq i node) e;
}

ack_row : (c : Config) (sv : ServerState) (node len : ℕ) (acks : List Ack) (heard takes : Bool) → IsExact sv acks → takes_ack c sv node len ≡ takes →
    IsExact (if heard then (if takes then answered c (begun c (acked_by sv node len)) else sv) else sv) ((if heard && takes then record { node = node; len = len } ∷ [] else []) ++ acks)
ack_row c sv node len acks true true ok e = acked_exact c sv node len acks ok (ack_taken c sv node len e).high
ack_row c sv node len acks true false ok e = ok
ack_row c sv node len acks false takes ok e = ok

-- ---- a session

heard_exact : (c : Config) (sv : ServerState) (i : ℕ) (m : FromNode) (acks : List Ack) → IsExact sv acks → IsExact (received c sv i m) acks → IsExact (server_after c sv i m) acks
heard_exact c sv i m acks ok next = either (λ x. IsExact x acks) (is_heard sv m) (received c sv i m) sv next ok

reply_exact : (c : Config) (sv : ServerState) (i : ℕ) (m : FromNode) (acks : List Ack) → IsExact sv acks → IsExact (server_after c sv i m) (ack_of c sv i m ++ acks)
reply_exact c sv i (from_node.Opened s adopted low len) acks ok =
    heard_exact c sv i (from_node.Opened s adopted low len) acks ok (report_exact c sv (record { node = i; adopted = adopted; low = low; length = len }) acks ok)
reply_exact c sv i (from_node.Stale s p) acks ok = heard_exact c sv i (from_node.Stale s p) acks ok (stale_exact sv s p acks ok)
reply_exact c sv i (from_node.Unopened s p) acks ok = heard_exact c sv i (from_node.Unopened s p) acks ok ok
reply_exact c sv i (from_node.Records s batch) acks ok = heard_exact c sv i (from_node.Records s batch) acks ok (records_exact c sv i batch acks ok)
reply_exact c sv i (from_node.Staged s upto) acks ok = heard_exact c sv i (from_node.Staged s upto) acks ok (staged_exact sv i upto acks ok)
reply_exact c sv i (from_node.StageAt s next) acks ok =
    heard_exact c sv i (from_node.StageAt s next) acks ok (either (λ x. IsExact x acks) (nat_le 1 next) (after_staged sv i (next - 1)) sv (staged_exact sv i (next - 1) acks ok) ok)
reply_exact c sv i (from_node.Adopted s len) acks ok = ack_row c sv i len acks (is_heard sv (from_node.Adopted s len)) (takes_ack c sv i len) ok refl
reply_exact c sv i (from_node.Acked s len) acks ok = ack_row c sv i len acks (is_heard sv (from_node.Acked s len)) (takes_ack c sv i len) ok refl
reply_exact c sv i (from_node.Gap s len) acks ok = heard_exact c sv i (from_node.Gap s len) acks ok ok
reply_exact c sv i (from_node.NotAdopted s adopted) acks ok = heard_exact c sv i (from_node.NotAdopted s adopted) acks ok ok
reply_exact c sv i (from_node.LowSet s low) acks ok = heard_exact c sv i (from_node.LowSet s low) acks ok (low_exact c sv i low acks ok)

input_exact : (c : Config) (sv : ServerState) (input : Input) (acks : List Ack) → IsExact sv acks → IsExact (after c sv input) (taken c sv input ++ acks)
input_exact c sv (inl reply) acks ok = reply_exact c sv reply.0 reply.1 acks ok
input_exact c sv (inr tx) acks ok = append_exact c sv tx acks ok

session_exact : (c : Config) (sv : ServerState) (inputs : List Input) (acks : List Ack) → IsExact sv acks → IsExact (state_after c sv inputs) (acks_after c sv inputs ++ acks)
session_exact c sv [] acks ok = ok
session_exact c sv (input ∷ inputs) acks ok =
    subst (λ l. IsExact (state_after c (after c sv input) inputs) l) (sym (append_assoc (acks_after c (after c sv input) inputs) (taken c sv input) acks))
    (session_exact c (after c sv input) inputs (taken c sv input ++ acks) (input_exact c sv input acks ok))

exact_mark : (c : Config) (sv : ServerState) (acks : List Ack) → IsExact sv acks → IsCommitMark c.nodes acks (commit_mark c sv)
exact_mark c sv acks ok =
    let same : has_acked acks ≡ holds sv = (λ j k i. sym (ok.held k i) j) in
    subst (λ (f : ℕ → ℕ → Bool). IsCommitMark c.nodes acks (reached c.nodes f (length sv.log))) same (marks_are_found.found c.nodes acks (length sv.log) ok.within)

pub exact_marks : CommitMarksAreExact
exact_marks c session inputs =
    let ok = session_exact c (drawn session) inputs [] (drawn_exact session) in
    exact_mark c (state_after c (drawn session) inputs) (acks_after c (drawn session) inputs)
    (subst (λ l. IsExact (state_after c (drawn session) inputs) l) (append-nil (acks_after c (drawn session) inputs)) ok)
