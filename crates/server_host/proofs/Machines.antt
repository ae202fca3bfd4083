-- A machine's calls keep what is true of it.
use Rattle.std.proofs.Common.{◌≡◌, ◌≢◌, ℕ, ◌+◌, ◌-◌, ◌≤◌, ◌==◌, nat_lt, nat_le, if◌then◌else◌, Bool, true, false, [], ◌∷◌, ◌++◌, length, Option, Some, None, Result, Ok, Err, refl, ap, sym, subst, ◌∙◌, arith, length-append}
use Rattle.std.proofs.lemmas.Bool.Decides.{nat_tests}
use Rattle.std.specs.Prelude.{option_to_list, IfOk, IfNone, OnOk, OnErr}
use Rattle.tx_model.specs.Records.{IsPlace}
use Rattle.tx_model.specs.Transactions.{Transaction, IsTransaction}
use Rattle.proto_model.specs.declared.message.Phase.{Phase}
use Rattle.proto_model.specs.declared.message.Phase.TheVariants.{Idle, Opening, Fetching, Repairing, Running, Closed}
use Rattle.proto_model.specs.declared.message.FromNode.{FromNode}
use Rattle.proto_model.specs.declared.message.FromNode.TheVariants.{Opened, Stale, Unopened, Records, Staged, StageAt, Adopted, Acked, Gap, NotAdopted, LowSet}
use Rattle.proto_model.specs.declared.refusal.Refusal.{Refusal}
use Rattle.proto_model.specs.declared.client_message.ToServer.{ToServer}
use Rattle.proto_model.specs.declared.client_message.ToServer.TheVariants as to_server
use Rattle.proto_model.specs.declared.client_message.FromServer.{FromServer}
use Rattle.proto_model.specs.Servers.{Config, ServerState, drawn, idle_server, commit_mark, is_active, is_heard, after_staged, received, server_after}
use Rattle.proto_model.specs.Serving.{last_id, window, or_else, no_room, running_refusal, refusal_in, append_refusal, append_answers, assigned, assigned_record, if_taken, served_after, served_answers}
use Rattle.proto_model.specs.Validity.{IsValidFromNode, IsValidToServer}
use Rattle.proto_model.proofs.TableLemmas.{either, if_each}
use Rattle.proto_model.proofs.SaneSteps.{log_count}
use Rattle.session_recovery.specs.Sound.{IsSound}
use Rattle.session_recovery.proofs.SoundSteps.{and_true, drawn_sound, idle_sound, report_keeps, records_keep, staged_keeps, ack_keeps, low_keeps, stale_keeps}
use Rattle.partition_server.proofs.Servings.{assigned_sound}
use Rattle.partition_server.proofs.Answering.{mark_within}
use Rattle.partition_server.specs.Held.{Held, config_of, state_of}
use Rattle.server_loop.specs.Drives.{MovesForward}
use Rattle.server_host.specs.Lacking.{lack_of, AreCaughtUp}
use Rattle.server_host.specs.Machines.{IsMachine}
use Rattle.server_host.proofs.Caught.{idle_caught, drawn_caught, caught_after, served_caught}
use Rattle.server_host.proofs.Forward.{moves_forward}

-- ---- replies

received_sound : (c : Config) (sv : ServerState) (i : ℕ) (m : FromNode) → IsSound c sv → is_active sv.phase ≡ true → IsValidFromNode m → IsSound c (received c sv i m)
received_sound c sv i (Opened s adopted low len) ok active valid = report_keeps c sv (record { node = i; adopted = adopted; low = low; length = len }) ok active valid.3
received_sound c sv i (Stale s p) ok active valid = stale_keeps c sv s p ok
received_sound c sv i (Unopened s p) ok active valid = ok
received_sound c sv i (Records s batch) ok active valid = records_keep c sv i batch ok valid.1
received_sound c sv i (Staged s upto) ok active valid = staged_keeps c sv i upto ok
received_sound c sv i (StageAt s next) ok active valid = either (IsSound c) (nat_le 1 next) (after_staged sv i (next - 1)) sv (staged_keeps c sv i (next - 1) ok) ok
received_sound c sv i (Adopted s len) ok active valid = ack_keeps c sv i len ok
received_sound c sv i (Acked s len) ok active valid = ack_keeps c sv i len ok
received_sound c sv i (Gap s len) ok active valid = ok
received_sound c sv i (NotAdopted s adopted) ok active valid = ok
received_sound c sv i (LowSet s low) ok active valid = low_keeps c sv i low ok

heard_active : (c : Config) (sv : ServerState) (m : FromNode) → is_heard sv m ≡ true → is_active sv.phase ≡ true
heard_active c sv m e = (and_true (is_active sv.phase) _ e).0

sound_after : (c : Config) (sv : ServerState) (i : ℕ) (m : FromNode) → IsSound c sv → IsValidFromNode m → IsSound c (server_after c sv i m)
sound_after c sv i m ok valid = if_each (IsSound c) (is_heard sv m) (received c sv i m) sv (λ heard. received_sound c sv i m ok (heard_active c sv m heard) valid) (λ _. ok)

-- ---- appends

taken_running : (phase : Phase) (refusal : Option Refusal) → refusal_in phase refusal ≡ None → (phase ≡ Running) × (refusal ≡ None)
taken_running Running refusal h = (refl, h)
taken_running Idle refusal h = absurd (cc)
taken_running Opening refusal h = absurd (cc)
taken_running Fetching refusal h = absurd (cc)
taken_running Repairing refusal h = absurd (cc)
taken_running (Closed p) refusal h = absurd (cc)

if_none : (b : Bool) (x : Refusal) (y : Option Refusal) → (if b then Some x else y) ≡ None → (b ≡ false) × (y ≡ None)
if_none true x y h = absurd (let e : Some x ≡ None = h in cc)
if_none false x y h = (refl, h)

or_none : (x y : Option Refusal) → or_else x y ≡ None → y ≡ None
or_none None y h = h
or_none (Some x) y h = absurd (let e : Some x ≡ None = h in cc)

taken_room : (c : Config) (sv : ServerState) (tx : Transaction) → append_refusal c sv tx ≡ None → length sv.log ≢ last_id
taken_room c sv tx h =
    let a = (taken_running sv.phase (running_refusal c sv tx) h).1 in
    let b = (if_none (nat_lt (length sv.log) tx.mark) _ _ a).1 in
    let d = or_none _ (no_room (length sv.log) (commit_mark c sv)) b in
    let e = (if_none (length sv.log - commit_mark c sv == window) _ _ d).1 in
    let f = (if_none (length sv.log == last_id) _ None e).0 in
    grind (arith, nat_tests, f)

taken_place : (c : Config) (sv : ServerState) (tx : Transaction) → IsSound c sv → append_refusal c sv tx ≡ None → IsPlace (length sv.log + 1)
taken_place c sv tx ok taken =
    let room = taken_room c sv tx taken in
    let small = log_count sv.log ok.rise in
    record { some = omega arith; below = omega (arith, room, small) }

taken_sound : (c : Config) (sv : ServerState) (tx : Transaction) → IsSound c sv → IsTransaction tx → append_refusal c sv tx ≡ None → IsSound c (assigned sv tx)
taken_sound c sv tx ok valid taken =
    let running = (taken_running sv.phase (running_refusal c sv tx) taken).0 in
    assigned_sound c sv tx ok running (record { id = taken_place c sv tx ok taken; session = ok.session (ap is_active running); tx = valid })

append_sound : (c : Config) (sv : ServerState) (tx : Transaction) (o : Option Refusal) → append_refusal c sv tx ≡ o → IsSound c sv → IsTransaction tx → IsSound c (if_taken o sv (assigned sv tx))
append_sound c sv tx None e ok valid = taken_sound c sv tx ok valid e
append_sound c sv tx (Some refusal) e ok valid = ok

served_sound : (c : Config) (sv : ServerState) (m : ToServer) → IsSound c sv → IsValidToServer m → IsSound c (served_after c sv m)
served_sound c sv (to_server.Append tx) ok valid = append_sound c sv tx (append_refusal c sv tx) refl ok valid
served_sound c sv (to_server.Feed from max) ok valid = ok
served_sound c sv (to_server.Get id) ok valid = ok
served_sound c sv to_server.Flush ok valid = ok

-- the id of an append that has no answer yet
unanswered_place : (c : Config) (sv : ServerState) (tx : Transaction) (o : Option Refusal) → append_refusal c sv tx ≡ o → IsSound c sv → append_answers tx o ≡ [] → IsPlace (length (if_taken o sv (assigned sv tx)).log)
unanswered_place c sv tx None e ok none =
    let longer : length (sv.log ++ assigned_record sv tx ∷ []) ≡ length sv.log + 1 = length-append sv.log (assigned_record sv tx ∷ []) in
    subst IsPlace (sym longer) (taken_place c sv tx ok e)
unanswered_place c sv tx (Some refusal) e ok none = absurd (cc)

served_place : (c : Config) (sv : ServerState) (m : ToServer) → IsSound c sv → served_answers c sv m ≡ [] → IsPlace (length (served_after c sv m).log)
served_place c sv (to_server.Append tx) ok none = unanswered_place c sv tx (append_refusal c sv tx) refl ok none
served_place c sv (to_server.Feed from max) ok none = absurd (cc)
served_place c sv (to_server.Get id) ok none = absurd (cc)
served_place c sv to_server.Flush ok none = absurd (cc)

none_place : (c : Config) (sv sw : ServerState) (m : ToServer) (answer : Option FromServer) → IsSound c sv → option_to_list answer ≡ served_answers c sv m → sw ≡ served_after c sv m → IfNone answer (IsPlace (length sw.log))
none_place c sv sw m None ok answers after = subst (λ (x : ServerState). IsPlace (length x.log)) (sym after) (served_place c sv m ok (sym answers))
none_place c sv sw m (Some x) ok answers after = tt

-- ---- a machine

pub new_machine : (h : Held) (c : Config) → state_of h ≡ idle_server → config_of h ≡ c → c.nodes ≤ 7 → IsMachine h c.nodes
new_machine h c state config few = record {
  same = ap (λ (x : Config). x.nodes) (sym config);
  few = few;
  sound = subst (λ (x : Config). IsSound x (state_of h)) (sym config) (subst (λ (sv : ServerState). IsSound c sv) (sym state) (idle_sound c));
  caught = subst (λ (x : Config). AreCaughtUp x (state_of h)) (sym config) (subst (λ (sv : ServerState). AreCaughtUp c sv) (sym state) (idle_caught c));
}

kept_machine : (h h' : Held) (nodes : ℕ) (sv : ServerState) → IsMachine h nodes → config_of h' ≡ config_of h → state_of h' ≡ sv → IsSound (config_of h) sv → AreCaughtUp (config_of h) sv → IsMachine h' nodes
kept_machine h h' nodes sv ok config state sound caught = record {
  same = ok.same ∙ ap (λ (c : Config). c.nodes) (sym config);
  few = ok.few;
  sound = subst (λ (c : Config). IsSound c (state_of h')) (sym config) (subst (λ (x : ServerState). IsSound (config_of h) x) (sym state) sound);
  caught = subst (λ (c : Config). AreCaughtUp c (state_of h')) (sym config) (subst (λ (x : ServerState). AreCaughtUp (config_of h) x) (sym state) caught);
}

pub drew_machine : (h h' : Held) (nodes s : ℕ) → IsMachine h nodes → IsPlace s → config_of h' ≡ config_of h → state_of h' ≡ drawn s → IsMachine h' nodes
drew_machine h h' nodes s ok place config state = kept_machine h h' nodes (drawn s) ok config state (drawn_sound (config_of h) s place) (drawn_caught (config_of h) s)

pub received_machine : {T E : Type 0} (h h' : Held) (nodes i : ℕ) (m : FromNode) (r : Result T E) → IsMachine h nodes → IsValidFromNode m → config_of h' ≡ config_of h →
    OnOk r (state_of h' ≡ server_after (config_of h) (state_of h) i m) → OnErr r (h' ≡ h) → IsMachine h' nodes
received_machine h h' nodes i m (Ok x) ok valid config went not =
    kept_machine h h' nodes _ ok config went (sound_after (config_of h) (state_of h) i m ok.sound valid) (caught_after (config_of h) (state_of h) i m ok.sound ok.caught)
received_machine h h' nodes i m (Err e) ok valid config went not = subst (λ (x : Held). IsMachine x nodes) (sym not) ok

pub served_machine : {T E : Type 0} (h h' : Held) (nodes : ℕ) (m : ToServer) (r : Result T E) → IsMachine h nodes → IsValidToServer m → config_of h' ≡ config_of h →
    OnOk r (state_of h' ≡ served_after (config_of h) (state_of h) m) → OnErr r (h' ≡ h) → IsMachine h' nodes
served_machine h h' nodes m (Ok x) ok valid config went not =
    kept_machine h h' nodes _ ok config went (served_sound (config_of h) (state_of h) m ok.sound valid) (served_caught (config_of h) (state_of h) m ok.caught)
served_machine h h' nodes m (Err e) ok valid config went not = subst (λ (x : Held). IsMachine x nodes) (sym not) ok

received_from : (h h' : Held) (nodes i : ℕ) (m : FromNode) → IsMachine h nodes → IsValidFromNode m → 1 ≤ i → i ≤ (config_of h).nodes →
    state_of h' ≡ server_after (config_of h) (state_of h) i m → MovesForward (config_of h) (state_of h) i m (lack_of (state_of h)) (lack_of (state_of h'))
received_from h h' nodes i m ok valid some low went =
    let same = ok.same in
    let few = ok.few in
    subst (λ (sv : ServerState). MovesForward (config_of h) (state_of h) i m (lack_of (state_of h)) (lack_of sv)) (sym went)
    (moves_forward (config_of h) (state_of h) i m some (omega (arith, same, few, low)) ok.sound ok.caught (mark_within (config_of h) (state_of h)) valid)

-- as it is seen
pub received_forward : (seen h h' : Held) (nodes i : ℕ) (m : FromNode) → h ≡ seen → IsMachine h nodes → IsValidFromNode m → 1 ≤ i → i ≤ (config_of seen).nodes →
    state_of h' ≡ server_after (config_of h) (state_of h) i m → MovesForward (config_of seen) (state_of seen) i m (lack_of (state_of seen)) (lack_of (state_of h'))
received_forward seen h h' nodes i m view ok valid some low went =
    subst (λ (x : Held). i ≤ (config_of x).nodes → MovesForward (config_of x) (state_of x) i m (lack_of (state_of x)) (lack_of (state_of h'))) view
    (λ within. received_from h h' nodes i m ok valid some within went) low

pub served_places : {E : Type 0} (h h' : Held) (nodes : ℕ) (m : ToServer) (r : Result (Option FromServer) E) → IsMachine h nodes →
    IfOk r (λ answer. option_to_list answer ≡ served_answers (config_of h) (state_of h) m) → OnOk r (state_of h' ≡ served_after (config_of h) (state_of h) m) →
    IfOk r (λ answer. IfNone answer (IsPlace (length (state_of h').log)))
served_places h h' nodes m (Ok answer) ok answers after = none_place (config_of h) (state_of h) (state_of h') m answer ok.sound answers after
served_places h h' nodes m (Err e) ok answers after = tt
