-- A client's request at a server, which may assign a record.
use Rattle.std.proofs.Common.{◌≡◌, ℕ, ◌≤◌, max, nat_lt, if◌then◌else◌, Bool, true, false, arith, refl, ap, sym, ◌∙◌, subst, List, [], ◌∷◌, ◌++◌, length, take, Option, Some, None, le_trans, true≢false}
use Rattle.proto_model.specs.Servers.{Waiting, chosen, chosen_len, commit_mark, is_active}
use Rattle.proto_model.specs.Serving.{shape_of, or_else, locked, no_room, running_refusal, refusal_in, append_refusal, assigned_record, assigned, if_taken, served_after}
use Rattle.proto_model.specs.declared.client_message.ToServer.{ToServer}
use Rattle.proto_model.specs.declared.message.Phase.{Phase}
use Rattle.proto_model.specs.declared.message.Phase.TheVariants.{Idle, Opening, Fetching, Repairing, Running, Closed}
use Rattle.proto_model.specs.declared.message.Report.{Report}
use Rattle.proto_model.specs.declared.refusal.Refusal.{Refusal}
use Rattle.world_law.specs.Worlds.{Book, WorldState, config_of, with_server}
use Rattle.std.proofs.lemmas.Grind.{common_steps}
use Rattle.std.proofs.lemmas.List.{places, take-append-le}
use Rattle.tx_model.specs.Logs.{IsClean}
use Rattle.tx_model.specs.Probes.{Conflict, admission}
use Rattle.tx_model.specs.Transactions.{Transaction}
use Rattle.tx_model.specs.declared.record.Record.{Record}
use Rattle.world_law.proofs.Invariant.{RepairFacts, PhaseFacts, Holds}
use Rattle.world_law.proofs.Later.{Onward, stay}
use Rattle.world_law.proofs.Lists.{IsFront, HasIds}
use Rattle.world_law.proofs.Places.{ids_last, clean_last}
use Rattle.world_law.proofs.ServerReplies.{nothing}
use Rattle.world_law.proofs.ServerReports.{some_same}
use Rattle.world_law.proofs.ServerFrame.{BookStep, ServerStep, server_event, waiting_step}
use Rattle.world_law.proofs.Tables.{put_same}
use Rattle.world_law.proofs.Tests.{not_above}
use Rattle.proto_model.specs.declared.client_message.ToServer.TheVariants as to_server
use Rattle.proto_model.specs.declared.refusal.Refusal.TheVariants as refused

front_more : (xs ys : List Record) → IsFront xs (xs ++ ys)
front_more xs ys = record { fits = grind (arith, common_steps); same = λ i d lt. grind (arith, places) }

longer_book : (w : WorldState) → Holds w → (s : ℕ) (c : Report) (log more : List Record) → 1 ≤ s → s ≤ w.number
    → w.books s ≡ record { log = log; choice = Some c; repaired = true } → IsClean (log ++ more) → HasIds (log ++ more)
    → BookStep w s (record { log = log ++ more; choice = Some c; repaired = true })
longer_book w h s c log more some known was clean ids =
    let chosen : (w.books s).choice ≡ Some c = ap (λ (x : Book). x.choice) was in
    let came : (w.books s).repaired ≡ true = ap (λ (x : Book). x.repaired) was in
    let kept = h.kept s c chosen came in
    let long : c.length ≤ length log = rw was at kept.long in
    let same : take c.length log ≡ take c.length (w.books c.adopted).log = sym (ap (λ (x : Book). take c.length x.log) was) ∙ kept.same in
    record {
      chosen = λ r e. sym chosen ∙ e;
      came = λ e. refl;
      grown = rw was (front_more log more);
      choice = λ r e. h.choices s r (chosen ∙ e);
      kept = λ r e q. subst (λ (x : Report). (x.length ≤ length (log ++ more)) × (take x.length (log ++ more) ≡ take x.length (w.books x.adopted).log))
          (some_same c r e)
          (le_trans long (front_more log more).fits, take-append-le c.length log more long ∙ same);
      repaired = λ e. (c, refl);
      unrepaired = λ e. absurd (true≢false e);
      unused = λ lt. absurd (omega arith);
      none = λ e. absurd (omega arith);
      clean = clean;
      ids = ids;
    }

-- what a running server's facts are
running_facts : (w : WorldState) → Holds w → (v : ℕ) → (w.servers v).phase ≡ Running → RepairFacts (config_of w.cluster) w.books (w.servers v)
running_facts w h v e = subst (λ (p : Phase). PhaseFacts (config_of w.cluster) w.books (w.servers v) p) e (h.phases v)

longer_step : (w : WorldState) → Holds w → (v : ℕ) (x : Record) → (w.servers v).phase ≡ Running → IsClean ((w.servers v).log ++ x ∷ [])
    → HasIds ((w.servers v).log ++ x ∷ []) → (waiting : List Waiting)
    → ServerStep w v (record (w.servers v) { log = (w.servers v).log ++ x ∷ []; waiting = waiting })
longer_step w h v x e clean ids waiting =
    let sv = w.servers v in
    let c = config_of w.cluster in
    let act : is_active sv.phase ≡ true = ap is_active e in
    let f = h.active v act in
    let more = x ∷ [] in
    let r = running_facts w h v e in
    let after = record sv { log = sv.log ++ more } in
    waiting_step w v after waiting (subst (λ (p : Phase). ServerStep w v (record sv { log = sv.log ++ more; phase = p })) (sym e) (record {
      book = subst (λ (o : Option Report). BookStep w sv.session (record { log = sv.log ++ more; choice = o; repaired = true })) (sym r.chose)
          (longer_book w h sv.session r.choice sv.log more f.some f.known r.book clean ids);
      apart = λ u ne a q. h.distinct u v ne a act q;
      active = λ a. record { some = f.some; known = f.known; reports = f.reports; listed = f.listed; counted = f.counted; acks = f.acks; unacked = f.unacked };
      phase = record {
        choice = r.choice;
        chose = r.chose;
        book = put_same w.books sv.session (record { log = sv.log ++ more; choice = chosen c sv; repaired = true })
            ∙ ap (λ (o : Option Report). record { log = sv.log ++ more; choice = o; repaired = true }) r.chose;
      };
    }))

-- a running server's log is its book
running_clean : (w : WorldState) → Holds w → (v : ℕ) → (w.servers v).phase ≡ Running → IsClean (w.servers v).log
running_clean w h v e = subst IsClean (ap (λ (b : Book). b.log) (running_facts w h v e).book) (h.clean (w.servers v).session)

running_ids : (w : WorldState) → Holds w → (v : ℕ) → (w.servers v).phase ≡ Running → HasIds (w.servers v).log
running_ids w h v e = subst HasIds (ap (λ (b : Book). b.log) (running_facts w h v e).book) (h.ids (w.servers v).session)

pub taken_phase : (p : Phase) (o : Option Refusal) → refusal_in p o ≡ None → (p ≡ Running) × (o ≡ None)
taken_phase Running o e = (refl, e)
taken_phase Idle o e = absurd cc
taken_phase Opening o e = absurd cc
taken_phase Fetching o e = absurd cc
taken_phase Repairing o e = absurd cc
taken_phase (Closed p) o e = absurd cc

test_none : (b : Bool) (r : Refusal) (o : Option Refusal) → (if b then Some r else o) ≡ None → (b ≡ false) × (o ≡ None)
test_none true r o e = absurd cc
test_none false r o e = (refl, e)

else_none : (o p : Option Refusal) → or_else o p ≡ None → o ≡ None
else_none None p e = refl
else_none (Some r) p e = absurd cc

locked_none : (tx : Transaction) (o : Option Conflict) → locked tx o ≡ None → o ≡ None
locked_none tx None e = refl
locked_none tx (Some r) e = absurd cc

assigned_step : (w : WorldState) → Holds w → (v : ℕ) (tx : Transaction) → append_refusal (config_of w.cluster) (w.servers v) tx ≡ None
    → ServerStep w v (assigned (w.servers v) tx)
assigned_step w h v tx e =
    let sv = w.servers v in
    let c = config_of w.cluster in
    let a = taken_phase sv.phase (running_refusal c sv tx) e in
    let b = test_none (nat_lt (length sv.log) tx.mark) (refused.MarkAhead (length sv.log))
    (or_else (locked tx (admission (shape_of c) (chosen_len c sv) sv.log tx)) (no_room (length sv.log) (commit_mark c sv))) a.1 in
    let free = locked_none tx (admission (shape_of c) (chosen_len c sv) sv.log tx)
    (else_none (locked tx (admission (shape_of c) (chosen_len c sv) sv.log tx)) (no_room (length sv.log) (commit_mark c sv)) b.1) in
    let y = assigned_record sv tx in
    longer_step w h v y a.0
    (clean_last (shape_of c) (chosen_len c sv) sv.log y (running_ids w h v a.0) (running_clean w h v a.0) free (not_above (length sv.log) tx.mark b.0))
    (ids_last sv.log y (running_ids w h v a.0) refl) (assigned sv tx).waiting

append_event : (w : WorldState) → Holds w → (v : ℕ) (tx : Transaction) (o : Option Refusal)
    → append_refusal (config_of w.cluster) (w.servers v) tx ≡ o → Onward w (with_server w v (if_taken o (w.servers v) (assigned (w.servers v) tx)))
append_event w h v tx None e = server_event w h v (assigned (w.servers v) tx) (assigned_step w h v tx e)
append_event w h v tx (Some r) e = subst (Onward w) (sym (nothing w h v)) (stay w h)

pub to_server_event : (w : WorldState) → Holds w → (v : ℕ) (m : ToServer)
    → Onward w (with_server w v (served_after (config_of w.cluster) (w.servers v) m))
to_server_event w h v (to_server.Append tx) = append_event w h v tx (append_refusal (config_of w.cluster) (w.servers v) tx) refl
to_server_event w h v (to_server.Feed from max) = subst (Onward w) (sym (nothing w h v)) (stay w h)
to_server_event w h v (to_server.Get id) = subst (Onward w) (sym (nothing w h v)) (stay w h)
to_server_event w h v to_server.Flush = subst (Onward w) (sym (nothing w h v)) (stay w h)
