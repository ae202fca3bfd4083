-- What calls apply: the mark counts it, and the application is what it gives in order.
use Rattle.std.proofs.Common.{◌≡◌, ℕ, ◌+◌, ◌==◌, ◌&&◌, Bool, true, false, if◌then◌else◌, List, [], ◌∷◌, ◌++◌, length, take, refl, sym, ap, subst, ◌∙◌, arith, eq-eqb, length-append}
use Rattle.std.proofs.Math.Seq.{take-length}
use Rattle.std.proofs.lemmas.Bool.{and_from, eqb-true}
use Rattle.tx_model.specs.declared.record.Record.{Record}
use Rattle.tx_model.specs.declared.record.Head.{Head}
use Rattle.tx_model.specs.Records.{IsLog, ids_rise, head_of}
use Rattle.tx_model.specs.Applications.{Application, empty_application, after_payload, after_records, serial}
use Rattle.tx_model.proofs.RisingIds.{none-rise, ids_rise-append, ids_rise-id}
use Rattle.proto_model.specs.declared.client_message.FromServer.{FromServer}
use Rattle.proto_model.specs.declared.client_message.FromServer.TheVariants as answer
use Rattle.client_core.specs.Clients.{ClientState, entry_by, applies, applied, is_same_head, takes_heads, client_step}
use Rattle.client_core.specs.Applied.{Does, Takes, Builds, Fails, new_client, after_call, after_calls, applied_of, applied_at, applied_by}

-- an older and a newer client, between which these records were applied
pub record Gains (old new : ClientState) (rs : List Record) : Type 0 where
  pub mark : new.mark ≡ old.mark + length rs
  pub ids : ids_rise (old.mark + 1) rs ≡ true
  pub app : new.app ≡ after_records old.app rs

-- nothing was applied
none_gained : (old new : ClientState) → new.mark ≡ old.mark → new.app ≡ old.app → Gains old new []
none_gained old new mark app = record { mark = omega (arith, mark); ids = none-rise (old.mark + 1); app = app }

rise_alone : (id : ℕ) (r : Record) → r.id ≡ id → ids_rise id (r ∷ []) ≡ true
unfolding ids_rise
rise_alone id r is = and_from (r.id == id) true (eq-eqb r.id id is) refl

-- the next record was applied
one_gained : (cl : ClientState) (r : Record) (rest : List Head) → r.id ≡ cl.mark + 1 → Gains cl (applied after_payload cl r rest) (r ∷ [])
one_gained cl r rest next = record { mark = refl; ids = rise_alone (cl.mark + 1) r next; app = refl }

-- a record that is got, where heads are kept
got : (cl : ClientState) (r : Record) (head : Head) (rest : List Head) (next same : Bool) → (r.id == cl.mark + 1) ≡ next
    → Gains cl (if next then (if same then applied after_payload cl r rest else record cl { heads = [] }) else cl) (if next && same then r ∷ [] else [])
got cl r head rest true true is = one_gained cl r rest (eqb-true r.id (cl.mark + 1) is)
got cl r head rest true false is = none_gained cl (record cl { heads = [] }) refl refl
got cl r head rest false same is = none_gained cl cl refl refl

entry_gains : (cl : ClientState) (r : Record) (heads : List Head) → Gains cl (entry_by after_payload cl r heads) (if applies cl r heads then r ∷ [] else [])
entry_gains cl r [] = none_gained cl cl refl refl
entry_gains cl r (head ∷ rest) = got cl r head rest (r.id == cl.mark + 1) (is_same_head head (head_of r)) refl

heads_kept : (cl : ClientState) (heads : List Head) (takes : Bool) → Gains cl (if takes then record cl { heads = heads } else cl) []
heads_kept cl heads true = none_gained cl (record cl { heads = heads }) refl refl
heads_kept cl heads false = none_gained cl cl refl refl

answer_gains : (cl : ClientState) (m : FromServer) → Gains cl (client_step cl m) (applied_of cl m)
answer_gains cl (answer.Heads from committed heads) = heads_kept cl heads (takes_heads cl from heads)
answer_gains cl (answer.Entry r) = entry_gains cl r cl.heads
answer_gains cl m = none_gained cl cl refl refl

call_gains : (cl : ClientState) (call : Does) → Gains cl (after_call cl call) (applied_at cl call)
call_gains cl (Takes m) = answer_gains cl m
call_gains cl Builds = none_gained cl (after_call cl Builds) refl refl
call_gains cl Fails = none_gained cl cl refl refl

-- ---- several calls

records_then : (app : Application) (xs ys : List Record) → after_records app (xs ++ ys) ≡ after_records (after_records app xs) ys
records_then app [] ys = refl
records_then app (x ∷ xs) ys = records_then (after_payload app x.tx.payload) xs ys

gains_then : (a b c : ClientState) (xs ys : List Record) → Gains a b xs → Gains b c ys → Gains a c (xs ++ ys)
gains_then a b c xs ys first next =
    let at : b.mark + 1 ≡ a.mark + 1 + length xs = omega (arith, first.mark) in
    record {
      mark = omega (arith, first.mark, next.mark, length-append xs ys);
      ids = ids_rise-append (a.mark + 1) xs ys first.ids (subst (λ (n : ℕ). ids_rise n ys ≡ true) at next.ids);
      app = next.app ∙ (ap (λ (app : Application). after_records app ys) first.app ∙ sym (records_then a.app xs ys));
    }

pub calls_gain : (cl : ClientState) (calls : List Does) → Gains cl (after_calls cl calls) (applied_by cl calls)
calls_gain cl [] = none_gained cl cl refl refl
calls_gain cl (call ∷ calls) =
    gains_then cl (after_call cl call) (after_calls (after_call cl call) calls) (applied_at cl call) (applied_by (after_call cl call) calls)
    (call_gains cl call) (calls_gain (after_call cl call) calls)

-- ---- from the start

pub counted : (request : ℕ) (calls : List Does) → (after_calls (new_client request) calls).mark ≡ length (applied_by (new_client request) calls)
counted request calls = let all = calls_gain (new_client request) calls in omega (arith, all.mark)

pub in_order : (request : ℕ) (calls : List Does) → IsLog (applied_by (new_client request) calls)
in_order request calls k other lt =
    let all = calls_gain (new_client request) calls in
    omega (arith, ids_rise-id 1 (applied_by (new_client request) calls) k other all.ids lt)

pub is_serial : (request : ℕ) (calls : List Does) → (after_calls (new_client request) calls).app ≡ serial (applied_by (new_client request) calls) (after_calls (new_client request) calls).mark
is_serial request calls =
    let rs : List Record = applied_by (new_client request) calls in
    let all = calls_gain (new_client request) calls in
    all.app ∙ ap (after_records empty_application) (sym (ap (λ (n : ℕ). take n rs) (counted request calls) ∙ take-length rs))
