-- Every kind of message: what is in form is spelled so, and what is spelled is read again.
use Rattle.std.proofs.Common.{◌≡◌, ℕ, ◌+◌, ◌≤◌, Bool, true, false, cond, nat_le, List, [], ◌∷◌, ◌++◌, length, drop, Option, Some, None, refl, sym, ap, ◌∙◌, subst, length-drop, drop-cons, arith}
use Rattle.std.specs.Prelude.{slice_index}
use Rattle.std.specs.Int.{w32, w64, to_be_bytes}
use Rattle.std.proofs.lemmas.Bool.{leb-true, le-leb, le-ltb, eqb-true}
use Rattle.tx_model.specs.Spelling.{spelled_name, record_body}
use Rattle.proto_model.specs.declared.message.ToNode.TheVariants as to_node
use Rattle.proto_model.specs.declared.message.FromNode.TheVariants as from_node
use Rattle.proto_model.specs.declared.refusal.Refusal.TheVariants as refused
use Rattle.proto_model.specs.declared.refusal.ReadRefusal.TheVariants as unserved
use Rattle.proto_model.specs.declared.client_message.ToServer.TheVariants as to_server
use Rattle.proto_model.specs.declared.client_message.FromServer.TheVariants as from_server
use Rattle.proto_model.specs.Validity.{IsWord}
use Rattle.tx_model.specs.Reading.{number, record_of, name_at, after_name, is_transaction}
use Rattle.record_frame.proofs.Names.{and_2, name-spelled, is_name_from}
use Rattle.record_frame.proofs.Parts.{IsBytes, IsBytes-drop, split_4, split_8, number-below_8, place-tells, transaction-spelled, record-spelled}
use Rattle.record_frame.proofs.Values.{tested}
use Rattle.wire_codec.specs.declared.message.ToRegister.TheVariants.{Read, Cas}
use Rattle.wire_codec.specs.declared.message.FromRegister.TheVariants.{Value, Won, Lost, Exhausted}
use Rattle.wire_codec.specs.declared.message.Control.TheVariants.{Bye, Done, No}
use Rattle.wire_codec.specs.declared.message.Message.{Message}
use Rattle.wire_codec.specs.declared.message.Message.TheVariants as of
use Rattle.wire_codec.specs.Spelling.{one, SpellsMessageBody}
use Rattle.wire_codec.specs.Reading.{is_fetch, fetch_in, is_opened, opened_in, is_feed, feed_in, append_in, is_from_and_heads, heads_in, is_whole_entry, entry_in, refused_with, is_locked, locked_in, refusal_in, refused_in, unserved_with, read_refusal_in, unserved_in, to_node_in, counted_in, from_node_in, to_server_in, from_server_in, to_register_in, from_register_in, control_in, of_family, message_in}
use Rattle.wire_codec.proofs.Batches.{heads-spelled}
use Rattle.wire_codec.proofs.Shapes.{count-tells, next-tells, asked-tells, up_to-tells, last_8, last_1, IsSpelledBehind, row, session_row, count_row, asked_row, counted_row, next_row, answered_row, none_row, batch_row, phase_row, pick-spelled}

-- ---- fields that are numbers and more

fetch-spelled : IsSpelledBehind (1 ∷ 2 ∷ []) fetch_in
fetch-spelled bytes m e fits =
    let t = tested (is_fetch bytes) _ m e in
    let a = and_2 _ _ t.0 in
    let b = and_2 _ _ a.1 in
    let c = and_2 _ _ b.1 in
    let long : length bytes ≡ 17 = eqb-true _ _ a.0 in
    subst (λ (x : Message). SpellsMessageBody (1 ∷ 2 ∷ bytes) x) t.1 (record {
      valid = (place-tells _ b.0, next-tells _ c.0, up_to-tells 8 _ c.1);
      spelled = ap (λ (l : List ℕ). 1 ∷ 2 ∷ l) (split_8 0 bytes (omega arith) fits ∙ ap (λ (l : List ℕ). one (number w64 0 bytes) ++ l) (split_8 8 bytes (omega arith) fits
          ∙ ap (λ (l : List ℕ). one (number w64 8 bytes) ++ l) (last_1 16 bytes (omega arith))));
    })

opened-spelled : IsSpelledBehind (2 ∷ 1 ∷ []) opened_in
opened-spelled bytes m e fits =
    let t = tested (is_opened bytes) _ m e in
    let a = and_2 _ _ t.0 in
    let b = and_2 _ _ a.1 in
    let c = and_2 _ _ b.1 in
    let d = and_2 _ _ c.1 in
    let long : length bytes ≡ 32 = eqb-true _ _ a.0 in
    subst (λ (x : Message). SpellsMessageBody (2 ∷ 1 ∷ bytes) x) t.1 (record {
      valid = (place-tells _ b.0, count-tells _ c.0, count-tells _ d.0, count-tells _ d.1);
      spelled = ap (λ (l : List ℕ). 2 ∷ 1 ∷ l) (split_8 0 bytes (omega arith) fits ∙ ap (λ (l : List ℕ). one (number w64 0 bytes) ++ l) (split_8 8 bytes (omega arith) fits
          ∙ ap (λ (l : List ℕ). one (number w64 8 bytes) ++ l) (split_8 16 bytes (omega arith) fits ∙ ap (λ (l : List ℕ). one (number w64 16 bytes) ++ l) (last_8 24 bytes (omega arith) fits))));
    })

feed-spelled : IsSpelledBehind (3 ∷ 2 ∷ []) feed_in
feed-spelled bytes m e fits =
    let t = tested (is_feed bytes) _ m e in
    let a = and_2 _ _ t.0 in
    let b = and_2 _ _ a.1 in
    let long : length bytes ≡ 9 = eqb-true _ _ a.0 in
    subst (λ (x : Message). SpellsMessageBody (3 ∷ 2 ∷ bytes) x) t.1 (record {
      valid = (asked-tells _ b.0, up_to-tells 16 _ b.1);
      spelled = ap (λ (l : List ℕ). 3 ∷ 2 ∷ l) (split_8 0 bytes (omega arith) fits ∙ ap (λ (l : List ℕ). one (number w64 0 bytes) ++ l) (last_1 8 bytes (omega arith)));
    })

append-spelled : IsSpelledBehind (3 ∷ 1 ∷ []) append_in
append-spelled bytes m e fits =
    let t = tested (is_transaction bytes) _ m e in
    let tx = transaction-spelled bytes t.0 fits in
    subst (λ (x : Message). SpellsMessageBody (3 ∷ 1 ∷ bytes) x) t.1 (record { valid = tx.is; spelled = ap (λ (l : List ℕ). 3 ∷ 1 ∷ l) tx.spelled })

heads_behind-spelled : IsSpelledBehind (4 ∷ 4 ∷ []) heads_in
heads_behind-spelled bytes m e fits =
    let t = tested (is_from_and_heads bytes) _ m e in
    let a = and_2 _ _ t.0 in
    let b = and_2 _ _ a.1 in
    let c = and_2 _ _ b.1 in
    let hs = heads-spelled (number w64 0 bytes) (drop 16 bytes) c.1 (IsBytes-drop 16 bytes fits) in
    let long : 16 ≤ length bytes = leb-true _ _ a.0 in
    subst (λ (x : Message). SpellsMessageBody (4 ∷ 4 ∷ bytes) x) t.1 (record {
      valid = (asked-tells _ b.0, count-tells _ c.0, hs.are);
      spelled = ap (λ (l : List ℕ). 4 ∷ 4 ∷ l) (split_8 0 bytes (omega arith) fits ∙ ap (λ (l : List ℕ). one (number w64 0 bytes) ++ l) (split_8 8 bytes (omega arith) fits ∙ ap (λ (l : List ℕ). one (number w64 8 bytes) ++ l) hs.spelled));
    })

entry_behind-spelled : IsSpelledBehind (4 ∷ 5 ∷ []) entry_in
entry_behind-spelled bytes m e fits =
    let t = tested (is_whole_entry bytes) _ m e in
    let a = and_2 _ _ t.0 in
    let b = and_2 _ _ a.1 in
    let body = drop 4 bytes in
    let r = record-spelled body b.1 (IsBytes-drop 4 bytes fits) in
    let all : length bytes ≡ 4 + number w32 0 bytes = eqb-true _ _ b.0 in
    let len : number w32 0 bytes ≡ length (record_body (record_of body)) = omega (arith, length-drop 4 bytes, ap length r.spelled) in
    subst (λ (x : Message). SpellsMessageBody (4 ∷ 5 ∷ bytes) x) t.1 (record {
      valid = r.valid;
      spelled = ap (λ (l : List ℕ). 4 ∷ 5 ∷ l) (split_4 0 bytes (leb-true _ _ a.0) fits ∙ ap (λ (k : ℕ). to_be_bytes w32 k ++ body) len ∙ ap (λ (l : List ℕ). to_be_bytes w32 (length (record_body (record_of body))) ++ l) r.spelled);
    })

-- ---- reasons

abbrev behind_request : ℕ → ℕ → List ℕ
behind_request request reason = 4 ∷ 3 ∷ (one request ++ reason ∷ [])

locked-spelled : (request : ℕ) → IsWord request → IsSpelledBehind (behind_request request 4) (locked_in request)
locked-spelled request word bytes m e fits =
    let t = tested (is_locked bytes) _ m e in
    let a = and_2 _ _ t.0 in
    let mark = after_name bytes in
    let mark_fits = IsBytes-drop (slice_index bytes 0) (drop 1 bytes) (IsBytes-drop 1 bytes fits) in
    let last : mark ≡ one (number w64 0 mark) = last_8 0 mark (sym (eqb-true _ _ a.1)) mark_fits in
    let whole : bytes ≡ spelled_name (name_at bytes) ++ one (number w64 0 mark) = name-spelled bytes a.0 ∙ ap (λ (l : List ℕ). spelled_name (name_at bytes) ++ l) last in
    subst (λ (x : Message). SpellsMessageBody (behind_request request 4 ++ bytes) x) t.1 (record {
      valid = (word, (is_name_from bytes a.0, number-below_8 0 mark mark_fits));
      spelled = ap (λ (l : List ℕ). behind_request request 4 ++ l) whole;
    })

refusal-spelled : (request : ℕ) → IsWord request → (reason : ℕ) → IsSpelledBehind (behind_request request reason) (refusal_in request reason)
unfolding refusal_in
refusal-spelled request word reason =
    pick-spelled (behind_request request)
    (phase_row 1 (λ phase. refused_with request (refused.NotRunning phase)) (λ phase is. record { valid = (word, is); spelled = refl })
    ∷ session_row 2 (λ session. refused_with request (refused.Closed session)) (λ n p. record { valid = (word, p); spelled = refl })
    ∷ count_row 3 (λ last. refused_with request (refused.MarkAhead last)) (λ n p. record { valid = (word, p); spelled = refl })
    ∷ row 4 (locked_in request) (locked-spelled request word)
    ∷ none_row 5 (refused_with request refused.WindowFull) (record { valid = (word, tt); spelled = refl })
    ∷ none_row 6 (refused_with request refused.LogFull) (record { valid = (word, tt); spelled = refl })
    ∷ [])
    reason

refused-spelled : IsSpelledBehind (4 ∷ 3 ∷ []) refused_in
refused-spelled bytes m e fits =
    let request = number w64 0 bytes in
    let x = passed (nat_le 9 (length bytes)) e in
    let long : 9 ≤ length bytes = leb-true _ _ x.0 in
    let is = refusal-spelled request (number-below_8 0 bytes fits) (slice_index bytes 8) (drop 9 bytes) m x.1 (IsBytes-drop 9 bytes fits) in
    let rest : drop 8 bytes ≡ slice_index bytes 8 ∷ drop 9 bytes = at_8 bytes long in
    let whole : bytes ≡ one request ++ (slice_index bytes 8 ∷ drop 9 bytes) = split_8 0 bytes (omega arith) fits ∙ ap (λ (l : List ℕ). one request ++ l) rest in
    record { valid = is.valid; spelled = ap (λ (l : List ℕ). 4 ∷ 3 ∷ l) whole ∙ is.spelled }
  where
    passed : (b : Bool) {o : Option Message} → cond b o None ≡ Some m → (b ≡ true) × (o ≡ Some m)
    passed true e = (refl, e)
    passed false e = absurd cc

    at_8 : (bytes : List ℕ) → 9 ≤ length bytes → drop 8 bytes ≡ slice_index bytes 8 ∷ drop 9 bytes
    at_8 bytes long = drop-cons bytes 8 0 (omega arith)

abbrev behind_unserved : ℕ → List ℕ
behind_unserved reason = 4 ∷ 7 ∷ reason ∷ []

read_refusal-spelled : (reason : ℕ) → IsSpelledBehind (behind_unserved reason) (read_refusal_in reason)
unfolding read_refusal_in
read_refusal-spelled reason =
    pick-spelled behind_unserved
    (phase_row 1 (λ phase. unserved_with (unserved.NotRunning phase)) (λ phase is. record { valid = is; spelled = refl })
    ∷ none_row 7 (unserved_with unserved.BadId) (record { valid = tt; spelled = refl })
    ∷ count_row 8 (λ committed. unserved_with (unserved.NotYet committed)) (λ n p. record { valid = p; spelled = refl })
    ∷ [])
    reason

unserved-spelled : IsSpelledBehind (4 ∷ 7 ∷ []) unserved_in
unserved-spelled [] m e fits = absurd cc
unserved-spelled (reason ∷ bytes) m e fits =
    let x : read_refusal_in reason bytes ≡ Some m = rw (le-leb 1 (length (reason ∷ bytes)) (omega arith)) at e in
    read_refusal-spelled reason bytes m x (IsBytes-drop 1 (reason ∷ bytes) fits)

-- ---- families

abbrev behind_kind : ℕ → ℕ → List ℕ
behind_kind family kind = family ∷ kind ∷ []

pub to_node-spelled : (kind : ℕ) → IsSpelledBehind (behind_kind 1 kind) (to_node_in kind)
unfolding to_node_in
to_node-spelled kind =
    pick-spelled (behind_kind 1)
    (session_row 1 (λ session. of.ToNode (to_node.Open session)) (λ n p. record { valid = p; spelled = refl })
    ∷ row 2 fetch_in fetch-spelled
    ∷ batch_row 3 (λ session batch. of.ToNode (to_node.Stage session batch)) (λ s batch p q. record { valid = (p, q); spelled = refl })
    ∷ counted_row 4 (λ session len. of.ToNode (to_node.Adopt session len)) (λ s n p q. record { valid = (p, q); spelled = refl })
    ∷ batch_row 5 (λ session batch. of.ToNode (to_node.Append session batch)) (λ s batch p q. record { valid = (p, q); spelled = refl })
    ∷ counted_row 6 (λ session low. of.ToNode (to_node.Low session low)) (λ s n p q. record { valid = (p, q); spelled = refl })
    ∷ [])
    kind

pub from_node-spelled : (kind : ℕ) → IsSpelledBehind (behind_kind 2 kind) (from_node_in kind)
unfolding from_node_in counted_in
from_node-spelled kind =
    pick-spelled (behind_kind 2)
    (row 1 opened_in opened-spelled
    ∷ batch_row 4 (λ session batch. of.FromNode (from_node.Records session batch)) (λ s batch p q. record { valid = (p, q); spelled = refl })
    ∷ next_row 6 (λ session next. of.FromNode (from_node.StageAt session next)) (λ s n p q. record { valid = (p, q); spelled = refl })
    ∷ counted_row 2 (λ session promised. of.FromNode (from_node.Stale session promised)) (λ s n p q. record { valid = (p, q); spelled = refl })
    ∷ counted_row 3 (λ session promised. of.FromNode (from_node.Unopened session promised)) (λ s n p q. record { valid = (p, q); spelled = refl })
    ∷ counted_row 5 (λ session upto. of.FromNode (from_node.Staged session upto)) (λ s n p q. record { valid = (p, q); spelled = refl })
    ∷ counted_row 7 (λ session len. of.FromNode (from_node.Adopted session len)) (λ s n p q. record { valid = (p, q); spelled = refl })
    ∷ counted_row 8 (λ session len. of.FromNode (from_node.Acked session len)) (λ s n p q. record { valid = (p, q); spelled = refl })
    ∷ counted_row 9 (λ session len. of.FromNode (from_node.Gap session len)) (λ s n p q. record { valid = (p, q); spelled = refl })
    ∷ counted_row 10 (λ session adopted. of.FromNode (from_node.NotAdopted session adopted)) (λ s n p q. record { valid = (p, q); spelled = refl })
    ∷ counted_row 11 (λ session low. of.FromNode (from_node.LowSet session low)) (λ s n p q. record { valid = (p, q); spelled = refl })
    ∷ [])
    kind

pub to_server-spelled : (kind : ℕ) → IsSpelledBehind (behind_kind 3 kind) (to_server_in kind)
unfolding to_server_in
to_server-spelled kind =
    pick-spelled (behind_kind 3)
    (row 1 append_in append-spelled
    ∷ row 2 feed_in feed-spelled
    ∷ asked_row 3 (λ id. of.ToServer (to_server.Get id)) (λ n p. record { valid = p; spelled = refl })
    ∷ none_row 4 (of.ToServer to_server.Flush) (record { valid = tt; spelled = refl })
    ∷ [])
    kind

pub from_server-spelled : (kind : ℕ) → IsSpelledBehind (behind_kind 4 kind) (from_server_in kind)
unfolding from_server_in
from_server-spelled kind =
    pick-spelled (behind_kind 4)
    (answered_row 1 (λ request id. of.FromServer (from_server.Committed request id)) (λ request id p q. record { valid = (p, q); spelled = refl })
    ∷ answered_row 2 (λ request id. of.FromServer (from_server.Pending request id)) (λ request id p q. record { valid = (p, q); spelled = refl })
    ∷ row 3 refused_in refused-spelled
    ∷ row 4 heads_in heads_behind-spelled
    ∷ row 5 entry_in entry_behind-spelled
    ∷ count_row 6 (λ committed. of.FromServer (from_server.Flushed committed)) (λ n p. record { valid = p; spelled = refl })
    ∷ row 7 unserved_in unserved-spelled
    ∷ [])
    kind

pub to_register-spelled : (kind : ℕ) → IsSpelledBehind (behind_kind 5 kind) (to_register_in kind)
unfolding to_register_in
to_register-spelled kind =
    pick-spelled (behind_kind 5)
    (none_row 1 (of.ToRegister Read) (record { valid = tt; spelled = refl })
    ∷ count_row 2 (λ from. of.ToRegister (Cas from)) (λ n p. record { valid = p; spelled = refl })
    ∷ [])
    kind

pub from_register-spelled : (kind : ℕ) → IsSpelledBehind (behind_kind 6 kind) (from_register_in kind)
unfolding from_register_in
from_register-spelled kind =
    pick-spelled (behind_kind 6)
    (count_row 1 (λ number. of.FromRegister (Value number)) (λ n p. record { valid = p; spelled = refl })
    ∷ count_row 2 (λ number. of.FromRegister (Won number)) (λ n p. record { valid = p; spelled = refl })
    ∷ count_row 3 (λ number. of.FromRegister (Lost number)) (λ n p. record { valid = p; spelled = refl })
    ∷ none_row 4 (of.FromRegister Exhausted) (record { valid = tt; spelled = refl })
    ∷ [])
    kind

pub control-spelled : (kind : ℕ) → IsSpelledBehind (behind_kind 7 kind) (control_in kind)
unfolding control_in
control-spelled kind =
    pick-spelled (behind_kind 7)
    (none_row 1 (of.Control Bye) (record { valid = tt; spelled = refl })
    ∷ none_row 2 (of.Control Done) (record { valid = tt; spelled = refl })
    ∷ none_row 3 (of.Control No) (record { valid = tt; spelled = refl })
    ∷ [])
    kind

pub family-spelled : (kind family : ℕ) → IsSpelledBehind (behind_kind family kind) (of_family family kind)
family-spelled kind family =
    pick-spelled (λ f. behind_kind f kind)
    (row 1 (to_node_in kind) (to_node-spelled kind)
    ∷ row 2 (from_node_in kind) (from_node-spelled kind)
    ∷ row 3 (to_server_in kind) (to_server-spelled kind)
    ∷ row 4 (from_server_in kind) (from_server-spelled kind)
    ∷ row 5 (to_register_in kind) (to_register-spelled kind)
    ∷ row 6 (from_register_in kind) (from_register-spelled kind)
    ∷ row 7 (control_in kind) (control-spelled kind)
    ∷ [])
    family

pub message-spelled : (body : List ℕ) (m : Message) → message_in body ≡ Some m → IsBytes body → SpellsMessageBody body m
unfolding message_in
message-spelled [] m e fits = absurd cc
message-spelled (a ∷ []) m e fits = absurd cc
message-spelled (family ∷ kind ∷ bytes) m e fits =
    let x : of_family family kind bytes ≡ Some m = rw (le-ltb (length (family ∷ kind ∷ bytes)) 2 (omega arith)) at e in
    family-spelled kind family bytes m x (IsBytes-drop 2 (family ∷ kind ∷ bytes) fits)
