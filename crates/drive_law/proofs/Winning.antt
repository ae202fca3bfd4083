-- Each session is won once, of a register's peer that is honest.
use Rattle.std.proofs.Common.{◌≡◌, ℕ, zero, suc, ◌+◌, ◌<◌, ◌≤◌, ◌≢◌, ◌⊎◌, ◌==◌, if◌then◌else◌, Bool, true, false, List, [], ◌∷◌, ◌++◌, Result, Ok, Err, refl, sym, ap, subst, ◌∙◌, inl, inr, arith}
use Rattle.std.proofs.lemmas.Bool.{cases_eq}
use Rattle.io_core.specs.Links.{Heard, Exchange}
use Rattle.io_core.specs.Links as links
use Rattle.wire_codec.specs.declared.message.Message.TheVariants as of
use Rattle.wire_codec.specs.declared.message.ToRegister.{ToRegister}
use Rattle.wire_codec.specs.declared.message.ToRegister.TheVariants as to
use Rattle.wire_codec.specs.declared.message.FromRegister.{FromRegister}
use Rattle.wire_codec.specs.declared.message.FromRegister.TheVariants as from
use Rattle.wire_codec.specs.Spelling.{SpellsMessage, message_frame}
use Rattle.wire_codec.proofs.Frames.{one_spelling}
use Rattle.session_register.specs.declared.register.Cas.{Cas}
use Rattle.session_register.specs.declared.register.Cas.TheVariants as cas
use Rattle.session_register.specs.declared.register.RegisterFault.{RegisterFault}
use Rattle.session_register.specs.declared.register.RegisterFault.TheVariants as faults
use Rattle.session_register.specs.Registers.{last_session, number_after}
use Rattle.server_loop.specs.declared.exchanges.Reply.{Reply}
use Rattle.server_loop.specs.declared.exchanges.Reply.TheVariants as replies
use Rattle.server_loop.specs.Exchanges.{IsReply}
use Rattle.server_loop.specs.Registers.{outcome_in, message_of, made_of, IsAsked, IsCasAt, IsDraw, answered, no_memory, unread, tried}
use Rattle.drive_law.specs.Honest.{cas_message, number_reply, number_then, Taken, IsHonest, IsWonAt, ASessionIsWonOnce, EndsAt, IsWonByUser, called, drawn, ASessionOverLinksIsWonOnce}

-- ---- one request

-- a win is the number one above, and the number then
record IsNext (number session after : ℕ) : Type 0 where
  above : session ≡ number + 1
  is : after ≡ session

won_same : (s t : ℕ) → from.Won s ≡ from.Won t → s ≡ t
won_same s t h = cc

won_row : (same last : Bool) (number s : ℕ) →
    let answer : Cas = if same then (if last then cas.Exhausted else cas.Won (number + 1)) else cas.Lost number in
    cas_message answer ≡ from.Won s → IsNext number s (number_after number answer)
won_row true false number s h = let e = won_same (number + 1) s h in record { above = sym e; is = e }
won_row true true number s h = absurd (let e : from.Exhausted ≡ from.Won s = h in cc)
won_row false last number s h = absurd (let e : from.Lost number ≡ from.Won s = h in cc)

won_next : (number s : ℕ) (request : ToRegister) → number_reply number request ≡ from.Won s → IsNext number s (number_then number request)
won_next number s to.Read h = absurd (let e : from.Value number ≡ from.Won s = h in cc)
won_next number s (to.Cas expected) h = won_row (number == expected) (number == last_session) number s h

row_grows : (same last : Bool) (number : ℕ) → number ≤ number_after number (if same then (if last then cas.Exhausted else cas.Won (number + 1)) else cas.Lost number)
row_grows true false number = omega arith
row_grows true true number = omega arith
row_grows false last number = omega arith

grows : (number : ℕ) (request : ToRegister) → number ≤ number_then number request
grows number to.Read = omega arith
grows number (to.Cas expected) = row_grows (number == expected) (number == last_session) number

-- ---- all of them

won_here : (number s : ℕ) (x y : Taken) → y.reply ≡ number_reply number y.request → x ≡ y → x.reply ≡ from.Won s → IsNext number s (number_then number y.request)
won_here number s x y honest same won = won_next number s y.request (sym honest ∙ ap (λ (z : Taken). z.reply) (sym same) ∙ won)

won_above : (number : ℕ) (taken : List Taken) (j t : ℕ) → IsHonest number taken → IsWonAt taken j t → number < t
won_above number [] j t honest won = absurd won.1
won_above number (y ∷ taken) zero t honest won =
    let next = won_here number t won.0 y honest.0 won.1 won.2 in
    omega (arith, next.above)
won_above number (y ∷ taken) (suc j) t honest won =
    let less = won_above (number_then number y.request) taken j t honest.1 won in
    let more = grows number y.request in
    omega (arith, less, more)

later : (number : ℕ) (taken : List Taken) (i j s t : ℕ) → IsHonest number taken → i < j → IsWonAt taken i s → IsWonAt taken j t → s < t
later number [] i j s t honest less first second = absurd first.1
later number (y ∷ taken) i zero s t honest less first second = absurd (omega (arith, less))
later number (y ∷ taken) zero (suc j) s t honest less first second =
    let next = won_here number s first.0 y honest.0 first.1 first.2 in
    let above = won_above (number_then number y.request) taken j t honest.1 second in
    omega (arith, next.is, above)
later number (y ∷ taken) (suc i) (suc j) s t honest less first second =
    later (number_then number y.request) taken i j s t honest.1 (omega (arith, less)) first second

either_less : (i j : ℕ) → i ≢ j → (i < j) ⊎ (j < i)
either_less i j other = grind arith

-- what is greater each time is there once
one_place : (P : ℕ → ℕ → Type 0) → ((i j s t : ℕ) → i < j → P i s → P j t → s < t) → (i j s : ℕ) → P i s → P j s → i ≡ j
one_place P rises i j s first second = elim (cases_eq i j) [
  | inl same ↦ same
  | inr other ↦ elim (either_less i j other) [
    | inl less ↦ absurd (let e = rises i j s s less first second in omega (arith, e))
    | inr more ↦ absurd (let e = rises j i s s more second first in omega (arith, e))
  ]
]

pub won_once : ASessionIsWonOnce
won_once = record {
  later = later;
  once = λ number taken i j s honest. one_place (IsWonAt taken) (λ i j s t. later number taken i j s t honest) i j s;
}

-- ---- over links

won_outcome : (same : Bool) (n s : ℕ) → Ok (cas.Won s) ≡ (if same then Ok (cas.Won n) else Err faults.Garbled) → from.Won n ≡ from.Won s
won_outcome true n s h = let e : Ok (cas.Won s) ≡ Ok (cas.Won n) = h in cc
won_outcome false n s h = absurd (let e : Ok (cas.Won s) ≡ Err faults.Garbled = h in cc)

lost_outcome : (same : Bool) (n s : ℕ) → Ok (cas.Won s) ≡ (if same then Err faults.Garbled else Ok (cas.Lost n)) → ⊥
lost_outcome true n s h = let e : Ok (cas.Won s) ≡ Err faults.Garbled = h in cc
lost_outcome false n s h = let e : Ok (cas.Won s) ≡ Ok (cas.Lost n) = h in cc

exhausted_outcome : (last : Bool) (s : ℕ) → Ok (cas.Won s) ≡ (if last then Ok cas.Exhausted else Err faults.Garbled) → ⊥
exhausted_outcome true s h = let e : Ok (cas.Won s) ≡ Ok cas.Exhausted = h in cc
exhausted_outcome false s h = let e : Ok (cas.Won s) ≡ Err faults.Garbled = h in cc

won_message : (number s : ℕ) (m : FromRegister) → Ok (cas.Won s) ≡ outcome_in number m → m ≡ from.Won s
won_message number s (from.Value n) h = absurd (let e : Ok (cas.Won s) ≡ Err faults.Garbled = h in cc)
won_message number s (from.Won n) h = won_outcome (n == number + 1) n s h
won_message number s (from.Lost n) h = absurd (lost_outcome (n == number) n s h)
won_message number s from.Exhausted h = absurd (exhausted_outcome (number == last_session) s h)

won_reply : (number s : ℕ) (reply : Reply) → Ok (cas.Won s) ≡ made_of (outcome_in number) (message_of reply) → reply ≡ replies.Message (of.FromRegister (from.Won s))
won_reply number s (replies.Message (of.FromRegister m)) h = ap (λ (x : FromRegister). replies.Message (of.FromRegister x)) (won_message number s m h)
won_reply number s (replies.Message (of.ToNode m)) h = absurd (let e : Ok (cas.Won s) ≡ Err faults.Garbled = h in cc)
won_reply number s (replies.Message (of.FromNode m)) h = absurd (let e : Ok (cas.Won s) ≡ Err faults.Garbled = h in cc)
won_reply number s (replies.Message (of.ToServer m)) h = absurd (let e : Ok (cas.Won s) ≡ Err faults.Garbled = h in cc)
won_reply number s (replies.Message (of.FromServer m)) h = absurd (let e : Ok (cas.Won s) ≡ Err faults.Garbled = h in cc)
won_reply number s (replies.Message (of.ToRegister m)) h = absurd (let e : Ok (cas.Won s) ≡ Err faults.Garbled = h in cc)
won_reply number s (replies.Message (of.Control m)) h = absurd (let e : Ok (cas.Won s) ≡ Err faults.Garbled = h in cc)
won_reply number s replies.Garbled h = absurd (let e : Ok (cas.Won s) ≡ Err faults.Garbled = h in cc)
won_reply number s replies.Failed h = absurd (let e : Ok (cas.Won s) ≡ Err faults.Failed = h in cc)

last_or : Exchange → List Exchange → Exchange
last_or x [] = x
last_or x (y ∷ ys) = last_or y ys

last_behind : (d : Exchange) (xs : List Exchange) (x : Exchange) → last_or d (xs ++ x ∷ []) ≡ x
unfolding last_or
last_behind d [] x = refl
last_behind d (y ∷ ys) x = last_behind y ys x

same_last : (xs ys : List Exchange) (x y : Exchange) → xs ++ x ∷ [] ≡ ys ++ y ∷ [] → x ≡ y
same_last xs ys x y e = sym (last_behind x xs x) ∙ ap (last_or x) e ∙ last_behind x ys y

replied_same : (m n : FromRegister) → of.FromRegister m ≡ of.FromRegister n → m ≡ n
replied_same m n h = cc

heard_same : (heard : Heard) (bytes : List ℕ) (s : ℕ) (x : Taken) → IsReply heard (replies.Message (of.FromRegister (from.Won s))) → heard ≡ links.Reply bytes → SpellsMessage bytes (of.FromRegister x.reply) → x.reply ≡ from.Won s
heard_same heard bytes s x read is replied =
    let won : SpellsMessage bytes (of.FromRegister (from.Won s)) = subst (λ (h : Heard). IsReply h (replies.Message (of.FromRegister (from.Won s)))) is read in
    replied_same x.reply (from.Won s) (one_spelling bytes bytes [] [] (of.FromRegister x.reply) (of.FromRegister (from.Won s)) replied won refl).0

answer_won : (taken : List Taken) (i s port number : ℕ) (old new : List Exchange) → IsAsked Cas port (to.Cas number) (outcome_in number) old new (Ok (cas.Won s)) → EndsAt taken i new → IsWonAt taken i s
answer_won taken i s port number old new call end =
    let x : Exchange = record { port = port; sent = message_frame (of.ToRegister (to.Cas number)); heard = call.exchanged.heard } in
    let same : x ≡ end.last = same_last old end.past x end.last (sym call.exchanged.past ∙ end.ends) in
    let read = subst (λ (r : Reply). IsReply call.exchanged.heard r) (won_reply number s call.reply call.made) call.exchanged.read in
    let heard : call.exchanged.heard ≡ links.Reply end.exchanged.bytes = ap (λ (e : Exchange). e.heard) same ∙ end.exchanged.heard in
    (end.was, end.at, heard_same call.exchanged.heard end.exchanged.bytes s end.was read heard end.exchanged.replied)

asked_won : (taken : List Taken) (i s port number : ℕ) (old new : List Exchange) (result : Result Cas RegisterFault) → result ≡ Ok (cas.Won s) → IsCasAt port number old new result → EndsAt taken i new → IsWonAt taken i s
asked_won taken i s port number old _ _ is (answered new result call) end =
    answer_won taken i s port number old new (subst (λ (r : Result Cas RegisterFault). IsAsked Cas port (to.Cas number) (outcome_in number) old new r) is call) end
asked_won taken i s port number old _ _ is (no_memory new call) end = absurd (let e : Err faults.Memory ≡ Ok (cas.Won s) = is in cc)

call_won : (taken : List Taken) (i s port number : ℕ) (old new : List Exchange) → IsCasAt port number old new (Ok (cas.Won s)) → EndsAt taken i new → IsWonAt taken i s
call_won taken i s port number old new call end = asked_won taken i s port number old new (Ok (cas.Won s)) refl call end

draw_won : (taken : List Taken) (i s port : ℕ) (old new : List Exchange) (result : Result Cas RegisterFault) → result ≡ Ok (cas.Won s) → IsDraw port old new result → EndsAt taken i new → IsWonAt taken i s
draw_won taken i s port old _ _ is (unread new fault asked) end = absurd (let e : Err fault ≡ Ok (cas.Won s) = is in cc)
draw_won taken i s port old _ _ is (tried between new number result asked call) end =
    asked_won taken i s port number between new result is call end

user_won : (taken : List Taken) (i s : ℕ) → IsWonByUser taken i s → IsWonAt taken i s
user_won taken i s (called port number old new call end) = call_won taken i s port number old new call end
user_won taken i s (drawn port old new draw end) = draw_won taken i s port old new (Ok (cas.Won s)) refl draw end

over_links : (number : ℕ) (taken : List Taken) (i j s t : ℕ) → IsHonest number taken → i < j → IsWonByUser taken i s → IsWonByUser taken j t → s < t
over_links number taken i j s t honest less first second = later number taken i j s t honest less (user_won taken i s first) (user_won taken j t second)

pub won_once_over_links : ASessionOverLinksIsWonOnce
won_once_over_links = record {
  later = over_links;
  once = λ number taken i j s honest. one_place (IsWonByUser taken) (λ i j s t. over_links number taken i j s t honest) i j s;
}
