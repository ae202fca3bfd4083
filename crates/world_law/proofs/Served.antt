-- What clients are told and what they apply stands in the one log.
use Rattle.std.proofs.Common.{◌≡◌, ℕ, zero, suc, ◌+◌, ◌-◌, ◌==◌, max, if◌then◌else◌, arith, refl, ap, sym, ◌∙◌, subst, List, [], ◌∷◌, take, drop, slice_get, Option, Some, None, map}
use Rattle.client_core.specs.Clients.{ClientState, is_same_head, takes_heads, entry_by, client_step}
use Rattle.proto_model.specs.Servers.{Config, ServerState, commit_mark}
use Rattle.proto_model.specs.Serving.{append_refusal, append_answers, committed_log, feed, shut_in, unless_shut, entry_or, served_answers}
use Rattle.proto_model.specs.declared.client_message.FromServer.{FromServer}
use Rattle.proto_model.specs.declared.client_message.ToServer.{ToServer}
use Rattle.proto_model.specs.declared.refusal.ReadRefusal.{ReadRefusal}
use Rattle.proto_model.specs.declared.refusal.Refusal.{Refusal}
use Rattle.world_law.specs.OneLog.{one_log}
use Rattle.world_law.specs.Safety.{IsApplied}
use Rattle.world_law.specs.Worlds.{WorldState, config_of}
use Rattle.world_law.specs.Deliveries.{answer_from}
use Rattle.net_model.specs.declared.mail.Envelope.{Envelope}
use Rattle.net_model.specs.declared.mail.Mail.{Mail}
use Rattle.net_model.specs.declared.mail.Party.{Party}
use Rattle.std.specs.List.{AllByRecursion}
use Rattle.tx_model.specs.Applications.{after_payload, serial}
use Rattle.tx_model.specs.Logs.{record_at}
use Rattle.tx_model.specs.Records.{head_of}
use Rattle.tx_model.specs.Transactions.{Transaction}
use Rattle.tx_model.specs.declared.record.Head.{Head}
use Rattle.tx_model.specs.declared.record.Record.{Record}
use Rattle.world_law.proofs.Later.{all_implied}
use Rattle.world_law.proofs.Lists.{IsFront, HasIds}
use Rattle.world_law.proofs.Places.{at_front, at_id, at_within, serial_next, serial_front}
use Rattle.world_law.proofs.ServerSends.{all_map}
use Rattle.world_law.proofs.Tests.{if_each, equal}
use Rattle.world_law.specs.Promises.{IsHeadIn, Stands, MailStands, AllStand}
use Rattle.net_model.specs.declared.mail.Mail.TheVariants as mail
use Rattle.proto_model.specs.declared.client_message.ToServer.TheVariants as to_server
use Rattle.proto_model.specs.declared.client_message.FromServer.TheVariants as answer
use Rattle.proto_model.specs.declared.refusal.ReadRefusal.TheVariants as unserved

pub record Served (w : WorldState) : Type 0 where
  pub sent : AllStand (one_log w) w.sent
  -- what a server takes for committed begins the one log, also once it is closed
  pub shown : (v : ℕ) → IsFront (committed_log (config_of w.cluster) (w.servers v)) (one_log w)
  pub applied : (c : ℕ) → IsApplied (one_log w) (w.clients c)

answer_longer : (xs ys : List Record) → IsFront xs ys → (m : FromServer) → Stands xs m → Stands ys m
answer_longer xs ys f (answer.Entry r) is = at_front xs ys r.id r f is
answer_longer xs ys f (answer.Committed request id) is = tt
answer_longer xs ys f (answer.Pending request id) is = tt
answer_longer xs ys f (answer.Refused request refusal) is = tt
answer_longer xs ys f (answer.Heads from committed heads) is =
    all_implied (IsHeadIn xs) (IsHeadIn ys)
    (λ h in_xs. record { of = in_xs.of; stands = at_front xs ys h.id in_xs.of f in_xs.stands; same = in_xs.same }) heads is
answer_longer xs ys f (answer.Flushed committed) is = tt
answer_longer xs ys f (answer.Unserved refusal) is = tt

pub mail_longer : (xs ys : List Record) → IsFront xs ys → (m : Mail) → MailStands xs m → MailStands ys m
mail_longer xs ys f (mail.FromServer m) is = answer_longer xs ys f m is
mail_longer xs ys f (mail.ToNode m) is = tt
mail_longer xs ys f (mail.FromNode m) is = tt
mail_longer xs ys f (mail.ToServer m) is = tt

pub sent_longer : (xs ys : List Record) → IsFront xs ys → (sent : List Envelope) → AllStand xs sent → AllStand ys sent
sent_longer xs ys f sent all =
    all_implied (λ (e : Envelope). MailStands xs e.message) (λ (e : Envelope). MailStands ys e.message) (λ e. mail_longer xs ys f e.message) sent all

pub applied_longer : (xs ys : List Record) → IsFront xs ys → (cl : ClientState) → IsApplied xs cl → IsApplied ys cl
applied_longer xs ys f cl is =
    record { fits = (let a = is.fits in let b = f.fits in omega arith); serial = is.serial ∙ serial_front xs ys cl.mark f is.fits }

applies : (log : List Record) (cl : ClientState) (r : Record) (rest : List Head) → IsApplied log cl → record_at log r.id ≡ Some r
    → r.id ≡ cl.mark + 1 → IsApplied log (record cl { mark = cl.mark + 1; heads = rest; app = after_payload cl.app r.tx.payload })
applies log cl r rest is at id =
    let e : r.id ≡ suc cl.mark = omega (arith, id) in
    let here : record_at log (suc cl.mark) ≡ Some r = subst (λ k. record_at log k ≡ Some r) e at in
    let within = at_within log (suc cl.mark) r here in
    let one : suc cl.mark ≡ cl.mark + 1 = omega arith in
    record {
      fits = omega (arith, within.1);
      serial = ap (λ a. after_payload a r.tx.payload) is.serial ∙ (sym (serial_next log cl.mark r here) ∙ ap (serial log) one);
    }

entry_applied : (log : List Record) (cl : ClientState) (r : Record) (heads : List Head) → IsApplied log cl → record_at log r.id ≡ Some r
    → IsApplied log (entry_by after_payload cl r heads)
entry_applied log cl r [] is at = is
entry_applied log cl r (head ∷ rest) is at =
    let after : ClientState = record cl { mark = cl.mark + 1; heads = rest; app = after_payload cl.app r.tx.payload } in
    let none : ClientState = record cl { heads = [] } in
    let same : IsApplied log none = record { fits = is.fits; serial = is.serial } in
    if_each (IsApplied log) (r.id == cl.mark + 1) (if is_same_head head (head_of r) then after else none) cl
    (λ id. if_each (IsApplied log) (is_same_head head (head_of r)) after none (λ _. applies log cl r rest is at (equal r.id (cl.mark + 1) id)) (λ _. same))
    (λ _. is)

pub client_applied : (log : List Record) (cl : ClientState) (m : FromServer) → IsApplied log cl → Stands log m → IsApplied log (client_step cl m)
client_applied log cl (answer.Heads from committed heads) is at =
    if_each (IsApplied log) (takes_heads cl from heads) (record cl { heads = heads }) cl (λ _. record { fits = is.fits; serial = is.serial }) (λ _. is)
client_applied log cl (answer.Entry r) is at = entry_applied log cl r cl.heads is at
client_applied log cl (answer.Committed request id) is at = is
client_applied log cl (answer.Pending request id) is at = is
client_applied log cl (answer.Refused request refusal) is at = is
client_applied log cl (answer.Flushed committed) is at = is
client_applied log cl (answer.Unserved refusal) is at = is

unless_fits : (log : List Record) (shut : Option ReadRefusal) (m : FromServer) → Stands log m → Stands log (unless_shut shut m)
unless_fits log None m is = is
unless_fits log (Some r) m is = tt

entry_fits : (log shown : List Record) (committed id : ℕ) (found : Option Record) → IsFront shown log → HasIds log → record_at shown id ≡ found
    → Stands log (entry_or committed found)
entry_fits log shown committed id None front ids is = tt
entry_fits log shown committed id (Some r) front ids is =
    let at : record_at log id ≡ Some r = at_front shown log id r front is in
    let same : r.id ≡ id = at_id log id r ids at in
    subst (λ k. record_at log k ≡ Some r) (sym same) at

-- each record of a front stands in the log at its id
pub all_at : {A : Type 0} (P : A → Type 0) (xs : List A) → ((k : ℕ) (x : A) → slice_get xs k ≡ Some x → P x) → AllByRecursion P xs
all_at P [] f = tt
all_at P (x ∷ xs) f = (f 0 x refl, all_at P xs (λ k y e. f (suc k) y e))

record_stands : (log shown : List Record) → IsFront shown log → HasIds log → (k : ℕ) (r : Record) → slice_get shown k ≡ Some r
    → record_at log r.id ≡ Some r
record_stands log shown front ids k r is =
    let at : record_at log (suc k) ≡ Some r = at_front shown log (suc k) r front is in
    subst (λ j. record_at log j ≡ Some r) (sym (at_id log (suc k) r ids at)) at

pub all_taken : {A : Type 0} (P : A → Type 0) (k : ℕ) (xs : List A) → AllByRecursion P xs → AllByRecursion P (take k xs)
all_taken P zero xs all = tt
all_taken P (suc k) [] all = tt
all_taken P (suc k) (x ∷ xs) all = (all.0, all_taken P k xs all.1)

pub all_dropped : {A : Type 0} (P : A → Type 0) (k : ℕ) (xs : List A) → AllByRecursion P xs → AllByRecursion P (drop k xs)
all_dropped P zero xs all = all
all_dropped P (suc k) [] all = tt
all_dropped P (suc k) (x ∷ xs) all = all_dropped P k xs all.1

heads_stand : (log shown : List Record) → IsFront shown log → HasIds log → (at most : ℕ)
    → AllByRecursion (IsHeadIn log) (map head_of (take most (drop at shown)))
heads_stand log shown front ids at most =
    let P : Record → Type 0 = λ r. record_at log r.id ≡ Some r in
    let all = all_taken P most (drop at shown) (all_dropped P at shown (all_at P shown (record_stands log shown front ids))) in
    all_map (IsHeadIn log) head_of (take most (drop at shown))
    (all_implied P (λ r. IsHeadIn log (head_of r)) (λ r is. record { of = r; stands = is; same = refl }) (take most (drop at shown)) all)

append_fits : (log : List Record) (v : ℕ) (asker : Party) (tx : Transaction) (o : Option Refusal)
    → AllStand log (map (answer_from v asker) (append_answers tx o))
append_fits log v asker tx None = tt
append_fits log v asker tx (Some r) = (tt, tt)

pub answers_fit : (log : List Record) (c : Config) (sv : ServerState) (v : ℕ) (asker : Party) (m : ToServer) → IsFront (committed_log c sv) log
    → HasIds log → AllStand log (map (answer_from v asker) (served_answers c sv m))
answers_fit log c sv v asker (to_server.Append tx) front ids = append_fits log v asker tx (append_refusal c sv tx)
answers_fit log c sv v asker (to_server.Feed from max) front ids = (
  unless_fits log (shut_in sv.phase) (if from == 0 then answer.Unserved unserved.BadId else answer.Heads from (commit_mark c sv) (feed c sv from max))
      (if_each (Stands log) (from == 0) (answer.Unserved unserved.BadId) (answer.Heads from (commit_mark c sv) (feed c sv from max)) (λ _. tt)
      (λ _. heads_stand log (committed_log c sv) front ids (from - 1) max)),
  tt,
)
answers_fit log c sv v asker (to_server.Get id) front ids = (
  unless_fits log (shut_in sv.phase) (if id == 0 then answer.Unserved unserved.BadId else entry_or (commit_mark c sv) (record_at (committed_log c sv) id))
      (if_each (Stands log) (id == 0) (answer.Unserved unserved.BadId) (entry_or (commit_mark c sv) (record_at (committed_log c sv) id)) (λ _. tt)
      (λ _. entry_fits log (committed_log c sv) (commit_mark c sv) id (record_at (committed_log c sv) id) front ids refl)),
  tt,
)
answers_fit log c sv v asker to_server.Flush front ids = (unless_fits log (shut_in sv.phase) (answer.Flushed (commit_mark c sv)) tt, tt)
