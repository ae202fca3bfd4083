-- What a server says is valid, and where its answers hold copies.
use Rattle.std.proofs.Common.{◌≡◌, ◌≢◌, ℕ, zero, suc, ◌+◌, ◌-◌, ◌<◌, ◌≤◌, nat_lt, ◌==◌, if◌then◌else◌, Bool, true, false, List, [], ◌∷◌, length, map, take, drop, Option, Some, None, Result, Ok, Err, OnErr, refl, ap, sym, subst, ◌∙◌, arith}
use Rattle.std.specs.Prelude.{slice_get, IfOk, IfSome}
use Rattle.std.specs.List.{AllByRecursion}
use Rattle.std.specs.declared.alloc.AllocError.{AllocError}
use Rattle.std.proofs.lemmas.Bool.Decides.{nat_tests}
use Rattle.std.proofs.lemmas.List.{length-take}
use Rattle.tx_model.specs.declared.record.Record.{Record}
use Rattle.tx_model.specs.Records.{IsRecord, RiseByOne, head_of}
use Rattle.tx_model.specs.Spelling.{IsCount}
use Rattle.tx_model.specs.Logs.{record_at}
use Rattle.tx_model.proofs.Batches.{RiseByOne-take, RiseByOne-drop}
use Rattle.proto_model.specs.declared.message.Phase.{Phase}
use Rattle.proto_model.specs.declared.message.Phase.TheVariants.{Idle, Opening, Fetching, Repairing, Running, Closed}
use Rattle.proto_model.specs.declared.message.ToNode.{ToNode}
use Rattle.proto_model.specs.declared.message.FromNode.{FromNode}
use Rattle.proto_model.specs.declared.message.FromNode.TheVariants as from_node
use Rattle.proto_model.specs.declared.refusal.ReadRefusal.{ReadRefusal}
use Rattle.proto_model.specs.declared.refusal.ReadRefusal.TheVariants as unserved
use Rattle.proto_model.specs.declared.client_message.FromServer.{FromServer}
use Rattle.proto_model.specs.declared.client_message.FromServer.TheVariants.{Heads, Flushed, Unserved}
use Rattle.proto_model.specs.Quorums.{reached}
use Rattle.proto_model.specs.Servers.{Config, ServerState, Waiting, ack_answers, acked_by, commit_mark, holds, is_due, received_answers, takes_ack}
use Rattle.proto_model.specs.Serving.{committed_log, feed, shut_in, unless_shut, entry_or, feed_answer, get_answer, flush_answer}
use Rattle.proto_model.specs.Sending.{next_message, next_messages, one_message}
use Rattle.proto_model.specs.Validity.{IsAskedId, IsUpTo, IsHead, HeadsRise, AreHeads, IsValidReadRefusal, IsValidToNode, IsValidFromServer}
use Rattle.proto_model.specs.Sanity.{IsValidServer}
use Rattle.proto_model.proofs.TableLemmas.{either, if_each, AllByRecursion-append}
use Rattle.proto_model.proofs.SaneServers.{messages}
use Rattle.feed_service.proofs.Parts.{log_within}
use Rattle.partition_server.specs.declared.fault.ReadFault.{ReadFault}
use Rattle.partition_server.specs.declared.fault.ReadFault.TheVariants as unread
use Rattle.partition_server.specs.Answers.{addressed}
use Rattle.partition_server.specs.Faults.{read_refusal_of, or_unserved, feed_refusal, entry_refusal, holds_copies}
use Rattle.partition_server.specs.Waits.{WaitUpTo}
use Rattle.partition_server.proofs.Waits.{AreValidAnswers, due_valid}

-- ---- messages to nodes

pub next_valid : (c : Config) (sv : ServerState) (i : ℕ) (r : Result (Option ToNode) AllocError) → IsValidServer c sv → IfOk r (λ m. m ≡ next_message c sv i) → IfOk r (λ m. IfSome m IsValidToNode)
next_valid c sv i (Ok None) ok h = tt
next_valid c sv i (Ok (Some m)) ok h = messages c sv i m ok (sym h)
next_valid c sv i (Err e) ok h = tt

pub some_valid : (c : Config) (sv : ServerState) (i : ℕ) (m : ToNode) → IsValidServer c sv → Some m ≡ next_message c sv i → IsValidToNode m
some_valid c sv i m ok is = messages c sv i m ok (sym is)

-- a message that is what another one is
pub next_is : (r : Result (Option ToNode) AllocError) {m n : Option ToNode} → m ≡ n → IfOk r (λ x. x ≡ m) → IfOk r (λ x. x ≡ n)
next_is (Ok x) same h = h ∙ same
next_is (Err e) same h = tt

abbrev AreValidMessages : List (ℕ × ToNode) → Type 0
AreValidMessages sent = AllByRecursion (λ (s : ℕ × ToNode). IsValidToNode s.1) sent

one_valid : (c : Config) (sv : ServerState) (i : ℕ) (m : Option ToNode) → IsValidServer c sv → next_message c sv i ≡ m → AreValidMessages (one_message i m)
one_valid c sv i None ok is = tt
one_valid c sv i (Some m) ok is = (messages c sv i m ok is, tt)

pub all_next_valid : (c : Config) (sv : ServerState) (n : ℕ) → IsValidServer c sv → AreValidMessages (next_messages c sv n)
all_next_valid c sv zero ok = tt
all_next_valid c sv (suc n) ok =
    AllByRecursion-append (λ (s : ℕ × ToNode). IsValidToNode s.1) (next_messages c sv n) (one_message (suc n) (next_message c sv (suc n)))
    (all_next_valid c sv n ok) (one_valid c sv (suc n) (next_message c sv (suc n)) ok refl)

-- ---- answers that became due

ack_valid : (c : Config) (sv : ServerState) (i len : ℕ) → RiseByOne 1 sv.log → WaitUpTo (length sv.log) sv.waiting → AreValidAnswers (map addressed (ack_answers c sv i len))
ack_valid c sv i len rise ok =
    either (λ ws. AreValidAnswers (map addressed ws)) (takes_ack c sv i len) (is_due (commit_mark c (acked_by sv i len)) sv.waiting) []
    (due_valid (commit_mark c (acked_by sv i len)) (length sv.log) sv.waiting (log_within sv.log rise) ok) tt

pub heard_valid : (c : Config) (sv : ServerState) (i : ℕ) (m : FromNode) → RiseByOne 1 sv.log → WaitUpTo (length sv.log) sv.waiting → AreValidAnswers (map addressed (received_answers c sv i m))
heard_valid c sv i (from_node.Opened s adopted low len) rise ok = tt
heard_valid c sv i (from_node.Stale s p) rise ok = tt
heard_valid c sv i (from_node.Unopened s p) rise ok = tt
heard_valid c sv i (from_node.Records s batch) rise ok = tt
heard_valid c sv i (from_node.Staged s upto) rise ok = tt
heard_valid c sv i (from_node.StageAt s next) rise ok = tt
heard_valid c sv i (from_node.Adopted s len) rise ok = ack_valid c sv i len rise ok
heard_valid c sv i (from_node.Acked s len) rise ok = ack_valid c sv i len rise ok
heard_valid c sv i (from_node.Gap s len) rise ok = tt
heard_valid c sv i (from_node.NotAdopted s adopted) rise ok = tt
heard_valid c sv i (from_node.LowSet s low) rise ok = tt

-- ---- reads

reached_within : (n : ℕ) (reaches : ℕ → ℕ → Bool) (k : ℕ) → reached n reaches k ≤ k
reached_within n reaches zero = omega arith
reached_within n reaches (suc k) =
    let rest = reached_within n reaches k in
    either (λ x. x ≤ suc k) _ (suc k) (reached n reaches k) (omega arith) (omega (arith, rest))

pub mark_within : (c : Config) (sv : ServerState) → commit_mark c sv ≤ length sv.log
mark_within c sv = reached_within c.nodes (holds sv) (length sv.log)

pub mark_count : (c : Config) (sv : ServerState) → RiseByOne 1 sv.log → IsCount (commit_mark c sv)
mark_count c sv rise = let a = mark_within c sv in let b = log_within sv.log rise in omega (arith, a, b)

abbrev IsValidOrShown : Option ReadRefusal → Type 0
IsValidOrShown None = Unit {0}
IsValidOrShown (Some refusal) = IsValidReadRefusal refusal

shut_valid : (phase : Phase) → IsValidOrShown (shut_in phase)
shut_valid Running = tt
shut_valid (Closed n) = tt
shut_valid Idle = tt
shut_valid Opening = tt
shut_valid Fetching = tt
shut_valid Repairing = tt

unless_valid : (refusal : Option ReadRefusal) (answer : FromServer) → IsValidOrShown refusal → IsValidFromServer answer → IsValidFromServer (unless_shut refusal answer)
unless_valid None answer p q = q
unless_valid (Some refusal) answer p q = p

head_valid : (r : Record) → IsRecord r → IsHead (head_of r)
head_valid r is = record { id = is.id; session = is.session; mark = is.tx.mark; reads = is.tx.reads; writes = is.tx.writes; apart = is.tx.apart; count = is.tx.count }

heads_rise : (id : ℕ) (records : List Record) → RiseByOne id records → HeadsRise id (map head_of records)
unfolding RiseByOne HeadsRise
heads_rise id [] rise = tt
heads_rise id (r ∷ records) rise = (head_valid r rise.0, rise.1, heads_rise (id + 1) records rise.2)

nothing_from : (id : ℕ) → RiseByOne id []
unfolding RiseByOne
nothing_from id = tt

drop_past : {A : Type 0} (n : ℕ) (xs : List A) → length xs ≤ n → drop n xs ≡ []
drop_past zero [] h = refl
drop_past zero (x ∷ xs) h = absurd (omega (arith, h))
drop_past (suc n) [] h = refl
drop_past (suc n) (x ∷ xs) h = drop_past n xs (omega (arith, h))

rest_rises : (log : List Record) (n : ℕ) (b : Bool) → nat_lt (length log) n ≡ b → RiseByOne 1 log → RiseByOne (1 + n) (drop n log)
rest_rises log n true e rise = let past : length log ≤ n = grind (arith, nat_tests, e) in rw (drop_past n log past) (nothing_from (1 + n))
rest_rises log n false e rise = RiseByOne-drop 1 log n (grind (arith, nat_tests, e)) rise

shown_rise : (log : List Record) (from max : ℕ) → from ≢ 0 → RiseByOne 1 log → RiseByOne from (take max (drop (from - 1) log))
shown_rise log from max some rise =
    let e : 1 + (from - 1) ≡ from = omega (arith, some) in
    RiseByOne-take from (drop (from - 1) log) max (subst (λ (n : ℕ). RiseByOne n (drop (from - 1) log)) e (rest_rises log (from - 1) (nat_lt (length log) (from - 1)) refl rise))

length-map : {A B : Type 0} (f : A → B) (xs : List A) → length (map f xs) ≡ length xs
length-map f [] = refl
length-map f (x ∷ xs) = ap suc (length-map f xs)

fed_few : (xs : List Record) (max : ℕ) → max ≤ 16 → length (map head_of (take max xs)) ≤ 16
fed_few xs max few = let a = length-map head_of (take max xs) in let b = length-take max xs in omega (arith, a, b)

pub heads_valid : (c : Config) (sv : ServerState) (from max : ℕ) → RiseByOne 1 sv.log → from ≢ 0 → max ≤ 16 → AreHeads from (feed c sv from max)
heads_valid c sv from max rise some few =
    let log : List Record = committed_log c sv in
    record {
      few = fed_few (drop (from - 1) log) max few;
      rise = heads_rise from (take max (drop (from - 1) log)) (shown_rise log from max some (RiseByOne-take 1 sv.log (commit_mark c sv) rise));
    }

pub feed_valid : (c : Config) (sv : ServerState) (from max : ℕ) → RiseByOne 1 sv.log → IsAskedId from → IsUpTo 16 max → IsValidFromServer (feed_answer c sv from max)
feed_valid c sv from max rise asked few =
    unless_valid (shut_in sv.phase) _ (shut_valid sv.phase)
    (if_each IsValidFromServer (from == 0) (Unserved unserved.BadId) (Heads from (commit_mark c sv) (feed c sv from max))
    (λ _. tt)
    (λ other. (asked, mark_count c sv rise, heads_valid c sv from max rise (grind (arith, nat_tests, other)) few.few)))

got_valid : (id : ℕ) (records : List Record) (k : ℕ) (mark : ℕ) → IsCount mark → RiseByOne id records → IsValidFromServer (entry_or mark (slice_get records k))
unfolding RiseByOne
got_valid id [] k mark small rise = small
got_valid id (r ∷ records) zero mark small rise = rise.0
got_valid id (r ∷ records) (suc k) mark small rise = got_valid (id + 1) records k mark small rise.2

at_valid : (log : List Record) (id mark : ℕ) → IsCount mark → RiseByOne 1 log → IsValidFromServer (entry_or mark (record_at log id))
at_valid log zero mark small rise = small
at_valid log (suc k) mark small rise = got_valid 1 log k mark small rise

pub get_valid : (c : Config) (sv : ServerState) (id : ℕ) → RiseByOne 1 sv.log → IsValidFromServer (get_answer c sv id)
get_valid c sv id rise =
    unless_valid (shut_in sv.phase) _ (shut_valid sv.phase)
    (either IsValidFromServer (id == 0) (Unserved unserved.BadId) (entry_or (commit_mark c sv) (record_at (committed_log c sv) id)) tt
    (at_valid (committed_log c sv) id (commit_mark c sv) (mark_count c sv rise) (RiseByOne-take 1 sv.log (commit_mark c sv) rise)))

pub flush_valid : (c : Config) (sv : ServerState) → RiseByOne 1 sv.log → IsValidFromServer (flush_answer c sv)
flush_valid c sv rise = unless_valid (shut_in sv.phase) (Flushed (commit_mark c sv)) (shut_valid sv.phase) (mark_count c sv rise)

-- ---- a record that is shown is copied

found_copied : (records : List Record) (k mark : ℕ) → k < length records → holds_copies (entry_or mark (slice_get records k)) ≡ true
found_copied [] k mark low = absurd (omega (arith, low))
found_copied (r ∷ records) zero mark low = refl
found_copied (r ∷ records) (suc k) mark low = found_copied records k mark (omega (arith, low))

at_copied : (log : List Record) (id mark : ℕ) → id ≢ 0 → id ≤ length log → holds_copies (entry_or mark (record_at log id)) ≡ true
at_copied log zero mark some low = absurd (some refl)
at_copied log (suc k) mark some low = found_copied log k mark (omega (arith, low))

shut_copied : (shut : Option ReadRefusal) (a : Option ReadRefusal) (answer : FromServer) → or_unserved shut a ≡ None → (a ≡ None → holds_copies answer ≡ true) → holds_copies (unless_shut shut answer) ≡ true
shut_copied None a answer none is = is none
shut_copied (Some refusal) a answer none is = absurd (let e : Some refusal ≡ None = none in cc)

or_later : (a b : Option ReadRefusal) → or_unserved a b ≡ None → (a ≡ None) × (b ≡ None)
or_later None b none = (refl, none)
or_later (Some refusal) b none = absurd (let e : Some refusal ≡ None = none in cc)

if_none : (b : Bool) (x : ReadRefusal) → (if b then Some x else None) ≡ None → b ≡ false
if_none true x h = absurd (let e : Some x ≡ None = h in cc)
if_none false x h = refl

pub get_copied : (c : Config) (sv : ServerState) (id : ℕ) → entry_refusal c sv id ≡ None → holds_copies (get_answer c sv id) ≡ true
get_copied c sv id none =
    let both = or_later (feed_refusal sv id) (if nat_lt (commit_mark c sv) id then Some (unserved.NotYet (commit_mark c sv)) else None) none in
    let late = if_none (nat_lt (commit_mark c sv) id) (unserved.NotYet (commit_mark c sv)) both.1 in
    let low : id ≤ commit_mark c sv = grind (arith, nat_tests, late) in
    let within = mark_within c sv in
    let len = length-take (commit_mark c sv) sv.log in
    shut_copied (shut_in sv.phase) (if id == 0 then Some unserved.BadId else None) _ both.0
    (λ zero_none.
    if_each (λ a. holds_copies a ≡ true) (id == 0) (Unserved unserved.BadId) (entry_or (commit_mark c sv) (record_at (committed_log c sv) id))
    (λ same. absurd (let test = if_none (id == 0) unserved.BadId zero_none in let e : true ≡ false = sym same ∙ test in cc))
    (λ other. at_copied (committed_log c sv) id (commit_mark c sv) (grind (arith, nat_tests, other)) (omega (arith, low, within, len))))

-- where a fault that is running out of memory comes only without a refusal
pub copied_on_error : {A E : Type 0} (r : Result A E) (fault : ReadFault) (answer : FromServer) (refusal : Option ReadRefusal) → OnErr r (fault ≡ unread.Memory) → read_refusal_of fault ≡ refusal →
    (refusal ≡ None → holds_copies answer ≡ true) → OnErr r (holds_copies answer ≡ true)
copied_on_error (Ok x) fault answer refusal memory told is = tt
copied_on_error (Err e) fault answer refusal memory told is = is (sym told ∙ ap read_refusal_of memory)

-- the same of what answers, where it says so of a list
pub result_valid : {V E : Type 0} (items : V → List (ℕ × FromServer)) (r : Result V E) (waiting : List Waiting) → IfOk r (λ v. items v ≡ map addressed waiting) → AreValidAnswers (map addressed waiting) → IfOk r (λ v. AreValidAnswers (items v))
result_valid items (Ok v) waiting is valid = subst AreValidAnswers (sym is) valid
result_valid items (Err e) waiting is valid = tt
