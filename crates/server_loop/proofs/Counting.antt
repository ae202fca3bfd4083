-- Each node that is out by a failed exchange has a counted fault of its own.
use Rattle.std.proofs.Common.{◌≡◌, ◌≢◌, ℕ, zero, suc, ◌+◌, ◌<◌, List, [], ◌∷◌, length, set, Option, Some, Result, Ok, Err, refl, sym, ap, ◌∙◌, arith}
use Rattle.std.specs.Prelude.{OnOk, slice_index_or}
use Rattle.proto_model.specs.declared.message.Phase.{Phase}
use Rattle.proto_model.specs.declared.message.Phase.TheVariants as phases
use Rattle.proto_model.specs.declared.message.FromNode.{FromNode}
use Rattle.wire_codec.specs.declared.message.Message.{Message}
use Rattle.wire_codec.specs.declared.message.Message.TheVariants as of
use Rattle.session_register.specs.declared.register.Cas.{Cas}
use Rattle.session_register.specs.declared.register.Cas.TheVariants as cas
use Rattle.session_register.specs.declared.register.RegisterFault.{RegisterFault}
use Rattle.session_register.specs.declared.register.RegisterFault.TheVariants as faults
use Rattle.server_loop.specs.declared.driving.Out.{Out}
use Rattle.server_loop.specs.declared.driving.Out.TheVariants.{In, Failed}
use Rattle.server_loop.specs.declared.awaiting.Answer.{Answer}
use Rattle.server_loop.specs.declared.awaiting.Answer.TheVariants as answers
use Rattle.server_loop.specs.declared.exchanges.Reply.{Reply}
use Rattle.server_loop.specs.declared.exchanges.Reply.TheVariants as replies
use Rattle.server_loop.specs.declared.end.End.{End}
use Rattle.server_loop.specs.declared.end.End.TheVariants as ends
use Rattle.server_loop.specs.Exchanges.{HasReplyCause}
use Rattle.server_loop.specs.Drives.{answer_of}
use Rattle.server_loop.specs.Failures.{failure, failures, RoseBy, HasAnswerCause, HasCounted}
use Rattle.server_loop.specs.Ends.{IsServingEnd, IsUnannounced, HasCountedOuts}
use Rattle.server_loop.specs.Serving.{all_in}
use Rattle.server_loop.specs.Sessions.{session_of, recovery_end}

-- ---- one exchange

not_failed : (m : Message) → answer_of (replies.Message m) ≢ answers.Failed
not_failed (of.FromNode m) e = cc
not_failed (of.FromRegister m) e = cc
not_failed (of.ToNode m) e = cc
not_failed (of.ToServer m) e = cc
not_failed (of.FromServer m) e = cc
not_failed (of.ToRegister m) e = cc
not_failed (of.Control m) e = cc

reply_counted : {E : Type 0} (before now : ℕ) (reply : Reply) → HasReplyCause {E = E} before now (Ok reply) → HasAnswerCause before now (answer_of reply)
reply_counted before now replies.Failed h = record { failed = λ _. h.failed refl; none = λ not. absurd (not refl) }
reply_counted before now replies.Garbled h = record { failed = λ e. absurd (cc); none = λ _. h.none (λ e. cc) }
reply_counted before now (replies.Message m) h = record { failed = λ e. absurd (not_failed m e); none = λ _. h.none (λ e. cc) }

pub answer_cause : {E : Type 0} (before now : ℕ) (reply : Reply) (exchanged : Result Reply E) (answer : Answer) → exchanged ≡ Ok reply → HasReplyCause before now exchanged →
    answer ≡ answer_of reply → HasAnswerCause before now answer
answer_cause before now reply exchanged answer e h is = rw is (reply_counted before now reply (rw e at h))

-- ---- one node

failures_set : (list : List Out) (i : ℕ) (x : Out) → i < length list → slice_index_or list i In ≡ In → failures (set list i x) ≡ failures list + failure x
unfolding failures
failures_set [] i x low is = absurd (omega (arith, low))
failures_set (y ∷ list) zero x low is = let none : failure y ≡ 0 = ap failure is in omega (arith, none)
failures_set (y ∷ list) (suc i) x low is = let rest = failures_set list i x (omega (arith, low)) is in omega (arith, rest)

pub none_counted : (count : ℕ) (list : List Out) → HasCounted count count list list
none_counted count list = record { more = omega arith; rose = omega arith; none = λ _. refl }

-- a node that is not out by a failed exchange
pub still_counted : (list : List Out) (i : ℕ) (x : Out) (before now : ℕ) → failure x ≡ 0 → i < length list → slice_index_or list i In ≡ In → now ≡ before → HasCounted before now list (set list i x)
still_counted list i x before now quiet low is same =
    let sum = failures_set list i x low is in
    record { more = omega (arith, sum); rose = omega (arith, sum, quiet, same); none = λ _. same }

-- one that is
pub failed_counted : (list : List Out) (i : ℕ) (before now : ℕ) → i < length list → slice_index_or list i In ≡ In → RoseBy before now 1 → HasCounted before now list (set list i Failed)
failed_counted list i before now low is rose =
    let sum : failures (set list i Failed) ≡ failures list + 1 = failures_set list i Failed low is in
    record { more = omega (arith, sum); rose = omega (arith, sum, rose); none = λ same. absurd (omega (arith, sum, same)) }

-- one whose reply was taken
pub heard_counted : {T E : Type 0} (list : List Out) (i : ℕ) (x : Out) (answer : Answer) (reply : FromNode) (result : Result T E) → answer ≡ answers.From reply → failure x ≡ 0 → i < length list →
    slice_index_or list i In ≡ In → OnOk result ((before now : ℕ) → HasAnswerCause before now answer → HasCounted before now list (set list i x))
heard_counted list i x answer reply (Ok _) said quiet low is = λ before now h. still_counted list i x before now quiet low is (h.none (λ e. let f : answers.From reply ≡ answers.Failed = sym said ∙ e in cc))
heard_counted list i x answer reply (Err e) said quiet low is = tt

pub counted_both : (a b c : ℕ) (first second third : List Out) → HasCounted a b first second → HasCounted b c second third → HasCounted a c first third
counted_both a b c first second third p q =
    let m = p.more in
    let n = q.more in
    let r = p.rose in
    let s = q.rose in
    record {
      more = omega (arith, m, n);
      rose = omega (arith, m, n, r, s);
      none = λ same. q.none (omega (arith, m, n, same)) ∙ p.none (omega (arith, m, n, same));
    }

-- ---- an end

-- by a draw no node is out
pub drawn_counted : (before now : ℕ) (answer : Result Cas RegisterFault) (end : End) → Err end ≡ session_of answer → HasCountedOuts end before now
drawn_counted before now (Ok (cas.Won session)) end e = absurd (cc)
drawn_counted before now (Ok (cas.Lost other)) end e = let f : end ≡ ends.TakenOver other = cc in rw f tt
drawn_counted before now (Ok cas.Exhausted) end e = let f : end ≡ ends.Exhausted = cc in rw f tt
drawn_counted before now (Err faults.Failed) end e = let f : end ≡ ends.Register = cc in rw f tt
drawn_counted before now (Err faults.Garbled) end e = let f : end ≡ ends.Garbled = cc in rw f tt
drawn_counted before now (Err faults.Memory) end e = let f : end ≡ ends.Memory = cc in rw f tt

-- after a draw that won nothing was counted
pub won_unfailed : (answer : Result Cas RegisterFault) (session : ℕ) → Ok session ≡ session_of answer → answer ≢ Err faults.Failed
won_unfailed answer session e f = let g : Ok session ≡ Err ends.Register = e ∙ ap session_of f in cc

none_failed : failures all_in ≡ 0
unfolding failures
none_failed = refl

listed : (before now : ℕ) (out : List Out) (end : End) → end ≡ ends.NoQuorum out → RoseBy before now (failures out) → HasCountedOuts end before now
listed before now out end is rose = rw is rose

-- nodes that are out after a drive at whose start none was, before which nothing was counted
pub recovered_counted : (old before now : ℕ) (phase : Phase) (out : List Out) (end : End) → before ≡ old → HasCounted before now all_in out → Some end ≡ recovery_end phase out → HasCountedOuts end old now
recovered_counted old before now phase out end same counted e =
    let start = none_failed in
    let r = counted.rose in
    of_phase phase e (omega (arith, start, r, same))
  where
    of_phase : (phase : Phase) → Some end ≡ recovery_end phase out → RoseBy old now (failures out) → HasCountedOuts end old now
    of_phase phases.Running e rose = absurd (cc)
    of_phase (phases.Closed p) e rose = let f : end ≡ ends.TakenOver p = cc in rw f tt
    of_phase phases.Idle e rose = listed old now out end (cc) rose
    of_phase phases.Opening e rose = listed old now out end (cc) rose
    of_phase phases.Fetching e rose = listed old now out end (cc) rose
    of_phase phases.Repairing e rose = listed old now out end (cc) rose

pub serving_counted : (before now : ℕ) (end : End) → IsServingEnd end → HasCountedOuts end before now
serving_counted before now (ends.NoQuorum out) h = absurd h
serving_counted before now ends.Bye h = tt
serving_counted before now ends.Port h = tt
serving_counted before now ends.Turns h = tt
serving_counted before now ends.Peer h = tt
serving_counted before now ends.Register h = tt
serving_counted before now ends.Garbled h = tt
serving_counted before now ends.Exhausted h = tt
serving_counted before now (ends.TakenOver p) h = tt
serving_counted before now ends.WriteFault h = tt
serving_counted before now ends.Memory h = tt

pub unannounced_counted : (before now : ℕ) (x y : Option (List ℕ)) (first second : List ℕ) (end : End) → IsUnannounced x y first second end → HasCountedOuts end before now
unannounced_counted before now x y first second (ends.NoQuorum out) h = absurd h
unannounced_counted before now x y first second ends.Bye h = tt
unannounced_counted before now x y first second ends.Port h = tt
unannounced_counted before now x y first second ends.Turns h = tt
unannounced_counted before now x y first second ends.Peer h = tt
unannounced_counted before now x y first second ends.Register h = tt
unannounced_counted before now x y first second ends.Garbled h = tt
unannounced_counted before now x y first second ends.Exhausted h = tt
unannounced_counted before now x y first second (ends.TakenOver p) h = tt
unannounced_counted before now x y first second ends.WriteFault h = tt
unannounced_counted before now x y first second ends.Memory h = tt
