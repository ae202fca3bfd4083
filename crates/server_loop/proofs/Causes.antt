-- When a register at the other end of a link may be told to have failed.
use Rattle.std.proofs.Common.{◌≡◌, ◌≢◌, ℕ, ◌≤◌, ◌<◌, Option, Some, None, Result, Ok, Err, refl, sym, ◌∙◌, inl, inr, arith}
use Rattle.std.proofs.Math.Nat.{eq-or-lt_of_le}
use Rattle.io_core.specs.Causes.{Rose}
use Rattle.wire_codec.specs.declared.message.Message.{Message}
use Rattle.wire_codec.specs.declared.message.Message.TheVariants as of
use Rattle.wire_codec.specs.declared.message.FromRegister.{FromRegister}
use Rattle.session_register.specs.declared.register.RegisterFault.{RegisterFault}
use Rattle.session_register.specs.declared.register.RegisterFault.TheVariants.{Failed, Garbled, Memory}
use Rattle.session_register.specs.Telling.{HasRegisterCause}
use Rattle.server_loop.specs.declared.exchanges.Reply.{Reply}
use Rattle.server_loop.specs.declared.exchanges.Reply.TheVariants as replies
use Rattle.server_loop.specs.Exchanges.{HasReplyCause}
use Rattle.server_loop.specs.Registers.{message_of}
use Rattle.session_register.specs.declared.register.Cas.{Cas}
use Rattle.session_register.specs.declared.register.Cas.TheVariants as cas
use Rattle.server_loop.specs.declared.end.End.{End}
use Rattle.server_loop.specs.declared.end.End.TheVariants as ends
use Rattle.server_loop.specs.Sessions.{session_of}

-- where nothing was counted, it is no failure
unfailed : {T : Type 0} (before now : ℕ) (result : Result T RegisterFault) → before ≤ now → now ≡ before → result ≢ Err Failed → HasRegisterCause before now result
unfailed before now (Ok x) later same not = record { later = later; failed = λ e. absurd (cc); none = λ _. same }
unfailed before now (Err Failed) later same not = absurd (not refl)
unfailed before now (Err Garbled) later same not = record { later = later; failed = λ e. absurd (cc); none = λ _. same }
unfailed before now (Err Memory) later same not = record { later = later; failed = λ e. absurd (cc); none = λ _. same }

pub asked_cause : {E : Type 0} (before now : ℕ) (reply : Reply) (exchanged : Result Reply E) (result : Result FromRegister RegisterFault) → exchanged ≡ Ok reply → HasReplyCause before now exchanged →
    result ≡ message_of reply → HasRegisterCause before now result
asked_cause before now reply exchanged result e h is = rw is (of_reply reply (rw e at h))
  where
    of_reply : {E : Type 0} (reply : Reply) → HasReplyCause {E = E} before now (Ok reply) → HasRegisterCause before now (message_of reply)
    of_reply replies.Failed h = record { later = h.later; failed = λ _. h.failed refl; none = λ not. absurd (not refl) }
    of_reply replies.Garbled h = unfailed before now (Err Garbled) h.later (h.none (λ e. cc)) (λ e. cc)
    of_reply (replies.Message m) h = unfailed before now (message_of (replies.Message m)) h.later (h.none (λ e. cc)) (of_message m)
      where
        of_message : (m : Message) → message_of (replies.Message m) ≢ Err Failed
        of_message (of.FromRegister m) e = cc
        of_message (of.ToNode m) e = cc
        of_message (of.FromNode m) e = cc
        of_message (of.ToServer m) e = cc
        of_message (of.FromServer m) e = cc
        of_message (of.ToRegister m) e = cc
        of_message (of.Control m) e = cc

-- what is made of a reply is no failure
pub answered_cause : {A : Type 0} (before now : ℕ) (m : FromRegister) (asked : Result FromRegister RegisterFault) (result : Result A RegisterFault) → asked ≡ Ok m → HasRegisterCause before now asked →
    result ≢ Err Failed → HasRegisterCause before now result
answered_cause before now m asked result e h not = unfailed before now result h.later (h.none (λ f. let g : Ok m ≡ Err Failed = sym e ∙ f in cc)) not

pub fault_cause : {A : Type 0} (before now : ℕ) (fault : RegisterFault) (asked : Result FromRegister RegisterFault) → asked ≡ Err fault → HasRegisterCause before now asked →
    HasRegisterCause {T = A} before now (Err fault)
fault_cause before now Failed asked e h = let x : HasRegisterCause before now (Err Failed) = rw e at h in record { later = x.later; failed = λ f. x.failed refl; none = λ not. absurd (not refl) }
fault_cause before now Garbled asked e h = let x = rw e at h in unfailed before now (Err Garbled) x.later (x.none (λ f. cc)) (λ f. cc)
fault_cause before now Memory asked e h = let x = rw e at h in unfailed before now (Err Memory) x.later (x.none (λ f. cc)) (λ f. cc)

pub no_memory_cause : {A E : Type 0} (before now : ℕ) (error : E) (exchanged : Result Reply E) → exchanged ≡ Err error → HasReplyCause before now exchanged → HasRegisterCause {T = A} before now (Err Memory)
no_memory_cause before now error exchanged e h = let x = rw e at h in unfailed before now (Err Memory) x.later (x.none (λ f. cc)) (λ f. cc)

pub register_cause : (before now : ℕ) (answer : Result Cas RegisterFault) (end : End) → Err end ≡ session_of answer → HasRegisterCause before now answer → end ≡ ends.Register → Rose before now
register_cause before now (Err Failed) end e h is = h.failed refl
register_cause before now (Err Garbled) end e h is = absurd (let f : ends.Register ≡ ends.Garbled = sym is ∙ (let g : end ≡ ends.Garbled = cc in g) in cc)
register_cause before now (Err Memory) end e h is = absurd (let f : ends.Register ≡ ends.Memory = sym is ∙ (let g : end ≡ ends.Memory = cc in g) in cc)
register_cause before now (Ok (cas.Won session)) end e h is = absurd (cc)
register_cause before now (Ok (cas.Lost other)) end e h is = absurd (let f : ends.Register ≡ ends.TakenOver other = sym is ∙ (let g : end ≡ ends.TakenOver other = cc in g) in cc)
register_cause before now (Ok cas.Exhausted) end e h is = absurd (let f : ends.Register ≡ ends.Exhausted = sym is ∙ (let g : end ≡ ends.Exhausted = cc in g) in cc)

-- ---- a port's faults

-- a count that rose over two calls, of which the first counted none
pub rose_after : {P : Type 0} (a b d : ℕ) → a ≤ b → (a < b → ⊥) → (b < d → P) → a < d → P
rose_after a b d later none told rose = elim (eq-or-lt_of_le later) [
  | inl same ↦ told (omega (arith, same, rose))
  | inr first ↦ absurd (none first)
]

-- after a turn that is no end none was counted
pub unrisen : (before now : ℕ) (end : Option End) → before ≤ now → (before < now → end ≡ Some ends.Peer) → end ≡ None → now ≡ before
unrisen before now end later told none = elim (eq-or-lt_of_le later) [
  | inl same ↦ sym same
  | inr rose ↦ absurd (let e : None ≡ Some ends.Peer = sym none ∙ told rose in cc)
]
