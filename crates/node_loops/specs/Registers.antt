-- A register that serves: what it answers, and how it fails.
use Rattle.std.specs.Prelude.{◌≡◌, ℕ, Option, None, Some, ⊤}
use Rattle.wire_codec.specs.declared.message.Message.{Message}
use Rattle.wire_codec.specs.declared.message.Message.TheVariants as of
use Rattle.wire_codec.specs.declared.message.Control.TheVariants.{Done, No}
use Rattle.wire_codec.specs.declared.message.ToRegister.{ToRegister}
use Rattle.wire_codec.specs.declared.message.ToRegister.TheVariants.{Read, Cas as Try}
use Rattle.wire_codec.specs.declared.message.FromRegister.{FromRegister}
use Rattle.wire_codec.specs.declared.message.FromRegister.TheVariants as from
use Rattle.session_register.specs.declared.register.Cas.{Cas}
use Rattle.session_register.specs.declared.register.Cas.TheVariants.{Won, Lost, Exhausted}
use Rattle.session_register.specs.Registers.{cas_answer, number_after}
use Rattle.node_loops.specs.declared.requests.Asked.{Asked}
use Rattle.node_loops.specs.declared.requests.Asked.TheVariants as asks
use Rattle.node_loops.specs.declared.end.End.{End}
use Rattle.node_loops.specs.declared.end.End.TheVariants as ends

-- the message that an answer of a compare-and-set is
abbrev pub cas_message : Cas → FromRegister
cas_message (Won session) = from.Won session
cas_message (Lost current) = from.Lost current
cas_message Exhausted = from.Exhausted

-- what a register with this number answers to a message
abbrev pub number_reply : ℕ → ToRegister → FromRegister
number_reply number Read = from.Value number
number_reply number (Try expected) = cas_message (cas_answer number expected)

-- and its number then
abbrev pub number_then : ℕ → ToRegister → ℕ
number_then number Read = number
number_then number (Try expected) = number_after number (cas_answer number expected)

-- what a register with this number answers to what is asked
abbrev pub register_reply : ℕ → Asked → Message
register_reply number (asks.Register m) = of.FromRegister (number_reply number m)
register_reply number asks.Bye = of.Control Done
register_reply number _ = of.Control No

-- and its number then
abbrev pub register_after : ℕ → Asked → ℕ
register_after number (asks.Register m) = number_then number m
register_after number _ = number

-- what may be answered whatever the number is
abbrev pub SuitsRegister : Asked → Message → Type 0
SuitsRegister (asks.Register m) (of.FromRegister reply) = ⊤
SuitsRegister (asks.Register m) _ = ⊥
SuitsRegister asks.Bye reply = reply ≡ of.Control Done
SuitsRegister _ reply = reply ≡ of.Control No

-- The reply to what is asked, and what the register is then: its number, and what its files stand for.
pub record IsRegisterReply {G : Type 0} (told : G → Option ℕ) (stands : G → ℕ → Type 0) (asked : Asked) (reply : Message) (a b : G) : Type 0 where
  pub suits : SuitsRegister asked reply
  pub reply_is : (n : ℕ) → told a ≡ Some n → reply ≡ register_reply n asked
  pub after : (n : ℕ) → told a ≡ Some n → told b ≡ Some (register_after n asked)
  pub files : (n : ℕ) → told a ≡ Some n → stands a n → stands b (register_after n asked)

-- How the register fails at a message. Where a device failed, its files stand for the number of before or the one after.
abbrev pub FailsToAnswer : {G : Type 0} (told : G → Option ℕ) (stands : G → ℕ → Type 0) (leaves : G → ℕ → ℕ → Type 0) (m : ToRegister) → End → G → G → Type 0
FailsToAnswer told stands leaves m ends.Disk a b =
    (n : ℕ) → told a ≡ Some n → stands a n → leaves b n (number_then n m)
FailsToAnswer told stands leaves m ends.Answer a b = told a ≡ None
FailsToAnswer told stands leaves m ends.Memory a b =
    (told b ≡ told a) × ((n : ℕ) → told a ≡ Some n → stands a n → stands b n)
FailsToAnswer told stands leaves m _ a b = ⊥

pub record IsRegisterFault {G : Type 0} (told : G → Option ℕ) (stands : G → ℕ → Type 0) (leaves : G → ℕ → ℕ → Type 0) (asked : Asked) (end : End) (a b : G) : Type 0 where
  pub message : ToRegister
  pub asked_is : asked ≡ asks.Register message
  pub fails : FailsToAnswer told stands leaves message end a b

-- what it doesn't tell where it may come to this end
abbrev pub RegisterHides : Option ℕ → End → Type 0
RegisterHides told ends.Answer = told ≡ None
RegisterHides told _ = ⊥
