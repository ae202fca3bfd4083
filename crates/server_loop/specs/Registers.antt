-- What the register's replies are taken for, and how a session is drawn.
use Rattle.std.specs.Prelude.{◌≡◌, ℕ, ◌+◌, ◌==◌, if◌then◌else◌, List, Result, Ok, Err}
use Rattle.io_core.specs.Links.{Exchange}
use Rattle.wire_codec.specs.declared.message.Message.TheVariants as of
use Rattle.wire_codec.specs.declared.message.ToRegister.{ToRegister}
use Rattle.wire_codec.specs.declared.message.ToRegister.TheVariants as to
use Rattle.wire_codec.specs.declared.message.FromRegister.{FromRegister}
use Rattle.wire_codec.specs.declared.message.FromRegister.TheVariants as from
use Rattle.session_register.specs.declared.register.Cas.{Cas}
use Rattle.session_register.specs.declared.register.Cas.TheVariants as cas
use Rattle.session_register.specs.declared.register.RegisterFault.{RegisterFault}
use Rattle.session_register.specs.declared.register.RegisterFault.TheVariants as faults
use Rattle.session_register.specs.Registers.{last_session}
use Rattle.server_loop.specs.declared.exchanges.Reply.{Reply}
use Rattle.server_loop.specs.declared.exchanges.Reply.TheVariants as replies
use Rattle.server_loop.specs.Exchanges.{HasExchanged, IsTried}

-- `Value` is awaited after `Read`
abbrev pub number_in : FromRegister → Result ℕ RegisterFault
number_in (from.Value number) = Ok number
number_in _ = Err faults.Garbled

-- after `Cas` the number one above is awaited, another one that stands there, or that there is none above
abbrev pub outcome_in : ℕ → FromRegister → Result Cas RegisterFault
outcome_in number (from.Value other) = Err faults.Garbled
outcome_in number (from.Won session) =
    if session == number + 1 then Ok (cas.Won session) else Err faults.Garbled
outcome_in number (from.Lost other) =
    if other == number then Err faults.Garbled else Ok (cas.Lost other)
outcome_in number from.Exhausted =
    if number == last_session then Ok cas.Exhausted else Err faults.Garbled

-- the message of the register that a reply is
abbrev pub message_of : Reply → Result FromRegister RegisterFault
message_of (replies.Message (of.FromRegister m)) = Ok m
message_of (replies.Message _) = Err faults.Garbled
message_of replies.Garbled = Err faults.Garbled
message_of replies.Failed = Err faults.Failed

-- what is made of it, by what is awaited
abbrev pub made_of : {A : Type 0} → (FromRegister → Result A RegisterFault) →
    Result FromRegister RegisterFault → Result A RegisterFault
made_of make (Ok m) = make m
made_of make (Err fault) = Err fault

-- one exchange with the register, and what is made of its reply
pub record IsAsked (A : Type 0) (port : ℕ) (m : ToRegister) (make : FromRegister → Result A RegisterFault)
    (old new : List Exchange) (result : Result A RegisterFault) : Type 0 where
  pub reply : Reply
  pub exchanged : HasExchanged port (of.ToRegister m) reply old new
  pub made : result ≡ made_of make (message_of reply)

-- the register was asked, and this was made of its reply; or memory ran out
pub data Asks (A : Type 0) (port : ℕ) (m : ToRegister) (make : FromRegister → Result A RegisterFault)
    (old : List Exchange) : List Exchange → Result A RegisterFault → Type 0 where
  answered : (new : List Exchange) (result : Result A RegisterFault) → IsAsked A port m make old new result →
      Asks A port m make old new result
  no_memory : (new : List Exchange) → IsTried port (of.ToRegister m) old new → Asks A port m make old new (Err faults.Memory)

abbrev pub IsReadAt : ℕ → List Exchange → List Exchange → Result ℕ RegisterFault → Type 0
IsReadAt port old new result = Asks ℕ port to.Read number_in old new result

abbrev pub IsCasAt : ℕ → ℕ → List Exchange → List Exchange → Result Cas RegisterFault → Type 0
IsCasAt port number old new result = Asks Cas port (to.Cas number) (outcome_in number) old new result

-- The number is read, and then made one more.
pub data IsDraw (port : ℕ) (old : List Exchange) : List Exchange → Result Cas RegisterFault → Type 0 where
  unread : (new : List Exchange) (fault : RegisterFault) → IsReadAt port old new (Err fault) →
      IsDraw port old new (Err fault)
  tried : (between new : List Exchange) (number : ℕ) (result : Result Cas RegisterFault) →
      IsReadAt port old between (Ok number) → IsCasAt port number between new result →
      IsDraw port old new result
