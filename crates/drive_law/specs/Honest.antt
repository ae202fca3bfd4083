-- A register's peer that is honest: it replies as the register would to those requests, of all its users, that it took.
use Rattle.std.specs.Prelude.{◌≡◌, ℕ, zero, suc, ◌<◌, List, [], ◌∷◌, ◌++◌, Ok, ⊤}
use Rattle.io_core.specs.Links.{Exchange, Reply}
use Rattle.wire_codec.specs.declared.message.Message.TheVariants as of
use Rattle.wire_codec.specs.declared.message.ToRegister.{ToRegister}
use Rattle.wire_codec.specs.declared.message.ToRegister.TheVariants as to
use Rattle.wire_codec.specs.declared.message.FromRegister.{FromRegister}
use Rattle.wire_codec.specs.declared.message.FromRegister.TheVariants as from
use Rattle.wire_codec.specs.Spelling.{SpellsMessage}
use Rattle.session_register.specs.declared.register.Cas.{Cas}
use Rattle.session_register.specs.declared.register.Cas.TheVariants as cas
use Rattle.session_register.specs.Registers.{cas_answer, number_after}
use Rattle.server_loop.specs.Registers.{IsCasAt, IsDraw}

-- the message that an answer of a compare-and-set is
abbrev pub cas_message : Cas → FromRegister
cas_message (cas.Won session) = from.Won session
cas_message (cas.Lost current) = from.Lost current
cas_message cas.Exhausted = from.Exhausted

-- what a register with this number replies to a request
abbrev pub number_reply : ℕ → ToRegister → FromRegister
number_reply number to.Read = from.Value number
number_reply number (to.Cas expected) = cas_message (cas_answer number expected)

-- and its number then
abbrev pub number_then : ℕ → ToRegister → ℕ
number_then number to.Read = number
number_then number (to.Cas expected) = number_after number (cas_answer number expected)

-- a request that a peer took, and its reply
pub record Taken : Type 0 where
  pub request : ToRegister
  pub reply : FromRegister

-- from this number on each reply is the register's, after the requests before it
abbrev pub IsHonest : ℕ → List Taken → Type 0
IsHonest number [] = ⊤
IsHonest number (x ∷ taken) = (x.reply ≡ number_reply number x.request) × IsHonest (number_then number x.request) taken

-- what was taken at this place
abbrev pub IsAt : List Taken → ℕ → Taken → Type 0
IsAt [] i x = ⊥
IsAt (y ∷ taken) zero x = x ≡ y
IsAt (y ∷ taken) (suc i) x = IsAt taken i x

-- ---- by its replies alone

-- the reply at this place is that this session is won
abbrev pub IsWonAt : List Taken → ℕ → ℕ → Type 0
IsWonAt taken i session = (x : Taken) × IsAt taken i x × (x.reply ≡ from.Won session)

-- What is won later is greater, and so no session is won twice.
pub record ASessionIsWonOnce : Type 0 where
  pub later : (number : ℕ) (taken : List Taken) (i j s t : ℕ) → IsHonest number taken →
      i < j → IsWonAt taken i s → IsWonAt taken j t → s < t
  pub once : (number : ℕ) (taken : List Taken) (i j s : ℕ) → IsHonest number taken →
      IsWonAt taken i s → IsWonAt taken j s → i ≡ j

-- ---- over links

-- the bytes that were sent and heard spell the request and the reply
pub record IsExchangeOf (x : Taken) (exchange : Exchange) : Type 0 where
  pub asked : SpellsMessage exchange.sent (of.ToRegister x.request)
  pub bytes : List ℕ
  pub heard : exchange.heard ≡ Reply bytes
  pub replied : SpellsMessage bytes (of.FromRegister x.reply)

-- the last exchange is the one whose request was taken at this place
pub record EndsAt (taken : List Taken) (i : ℕ) (exchanges : List Exchange) : Type 0 where
  pub past : List Exchange
  pub last : Exchange
  pub ends : exchanges ≡ past ++ last ∷ []
  pub was : Taken
  pub at : IsAt taken i was
  pub exchanged : IsExchangeOf was last

-- A user of the peer won this session, by a call or by a draw. Each user has exchanges of its own.
pub data IsWonByUser (taken : List Taken) (i session : ℕ) : Type 0 where
  called : (port number : ℕ) (old new : List Exchange) → IsCasAt port number old new (Ok (cas.Won session)) →
      EndsAt taken i new → IsWonByUser taken i session
  drawn : (port : ℕ) (old new : List Exchange) → IsDraw port old new (Ok (cas.Won session)) →
      EndsAt taken i new → IsWonByUser taken i session

pub record ASessionOverLinksIsWonOnce : Type 0 where
  pub later : (number : ℕ) (taken : List Taken) (i j s t : ℕ) → IsHonest number taken →
      i < j → IsWonByUser taken i s → IsWonByUser taken j t → s < t
  pub once : (number : ℕ) (taken : List Taken) (i j s : ℕ) → IsHonest number taken →
      IsWonByUser taken i s → IsWonByUser taken j s → i ≡ j
