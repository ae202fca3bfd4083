-- An exchange with whoever serves at a port: what is sent, and what comes back is read as.
use Rattle.std.specs.Prelude.{◌≡◌, ◌≢◌, ◌⊎◌, ℕ, ◌≤◌, List, [], ◌∷◌, ◌++◌, length, Result, Ok, Err, ⊤}
use Rattle.io_core.specs.Causes.{Rose}
use Rattle.io_core.specs.Links as links
use Rattle.io_core.specs.Links.{Heard, Exchange}
use Rattle.wire_codec.specs.declared.message.Message.{Message}
use Rattle.wire_codec.specs.declared.reading.TheConstants.{MAX_FRAME}
use Rattle.wire_codec.specs.Spelling.{SpellsMessage, IsValidMessage, message_frame}
use Rattle.server_loop.specs.declared.exchanges.Reply.{Reply}
use Rattle.server_loop.specs.declared.exchanges.Reply.TheVariants as replies

-- room for the longest frame
pub record IsRoom (bytes : List ℕ) : Type 0 where
  pub fits : length bytes ≡ MAX_FRAME

-- the one message that all of the bytes spell, else garbled, as a reply is that is longer than the room
abbrev pub IsReply : Heard → Reply → Type 0
IsReply (links.Reply bytes) (replies.Message m) = SpellsMessage bytes m
IsReply (links.Reply bytes) replies.Garbled = (m : Message) → SpellsMessage bytes m → ⊥
IsReply (links.Reply bytes) replies.Failed = ⊥
IsReply links.Long replies.Garbled = ⊤
IsReply links.Long _ = ⊥
IsReply links.Nothing replies.Failed = ⊤
IsReply links.Nothing _ = ⊥

-- a message is sent to a port, and this is the reply
pub record HasExchanged (port : ℕ) (m : Message) (reply : Reply) (old new : List Exchange) : Type 0 where
  pub heard : Heard
  pub read : IsReply heard reply
  pub past : new ≡ old ++ record { port = port; sent = message_frame m; heard = heard } ∷ []

-- a message is sent to a port, whatever comes back
abbrev pub IsSent : ℕ → Message → List Exchange → List Exchange → Type 0
IsSent port m old new =
    (heard : Heard) × (new ≡ old ++ record { port = port; sent = message_frame m; heard = heard } ∷ [])

-- Memory ran out: nothing was sent, or the message was, and its reply is lost.
abbrev pub IsTried : ℕ → Message → List Exchange → List Exchange → Type 0
IsTried port m old new = (new ≡ old) ⊎ IsSent port m old new

abbrev pub ExchangesOf : {E : Type 0} → ℕ → Message → List Exchange → List Exchange → Result Reply E → Type 0
ExchangesOf port m old new (Ok reply) = HasExchanged port m reply old new
ExchangesOf port m old new (Err _) = IsTried port m old new

abbrev pub IsValidReply : Reply → Type 0
IsValidReply (replies.Message m) = IsValidMessage m
IsValidReply replies.Garbled = ⊤
IsValidReply replies.Failed = ⊤

-- something came back
abbrev pub IsAnswered : Reply → Type 0
IsAnswered replies.Failed = ⊥
IsAnswered _ = ⊤

-- nothing came back only by a counted fault, and else none was counted
pub record HasReplyCause {E : Type 0} (before now : ℕ) (result : Result Reply E) : Type 0 where
  pub later : before ≤ now
  pub failed : result ≡ Ok replies.Failed → Rose before now
  pub none : result ≢ Ok replies.Failed → now ≡ before

-- the exchanges of before stay
pub record Grows (old new : List Exchange) : Type 0 where
  pub more : List Exchange
  pub are : new ≡ old ++ more
