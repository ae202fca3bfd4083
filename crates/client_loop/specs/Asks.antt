-- One exchange with whoever serves at a port, and what its reply is taken for.
use Rattle.std.specs.Prelude.{◌≡◌, ◌⊎◌, ℕ, List, [], ◌∷◌, ◌++◌, Result, Ok, Err, ⊤}
use Rattle.io_core.specs.Links as links
use Rattle.io_core.specs.Links.{Heard, Exchange}
use Rattle.proto_model.specs.declared.client_message.ToServer.{ToServer}
use Rattle.proto_model.specs.declared.client_message.FromServer.{FromServer}
use Rattle.wire_codec.specs.declared.message.Message.{Message}
use Rattle.wire_codec.specs.declared.message.Message.TheVariants as of
use Rattle.wire_codec.specs.declared.message.Control.TheVariants.{Bye, Done as IsDone}
use Rattle.wire_codec.specs.Spelling.{SpellsMessage, IsValidMessage, message_frame}
use Rattle.client_loop.specs.declared.exchange.Reply.{Reply}
use Rattle.client_loop.specs.declared.exchange.Reply.TheVariants as replies
use Rattle.client_loop.specs.declared.end.End.{End}
use Rattle.client_loop.specs.declared.end.End.TheVariants.{Done, Peer, Garbled, Memory}

-- What came back is read as the one message that all of its bytes spell, else as garbled. More bytes than the longest
-- message has are no message.
abbrev pub IsReply : Heard → Reply → Type 0
IsReply (links.Reply bytes) (replies.Message m) = SpellsMessage bytes m
IsReply (links.Reply bytes) replies.Garbled = (m : Message) → ¬ SpellsMessage bytes m
IsReply (links.Reply bytes) replies.Failed = ⊥
IsReply links.Long replies.Garbled = ⊤
IsReply links.Long _ = ⊥
IsReply links.Nothing replies.Failed = ⊤
IsReply links.Nothing _ = ⊥

abbrev pub IsValidReply : Reply → Type 0
IsValidReply (replies.Message m) = IsValidMessage m
IsValidReply replies.Garbled = ⊤
IsValidReply replies.Failed = ⊤

-- a message was sent to a port, and what came back is read as this reply
pub record IsExchange (port : ℕ) (m : Message) (old new : List Exchange) (reply : Reply) : Type 0 where
  pub heard : Heard
  pub read : IsReply heard reply
  pub past : new ≡ old ++ record { port = port; sent = message_frame m; heard = heard } ∷ []

-- Memory ran out: nothing was sent, or the message was, and its reply is lost.
abbrev pub IsTried : ℕ → Message → List Exchange → List Exchange → Type 0
IsTried port m old new =
    (new ≡ old) ⊎ ((heard : Heard) × (new ≡ old ++ record { port = port; sent = message_frame m; heard = heard } ∷ []))

abbrev pub ExchangesOf : {E : Type 0} → ℕ → Message → List Exchange → List Exchange → Result Reply E → Type 0
ExchangesOf port m old new (Ok reply) = IsExchange port m old new reply
ExchangesOf port m old new (Err _) = IsTried port m old new

-- ---- a question to a server

-- a reply that is no message of a server to a client
abbrev pub IsNoAnswer : Reply → Type 0
IsNoAnswer (replies.Message (of.FromServer m)) = ⊥
IsNoAnswer (replies.Message _) = ⊤
IsNoAnswer replies.Garbled = ⊤
IsNoAnswer replies.Failed = ⊥

-- the ends that a question may have
abbrev pub IsAskEnd : End → Type 0
IsAskEnd Peer = ⊤
IsAskEnd Garbled = ⊤
IsAskEnd Memory = ⊤
IsAskEnd _ = ⊥

-- one question to the server at a port, and its answer or how it ends the command
abbrev pub IsAsk : ℕ → ToServer → List Exchange → List Exchange → Result FromServer End → Type 0
IsAsk port m old new (Ok answer) = IsExchange port (of.ToServer m) old new (replies.Message (of.FromServer answer))
IsAsk port m old new (Err Garbled) = (r : Reply) × IsExchange port (of.ToServer m) old new r × IsNoAnswer r
IsAsk port m old new (Err Peer) = IsExchange port (of.ToServer m) old new replies.Failed
IsAsk port m old new (Err Memory) = IsTried port (of.ToServer m) old new
IsAsk port m old new (Err _) = ⊥

-- ---- asking to serve no longer

-- a reply that isn't Done
abbrev pub IsNotDone : Reply → Type 0
IsNotDone (replies.Message (of.Control IsDone)) = ⊥
IsNotDone (replies.Message _) = ⊤
IsNotDone replies.Garbled = ⊤
IsNotDone replies.Failed = ⊥

-- Bye was sent to a port: it is the end Done only where the reply is Done
abbrev pub IsStop : ℕ → List Exchange → List Exchange → End → Type 0
IsStop port old new Done = IsExchange port (of.Control Bye) old new (replies.Message (of.Control IsDone))
IsStop port old new Garbled = (r : Reply) × IsExchange port (of.Control Bye) old new r × IsNotDone r
IsStop port old new Peer = IsExchange port (of.Control Bye) old new replies.Failed
IsStop port old new Memory = IsTried port (of.Control Bye) old new
IsStop port old new _ = ⊥
