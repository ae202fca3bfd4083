-- What a reply to Bye is taken for.
use Rattle.std.specs.Prelude.{⊤}
use Rattle.wire_codec.specs.declared.message.Message.TheVariants as of
use Rattle.wire_codec.specs.declared.message.Control.TheVariants.{Done as IsDone}
use Rattle.client_loop.specs.declared.exchange.Reply.{Reply}
use Rattle.client_loop.specs.declared.exchange.Reply.TheVariants as replies
use Rattle.client_loop.specs.declared.end.End.{End}
use Rattle.client_loop.specs.declared.end.End.TheVariants.{Done, Peer, Garbled, Memory}

-- the ends that asking to serve no longer may have, before they are told
abbrev pub IsStopEnd : End → Type 0
IsStopEnd Done = ⊤
IsStopEnd Peer = ⊤
IsStopEnd Garbled = ⊤
IsStopEnd Memory = ⊤
IsStopEnd _ = ⊥

-- how a reply to Bye ends the command
abbrev pub stop_end : Reply → End
stop_end (replies.Message (of.Control IsDone)) = Done
stop_end (replies.Message _) = Garbled
stop_end replies.Garbled = Garbled
stop_end replies.Failed = Peer
