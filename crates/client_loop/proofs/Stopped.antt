-- What a reply to Bye is taken for.
use Rattle.std.proofs.Common.{◌≡◌, ℕ, List, Result, Ok, ap, sym, ◌∙◌}
use Rattle.io_core.specs.Links.{Exchange}
use Rattle.wire_codec.specs.declared.message.Message.TheVariants as of
use Rattle.wire_codec.specs.declared.message.Control.TheVariants.{Bye, Done as IsDone, No}
use Rattle.client_loop.specs.declared.exchange.Reply.{Reply}
use Rattle.client_loop.specs.declared.exchange.Reply.TheVariants as replies
use Rattle.client_loop.specs.declared.end.End.{End}
use Rattle.client_loop.specs.declared.end.End.TheVariants.{Peer, WriteFault}
use Rattle.client_loop.specs.Asks.{IsExchange, IsStop}
use Rattle.client_loop.specs.Byes.{stop_end, IsStopEnd}
use Rattle.client_loop.specs.Ends.{Counts}

-- a reply to Bye ends the command so
pub stopped_by : (port : ℕ) (old new : List Exchange) (reply : Reply) (end : End) → end ≡ stop_end reply → IsExchange port (of.Control Bye) old new reply → IsStop port old new end
stopped_by port old new (replies.Message (of.Control IsDone)) end is x = rw is x
stopped_by port old new (replies.Message (of.Control Bye)) end is x = rw is (replies.Message (of.Control Bye), x, tt)
stopped_by port old new (replies.Message (of.Control No)) end is x = rw is (replies.Message (of.Control No), x, tt)
stopped_by port old new (replies.Message (of.ToNode a)) end is x = rw is (replies.Message (of.ToNode a), x, tt)
stopped_by port old new (replies.Message (of.FromNode a)) end is x = rw is (replies.Message (of.FromNode a), x, tt)
stopped_by port old new (replies.Message (of.ToServer a)) end is x = rw is (replies.Message (of.ToServer a), x, tt)
stopped_by port old new (replies.Message (of.FromServer a)) end is x = rw is (replies.Message (of.FromServer a), x, tt)
stopped_by port old new (replies.Message (of.ToRegister a)) end is x = rw is (replies.Message (of.ToRegister a), x, tt)
stopped_by port old new (replies.Message (of.FromRegister a)) end is x = rw is (replies.Message (of.FromRegister a), x, tt)
stopped_by port old new replies.Garbled end is x = rw is (replies.Garbled, x, tt)
stopped_by port old new replies.Failed end is x = rw is x

peer_failed : (reply : Reply) → stop_end reply ≡ Peer → reply ≡ replies.Failed
peer_failed (replies.Message (of.Control IsDone)) is = cc
peer_failed (replies.Message (of.Control Bye)) is = cc
peer_failed (replies.Message (of.Control No)) is = cc
peer_failed (replies.Message (of.ToNode a)) is = cc
peer_failed (replies.Message (of.FromNode a)) is = cc
peer_failed (replies.Message (of.ToServer a)) is = cc
peer_failed (replies.Message (of.FromServer a)) is = cc
peer_failed (replies.Message (of.ToRegister a)) is = cc
peer_failed (replies.Message (of.FromRegister a)) is = cc
peer_failed replies.Garbled is = cc
peer_failed replies.Failed is = cc

failed_peer : (reply : Reply) → reply ≡ replies.Failed → stop_end reply ≡ Peer
failed_peer reply is = ap stop_end is

-- the end is Peer exactly where the exchange failed
pub stop_counts : {E : Type 0} (f0 f1 : ℕ) (result : Result Reply E) (reply : Reply) (end : End) → result ≡ Ok reply → end ≡ stop_end reply → Counts f0 f1 (result ≡ Ok replies.Failed) → Counts f0 f1 (end ≡ Peer)
stop_counts f0 f1 result reply end was is counts = record {
  later = counts.later;
  rose = λ peer. let failed = peer_failed reply (sym is ∙ peer) in counts.rose cc;
  same = λ other. counts.same (λ failed. other (is ∙ failed_peer reply cc));
}

-- asking to serve no longer writes nothing
pub not_written : (end : End) → IsStopEnd end → end ≡ WriteFault → ⊥
not_written end ends is = rw is at ends
