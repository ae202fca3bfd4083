-- A server that serves clients: what it answers, and how its turns end.
use Rattle.std.specs.Prelude.{◌≡◌, ◌⊎◌, ◌<◌, ℕ, nat_le, if◌then◌else◌, Bool, true, false, List, [], ◌∷◌, replicate, length, Option, None, Some}
use Rattle.io_core.specs.Links.{Exchange}
use Rattle.proto_model.specs.declared.message.Phase.{Phase}
use Rattle.proto_model.specs.declared.message.Phase.TheVariants.{Closed}
use Rattle.proto_model.specs.declared.client_message.ToServer.{ToServer}
use Rattle.proto_model.specs.declared.client_message.ToServer.TheVariants as to_server
use Rattle.proto_model.specs.declared.client_message.FromServer.{FromServer}
use Rattle.proto_model.specs.declared.client_message.FromServer.TheVariants.{Committed, Pending}
use Rattle.proto_model.specs.Servers.{Config, ServerState, commit_mark}
use Rattle.proto_model.specs.Serving.{served_after, served_answers}
use Rattle.wire_codec.specs.declared.message.Message.{Message}
use Rattle.wire_codec.specs.declared.message.Message.TheVariants as of
use Rattle.wire_codec.specs.declared.message.Control.TheVariants.{Bye, Done, No}
use Rattle.server_loop.specs.declared.driving.Out.{Out}
use Rattle.server_loop.specs.declared.driving.Out.TheVariants as outs
use Rattle.server_loop.specs.Drives.{driving, IsDrive, IsCutDrive, is_closed}
use Rattle.server_loop.specs.declared.end.End.{End}
use Rattle.server_loop.specs.declared.end.End.TheVariants as ends
use Rattle.server_loop.specs.Turns.{Desk, IsTurn, IsLeft, InARow}
use Rattle.server_loop.specs.Taking.{Takes}

-- a server's state, and the exchanges of its link
pub record Standing : Type 0 where
  pub state : ServerState
  pub past : List Exchange

abbrev pub standing : ServerState → List Exchange → Standing
standing state past = record { state = state; past = past }

-- no node is out at the start of a drive
abbrev pub all_in : List Out
all_in = replicate 8 outs.In

-- a drive in which no node is out at its start
pub record IsFreshDrive (c : Config) (ports : List ℕ) (a b : Standing) (out : List Out) : Type 0 where
  pub drive : IsDrive c ports (driving a.state all_in a.past) (driving b.state out b.past)

-- one in which memory ran out
abbrev pub IsFreshCut : Config → List ℕ → Standing → List Exchange → Type 0
IsFreshCut c ports a past = IsCutDrive c ports (driving a.state all_in a.past) past

-- ---- what is answered

-- an append that was assigned this id is answered by what a quorum holds after the drive
abbrev pub settled_answer : ℕ → ℕ → ℕ → FromServer
settled_answer request id mark = if nat_le id mark then Committed request id else Pending request id

-- an assigned append, whose record is the log's last: a drive follows, and then the answer
pub record IsSettled (c : Config) (ports : List ℕ) (request : ℕ) (answer : FromServer) (a b : Standing) : Type 0 where
  pub out : List Out
  pub driven : IsFreshDrive c ports a b out
  pub settled : answer ≡ settled_answer request (length a.state.log) (commit_mark c b.state)

abbrev pub request_number : ToServer → ℕ
request_number (to_server.Append tx) = tx.request
request_number _ = 0

-- the answers that the server's step gives at once are sent; where it gives none, an append was assigned
abbrev pub IsServedBy : Config → List ℕ → ToServer → List FromServer → FromServer → Standing → Standing → Type 0
IsServedBy c ports m [] answer a b = IsSettled c ports (request_number m) answer (standing (served_after c a.state m) a.past) b
IsServedBy c ports m (first ∷ more) answer a b = (answer ≡ first) × (b ≡ standing (served_after c a.state m) a.past)

abbrev pub IsServed : Config → List ℕ → ToServer → FromServer → Standing → Standing → Type 0
IsServed c ports m answer a b = IsServedBy c ports m (served_answers c a.state m) answer a b

abbrev pub IsServedSo : Config → List ℕ → ToServer → Message → Standing → Standing → Type 0
IsServedSo c ports m (of.FromServer answer) a b = IsServed c ports m answer a b
IsServedSo c ports m _ a b = ⊥

-- what a server replies to what it reads
abbrev pub IsReplied : Config → List ℕ → Option Message → Message → Standing → Standing → Type 0
IsReplied c ports (Some (of.ToServer m)) reply a b = IsServedSo c ports m reply a b
IsReplied c ports (Some (of.Control Bye)) reply a b = (reply ≡ of.Control Done) × (b ≡ a)
IsReplied c ports _ reply a b = (reply ≡ of.Control No) × (b ≡ a)

-- Memory ran out before a request had its answer: nothing was sent for it; or it was an append that was assigned, and
-- memory ran out in its drive.
abbrev pub IsUnserved : Config → List ℕ → ToServer → Standing → List Exchange → Type 0
IsUnserved c ports m a past =
    (past ≡ a.past)
    ⊎ ((served_answers c a.state m ≡ []) × IsFreshCut c ports (standing (served_after c a.state m) a.past) past)

-- a reply that takes no step of the server takes no memory
abbrev pub IsUnreplied : Config → List ℕ → Option Message → Standing → List Exchange → Type 0
IsUnreplied c ports (Some (of.ToServer m)) a past = IsUnserved c ports m a past
IsUnreplied c ports _ a past = ⊥

-- ---- turns

abbrev pub IsServerTurn : Config → List ℕ → Bool → Desk Standing → Desk Standing → Type 0
IsServerTurn c ports bye a b = IsTurn Standing (IsReplied c ports) bye a b

-- a turn after which the server serves on
pub record GoesOn (c : Config) (ports : List ℕ) (a b : Desk Standing) : Type 0 where
  pub turn : IsServerTurn c ports false a b
  pub works : is_closed b.server.state.phase ≡ false

-- Memory ran out in a turn. By then nothing was sent; or a request was taken, and memory ran out before it had a reply; or
-- it had one, which was not given.
pub data StopsShort (c : Config) (ports : List ℕ) (a b : Desk Standing) : Type 0 where
  unsent : b.server.past ≡ a.server.past → StopsShort c ports a b
  unreplied : (asked : Option Message) → Takes a.coming b.coming asked →
      IsUnreplied c ports asked a.server b.server.past → StopsShort c ports a b
  ungiven : (asked : Option Message) (reply : Message) (d : Standing) → Takes a.coming b.coming asked →
      IsReplied c ports asked reply a.server d → b.server.past ≡ d.past → StopsShort c ports a b

-- what the turn does in which the loop ends
abbrev pub EndsBy : Config → List ℕ → Desk Standing → Desk Standing → End → Type 0
EndsBy c ports a b ends.Bye = IsServerTurn c ports true a b
EndsBy c ports a b ends.Port = (a.coming ≡ []) × (b ≡ a)
EndsBy c ports a b ends.Peer = b ≡ a
EndsBy c ports a b (ends.TakenOver p) = IsServerTurn c ports false a b × (b.server.state.phase ≡ Closed p)
EndsBy c ports a b ends.Memory = IsLeft Standing a b × StopsShort c ports a b
EndsBy c ports a b _ = ⊥

-- the end that an answered turn is, by whether it was `Bye` and by the server's phase after it
abbrev pub end_after : Bool → Phase → Option End
end_after true phase = Some ends.Bye
end_after false (Closed p) = Some (ends.TakenOver p)
end_after false _ = None

-- all turns, up to the one that ends the loop, or up to the last that is taken, which is answered like each before
pub record Serves (c : Config) (ports : List ℕ) (a b : Desk Standing) (end : End) : Type 0 where
  pub count : ℕ
  pub before : Desk Standing
  pub turns : InARow (Desk Standing) (GoesOn c ports) a count before
  pub ends :
      ((count < 1000000) × EndsBy c ports before b end)
      ⊎ ((end ≡ ends.Turns) × (count ≡ 1000000) × (b ≡ before))
