-- The drive: rounds over the nodes, in which each gets the server's next message for it.
use Rattle.std.specs.Prelude.{◌≡◌, ◌⊎◌, ℕ, ◌+◌, ◌*◌, ◌-◌, ◌^◌, ◌<◌, ◌==◌, ◌&&◌, ◌||◌, nat_le, nat_lt, if◌then◌else◌, Bool, true, false, List, [], ◌∷◌, length, set, None, Some, slice_index_or, ⊤, Result, Ok, Err}
use Rattle.io_core.specs.Links.{Exchange}
use Rattle.tx_model.specs.declared.record.Record.{Record}
use Rattle.tx_model.specs.Records.{first_id}
use Rattle.proto_model.specs.declared.message.Phase.{Phase}
use Rattle.proto_model.specs.declared.message.Phase.TheVariants.{Closed}
use Rattle.proto_model.specs.declared.message.ToNode.{ToNode}
use Rattle.proto_model.specs.declared.message.ToNode.TheVariants.{Open, Fetch, Stage, Adopt, Append, Low}
use Rattle.proto_model.specs.declared.message.FromNode.{FromNode}
use Rattle.proto_model.specs.declared.message.FromNode.TheVariants.{Opened, Records, Staged, Adopted, Acked, LowSet}
use Rattle.proto_model.specs.Servers.{Config, ServerState, server_after}
use Rattle.proto_model.specs.Sending.{next_message}
use Rattle.proto_model.specs.Validity.{IsValidFromNode}
use Rattle.wire_codec.specs.declared.message.Message.{Message}
use Rattle.wire_codec.specs.declared.message.Message.TheVariants as of
use Rattle.server_loop.specs.declared.driving.Out.{Out}
use Rattle.server_loop.specs.declared.driving.Out.TheVariants as outs
use Rattle.server_loop.specs.declared.awaiting.Answer.{Answer}
use Rattle.server_loop.specs.declared.awaiting.Answer.TheVariants as answer
use Rattle.server_loop.specs.declared.exchanges.Reply.{Reply}
use Rattle.server_loop.specs.declared.exchanges.Reply.TheVariants as replies
use Rattle.server_loop.specs.Exchanges.{HasExchanged, IsSent, IsTried}

-- ---- replies

-- the id of a batch's last record
abbrev pub last_place : List Record → ℕ
last_place batch = first_id batch + length batch - 1

-- The reply that moves a node forward: of the same session, to this message, where the log has so many records.
abbrev pub is_awaited : ToNode → FromNode → ℕ → Bool
is_awaited (Open s) (Opened t adopted low len) last = t == s && nat_lt adopted s
is_awaited (Fetch s from max) (Records t batch) last =
    t == s && (first_id batch == from && nat_le (length batch) max)
is_awaited (Stage s batch) (Staged t upto) last = t == s && upto == last_place batch
is_awaited (Adopt s base) (Adopted t len) last = t == s && (nat_le base len && nat_le len last)
is_awaited (Append s batch) (Acked t len) last =
    t == s && (nat_le (last_place batch) len && nat_le len last)
is_awaited (Low s k) (LowSet t low) last = t == s && low == k
is_awaited _ _ last = false

abbrev pub is_awaited_by : Message → FromNode → ℕ → Bool
is_awaited_by (of.ToNode m) reply last = is_awaited m reply last
is_awaited_by _ reply last = false

-- what an exchange with a node gave
abbrev pub answer_of : Reply → Answer
answer_of (replies.Message (of.FromNode m)) = answer.From m
answer_of (replies.Message _) = answer.Garbled
answer_of replies.Garbled = answer.Garbled
answer_of replies.Failed = answer.Failed

abbrev pub IsValidAnswer : Answer → Type 0
IsValidAnswer (answer.From m) = IsValidFromNode m
IsValidAnswer answer.Garbled = ⊤
IsValidAnswer answer.Failed = ⊤

-- an exchange with a node gave this
pub record Answers (port : ℕ) (m : Message) (answer : Answer) (old new : List Exchange) : Type 0 where
  pub reply : Reply
  pub exchanged : HasExchanged port m reply old new
  pub is : answer ≡ answer_of reply

-- it gave this, or memory ran out
abbrev pub AnswersOf : {E : Type 0} → ℕ → Message → List Exchange → List Exchange → Result Answer E → Type 0
AnswersOf port m old new (Ok answer) = Answers port m answer old new
AnswersOf port m old new (Err _) = IsTried port m old new

-- this is the next message for a node
pub record IsWanted (c : Config) (sv : ServerState) (i : ℕ) (sent : Message) : Type 0 where
  pub message : ToNode
  pub is : sent ≡ of.ToNode message
  pub wanted : next_message c sv i ≡ Some message

-- a node lacks less after the awaited reply to its next message
abbrev pub MovesForward : Config → ServerState → ℕ → FromNode → ℕ → ℕ → Type 0
MovesForward c sv i reply before after = (m : ToNode) → next_message c sv i ≡ Some m →
    is_awaited m reply (length sv.log) ≡ true → after < before

-- ---- one node

-- a server that drives: its state, which nodes are out, and the exchanges of its link
pub record Driving : Type 0 where
  pub state : ServerState
  pub outs : List Out
  pub past : List Exchange

abbrev pub driving : ServerState → List Out → List Exchange → Driving
driving state outs past = record { state = state; outs = outs; past = past }

abbrev pub takes_part : Out → Bool
takes_part outs.In = true
takes_part _ = false

abbrev pub is_in : List Out → ℕ → Bool
is_in list i = takes_part (slice_index_or list i outs.In)

abbrev pub state_after : Config → ServerState → ℕ → Answer → ServerState
state_after c sv i (answer.From m) = server_after c sv i m
state_after c sv i _ = sv

abbrev pub out_after : ServerState → Message → Answer → Out
out_after sv m (answer.From reply) =
    if is_awaited_by m reply (length sv.log) then outs.In else outs.Other
out_after sv m answer.Garbled = outs.Other
out_after sv m answer.Failed = outs.Failed

-- where a node listens
abbrev pub port_of : List ℕ → ℕ → ℕ
port_of ports i = slice_index_or ports (i - 1) 0

-- the node gets its next message in one exchange
pub record IsAsked (c : Config) (ports : List ℕ) (i : ℕ) (a b : Driving) : Type 0 where
  pub message : ToNode
  pub answer : Answer
  pub wanted : next_message c a.state i ≡ Some message
  pub is_in : is_in a.outs i ≡ true
  pub answered : Answers (port_of ports i) (of.ToNode message) answer a.past b.past
  pub state : b.state ≡ state_after c a.state i answer
  pub outs : b.outs ≡ set a.outs i (out_after a.state (of.ToNode message) answer)

-- it is out, or there is no message for it
abbrev pub IsPassed : Config → ℕ → Driving → Driving → Type 0
IsPassed c i a b = (b ≡ a) × ((is_in a.outs i ≡ false) ⊎ (next_message c a.state i ≡ None))

-- one node's part of a round, and whether something was sent
abbrev pub IsVisit : Config → List ℕ → ℕ → Bool → Driving → Driving → Type 0
IsVisit c ports i true a b = IsAsked c ports i a b
IsVisit c ports i false a b = IsPassed c i a b

-- the node's next message was sent to it, and the reply is lost
pub record IsUnheard (c : Config) (ports : List ℕ) (i : ℕ) (a : Driving) (past : List Exchange) : Type 0 where
  pub message : ToNode
  pub wanted : next_message c a.state i ≡ Some message
  pub is_in : is_in a.outs i ≡ true
  pub sent : IsSent (port_of ports i) (of.ToNode message) a.past past

-- Memory ran out in one node's part of a round: nothing was sent, or the node's next message was.
abbrev pub IsCutVisit : Config → List ℕ → ℕ → Driving → List Exchange → Type 0
IsCutVisit c ports i a past = (past ≡ a.past) ⊎ IsUnheard c ports i a past

-- ---- rounds

abbrev pub is_closed : Phase → Bool
is_closed (Closed p) = true
is_closed _ = false

-- the first nodes of a round, and whether something was sent in it; no visit follows one that closed the server
pub data IsInRound (c : Config) (ports : List ℕ) (a : Driving) : ℕ → Bool → Driving → Type 0 where
  at_start : IsInRound c ports a 0 false a
  visited : (k : ℕ) (sent more : Bool) (b d : Driving) → IsInRound c ports a k sent b →
      is_closed b.state.phase ≡ false → IsVisit c ports (k + 1) more b d →
      IsInRound c ports a (k + 1) (sent || more) d

-- the server was closed in a round
pub record IsClosedIn (c : Config) (ports : List ℕ) (a d : Driving) : Type 0 where
  pub visits : ℕ
  pub sent : Bool
  pub round : IsInRound c ports a visits sent d
  pub closed : is_closed d.state.phase ≡ true

-- a round with which the drive ends, since nothing was sent or the server is closed
abbrev pub EndsDrive : Config → List ℕ → Driving → Driving → Type 0
EndsDrive c ports a d = IsInRound c ports a c.nodes false d ⊎ IsClosedIn c ports a d

-- a round, and whether another one follows
abbrev pub IsRound : Config → List ℕ → Bool → Driving → Driving → Type 0
IsRound c ports true a d = IsInRound c ports a c.nodes true d × (is_closed d.state.phase ≡ false)
IsRound c ports false a d = EndsDrive c ports a d

-- a round in which memory ran out, in the part of the node behind those that were visited
pub record IsCutRound (c : Config) (ports : List ℕ) (a : Driving) (past : List Exchange) : Type 0 where
  pub visits : ℕ
  pub sent : Bool
  pub at : Driving
  pub round : IsInRound c ports a visits sent at
  pub more : visits < c.nodes
  pub works : is_closed at.state.phase ≡ false
  pub cut : IsCutVisit c ports (visits + 1) at past

-- whole rounds, in each of which something was sent and none of which closed the server
pub data AreRounds (c : Config) (ports : List ℕ) (a : Driving) : Driving → Type 0 where
  none : AreRounds c ports a a
  round : (b d : Driving) → AreRounds c ports a b → IsRound c ports true b d → AreRounds c ports a d

-- rounds up to the one with which the drive ends
pub record IsDrive (c : Config) (ports : List ℕ) (a d : Driving) : Type 0 where
  pub before : Driving
  pub rounds : AreRounds c ports a before
  pub ends : EndsDrive c ports before d

-- a drive in which memory ran out: whole rounds, and the one in which it did
pub record IsCutDrive (c : Config) (ports : List ℕ) (a : Driving) (past : List Exchange) : Type 0 where
  pub before : Driving
  pub rounds : AreRounds c ports a before
  pub cut : IsCutRound c ports before past

-- ---- why a drive ends: each exchange puts its node out, or lessens what the nodes lack

abbrev pub part : Out → ℕ
part outs.In = 1
part _ = 0

-- how many nodes take part
unfoldable pub parts : List Out → ℕ
parts [] = 0
parts (out ∷ list) = part out + parts list

-- what is before a drive, where the nodes lack so much
abbrev pub work : List Out → ℕ → ℕ
work list lack = parts list * 2 ^ 64 + lack

-- less is before it then, where something was sent
abbrev pub IsLess : Bool → ℕ → ℕ → Type 0
IsLess true before after = after < before
IsLess false before after = after ≡ before
