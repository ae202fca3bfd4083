-- What a client does with a line of its script.
use Rattle.std.specs.Prelude.{◌≡◌, ◌≢◌, ◌⊎◌, ◌<◌, ℕ, ◌+◌, Bool, true, false, List, ◌++◌, Option, Some, None, Ok, Err}
use Rattle.io_core.specs.Links.{Exchange}
use Rattle.proto_model.specs.declared.refusal.BuildFault.{BuildFault}
use Rattle.proto_model.specs.declared.client_message.ToServer.{ToServer}
use Rattle.proto_model.specs.declared.client_message.ToServer.TheVariants as to_server
use Rattle.proto_model.specs.declared.client_message.FromServer.{FromServer}
use Rattle.wire_codec.specs.declared.message.Message.TheVariants as of
use Rattle.client_core.specs.Clients.{ClientState, built, after_build, next_ask, moves, client_step}
use Rattle.client_core.specs.Building.{build_refusal}
use Rattle.schedule_text.specs.declared.lines.script.ScriptLine.{ScriptLine}
use Rattle.schedule_text.specs.declared.lines.script.ScriptLine.TheVariants as script
use Rattle.schedule_text.specs.Outcomes.{build_fault_text}
use Rattle.client_loop.specs.declared.end.End.{End}
use Rattle.client_loop.specs.declared.end.End.TheVariants.{Peer, Garbled, Memory}
use Rattle.client_loop.specs.declared.sync.Taken.{Taken}
use Rattle.client_loop.specs.declared.sync.Taken.TheVariants as taken
use Rattle.client_loop.specs.Asks.{IsAsk, IsTried}
use Rattle.client_loop.specs.Texts.{append_line, flush_line, sync_line, app_line, refused_line, more_line}

-- a client, and the exchanges of its link
pub record Seat : Type 0 where
  pub client : ClientState
  pub past : List Exchange

abbrev pub seat : ClientState → List Exchange → Seat
seat client past = record { client = client; past = past }

-- ---- one question

-- an answer that says what is awaited, by the line that it has then
pub record IsSaid (port : ℕ) (m : ToServer) (line_of : FromServer → Option (List ℕ)) (old new : List Exchange) (line : List ℕ) : Type 0 where
  pub answer : FromServer
  pub asked : IsAsk port m old new (Ok answer)
  pub said : line_of answer ≡ Some line

-- an answer that isn't awaited, or none
abbrev pub IsUnsaid : ℕ → ToServer → (FromServer → Option (List ℕ)) → List Exchange → List Exchange → End → Type 0
IsUnsaid port m line_of old new Garbled =
    IsAsk port m old new (Err Garbled) ⊎ ((answer : FromServer) × IsAsk port m old new (Ok answer) × (line_of answer ≡ None))
IsUnsaid port m line_of old new Peer = IsAsk port m old new (Err Peer)
IsUnsaid port m line_of old new Memory = IsTried port (of.ToServer m) old new
IsUnsaid port m line_of old new _ = ⊥

-- ---- append

-- the transaction that is built is sent
pub record IsSubmitted (id port : ℕ) (writes reads : List (List ℕ)) (ops : List ℕ) (a b : Seat) (line : List ℕ) : Type 0 where
  pub buildable : build_refusal a.client writes reads ops ≡ None
  pub client : b.client ≡ after_build a.client
  pub said : IsSaid port (to_server.Append (built a.client id writes reads ops)) (append_line a.client.request) a.past b.past line

-- no transaction is built, and nothing is sent
pub record IsUnbuilt (writes reads : List (List ℕ)) (ops : List ℕ) (a b : Seat) (line : List ℕ) : Type 0 where
  pub fault : BuildFault
  pub cause : build_refusal a.client writes reads ops ≡ Some fault
  pub same : b ≡ a
  pub told : line ≡ refused_line (build_fault_text fault)

-- the transaction that is built is sent, and its answer isn't awaited, or there is none; or there was no memory to build
pub record IsUnsubmitted (id port : ℕ) (writes reads : List (List ℕ)) (ops : List ℕ) (a b : Seat) (end : End) : Type 0 where
  pub sent : b.past ≢ a.past → build_refusal a.client writes reads ops ≡ None
  pub unsaid : IsUnsaid port (to_server.Append (built a.client id writes reads ops)) (append_line a.client.request) a.past b.past end

-- ---- sync

-- an ask whose answer moves the client
pub record IsMove (port : ℕ) (a b : Seat) : Type 0 where
  pub answer : FromServer
  pub asked : IsAsk port (next_ask a.client) a.past b.past (Ok answer)
  pub moved : moves a.client answer ≡ true
  pub client : b.client ≡ client_step a.client answer

-- so many moves in a row
pub data AreMoves (port : ℕ) (a : Seat) : ℕ → Seat → Type 0 where
  none : AreMoves port a 0 a
  one_more : (n : ℕ) (b c : Seat) → AreMoves port a n b → IsMove port b c → AreMoves port a (n + 1) c

-- an ask whose answer ends the asks: no head follows the mark, or nothing is shown
pub record IsLastAsk (port : ℕ) (a b : Seat) (line : List ℕ) : Type 0 where
  pub client : b.client ≡ a.client
  pub said : IsSaid port (next_ask a.client) (sync_line a.client) a.past b.past line

-- moves, and then an answer that ends them; or as many moves as are made at most
pub record IsSynced (port : ℕ) (a b : Seat) (line : List ℕ) : Type 0 where
  pub count : ℕ
  pub before : Seat
  pub moved : AreMoves port a count before
  pub ends :
      ((count < 100000) × IsLastAsk port before b line)
      ⊎ ((count ≡ 100000) × (b ≡ before) × (line ≡ more_line before.client.mark))

-- an answer that neither ends the asks nor moves the client, or none
abbrev pub StopsBy : ℕ → Seat → Seat → End → Type 0
StopsBy port a b Garbled =
    IsAsk port (next_ask a.client) a.past b.past (Err Garbled)
    ⊎ ((answer : FromServer) × IsAsk port (next_ask a.client) a.past b.past (Ok answer) × (sync_line a.client answer ≡ None) × (moves a.client answer ≡ false))
StopsBy port a b Peer = IsAsk port (next_ask a.client) a.past b.past (Err Peer)
StopsBy port a b Memory = IsTried port (of.ToServer (next_ask a.client)) a.past b.past
StopsBy port a b _ = ⊥

-- moves, and then an ask that ends the script; or there is no memory for the line after as many moves as are made at most
pub record StopsSync (port : ℕ) (a b : Seat) (end : End) : Type 0 where
  pub count : ℕ
  pub before : Seat
  pub moved : AreMoves port a count before
  pub stops :
      ((count < 100000) × StopsBy port before b end)
      ⊎ ((count ≡ 100000) × (b ≡ before) × (end ≡ Memory))

-- How an answer to an ask was taken: it ends the asks, and the line says why; it moves the client; or it does neither.
pub record IsTakenSo (answer : FromServer) (was : Taken) (cl cl' : ClientState) (old new : List ℕ) : Type 0 where
  pub said : was ≡ taken.Said → (line : List ℕ) × (sync_line cl answer ≡ Some line) × (new ≡ old ++ line) × (cl' ≡ cl)
  pub moved : was ≡ taken.Moved → (moves cl answer ≡ true) × (cl' ≡ client_step cl answer) × (new ≡ old)
  pub other : was ≡ taken.Other → (sync_line cl answer ≡ None) × (moves cl answer ≡ false)

-- one ask: its answer ends the asks, or moves the client
abbrev pub IsAskedOnce : ℕ → Bool → Seat → Seat → List ℕ → List ℕ → Type 0
IsAskedOnce port true a b old new = (line : List ℕ) × IsLastAsk port a b line × (new ≡ old ++ line)
IsAskedOnce port false a b old new = IsMove port a b × (new ≡ old)

-- ---- every line

-- what a line of a script sends, makes of the client, and prints
abbrev pub DoesLine : ℕ → ℕ → ScriptLine → Seat → Seat → List ℕ → Type 0
DoesLine id port (script.Append writes reads ops) a b line =
    IsSubmitted id port writes reads ops a b line ⊎ IsUnbuilt writes reads ops a b line
DoesLine id port script.Sync a b line = IsSynced port a b line
DoesLine id port script.App a b line = (b ≡ a) × (line ≡ app_line id a.client)
DoesLine id port script.Flush a b line = (b.client ≡ a.client) × IsSaid port to_server.Flush flush_line a.past b.past line

-- why a line ends the script
abbrev pub FailsLine : ℕ → ℕ → ScriptLine → Seat → Seat → End → Type 0
FailsLine id port (script.Append writes reads ops) a b end = IsUnsubmitted id port writes reads ops a b end
FailsLine id port script.Sync a b end = StopsSync port a b end
FailsLine id port script.App a b end = (end ≡ Memory) × (b ≡ a)
FailsLine id port script.Flush a b end = IsUnsaid port to_server.Flush flush_line a.past b.past end
