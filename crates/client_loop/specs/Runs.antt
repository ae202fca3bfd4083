-- A client's command: its lines one after the other, how it ends, and what it prints.
use Rattle.std.specs.Prelude.{◌≡◌, ◌⊎◌, ℕ, ◌≤◌, length, List, [], ◌∷◌, ◌++◌, Option, None, Some, Result, Ok, Err, ⊤}
use Rattle.std.specs.Io.KnownBytes.{Appends}
use Rattle.io_core.specs.Bytes.{AppendsPrefix}
use Rattle.io_core.specs.Lines.{lines_of, TakesPart}
use Rattle.io_core.specs.Links.{Exchange}
use Rattle.client_core.specs.Clients.{ClientState, fresh_client}
use Rattle.schedule_text.specs.declared.lines.script.ScriptLine.{ScriptLine}
use Rattle.schedule_text.specs.Taken.{IsOver, TakesLines}
use Rattle.client_loop.specs.declared.end.End.{End}
use Rattle.client_loop.specs.declared.end.End.TheVariants.{Done, Bad, Limit, ReadFault, WriteFault, Peer, Garbled, Memory}
use Rattle.client_loop.specs.Asks.{IsStop}
use Rattle.client_loop.specs.Byes.{IsStopEnd}
use Rattle.client_loop.specs.Ends.{status_of, Prints, IsTold, IsBroken}
use Rattle.client_loop.specs.Scripts.{Seat, seat, DoesLine, FailsLine}
use Rattle.client_loop.specs.Reading.{AreScripts, TakesScript, BeginsBad, IsAfter, HasReason, ReadsWhere, NeedsLastRead}

-- ---- lines that were done

-- the lines of a script, each of which does what it says where the one before it ended, and all that they print
pub data AreDone (id port : ℕ) (a : Seat) : List ScriptLine → Seat → List ℕ → Type 0 where
  none : AreDone id port a [] a []
  one_more : (scripts : List ScriptLine) (script : ScriptLine) (b c : Seat) (text line : List ℕ) → AreDone id port a scripts b text → DoesLine id port script b c line → AreDone id port a (scripts ++ script ∷ []) c (text ++ line)

-- all of the lines were done, from a fresh client on
pub record AllDone (id port : ℕ) (scripts : List ScriptLine) (past_old past_new : List Exchange) (text : List ℕ) : Type 0 where
  pub client : ClientState
  pub done : AreDone id port (seat fresh_client past_old) scripts (seat client past_new) text

-- the last of the lines failed, and the others were done
pub record LastFails (id port : ℕ) (end : End) (scripts : List ScriptLine) (past_old past_new : List Exchange) (text : List ℕ) : Type 0 where
  pub earlier : List ScriptLine
  pub script : ScriptLine
  pub split : scripts ≡ earlier ++ script ∷ []
  pub before : Seat
  pub client : ClientState
  pub done : AreDone id port (seat fresh_client past_old) earlier before text
  pub fails : FailsLine id port script before (seat client past_new) end

-- what the lines that were read did, up to an end
abbrev pub Goes : ℕ → ℕ → End → List ScriptLine → List Exchange → List Exchange → List ℕ → Type 0
Goes id port Peer scripts past_old past_new text = LastFails id port Peer scripts past_old past_new text
Goes id port Garbled scripts past_old past_new text = LastFails id port Garbled scripts past_old past_new text
Goes id port Memory scripts past_old past_new text =
    AllDone id port scripts past_old past_new text ⊎ LastFails id port Memory scripts past_old past_new text
Goes id port _ scripts past_old past_new text = AllDone id port scripts past_old past_new text

-- ---- one line

-- a line was read and done, and nothing is said of its text yet
pub record Turns (tells : Type 0) (id port : ℕ) (left_old left_new : Option (List ℕ)) (a b : Seat) (line : List ℕ) : Type 0 where
  pub script : ScriptLine
  pub takes : TakesScript left_old left_new script
  pub does : tells → DoesLine id port script a b line

-- a line was read, and it fails
pub record Fails (tells : Type 0) (id port : ℕ) (left_old left_new : Option (List ℕ)) (a b : Seat) (end : End) : Type 0 where
  pub script : ScriptLine
  pub takes : TakesScript left_old left_new script
  pub fails : tells → FailsLine id port script a b end

-- how reading a line and doing it goes, where it gives the text that is printed
abbrev pub DoesOf : Type 0 → ℕ → ℕ → Option (List ℕ) → Option (List ℕ) → Seat → Seat → List ℕ → ℕ → Result Unit End → Type 0
DoesOf tells id port left_old left_new a b line number (Ok _) = Turns tells id port left_old left_new a b line
DoesOf tells id port left_old left_new a b line number (Err Done) = IsOver left_old left_new × (b ≡ a)
DoesOf tells id port left_old left_new a b line number (Err (Bad bad at)) = BeginsBad left_old at × (bad ≡ number) × (b ≡ a)
DoesOf tells id port left_old left_new a b line number (Err ReadFault) = TakesPart 512 left_old left_new × (b ≡ a)
DoesOf tells id port left_old left_new a b line number (Err Memory) = (b ≡ a) ⊎ Fails tells id port left_old left_new a b Memory
DoesOf tells id port left_old left_new a b line number (Err Peer) = Fails tells id port left_old left_new a b Peer
DoesOf tells id port left_old left_new a b line number (Err Garbled) = Fails tells id port left_old left_new a b Garbled
DoesOf tells id port left_old left_new a b line number (Err _) = ⊥

-- how a line's text is written
abbrev pub WritesOf : Option (List ℕ) → Option (List ℕ) → List ℕ → Result Unit End → Type 0
WritesOf held_old held_new line (Ok _) = Appends held_old held_new line
WritesOf held_old held_new line (Err WriteFault) = AppendsPrefix held_old held_new line
WritesOf held_old held_new line (Err Memory) = AppendsPrefix held_old held_new line
WritesOf held_old held_new line (Err _) = ⊥

-- ---- between two lines

-- Where a script stands after so many lines. here is what is left beyond what is pending.
pub record Going (tells : Type 0) (id port : ℕ) (past_old : List Exchange) (left_old here before left held_old held_new : Option (List ℕ)) (at : Seat) (total : ℕ) : Type 0 where
  pub lines : List (List ℕ)
  pub scripts : List ScriptLine
  pub text : List ℕ
  pub spelled : AreScripts lines scripts
  pub done : tells → AreDone id port (seat fresh_client past_old) scripts at text
  pub read : TakesLines left_old here lines
  pub last : NeedsLastRead lines left_old before left
  pub held : Appends held_old held_new text
  pub count : length lines ≡ total

-- where a script stands when it ends, before its last line
pub record Reaches (tells : Type 0) (id port : ℕ) (past_old past_new : List Exchange) (left_old before left_new held_old held_new : Option (List ℕ)) (refused : Type 0) (end : End) : Type 0 where
  pub lines : List (List ℕ)
  pub scripts : List ScriptLine
  pub text : List ℕ
  pub after : IsAfter end lines
  pub few : length lines ≤ 20000
  pub read : ReadsWhere end left_old before left_new lines
  pub spelled : AreScripts lines scripts
  pub done : tells → Goes id port end scripts past_old past_new text
  pub told : IsTold refused end held_old held_new text

-- ---- the command

-- The lines that were read are a script of at most 20,000 lines; where the link tells, its exchanges and what is printed
-- are those of these lines, each done where the one before it ended, from a fresh client on; and then comes the last
-- line of the end. Where the sink failed a prefix is printed. refused says whether the sink ran out of memory.
pub record RunsScript (tells : Type 0) (id port : ℕ) (past_old past_new : List Exchange) (left_old before left_new held_old held_new : Option (List ℕ)) (refused : Type 0) (status : ℕ) : Type 0 where
  pub end : End
  pub lines : List (List ℕ)
  pub scripts : List ScriptLine
  pub text : List ℕ
  pub after : IsAfter end lines
  pub few : length lines ≤ 20000
  pub read : ReadsWhere end left_old before left_new lines
  pub spelled : AreScripts lines scripts
  pub done : tells → Goes id port end scripts past_old past_new text
  pub printed : Prints refused end held_old held_new text status

-- the ends that the lines alone decide
abbrev pub IsDecided : End → Type 0
IsDecided Done = ⊤
IsDecided (Bad line at) = ⊤
IsDecided Limit = ⊤
IsDecided _ = ⊥

-- a fault, a peer's failure or reply, or running out of memory came first
abbrev pub CameFirst : ℕ → Type 0
CameFirst status = (status ≡ 10) ⊎ ((status ≡ 13) ⊎ ((status ≡ 19) ⊎ IsBroken status))

-- where the lines lead to an end, the status is that of this end, unless something else came first
abbrev pub ComesExactly : Option (List ℕ) → ℕ → Type 0
ComesExactly None status = ⊤
ComesExactly (Some bytes) status =
    (end : End) (lines : List (List ℕ)) (scripts : List ScriptLine) (rest : List (List ℕ)) →
    IsDecided end → AreScripts lines scripts → lines_of bytes ≡ lines ++ rest → HasReason end lines rest →
    (status ≡ status_of end) ⊎ CameFirst status

-- one exchange at most, and what is printed of how it ended
pub record Stops (tells : Type 0) (port : ℕ) (past_old past_new : List Exchange) (held_old held_new : Option (List ℕ)) (refused : Type 0) (status : ℕ) : Type 0 where
  pub end : End
  pub kind : IsStopEnd end
  pub asked : tells → IsStop port past_old past_new end
  pub printed : Prints refused end held_old held_new [] status
