-- A port in memory: the requests still to come, what was answered, and which of its calls fail.
use Rattle.std.specs.Prelude.{ℕ, nat_le, if◌then◌else◌, List, [], ◌∷◌, drop, length, Result, Ok, Err}
use Rattle.io_core.specs.Causes.{counted}
use Rattle.io_core.specs.declared.fault.Fault.{Fault}
use Rattle.io_core.specs.declared.fault.Fault.TheVariants.{Failed, Memory}
use Rattle.io_core.specs.declared.port.Turn.{Turn}
use Rattle.io_core.specs.declared.port.Turn.TheVariants.{Got, TooLong, End}
use Rattle.io_core.specs.Ports.{Answered, answered}

pub record PortState : Type 0 where
  -- the requests still to come
  pub coming : List (List ℕ)
  -- the calls of `answer`, but those that ran out of memory
  pub answers : List Answered
  -- the numbers of the calls that fail, counted from 1
  pub fails : List ℕ
  -- how many calls there were, and how many of `listen` and `next`, and of `answer`, failed
  pub calls : ℕ
  pub faults : ℕ
  pub lost : ℕ
  -- how many calls ran out of memory
  pub wants : ℕ

-- what the next turn brings into so much room
abbrev pub turn_of : List (List ℕ) → ℕ → Turn
turn_of [] room = End
turn_of (request ∷ coming) room =
    if nat_le (length request) room then Got (length request) else TooLong

-- the port after a call that takes no request
abbrev pub listen_after : {T E : Type 0} → PortState → Result T E → PortState
listen_after s (Ok _) = record s { calls = counted s.calls }
listen_after s (Err _) = record s { calls = counted s.calls; faults = counted s.faults }

-- the port after a call of `next`: one that failed takes no request
abbrev pub next_after : {T E : Type 0} → PortState → Result T E → PortState
next_after s (Ok _) = record s { coming = drop 1 s.coming; calls = counted s.calls }
next_after s (Err _) = record s { calls = counted s.calls; faults = counted s.faults }

-- the port after a call of `answer`; one that ran out of memory counts as no call
abbrev pub answer_after : {T : Type 0} → PortState → List ℕ → Result T Fault → PortState
answer_after s bytes (Ok done) = record s {
  answers = answered s.answers bytes (Ok done);
  calls = counted s.calls;
}
answer_after {T} s bytes (Err Failed) = record s {
  answers = answered {T = T} s.answers bytes (Err Failed);
  calls = counted s.calls;
  lost = counted s.lost;
}
answer_after s bytes (Err Memory) = record s { wants = counted s.wants }

-- the bytes that were given
abbrev pub given_bytes : List Answered → List (List ℕ)
given_bytes [] = []
given_bytes (call ∷ calls) =
    if call.given then call.bytes ∷ given_bytes calls else given_bytes calls
