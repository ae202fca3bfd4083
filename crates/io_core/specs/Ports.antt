-- What a port's calls do to the requests still to come and to what was answered, where the port tells.
use Rattle.std.specs.Prelude.{◌≡◌, ℕ, ◌<◌, ◌≤◌, Bool, true, false, List, [], ◌∷◌, ◌++◌, length, take, ⊤, Result, Ok, Err}
use Rattle.io_core.specs.declared.fault.Fault.{Fault}
use Rattle.io_core.specs.declared.fault.Fault.TheVariants.{Failed, Memory}
use Rattle.io_core.specs.declared.port.Turn.{Turn}
use Rattle.io_core.specs.declared.port.Turn.TheVariants.{Got, TooLong, End}

-- a call of `answer`: its bytes, and whether they were given or the call failed
pub record Answered : Type 0 where
  pub bytes : List ℕ
  pub given : Bool

-- the calls of `answer` with one more, unless it ran out of memory
abbrev pub answered : {T : Type 0} → List Answered → List ℕ → Result T Fault → List Answered
answered calls bytes (Ok _) = calls ++ record { bytes = bytes; given = true } ∷ []
answered calls bytes (Err Failed) = calls ++ record { bytes = bytes; given = false } ∷ []
answered calls bytes (Err Memory) = calls

-- a request of so many bytes is no longer than the room for it
abbrev pub FitsTurn : Turn → ℕ → Type 0
FitsTurn (Got count) room = count ≤ room
FitsTurn TooLong room = ⊤
FitsTurn End room = ⊤

-- A turn takes the first request to come, which stands in front of the buffer where it fits. At the end there is none.
abbrev pub TakesTurn : List (List ℕ) → List (List ℕ) → List ℕ → Turn → Type 0
TakesTurn old new into (Got count) = old ≡ take count into ∷ new
TakesTurn old new into TooLong =
    (request : List ℕ) × (length into < length request) × (old ≡ request ∷ new)
TakesTurn old new into End = (old ≡ []) × (new ≡ [])
