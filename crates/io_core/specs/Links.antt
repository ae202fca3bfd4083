-- What a link tells: its exchanges, each with the port, the bytes sent and what came back.
use Rattle.std.specs.Prelude.{ℕ, ◌≤◌, List, [], ◌∷◌, ◌++◌, take, ⊤, Result, Ok, Err}
use Rattle.io_core.specs.declared.fault.Fault.{Fault}
use Rattle.io_core.specs.declared.fault.Fault.TheVariants.{Failed, Memory}
use Rattle.io_core.specs.declared.link.Back.{Back}
use Rattle.io_core.specs.declared.link.Back.TheVariants.{Got, TooLong}

-- what came back: a reply, one that is longer than the room for it, or nothing, since the exchange failed
pub data Heard : Type 0 where
  Reply : List ℕ → Heard
  Long : Heard
  Nothing : Heard

pub record Exchange : Type 0 where
  pub port : ℕ
  pub sent : List ℕ
  pub heard : Heard

abbrev pub heard_back : Back → List ℕ → Heard
heard_back (Got count) into = Reply (take count into)
heard_back TooLong into = Long

-- the exchanges with one more, unless it ran out of memory
abbrev pub exchanged : List Exchange → ℕ → List ℕ → List ℕ → Result Back Fault → List Exchange
exchanged past port sent into (Ok back) =
    past ++ record { port = port; sent = sent; heard = heard_back back into } ∷ []
exchanged past port sent into (Err Failed) =
    past ++ record { port = port; sent = sent; heard = Nothing } ∷ []
exchanged past port sent into (Err Memory) = past

-- a reply of so many bytes is no longer than the room for it
abbrev pub FitsBack : Back → ℕ → Type 0
FitsBack (Got count) room = count ≤ room
FitsBack TooLong room = ⊤
