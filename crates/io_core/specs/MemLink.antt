-- A link in memory: the replies still to come, its exchanges, and which of its calls fail.
use Rattle.std.specs.Prelude.{◌≡◌, ◌⊎◌, ℕ, nat_le, if◌then◌else◌, List, [], ◌∷◌, ◌++◌, drop, length, Contains, Result, Ok, Err}
use Rattle.io_core.specs.Causes.{counted}
use Rattle.io_core.specs.declared.fault.Fault.{Fault}
use Rattle.io_core.specs.declared.fault.Fault.TheVariants.{Failed, Memory}
use Rattle.io_core.specs.declared.link.Back.{Back}
use Rattle.io_core.specs.declared.link.Back.TheVariants.{Got, TooLong}
use Rattle.io_core.specs.Links.{Heard, Exchange, Reply, Long, Nothing}
use Rattle.io_core.specs.Rooms.{first_of}

pub record LinkState : Type 0 where
  -- the replies still to come
  pub replies : List (List ℕ)
  -- the exchanges, but those that ran out of memory
  pub transcript : List Exchange
  -- the numbers of the calls that fail, counted from 1
  pub fails : List ℕ
  -- how many calls and faults there were
  pub calls : ℕ
  pub faults : ℕ
  -- how many calls ran out of memory
  pub wants : ℕ

-- the next call fails: its number was chosen, or no reply is left
abbrev pub MustFailNext : LinkState → Type 0
MustFailNext s = Contains s.fails (counted s.calls) ⊎ (s.replies ≡ [])

-- what a call answers of a reply where there is so much room
abbrev pub back_of : List ℕ → ℕ → Back
back_of reply room = if nat_le (length reply) room then Got (length reply) else TooLong

-- what is heard of a reply where there is so much room
abbrev pub heard_of : List ℕ → ℕ → Heard
heard_of reply room = if nat_le (length reply) room then Reply reply else Long

-- the link after a call with these bytes and so much room; out of memory it counts as no call
abbrev pub exchange_after : LinkState → ℕ → List ℕ → ℕ → Result Back Fault → LinkState
exchange_after s port bytes room (Ok _) = record s {
  replies = drop 1 s.replies;
  transcript = s.transcript ++ record { port = port; sent = bytes; heard = heard_of (first_of s.replies) room } ∷ [];
  calls = counted s.calls;
}
exchange_after s port bytes room (Err Failed) = record s {
  transcript = s.transcript ++ record { port = port; sent = bytes; heard = Nothing } ∷ [];
  calls = counted s.calls;
  faults = counted s.faults;
}
exchange_after s port bytes room (Err Memory) = record s { wants = counted s.wants }

-- these bytes in front of more, unless nothing was heard
abbrev pub onto_heard : List ℕ → Heard → List (List ℕ) → List (List ℕ)
onto_heard bytes (Reply reply) more = bytes ∷ more
onto_heard bytes Long more = bytes ∷ more
onto_heard bytes Nothing more = more

-- the bytes of each exchange in which a reply came
abbrev pub sent_bytes : List Exchange → List (List ℕ)
sent_bytes [] = []
sent_bytes (exchange ∷ more) = onto_heard exchange.sent exchange.heard (sent_bytes more)
