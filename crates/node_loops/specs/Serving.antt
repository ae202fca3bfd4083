-- Turns of a command that serves, whatever serves there: each is a request and its answer.
use Rattle.std.specs.Prelude.{◌≡◌, ◌⊎◌, ◌<◌, ℕ, ◌+◌, Bool, true, false, List, [], ◌∷◌, ◌++◌, Option, None, Some}
use Rattle.io_core.specs.Ports.{Answered}
use Rattle.wire_codec.specs.declared.message.Message.{Message}
use Rattle.wire_codec.specs.Spelling.{message_frame}
use Rattle.node_loops.specs.declared.requests.Asked.{Asked}
use Rattle.node_loops.specs.declared.end.End.{End}
use Rattle.node_loops.specs.declared.end.End.TheVariants as ends
use Rattle.node_loops.specs.Ends.{IsEarlyEnd}
use Rattle.node_loops.specs.Requests.{Asks, is_bye}

-- the requests to come and the calls of `answer` of a port, and what serves
pub record Desk (S : Type 0) : Type 0 where
  pub coming : List (List ℕ)
  pub answers : List Answered
  pub server : S

abbrev pub desk : {S : Type 0} → List (List ℕ) → List Answered → S → Desk S
desk coming answers server = record { coming = coming; answers = answers; server = server }

-- what serves: what it replies to what is asked, and how it fails
abbrev pub Replying : Type 0 → Type 1
Replying S = Asked → Message → S → S → Type 0

abbrev pub Failing : Type 0 → Type 1
Failing S = Asked → End → S → S → Type 0

-- so many steps of a relation in a row
pub data InARow (S : Type 0) (Step : S → S → Type 0) (a : S) : ℕ → S → Type 0 where
  none : InARow S Step a 0 a
  one_more : (n : ℕ) (b c : S) → InARow S Step a n b → Step b c → InARow S Step a (n + 1) c

-- The first request to come is answered once, by the frame of what serves' reply. It is `Bye`, or isn't.
pub record IsTurn (S : Type 0) (Replies : Replying S) (bye : Bool) (a b : Desk S) : Type 0 where
  pub request : List ℕ
  pub asked : Asked
  pub reply : Message
  pub given : Bool
  pub took : a.coming ≡ request ∷ b.coming
  pub asks : Asks request asked
  pub kind : is_bye asked ≡ bye
  pub answered : b.answers ≡ a.answers ++ record { bytes = message_frame reply; given = given } ∷ []
  pub replied : Replies asked reply a.server b.server

-- a turn after which the loop goes on: no `Bye`, and what served serves on
pub record GoesOn (S : Type 0) (Replies : Replying S) (over : S → Option End) (a b : Desk S) : Type 0 where
  pub turn : IsTurn S Replies false a b
  pub serves : over b.server ≡ None

-- the first request to come is taken, and has no answer, since what serves failed at it
pub record IsUnanswered (S : Type 0) (Fails : Failing S) (end : End) (a b : Desk S) : Type 0 where
  pub request : List ℕ
  pub asked : Asked
  pub took : a.coming ≡ request ∷ b.coming
  pub asks : Asks request asked
  pub answered : b.answers ≡ a.answers
  pub failed : Fails asked end a.server b.server

-- there is no memory for the answer to what was replied
pub record IsUnsent (S : Type 0) (Replies : Replying S) (a b : Desk S) : Type 0 where
  pub request : List ℕ
  pub asked : Asked
  pub reply : Message
  pub took : a.coming ≡ request ∷ b.coming
  pub asks : Asks request asked
  pub answered : b.answers ≡ a.answers
  pub replied : Replies asked reply a.server b.server

-- there is no memory to read the request
pub record IsUnread (S : Type 0) (a b : Desk S) : Type 0 where
  pub request : List ℕ
  pub took : a.coming ≡ request ∷ b.coming
  pub answered : b.answers ≡ a.answers
  pub server : b.server ≡ a.server

-- what happens in the turn in which the loop ends
pub data EndsBy (S : Type 0) (Replies : Replying S) (Fails : Failing S) (over : S → Option End) (a b : Desk S) : End → Type 0 where
  parted : IsTurn S Replies true a b → EndsBy S Replies Fails over a b ends.Bye
  closed : (end : End) → IsTurn S Replies false a b → over b.server ≡ Some end → EndsBy S Replies Fails over a b end
  failed : (end : End) → IsUnanswered S Fails end a b → EndsBy S Replies Fails over a b end
  none_came : a.coming ≡ [] → b ≡ a → EndsBy S Replies Fails over a b ends.Port
  port_failed : b ≡ a → EndsBy S Replies Fails over a b ends.Peer
  unread : IsUnread S a b → EndsBy S Replies Fails over a b ends.Memory
  unsent : IsUnsent S Replies a b → EndsBy S Replies Fails over a b ends.Memory

-- all turns, up to the one in which the loop ends, or up to the last that is taken, which is answered like each before
pub record Serves (S : Type 0) (Replies : Replying S) (Fails : Failing S) (over : S → Option End) (a b : Desk S) (end : End) : Type 0 where
  pub count : ℕ
  pub before : Desk S
  pub turns : InARow (Desk S) (GoesOn S Replies over) a count before
  pub ends :
      ((count < 1000000) × EndsBy S Replies Fails over before b end)
      ⊎ ((end ≡ ends.Turns) × (count ≡ 1000000) × (b ≡ before))

-- all of a command that serves: it ends before the first turn, or takes turns
pub data Runs (S : Type 0) (Replies : Replying S) (Fails : Failing S) (over : S → Option End) (a b : Desk S) : End → Type 0 where
  unbegun : (end : End) → IsEarlyEnd end → b ≡ a → Runs S Replies Fails over a b end
  served : (end : End) → Serves S Replies Fails over a b end → Runs S Replies Fails over a b end

-- the end after an answered turn, by whether it was `Bye`, and by whether what served serves on
abbrev pub end_after : Bool → Option End → Option End
end_after true over = Some ends.Bye
end_after false over = over
