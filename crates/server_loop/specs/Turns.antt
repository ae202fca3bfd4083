-- Turns of a command that serves, whatever serves there.
use Rattle.std.specs.Prelude.{◌≡◌, ◌⊎◌, ℕ, ◌+◌, Bool, List, [], ◌∷◌, ◌++◌, Option}
use Rattle.io_core.specs.Ports.{Answered}
use Rattle.wire_codec.specs.declared.message.Message.{Message}
use Rattle.wire_codec.specs.Spelling.{message_frame}
use Rattle.server_loop.specs.Requests.{Reads, is_bye}

-- the requests to come and the calls of `answer` of a port, and what serves
pub record Desk (S : Type 0) : Type 0 where
  pub coming : List (List ℕ)
  pub answers : List Answered
  pub server : S

abbrev pub desk : {S : Type 0} → List (List ℕ) → List Answered → S → Desk S
desk coming answers server = record { coming = coming; answers = answers; server = server }

-- The first request to come is answered once, as it is to be replied to by what serves. It is `Bye`, or isn't.
pub record IsTurn (S : Type 0) (Replies : Option Message → Message → S → S → Type 0) (bye : Bool) (a b : Desk S) : Type 0 where
  pub request : List ℕ
  pub asked : Option Message
  pub reply : Message
  pub given : Bool
  pub took : a.coming ≡ request ∷ b.coming
  pub read : Reads request asked
  pub kind : is_bye asked ≡ bye
  pub answered : b.answers ≡ a.answers ++ record { bytes = message_frame reply; given = given } ∷ []
  pub replied : Replies asked reply a.server b.server

-- want of memory: at most one request is taken, and has no answer
pub record IsLeft (S : Type 0) (a b : Desk S) : Type 0 where
  pub took : (b.coming ≡ a.coming) ⊎ ((request : List ℕ) × (a.coming ≡ request ∷ b.coming))
  pub answered : b.answers ≡ a.answers

-- so many steps of a relation in a row
pub data InARow (S : Type 0) (Step : S → S → Type 0) (a : S) : ℕ → S → Type 0 where
  none : InARow S Step a 0 a
  one_more : (n : ℕ) (b c : S) → InARow S Step a n b → Step b c → InARow S Step a (n + 1) c
