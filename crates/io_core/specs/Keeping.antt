-- What ports and links in memory keep of their calls, and what they tell by it.
use Rattle.std.specs.Prelude.{ℕ, ◌+◌, true, false, List, [], ◌∷◌, drop}
use Rattle.io_core.specs.declared.kept.Attempt.{Attempt}
use Rattle.io_core.specs.declared.kept.Attempt.TheVariants.{Given, Lost}
use Rattle.io_core.specs.declared.kept.Past.{Past}
use Rattle.io_core.specs.declared.kept.Past.TheVariants.{Replied, Unheard}
use Rattle.io_core.specs.Ports.{Answered}
use Rattle.io_core.specs.Links.{Exchange, Nothing}
use Rattle.io_core.specs.MemLink.{heard_of}
use Rattle.io_core.specs.Rooms.{first_of}

-- how many of the calls were given
abbrev pub given_count : List Attempt → ℕ
given_count [] = 0
given_count (Given ∷ past) = given_count past + 1
given_count (Lost _ ∷ past) = given_count past

-- the calls of `answer`, from what is kept of each and the bytes that were given
abbrev pub answers_of : List Attempt → List (List ℕ) → List Answered
answers_of [] given = []
answers_of (Given ∷ past) given =
    record { bytes = first_of given; given = true } ∷ answers_of past (drop 1 given)
answers_of (Lost bytes ∷ past) given =
    record { bytes = bytes.items; given = false } ∷ answers_of past given

-- in how many of the exchanges a reply came
abbrev pub replied_count : List Past → ℕ
replied_count [] = 0
replied_count (Replied _ _ ∷ past) = replied_count past + 1
replied_count (Unheard _ _ ∷ past) = replied_count past

-- the exchanges, from what is kept of each, the bytes of those in which a reply came, and the replies
abbrev pub transcript_of : List Past → List (List ℕ) → List (List ℕ) → List Exchange
transcript_of [] sent replies = []
transcript_of (Replied port room ∷ past) sent replies =
    record { port = port; sent = first_of sent; heard = heard_of (first_of replies) room }
    ∷ transcript_of past (drop 1 sent) (drop 1 replies)
transcript_of (Unheard port bytes ∷ past) sent replies =
    record { port = port; sent = bytes.items; heard = Nothing } ∷ transcript_of past sent replies
