-- A server's command over a link: what it makes of replies and requests.
use Rattle.std.specs.Prelude.{ℕ, List, ◌++◌, Option}
use Rattle.io_core.specs.Ports.{Answered}
use Rattle.io_core.specs.Links.{Exchange}
use Rattle.proto_model.specs.Servers.{ServerState}
use Rattle.server_loop.specs.declared.end.End.{End}
use Rattle.server_loop.specs.Ends.{status_of, last_line, Prints, HasCountedOuts}
use Rattle.server_loop.specs.Turns.{desk}
use Rattle.server_loop.specs.Serving.{standing}
use Rattle.server_loop.specs.Sessions.{Post, Opens, Runs}

-- What the command does: what is sent, answered and printed, and that the link counted the failures that an end names. How
-- the run opens is told over the link alone.
abbrev pub ServesPartition : (tells heard : Type 0) (at : Post) (past past' : List Exchange) (counted counted' : ℕ) (coming coming' : List (List ℕ)) (answers answers' : List Answered) (held_old held_new : Option (List ℕ)) (status : ℕ) → Type 0
ServesPartition tells heard at past past' counted counted' coming coming' answers answers' held_old held_new status =
    (end : End) × (lines : List ℕ)
    × Prints held_old held_new (lines ++ last_line end) (status_of end) status
    × HasCountedOuts end counted counted'
    × (tells → Opens at past past' end)
    × (tells → heard → (after : ServerState) × Runs at past coming answers (desk coming' answers' (standing after past')) lines end)
