-- All of a command that serves, from its parts.
use Rattle.std.proofs.Common.{◌≡◌, ℕ, List, length, arith, Option}
use Rattle.std.specs.Io.KnownBytes.{Appends}
use Rattle.std.proofs.lemmas.List.{take_all}
use Rattle.io_core.specs.Bytes.{AppendsPrefix}
use Rattle.io_core.specs.Ports.{Answered}
use Rattle.node_loops.specs.declared.end.End.{End}
use Rattle.node_loops.specs.declared.end.End.TheVariants.{Bye, Port, Turns, Unheard, Peer, Disk, Damaged, TakenOver, Answer, Full, WriteFault, Memory}
use Rattle.node_loops.specs.Ends.{first_line, HasBegun, IsBrokenEnd, IsEarlyEnd, IsTurnsEnd}
use Rattle.node_loops.specs.Serving.{Desk, desk, Replying, Failing, Runs, unbegun}

pub broken_early : (end : End) → IsBrokenEnd end → IsEarlyEnd end
broken_early WriteFault p = tt
broken_early Memory p = tt
broken_early Bye p = absurd p
broken_early Port p = absurd p
broken_early Turns p = absurd p
broken_early Unheard p = absurd p
broken_early Peer p = absurd p
broken_early Disk p = absurd p
broken_early (Damaged file at) p = absurd p
broken_early (TakenOver session) p = absurd p
broken_early Answer p = absurd p
broken_early Full p = absurd p

-- the port's lists are as they were
pub unmoved : {S : Type 0} (Replies : Replying S) (Fails : Failing S) (over : S → Option End) (coming coming' : List (List ℕ)) (answers answers' : List Answered) (s : S) (end : End) → IsEarlyEnd end → coming' ≡ coming → answers' ≡ answers →
    Runs S Replies Fails over (desk coming answers s) (desk coming' answers' s) end
unmoved Replies Fails over coming coming' answers answers' s end early p q =
    unbegun end early (λ i. record { coming = p i; answers = q i; server = s })

-- turns begin where the command has begun to listen
pub served_from : {S : Type 0} (Replies : Replying S) (Fails : Failing S) (over : S → Option End) (coming coming' : List (List ℕ)) (answers answers' : List Answered) (s : S) (b : Desk S) (end : End) → coming' ≡ coming → answers' ≡ answers →
    Runs S Replies Fails over (desk coming' answers' s) b end → Runs S Replies Fails over (desk coming answers s) b end
served_from Replies Fails over coming coming' answers answers' s b end p q h = rw (p, q) at h

Appends-prefix : (a b : Option (List ℕ)) (xs : List ℕ) → Appends a b xs → AppendsPrefix a b xs
Appends-prefix a b xs p = (length xs, omega arith, rw (take_all (length xs) xs (omega arith)) p)

pub begun_turns : (a b : Option (List ℕ)) (port : ℕ) (end : End) → IsTurnsEnd end → Appends a b (first_line port) → HasBegun a b port end
begun_turns a b port Bye h w = w
begun_turns a b port Port h w = w
begun_turns a b port Turns h w = w
begun_turns a b port Unheard h w = absurd h
begun_turns a b port Peer h w = w
begun_turns a b port Disk h w = w
begun_turns a b port (Damaged file at) h w = w
begun_turns a b port (TakenOver session) h w = w
begun_turns a b port Answer h w = w
begun_turns a b port Full h w = w
begun_turns a b port WriteFault h w = absurd h
begun_turns a b port Memory h w = Appends-prefix a b (first_line port) w
