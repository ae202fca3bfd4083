-- The schedule of a number: a generator, begun with the number, draws each of its lines.
use Rattle.std.specs.Prelude.{ℕ, zero, suc, ◌+◌, ◌*◌, ◌/◌, ◌%◌, ◌^◌, ◌==◌, nat_le, if◌then◌else◌, List, [], ◌∷◌, ◌++◌, map, codes, decimal}
use Rattle.net_model.specs.declared.cluster.Cluster.{Cluster}
use Rattle.net_model.specs.declared.event.Event.{Event}
use Rattle.net_model.specs.declared.event.Event.TheVariants as event
use Rattle.schedule_text.specs.Lines.{line_text}
use Rattle.schedule_text.specs.Spellings.{parts_of, first_parts}
use Rattle.schedule_text.specs.Taken.{text_of}

-- ---- the generator

abbrev pub next_state : ℕ → ℕ
next_state x = (x * 6364136223846793005 + 1442695040888963407) % 2 ^ 64

-- what is drawn from a state, of the k numbers from 0. The state after it is the next one.
abbrev pub drawn : ℕ → ℕ → ℕ
drawn x k = next_state x / 2 ^ 33 % k

-- ---- the event of a line. Its draws are made in the order in which the line names them

-- an event, and the generator's state after its draws
pub record Numbered : Type 0 where
  pub event : Event
  pub state : ℕ

-- an event without a draw
abbrev pub settled : Event → ℕ → Numbered
settled e x = record { event = e; state = x }

-- an event of a number from 1 to k
abbrev pub of_one : (ℕ → Event) → ℕ → ℕ → Numbered
of_one e k x = record { event = e (1 + drawn x k); state = next_state x }

-- a client's next ask to a server
abbrev pub asked : ℕ → Numbered
asked x = record { event = event.Ask (1 + drawn x 4) (1 + drawn (next_state x) 2); state = next_state (next_state x) }

abbrev pub key_of : ℕ → List ℕ
key_of d = codes "k" ++ decimal d

-- a client adds 1 to a key
abbrev pub adding : ℕ → ℕ → ℕ → Event
adding client server d = event.Append client server (key_of d ∷ []) [] (codes "add " ++ (key_of d ++ codes " 1"))

abbrev pub appended : ℕ → Numbered
appended x = record {
  event = adding (1 + drawn x 4) (1 + drawn (next_state x) 2) (drawn (next_state (next_state x)) 10);
  state = next_state (next_state (next_state x));
}

-- an event of a server where one of eight numbers is drawn, else `next`
abbrev pub rarely : (ℕ → Event) → ℕ → Numbered
rarely e x = if drawn x 8 == 0 then of_one e 2 (next_state x) else settled event.Next (next_state x)

-- the event of line i, for which d of 64 was drawn
abbrev pub by_draw : ℕ → ℕ → ℕ → Numbered
by_draw i d x =
    if nat_le d 47 then settled event.Next x
    else if nat_le d 48 then settled event.Skip x
    else if nat_le d 51 then of_one event.Tick 2 x
    else if nat_le d 53 then appended x
    else if nat_le d 56 then asked x
    else if nat_le d 57 then of_one event.Deliver i x
    else if nat_le d 59 then of_one event.Crash 5 x
    else if nat_le d 60 then rarely event.Read x
    else if nat_le d 61 then rarely event.Cas x
    else settled event.Next x

-- event i, from the state before it
abbrev pub numbered_from : ℕ → ℕ → Numbered
numbered_from i x =
    if i == 1 then settled (event.Read 1) x
    else if i == 2 then settled (event.Cas 1) x
    else by_draw i (drawn x 64) (next_state x)

-- ---- the schedule of a number

-- the generator's state after so many events
abbrev pub state_after : ℕ → ℕ → ℕ
state_after number zero = number
state_after number (suc i) = (numbered_from (suc i) (state_after number i)).state

-- the event that follows so many others
abbrev pub event_after : ℕ → ℕ → Event
event_after number i = (numbered_from (suc i) (state_after number i)).event

-- the first events
abbrev pub numbered_events : ℕ → ℕ → List Event
numbered_events number zero = []
numbered_events number (suc i) = numbered_events number i ++ event_after number i ∷ []

abbrev pub numbered_cluster : Cluster
numbered_cluster = record { nodes = 5; servers = 2; clients = 4; rows = 2; slots = 64 }

-- the line that spells an event
abbrev pub event_line : Event → List ℕ
event_line e = line_text (parts_of e)

abbrev pub numbered_lines : ℕ → ℕ → List (List ℕ)
numbered_lines number events = line_text (first_parts numbered_cluster) ∷ map event_line (numbered_events number events)

-- each line with its line feed
abbrev pub numbered_text : ℕ → ℕ → List ℕ
numbered_text number events = text_of (numbered_lines number events)
