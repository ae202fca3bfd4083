-- The next message of a server for a node. Of the rows that fit, the first is taken.
use Rattle.std.specs.Prelude.{ℕ, zero, suc, ◌+◌, ◌-◌, min, not, nat_lt, if◌then◌else◌, List, [], ◌∷◌, ◌++◌, length, take, drop, Option, Some, None}
use Rattle.proto_model.specs.declared.message.Phase.{Phase}
use Rattle.proto_model.specs.declared.message.Phase.TheVariants.{Idle, Opening, Fetching, Repairing, Running, Closed}
use Rattle.proto_model.specs.declared.message.ToNode.{ToNode}
use Rattle.proto_model.specs.declared.message.ToNode.TheVariants.{Open, Fetch, Stage, Adopt, Append, Low}
use Rattle.proto_model.specs.Servers.{Config, ServerState, chosen, chosen_len, commit_mark, is_of}

-- while reports are awaited
abbrev pub opening_message : ServerState → ℕ → Option ToNode
opening_message sv i = if sv.reported i then None else Some (Open sv.session)

-- while the chosen log is fetched
abbrev pub fetching_message : Config → ServerState → ℕ → Option ToNode
fetching_message c sv i =
    if not (sv.reported i) then Some (Open sv.session)
    else if is_of i (chosen c sv) then Some (Fetch sv.session (length sv.log + 1) (min 8 (chosen_len c sv - length sv.log)))
    else None

-- to a node that has not adopted: the chosen log, 8 records at most, and then its adoption
abbrev pub repair_message : Config → ServerState → ℕ → Option ToNode
repair_message c sv i =
    if nat_lt (sv.staged i) (chosen_len c sv)
    then Some (Stage sv.session (take 8 (drop (sv.staged i) (take (chosen_len c sv) sv.log))))
    else Some (Adopt sv.session (chosen_len c sv))

-- to a node that has adopted: what it lacks, and then the commit mark
abbrev pub append_message : Config → ServerState → ℕ → Option ToNode
append_message c sv i =
    if nat_lt (sv.acked i) (length sv.log) then Some (Append sv.session (take 8 (drop (sv.acked i) sv.log)))
    else if nat_lt (sv.low i) (commit_mark c sv) then Some (Low sv.session (commit_mark c sv))
    else None

abbrev pub chosen_message : Config → ServerState → ℕ → Option ToNode
chosen_message c sv i =
    if not (sv.reported i) then Some (Open sv.session)
    else if sv.adopted i then append_message c sv i else repair_message c sv i

abbrev pub message_in : Phase → Config → ServerState → ℕ → Option ToNode
message_in Idle c sv i = None
message_in Opening c sv i = opening_message sv i
message_in Fetching c sv i = fetching_message c sv i
message_in Repairing c sv i = chosen_message c sv i
message_in Running c sv i = chosen_message c sv i
message_in (Closed p) c sv i = None

abbrev pub next_message : Config → ServerState → ℕ → Option ToNode
next_message c sv i = message_in sv.phase c sv i

-- ---- all next messages

abbrev pub one_message : ℕ → Option ToNode → List (ℕ × ToNode)
one_message i None = []
one_message i (Some m) = (i, m) ∷ []

-- those for the nodes 1 to k, in order
abbrev pub next_messages : Config → ServerState → ℕ → List (ℕ × ToNode)
next_messages c sv zero = []
next_messages c sv (suc k) = next_messages c sv k ++ one_message (suc k) (next_message c sv (suc k))
