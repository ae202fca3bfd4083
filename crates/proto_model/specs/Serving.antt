-- What a partition server makes of a client's request. Of the refusals that fit, the first is given.
use Rattle.std.specs.Prelude.{ℕ, ◌+◌, ◌-◌, ◌^◌, nat_lt, ◌==◌, if◌then◌else◌, List, [], ◌∷◌, ◌++◌, length, map, take, drop, slice_index_or, Option, Some, None}
use Rattle.tx_model.specs.declared.record.Record.{Record}
use Rattle.tx_model.specs.declared.record.Head.{Head}
use Rattle.tx_model.specs.Transactions.{Transaction, named_locks}
use Rattle.tx_model.specs.Records.{head_of}
use Rattle.tx_model.specs.Logs.{record_at}
use Rattle.tx_model.specs.Probes.{Shape, Conflict, admission}
use Rattle.proto_model.specs.declared.message.Phase.{Phase}
use Rattle.proto_model.specs.declared.message.Phase.TheVariants as phase
use Rattle.proto_model.specs.declared.refusal.Refusal.{Refusal}
use Rattle.proto_model.specs.declared.refusal.Refusal.TheVariants as refused
use Rattle.proto_model.specs.declared.refusal.ReadRefusal.{ReadRefusal}
use Rattle.proto_model.specs.declared.refusal.ReadRefusal.TheVariants as unserved
use Rattle.proto_model.specs.declared.client_message.ToServer.{ToServer}
use Rattle.proto_model.specs.declared.client_message.ToServer.TheVariants.{Append, Feed, Get, Flush}
use Rattle.proto_model.specs.declared.client_message.FromServer.{FromServer}
use Rattle.proto_model.specs.declared.client_message.FromServer.TheVariants.{Committed, Refused, Heads, Entry, Flushed, Unserved}
use Rattle.proto_model.specs.Servers.{Config, ServerState, Waiting, chosen_len, commit_mark}

-- ---- appends

-- so many records of a server's log are not committed at most
abbrev pub window : ℕ
window = 1024

-- the greatest id
abbrev pub last_id : ℕ
last_id = 2 ^ 48 - 1

abbrev pub shape_of : Config → Shape
shape_of c = record { rows = c.rows; slots = c.slots }

-- the first of two refusals
abbrev pub or_else : Option Refusal → Option Refusal → Option Refusal
or_else None later = later
or_else (Some refusal) later = Some refusal

abbrev pub locked : Transaction → Option Conflict → Option Refusal
locked tx None = None
locked tx (Some conflict) = Some (refused.Locked (slice_index_or (named_locks tx) conflict.place []) conflict.mark)

-- whether there is room for one more record after this one
abbrev pub no_room : ℕ → ℕ → Option Refusal
no_room last committed =
    if last - committed == window then Some refused.WindowFull
    else if last == last_id then Some refused.LogFull else None

-- of a running server. The lock table begins at the recovered mark, which is the length of the chosen log
abbrev pub running_refusal : Config → ServerState → Transaction → Option Refusal
running_refusal c sv tx =
    if nat_lt (length sv.log) tx.mark then Some (refused.MarkAhead (length sv.log))
    else or_else (locked tx (admission (shape_of c) (chosen_len c sv) sv.log tx)) (no_room (length sv.log) (commit_mark c sv))

abbrev pub refusal_in : Phase → Option Refusal → Option Refusal
refusal_in phase.Running refusal = refusal
refusal_in (phase.Closed p) refusal = Some (refused.Closed p)
refusal_in other refusal = Some (refused.NotRunning other)

-- why an append is refused, None where it is taken
abbrev pub append_refusal : Config → ServerState → Transaction → Option Refusal
append_refusal c sv tx = refusal_in sv.phase (running_refusal c sv tx)

-- the record that a taken append becomes
abbrev pub assigned_record : ServerState → Transaction → Record
assigned_record sv tx = record { id = length sv.log + 1; session = sv.session; tx = tx }

-- its client and request wait under its id
abbrev pub assigned : ServerState → Transaction → ServerState
assigned sv tx = record sv {
  log = sv.log ++ assigned_record sv tx ∷ [];
  waiting = sv.waiting ++ record { id = length sv.log + 1; client = tx.client; request = tx.request } ∷ [];
}

abbrev pub if_taken : Option Refusal → ServerState → ServerState → ServerState
if_taken None old new = new
if_taken (Some refusal) old new = old

abbrev pub after_append : Config → ServerState → Transaction → ServerState
after_append c sv tx = if_taken (append_refusal c sv tx) sv (assigned sv tx)

-- a taken append is answered once it is committed
abbrev pub append_answers : Transaction → Option Refusal → List FromServer
append_answers tx None = []
append_answers tx (Some refusal) = Refused tx.request refusal ∷ []

-- ---- what is committed is shown

abbrev pub committed_log : Config → ServerState → List Record
committed_log c sv = take (commit_mark c sv) sv.log

-- the heads of committed records: from an id on, so many at most
abbrev pub feed : Config → ServerState → ℕ → ℕ → List Head
feed c sv from max = map head_of (take max (drop (from - 1) (committed_log c sv)))

-- why a server shows nothing. A closed one shows what it had committed
abbrev pub shut_in : Phase → Option ReadRefusal
shut_in phase.Running = None
shut_in (phase.Closed p) = None
shut_in other = Some (unserved.NotRunning other)

abbrev pub unless_shut : Option ReadRefusal → FromServer → FromServer
unless_shut None answer = answer
unless_shut (Some refusal) answer = Unserved refusal

abbrev pub entry_or : ℕ → Option Record → FromServer
entry_or committed None = Unserved (unserved.NotYet committed)
entry_or committed (Some r) = Entry r

abbrev pub feed_answer : Config → ServerState → ℕ → ℕ → FromServer
feed_answer c sv from max = unless_shut (shut_in sv.phase)
    (if from == 0 then Unserved unserved.BadId else Heads from (commit_mark c sv) (feed c sv from max))

abbrev pub get_answer : Config → ServerState → ℕ → FromServer
get_answer c sv id = unless_shut (shut_in sv.phase)
    (if id == 0 then Unserved unserved.BadId else entry_or (commit_mark c sv) (record_at (committed_log c sv) id))

abbrev pub flush_answer : Config → ServerState → FromServer
flush_answer c sv = unless_shut (shut_in sv.phase) (Flushed (commit_mark c sv))

-- ---- every request

abbrev pub served_after : Config → ServerState → ToServer → ServerState
served_after c sv (Append tx) = after_append c sv tx
served_after c sv (Feed from max) = sv
served_after c sv (Get id) = sv
served_after c sv Flush = sv

abbrev pub served_answers : Config → ServerState → ToServer → List FromServer
served_answers c sv (Append tx) = append_answers tx (append_refusal c sv tx)
served_answers c sv (Feed from max) = feed_answer c sv from max ∷ []
served_answers c sv (Get id) = get_answer c sv id ∷ []
served_answers c sv Flush = flush_answer c sv ∷ []

-- what is due to a client whose record is committed
abbrev pub committed_answer : Waiting → FromServer
committed_answer w = Committed w.request w.id
