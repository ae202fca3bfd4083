-- What the faults of calls tell of a server's refusals.
use Rattle.std.specs.Prelude.{◌≡◌, ◌≢◌, ◌⊎◌, ◌<◌, ℕ, nat_lt, ◌==◌, if◌then◌else◌, Bool, true, false, List, [], ◌∷◌, length, Option, Some, None, ⊤}
use Rattle.proto_model.specs.declared.client_message.FromServer.{FromServer}
use Rattle.proto_model.specs.declared.client_message.FromServer.TheVariants.{Refused, Heads, Entry}
use Rattle.proto_model.specs.declared.refusal.Refusal.{Refusal}
use Rattle.proto_model.specs.declared.refusal.Refusal.TheVariants as refused
use Rattle.proto_model.specs.declared.refusal.ReadRefusal.{ReadRefusal}
use Rattle.proto_model.specs.declared.refusal.ReadRefusal.TheVariants as unserved
use Rattle.proto_model.specs.Servers.{Config, ServerState, Waiting, commit_mark}
use Rattle.proto_model.specs.Validity.{IsValidRefusal}
use Rattle.proto_model.specs.Serving.{shut_in}
use Rattle.partition_server.specs.declared.fault.AppendFault.{AppendFault}
use Rattle.partition_server.specs.declared.fault.AppendFault.TheVariants as fault
use Rattle.partition_server.specs.declared.fault.ReadFault.{ReadFault}
use Rattle.partition_server.specs.declared.fault.ReadFault.TheVariants as unread

-- ---- appends

-- running out of memory tells of no refusal
abbrev pub refusal_of : AppendFault → Option Refusal
refusal_of (fault.NotRunning phase) = Some (refused.NotRunning phase)
refusal_of (fault.Closed session) = Some (refused.Closed session)
refusal_of (fault.MarkAhead last) = Some (refused.MarkAhead last)
refusal_of (fault.Locked lock mark) = Some (refused.Locked lock mark)
refusal_of fault.WindowFull = Some refused.WindowFull
refusal_of fault.LogFull = Some refused.LogFull
refusal_of fault.Memory = None

-- memory wanted, or the refusal that stands
abbrev pub IsRefusedBy : Option Refusal → AppendFault → Type 0
IsRefusedBy refusal f = (f ≡ fault.Memory) ⊎ (refusal_of f ≡ refusal)

abbrev pub IsValidOrNone : Option Refusal → Type 0
IsValidOrNone None = ⊤
IsValidOrNone (Some refusal) = IsValidRefusal refusal

-- what it tells of a refusal is in the ranges of the formats
abbrev pub IsValidFault : AppendFault → Type 0
IsValidFault f = IsValidOrNone (refusal_of f)

-- ---- reads

abbrev pub read_refusal_of : ReadFault → Option ReadRefusal
read_refusal_of (unread.NotRunning phase) = Some (unserved.NotRunning phase)
read_refusal_of unread.BadId = Some unserved.BadId
read_refusal_of (unread.NotYet committed) = Some (unserved.NotYet committed)
read_refusal_of unread.Memory = None

-- the first of two refusals
abbrev pub or_unserved : Option ReadRefusal → Option ReadRefusal → Option ReadRefusal
or_unserved None later = later
or_unserved (Some refusal) later = Some refusal

-- why no records are shown from an id on
abbrev pub feed_refusal : ServerState → ℕ → Option ReadRefusal
feed_refusal sv from = or_unserved (shut_in sv.phase) (if from == 0 then Some unserved.BadId else None)

-- why no record of an id is shown
abbrev pub entry_refusal : Config → ServerState → ℕ → Option ReadRefusal
entry_refusal c sv id =
    or_unserved (feed_refusal sv id) (if nat_lt (commit_mark c sv) id then Some (unserved.NotYet (commit_mark c sv)) else None)

-- ---- where memory is wanted

-- a lock refuses an append
abbrev pub IsLockRefusal : Option Refusal → Type 0
IsLockRefusal (Some (refused.Locked lock mark)) = ⊤
IsLockRefusal _ = ⊥

-- for an append that is taken, and to tell the lock that refuses it
abbrev pub takes_memory : Option Refusal → Bool
takes_memory None = true
takes_memory (Some (refused.Locked lock mark)) = true
takes_memory (Some refusal) = false

-- an answer holds heads, a record or a lock
abbrev pub holds_copies : FromServer → Bool
holds_copies (Heads from committed (head ∷ heads)) = true
holds_copies (Entry r) = true
holds_copies (Refused request (refused.Locked lock mark)) = true
holds_copies _ = false

-- for a request: what has no answer yet is an append that is taken
abbrev pub serving_takes_memory : List FromServer → Bool
serving_takes_memory [] = true
serving_takes_memory (answer ∷ answers) = holds_copies answer

-- for a reply: it adds records, or makes answers due
abbrev pub AddsOrAnswers : ServerState → ServerState → List Waiting → Type 0
AddsOrAnswers old new answers = (length old.log < length new.log) ⊎ (answers ≢ [])
