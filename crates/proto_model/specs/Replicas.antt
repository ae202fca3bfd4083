-- A storage node's replica of the log: its state, and its step on a message. Of the rows that fit, the first is taken.
use Rattle.std.specs.Prelude.{Bool, ℕ, ◌+◌, ◌-◌, nat_lt, nat_le, ◌==◌, ◌&&◌, if◌then◌else◌, List, [], ◌++◌, length, take, drop}
use Rattle.tx_model.specs.declared.record.Record.{Record}
use Rattle.tx_model.specs.Records.{first_id}
use Rattle.proto_model.specs.declared.message.ToNode.{ToNode}
use Rattle.proto_model.specs.declared.message.ToNode.TheVariants.{Open, Fetch, Stage, Adopt, Append, Low}
use Rattle.proto_model.specs.declared.message.FromNode.{FromNode}
use Rattle.proto_model.specs.declared.message.FromNode.TheVariants.{Opened, Stale, Unopened, Records, Staged, StageAt, Adopted, Acked, Gap, NotAdopted, LowSet}

pub record ReplicaState : Type 0 where
  -- no message of a session below this one is taken
  pub promised : ℕ
  -- the session whose log this is
  pub adopted : ℕ
  -- so many records are known to be committed
  pub low : ℕ
  pub log : List Record
  -- records that wait for their adoption
  pub staged : List Record

abbrev pub fresh_replica : ReplicaState
fresh_replica = record { promised = 0; adopted = 0; low = 0; log = []; staged = [] }

-- the id of the record to be staged next
abbrev pub next_staged : ReplicaState → ℕ
next_staged r = r.low + length r.staged + 1

-- the log with those records of the batch that it lacks
abbrev pub grown : List Record → List Record → List Record
grown log batch = log ++ drop (length log + 1 - first_id batch) batch

-- ---- each message's effect, where its session is the promised one

abbrev pub opened : ReplicaState → ℕ → ReplicaState
opened r s = if nat_lt r.promised s then record r { promised = s; staged = [] } else r

abbrev pub staged_after : ReplicaState → ℕ → List Record → ReplicaState
staged_after r s batch =
    if r.adopted == s then r
    else if first_id batch == next_staged r then record r { staged = r.staged ++ batch } else r

abbrev pub adopted_after : ReplicaState → ℕ → ℕ → ReplicaState
adopted_after r s len =
    if r.adopted == s then r
    else if len + 1 == next_staged r
    then record r { adopted = s; log = take r.low r.log ++ r.staged; staged = [] }
    else r

abbrev pub appended_after : ReplicaState → ℕ → List Record → ReplicaState
appended_after r s batch =
    if r.adopted == s
    then (if nat_lt (length r.log + 1) (first_id batch) then r else record r { log = grown r.log batch })
    else r

abbrev pub lowered_after : ReplicaState → ℕ → ℕ → ReplicaState
lowered_after r s k =
    if r.adopted == s
    then (if nat_lt (length r.log) k then r else if nat_le k r.low then r else record r { low = k })
    else r

-- the effect, unless the session is another one than the promised one
abbrev pub if_promised : ReplicaState → ℕ → ReplicaState → ReplicaState
if_promised r s after = if s == r.promised then after else r

abbrev pub replica_after : ReplicaState → ToNode → ReplicaState
replica_after r (Open s) = opened r s
replica_after r (Fetch s from max) = r
replica_after r (Stage s batch) = if_promised r s (staged_after r s batch)
replica_after r (Adopt s len) = if_promised r s (adopted_after r s len)
replica_after r (Append s batch) = if_promised r s (appended_after r s batch)
replica_after r (Low s k) = if_promised r s (lowered_after r s k)

-- ---- the reply

-- the reply, unless the session is another one than the promised one
abbrev pub gated : ReplicaState → ℕ → FromNode → FromNode
gated r s reply =
    if nat_lt s r.promised then Stale s r.promised
    else if nat_lt r.promised s then Unopened s r.promised else reply

-- whether there are records to send: from an id of the log on, 1 to 8
abbrev pub has_records : ReplicaState → ℕ → ℕ → Bool
has_records r from max =
    nat_le 1 from && (nat_le from (length r.log) && (nat_le 1 max && nat_le max 8))

abbrev pub fetch_reply : ReplicaState → ℕ → ℕ → ℕ → FromNode
fetch_reply r s from max =
    if has_records r from max
    then Records s (take max (drop (from - 1) r.log))
    else Gap s (length r.log)

abbrev pub stage_reply : ReplicaState → ℕ → List Record → FromNode
stage_reply r s batch =
    if r.adopted == s then Adopted s (length r.log)
    else if first_id batch == next_staged r then Staged s (r.low + length r.staged + length batch)
    else StageAt s (next_staged r)

abbrev pub adopt_reply : ReplicaState → ℕ → ℕ → FromNode
adopt_reply r s len =
    if r.adopted == s then Adopted s (length r.log)
    else if len + 1 == next_staged r then Adopted s len else StageAt s (next_staged r)

abbrev pub append_reply : ReplicaState → ℕ → List Record → FromNode
append_reply r s batch =
    if r.adopted == s then
    (if nat_lt (length r.log + 1) (first_id batch)
    then Gap s (length r.log)
    else Acked s (length (grown r.log batch)))
    else NotAdopted s r.adopted

abbrev pub low_reply : ReplicaState → ℕ → ℕ → FromNode
low_reply r s k =
    if r.adopted == s then
    (if nat_lt (length r.log) k then Gap s (length r.log)
    else if nat_le k r.low then LowSet s r.low else LowSet s k)
    else NotAdopted s r.adopted

abbrev pub replica_reply : ReplicaState → ToNode → FromNode
replica_reply r (Open s) =
    if nat_lt s r.promised then Stale s r.promised else Opened s r.adopted r.low (length r.log)
replica_reply r (Fetch s from max) = gated r s (fetch_reply r s from max)
replica_reply r (Stage s batch) = gated r s (stage_reply r s batch)
replica_reply r (Adopt s len) = gated r s (adopt_reply r s len)
replica_reply r (Append s batch) = gated r s (append_reply r s batch)
replica_reply r (Low s k) = gated r s (low_reply r s k)
