-- The parts that a step of a replica is made of, and when it needs a new file.
use Rattle.std.specs.Prelude.{Bool, false, ℕ, ◌+◌, ◌==◌, ◌&&◌, not, List, [], ◌++◌, length, take}
use Rattle.tx_model.specs.declared.record.Record.{Record}
use Rattle.tx_model.specs.Records.{first_id}
use Rattle.proto_model.specs.declared.message.ToNode.{ToNode}
use Rattle.proto_model.specs.declared.message.ToNode.TheVariants.{Open, Fetch, Stage, Adopt, Append, Low}
use Rattle.proto_model.specs.Replicas.{ReplicaState, next_staged, grown}

abbrev pub promised_to : ReplicaState → ℕ → ReplicaState
promised_to r s = record r { promised = s; staged = [] }

abbrev pub staged_more : ReplicaState → List Record → ReplicaState
staged_more r batch = record r { staged = r.staged ++ batch }

abbrev pub adopted_to : ReplicaState → ℕ → ReplicaState
adopted_to r s = record r { adopted = s; log = take r.low r.log ++ r.staged; staged = [] }

abbrev pub with_batch : ReplicaState → List Record → ReplicaState
with_batch r batch = record r { log = grown r.log batch }

abbrev pub lowered_to : ReplicaState → ℕ → ReplicaState
lowered_to r k = record r { low = k }

abbrev pub is_none : List Record → Bool
is_none records = length records == 0

-- The step on this message begins a new file: it stages the first records, or adopts.
abbrev pub needs_file : ReplicaState → ToNode → Bool
needs_file r (Open s) = false
needs_file r (Fetch s from max) = false
needs_file r (Stage s batch) =
    (s == r.promised) && (not (r.adopted == s) && ((first_id batch == next_staged r) && is_none r.staged))
needs_file r (Adopt s len) = (s == r.promised) && (not (r.adopted == s) && (len + 1 == next_staged r))
needs_file r (Append s batch) = false
needs_file r (Low s k) = false
