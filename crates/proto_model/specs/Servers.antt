-- A partition server: its state, and its step on a reply of a node. Of the rows that fit, the first is taken.
use Rattle.std.specs.Prelude.{ℕ, ◌+◌, ◌-◌, max, Bool, true, false, not, ◌&&◌, nat_lt, nat_le, ◌==◌, if◌then◌else◌, List, [], ◌∷◌, ◌++◌, length, take, filter, Option, Some, None}
use Rattle.tx_model.specs.declared.record.Record.{Record}
use Rattle.tx_model.specs.Records.{first_id}
use Rattle.proto_model.specs.declared.message.Report.{Report}
use Rattle.proto_model.specs.declared.message.Phase.{Phase}
use Rattle.proto_model.specs.declared.message.Phase.TheVariants.{Idle, Opening, Fetching, Repairing, Running, Closed}
use Rattle.proto_model.specs.declared.message.FromNode.{FromNode}
use Rattle.proto_model.specs.declared.message.FromNode.TheVariants.{Opened, Stale, Unopened, Records, Staged, StageAt, Adopted, Acked, Gap, NotAdopted, LowSet}
use Rattle.proto_model.specs.Tables.{put}
use Rattle.proto_model.specs.Quorums.{count, quorum, reached}
use Rattle.proto_model.specs.Choices.{recovery_choice}

-- what doesn't change: how many storage nodes there are, and the rows and slots of the lock table
pub record Config : Type 0 where
  pub nodes : ℕ
  pub rows : ℕ
  pub slots : ℕ

-- a client's request that waits for its record to be committed
pub record Waiting : Type 0 where
  pub id : ℕ
  pub client : ℕ
  pub request : ℕ

pub record ServerState : Type 0 where
  pub phase : Phase
  pub session : ℕ
  pub log : List Record
  -- in the order in which they came
  pub reports : List Report
  -- of each node: whether it reported, up to which id it staged, its low-water mark, whether it adopted, what it acknowledged
  pub reported : ℕ → Bool
  pub staged : ℕ → ℕ
  pub low : ℕ → ℕ
  pub adopted : ℕ → Bool
  pub acked : ℕ → ℕ
  -- in the order of their ids
  pub waiting : List Waiting

-- a session has been won
abbrev pub drawn : ℕ → ServerState
drawn s = record {
  phase = Opening;
  session = s;
  log = [];
  reports = [];
  reported = λ i. false;
  staged = λ i. 0;
  low = λ i. 0;
  adopted = λ i. false;
  acked = λ i. 0;
  waiting = [];
}

abbrev pub idle_server : ServerState
idle_server = record (drawn 0) { phase = Idle }

-- ---- what the reports and acknowledgements determine

abbrev pub length_of : Option Report → ℕ
length_of None = 0
length_of (Some r) = r.length

abbrev pub chosen : Config → ServerState → Option Report
chosen c sv = recovery_choice (quorum c.nodes) sv.reports

-- the length of the chosen log
abbrev pub chosen_len : Config → ServerState → ℕ
chosen_len c sv = length_of (chosen c sv)

-- the node has adopted, and acknowledged k or more
abbrev pub holds : ServerState → ℕ → ℕ → Bool
holds sv k i = sv.adopted i && nat_le k (sv.acked i)

-- the greatest length that a quorum holds, else 0
abbrev pub commit_mark : Config → ServerState → ℕ
commit_mark c sv = reached c.nodes (holds sv) (length sv.log)

-- ---- Opened: the report of a quorum's last node fixes the choice

abbrev pub reported_by : ServerState → Report → ServerState
reported_by sv r = record sv {
  reports = sv.reports ++ r ∷ [];
  reported = put sv.reported r.node true;
  staged = put sv.staged r.node r.low;
  low = put sv.low r.node r.low;
}

abbrev pub phase_of_choice : Option Report → Phase
phase_of_choice None = Opening
phase_of_choice (Some r) = if r.length == 0 then Repairing else Fetching

abbrev pub phase_reported : Option Report → Phase → Phase
phase_reported choice Opening = phase_of_choice choice
phase_reported choice phase = phase

abbrev pub with_choice : Config → ServerState → ServerState
with_choice c sv = record sv { phase = phase_reported (chosen c sv) sv.phase }

abbrev pub after_report : Config → ServerState → Report → ServerState
after_report c sv r =
    if not (sv.reported r.node) && nat_lt r.adopted sv.session then with_choice c (reported_by sv r) else sv

-- ---- Records: the chosen node's records follow

abbrev pub is_of : ℕ → Option Report → Bool
is_of i None = false
is_of i (Some r) = r.node == i

abbrev pub is_fetching : Phase → Bool
is_fetching Fetching = true
is_fetching _ = false

abbrev pub takes_records : Config → ServerState → ℕ → ℕ → Bool
takes_records c sv i first = is_fetching sv.phase && (is_of i (chosen c sv) && first == length sv.log + 1)

abbrev pub with_fetched : ℕ → ServerState → List Record → ServerState
with_fetched chosen_len sv log = record sv { log = log; phase = if length log == chosen_len then Repairing else Fetching }

abbrev pub after_records : Config → ServerState → ℕ → List Record → ServerState
after_records c sv i batch =
    if takes_records c sv i (first_id batch)
    then with_fetched (chosen_len c sv) sv (sv.log ++ take (chosen_len c sv - length sv.log) batch) else sv

-- ---- Staged and StageAt

abbrev pub after_staged : ServerState → ℕ → ℕ → ServerState
after_staged sv i upto =
    if sv.reported i && not (sv.adopted i) then record sv { staged = put sv.staged i upto } else sv

-- ---- Adopted and Acked

abbrev pub has_fetched : Phase → Bool
has_fetched Repairing = true
has_fetched Running = true
has_fetched _ = false

abbrev pub takes_ack : Config → ServerState → ℕ → ℕ → Bool
takes_ack c sv i len = has_fetched sv.phase && (sv.reported i && (nat_le (chosen_len c sv) len && nat_le len (length sv.log)))

abbrev pub acked_by : ServerState → ℕ → ℕ → ServerState
acked_by sv i len = record sv { adopted = put sv.adopted i true; acked = put sv.acked i (max (sv.acked i) len) }

-- once a quorum adopted, the server is running
abbrev pub begun : Config → ServerState → ServerState
begun c sv = record sv { phase = if nat_le (quorum c.nodes) (count sv.adopted c.nodes) then Running else sv.phase }

-- the requests that wait on, and those that don't
abbrev pub waits_on : ℕ → List Waiting → List Waiting
waits_on mark waiting = filter (λ w. nat_lt mark w.id) waiting

abbrev pub is_due : ℕ → List Waiting → List Waiting
is_due mark waiting = filter (λ w. nat_le w.id mark) waiting

abbrev pub answered : Config → ServerState → ServerState
answered c sv = record sv { waiting = waits_on (commit_mark c sv) sv.waiting }

abbrev pub after_ack : Config → ServerState → ℕ → ℕ → ServerState
after_ack c sv i len = if takes_ack c sv i len then answered c (begun c (acked_by sv i len)) else sv

-- ---- LowSet and Stale

abbrev pub after_low : Config → ServerState → ℕ → ℕ → ServerState
after_low c sv i low =
    if sv.adopted i && nat_le low (commit_mark c sv) then record sv { low = put sv.low i (max (sv.low i) low) } else sv

abbrev pub after_stale : ServerState → ℕ → ℕ → ServerState
after_stale sv s p = if nat_lt s p then record sv { phase = Closed p; waiting = [] } else sv

-- ---- the step

abbrev pub is_active : Phase → Bool
is_active Idle = false
is_active (Closed p) = false
is_active _ = true

abbrev pub session_of : FromNode → ℕ
session_of (Opened s adopted low len) = s
session_of (Stale s p) = s
session_of (Unopened s p) = s
session_of (Records s batch) = s
session_of (Staged s upto) = s
session_of (StageAt s next) = s
session_of (Adopted s len) = s
session_of (Acked s len) = s
session_of (Gap s len) = s
session_of (NotAdopted s adopted) = s
session_of (LowSet s low) = s

-- a reply of the server's session
abbrev pub received : Config → ServerState → ℕ → FromNode → ServerState
received c sv i (Opened s adopted low len) = after_report c sv (record { node = i; adopted = adopted; low = low; length = len })
received c sv i (Stale s p) = after_stale sv s p
received c sv i (Unopened s p) = sv
received c sv i (Records s batch) = after_records c sv i batch
received c sv i (Staged s upto) = after_staged sv i upto
received c sv i (StageAt s next) = if nat_le 1 next then after_staged sv i (next - 1) else sv
received c sv i (Adopted s len) = after_ack c sv i len
received c sv i (Acked s len) = after_ack c sv i len
received c sv i (Gap s len) = sv
received c sv i (NotAdopted s adopted) = sv
received c sv i (LowSet s low) = after_low c sv i low

abbrev pub is_heard : ServerState → FromNode → Bool
is_heard sv m = is_active sv.phase && session_of m == sv.session

-- the server after a reply of node i
abbrev pub server_after : Config → ServerState → ℕ → FromNode → ServerState
server_after c sv i m = if is_heard sv m then received c sv i m else sv

-- the requests whose records a reply of node i makes committed, in the order of their ids
abbrev pub ack_answers : Config → ServerState → ℕ → ℕ → List Waiting
ack_answers c sv i len = if takes_ack c sv i len then is_due (commit_mark c (acked_by sv i len)) sv.waiting else []

abbrev pub received_answers : Config → ServerState → ℕ → FromNode → List Waiting
received_answers c sv i (Adopted s len) = ack_answers c sv i len
received_answers c sv i (Acked s len) = ack_answers c sv i len
received_answers c sv i _ = []

abbrev pub server_answers : Config → ServerState → ℕ → FromNode → List Waiting
server_answers c sv i m = if is_heard sv m then received_answers c sv i m else []
