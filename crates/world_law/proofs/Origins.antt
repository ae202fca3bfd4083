-- Where transactions come from: nodes and servers pass on what they got.
use Rattle.std.proofs.Common.{ℕ, zero, suc, ◌+◌, ◌-◌, ◌==◌, ◌&&◌, not, max, min, nat_lt, nat_le, if◌then◌else◌, List, [], ◌∷◌, ◌++◌, length, take, drop, Option, Some, None}
use Rattle.proto_model.proofs.TableLemmas.{either, AllByRecursion-append}
use Rattle.proto_model.specs.Replicas.{ReplicaState, next_staged, grown, staged_after, adopted_after, appended_after, lowered_after, replica_after, gated, has_records, fetch_reply, stage_reply, adopt_reply, append_reply, low_reply, replica_reply}
use Rattle.proto_model.specs.Sending.{repair_message, append_message, chosen_message, message_in, next_message, one_message, next_messages}
use Rattle.proto_model.specs.Servers.{Config, ServerState, chosen, chosen_len, commit_mark, reported_by, with_choice, is_of, takes_records, with_fetched, after_staged, takes_ack, acked_by, begun, answered, after_ack, received, is_heard, server_after}
use Rattle.proto_model.specs.Serving.{append_refusal, assigned_record, assigned, if_taken, served_after}
use Rattle.proto_model.specs.Tables.{put}
use Rattle.proto_model.specs.declared.client_message.ToServer.{ToServer}
use Rattle.proto_model.specs.declared.message.FromNode.{FromNode}
use Rattle.proto_model.specs.declared.message.FromNode.TheVariants.{Opened, Stale, Unopened, Records, Staged, StageAt, Adopted, Acked, Gap, NotAdopted, LowSet}
use Rattle.proto_model.specs.declared.message.Phase.{Phase}
use Rattle.proto_model.specs.declared.message.Phase.TheVariants.{Idle, Opening, Fetching, Repairing, Running, Closed}
use Rattle.proto_model.specs.declared.message.Report.{Report}
use Rattle.proto_model.specs.declared.message.ToNode.{ToNode}
use Rattle.proto_model.specs.declared.message.ToNode.TheVariants.{Open, Fetch, Stage, Adopt, Append, Low}
use Rattle.proto_model.specs.declared.refusal.Refusal.{Refusal}
use Rattle.net_model.specs.declared.mail.Envelope.{Envelope}
use Rattle.net_model.specs.declared.mail.Mail.{Mail}
use Rattle.std.specs.List.{AllByRecursion}
use Rattle.tx_model.specs.Records.{first_id}
use Rattle.tx_model.specs.Transactions.{Transaction}
use Rattle.tx_model.specs.declared.record.Record.{Record}
use Rattle.world_law.proofs.Served.{all_taken, all_dropped}
use Rattle.net_model.specs.declared.mail.Mail.TheVariants as mail
use Rattle.proto_model.specs.declared.client_message.ToServer.TheVariants as to_server

-- each transaction of these records has P
abbrev pub Made : (Transaction → Type 0) → List Record → Type 0
Made P log = AllByRecursion (λ (r : Record). P r.tx) log

abbrev pub AskMade : (Transaction → Type 0) → ToNode → Type 0
AskMade P (Stage s batch) = Made P batch
AskMade P (Append s batch) = Made P batch
AskMade P _ = Unit {0}

abbrev pub ReplyMade : (Transaction → Type 0) → FromNode → Type 0
ReplyMade P (Records s batch) = Made P batch
ReplyMade P _ = Unit {0}

abbrev pub ToServerMade : (Transaction → Type 0) → ToServer → Type 0
ToServerMade P (to_server.Append tx) = P tx
ToServerMade P _ = Unit {0}

abbrev pub MailMade : (Transaction → Type 0) → Mail → Type 0
MailMade P (mail.ToNode m) = AskMade P m
MailMade P (mail.FromNode m) = ReplyMade P m
MailMade P (mail.ToServer m) = ToServerMade P m
MailMade P (mail.FromServer m) = Unit {0}

abbrev pub SentMade : (Transaction → Type 0) → List Envelope → Type 0
SentMade P sent = AllByRecursion (λ (e : Envelope). MailMade P e.message) sent

pub record NodeMade (P : Transaction → Type 0) (n : ReplicaState) : Type 0 where
  pub log : Made P n.log
  pub staged : Made P n.staged

joined_made : (P : Transaction → Type 0) (xs ys : List Record) → Made P xs → Made P ys → Made P (xs ++ ys)
joined_made P xs ys f g = AllByRecursion-append (λ (r : Record). P r.tx) xs ys f g

pub part_made : (P : Transaction → Type 0) (xs : List Record) (at most : ℕ) → Made P xs → Made P (take most (drop at xs))
part_made P xs at most f = all_taken (λ (r : Record). P r.tx) most (drop at xs) (all_dropped (λ (r : Record). P r.tx) at xs f)

-- a node's step

pub node_made : (P : Transaction → Type 0) (n : ReplicaState) (m : ToNode) → NodeMade P n → AskMade P m → NodeMade P (replica_after n m)
node_made P n (Open s) f g = either (NodeMade P) (nat_lt n.promised s) (record n { promised = s; staged = [] }) n (record { log = f.log; staged = tt }) f
node_made P n (Fetch s from most) f g = f
node_made P n (Stage s batch) f g =
    let new = record n { staged = n.staged ++ batch } in
    either (NodeMade P) (s == n.promised) (staged_after n s batch) n
    (either (NodeMade P) (n.adopted == s) n (if first_id batch == next_staged n then new else n) f
    (either (NodeMade P) (first_id batch == next_staged n) new n (record { log = f.log; staged = joined_made P n.staged batch f.staged g }) f)) f
node_made P n (Adopt s len) f g =
    let new = record n { adopted = s; log = take n.low n.log ++ n.staged; staged = [] } in
    either (NodeMade P) (s == n.promised) (adopted_after n s len) n
    (either (NodeMade P) (n.adopted == s) n (if len + 1 == next_staged n then new else n) f
    (either (NodeMade P) (len + 1 == next_staged n) new n
    (record { log = joined_made P (take n.low n.log) n.staged (all_taken (λ (r : Record). P r.tx) n.low n.log f.log) f.staged; staged = tt }) f)) f
node_made P n (Append s batch) f g =
    let new = record n { log = grown n.log batch } in
    either (NodeMade P) (s == n.promised) (appended_after n s batch) n
    (either (NodeMade P) (n.adopted == s) (if nat_lt (length n.log + 1) (first_id batch) then n else new) n
    (either (NodeMade P) (nat_lt (length n.log + 1) (first_id batch)) n new f
    (record {
      log = joined_made P n.log (drop (length n.log + 1 - first_id batch) batch) f.log
          (all_dropped (λ (r : Record). P r.tx) (length n.log + 1 - first_id batch) batch g);
      staged = f.staged;
    })) f) f
node_made P n (Low s k) f g =
    let new = record n { low = k } in
    either (NodeMade P) (s == n.promised) (lowered_after n s k) n
    (either (NodeMade P) (n.adopted == s) (if nat_lt (length n.log) k then n else if nat_le k n.low then n else new) n
    (either (NodeMade P) (nat_lt (length n.log) k) n (if nat_le k n.low then n else new) f
    (either (NodeMade P) (nat_le k n.low) n new f (record { log = f.log; staged = f.staged }))) f) f

gate_made : (P : Transaction → Type 0) (n : ReplicaState) (s : ℕ) (reply : FromNode) → ReplyMade P reply → ReplyMade P (gated n s reply)
gate_made P n s reply f =
    either (ReplyMade P) (nat_lt s n.promised) (Stale s n.promised) (if nat_lt n.promised s then Unopened s n.promised else reply) tt
    (either (ReplyMade P) (nat_lt n.promised s) (Unopened s n.promised) reply tt f)

pub reply_made : (P : Transaction → Type 0) (n : ReplicaState) (m : ToNode) → NodeMade P n → ReplyMade P (replica_reply n m)
reply_made P n (Open s) f = either (ReplyMade P) (nat_lt s n.promised) (Stale s n.promised) (Opened s n.adopted n.low (length n.log)) tt tt
reply_made P n (Fetch s from most) f =
    gate_made P n s (fetch_reply n s from most)
    (either (ReplyMade P) (has_records n from most) (Records s (take most (drop (from - 1) n.log))) (Gap s (length n.log))
    (part_made P n.log (from - 1) most f.log) tt)
reply_made P n (Stage s batch) f =
    gate_made P n s (stage_reply n s batch)
    (either (ReplyMade P) (n.adopted == s) (Adopted s (length n.log))
    (if first_id batch == next_staged n then Staged s (n.low + length n.staged + length batch) else StageAt s (next_staged n)) tt
    (either (ReplyMade P) (first_id batch == next_staged n) (Staged s (n.low + length n.staged + length batch)) (StageAt s (next_staged n)) tt tt))
reply_made P n (Adopt s len) f =
    gate_made P n s (adopt_reply n s len)
    (either (ReplyMade P) (n.adopted == s) (Adopted s (length n.log)) (if len + 1 == next_staged n then Adopted s len else StageAt s (next_staged n)) tt
    (either (ReplyMade P) (len + 1 == next_staged n) (Adopted s len) (StageAt s (next_staged n)) tt tt))
reply_made P n (Append s batch) f =
    gate_made P n s (append_reply n s batch)
    (either (ReplyMade P) (n.adopted == s) (if nat_lt (length n.log + 1) (first_id batch) then Gap s (length n.log) else Acked s (length (grown n.log batch)))
    (NotAdopted s n.adopted)
    (either (ReplyMade P) (nat_lt (length n.log + 1) (first_id batch)) (Gap s (length n.log)) (Acked s (length (grown n.log batch))) tt tt) tt)
reply_made P n (Low s k) f =
    gate_made P n s (low_reply n s k)
    (either (ReplyMade P) (n.adopted == s) (if nat_lt (length n.log) k then Gap s (length n.log) else if nat_le k n.low then LowSet s n.low else LowSet s k)
    (NotAdopted s n.adopted)
    (either (ReplyMade P) (nat_lt (length n.log) k) (Gap s (length n.log)) (if nat_le k n.low then LowSet s n.low else LowSet s k) tt
    (either (ReplyMade P) (nat_le k n.low) (LowSet s n.low) (LowSet s k) tt tt)) tt)

-- a server's step

abbrev pub ServerMade : (Transaction → Type 0) → ServerState → Type 0
ServerMade P sv = Made P sv.log

staged_made : (P : Transaction → Type 0) (sv : ServerState) (i upto : ℕ) → ServerMade P sv → ServerMade P (after_staged sv i upto)
staged_made P sv i upto f = either (ServerMade P) (sv.reported i && not (sv.adopted i)) (record sv { staged = put sv.staged i upto }) sv f f

ack_made : (P : Transaction → Type 0) (c : Config) (sv : ServerState) (i len : ℕ) → ServerMade P sv → ServerMade P (after_ack c sv i len)
ack_made P c sv i len f = either (ServerMade P) (takes_ack c sv i len) (answered c (begun c (acked_by sv i len))) sv f f

received_made : (P : Transaction → Type 0) (c : Config) (sv : ServerState) (i : ℕ) (m : FromNode) → ServerMade P sv → ReplyMade P m
    → ServerMade P (received c sv i m)
received_made P c sv i (Opened s a low len) f g =
    let r : Report = record { node = i; adopted = a; low = low; length = len } in
    either (ServerMade P) (not (sv.reported i) && nat_lt a sv.session) (with_choice c (reported_by sv r)) sv f f
received_made P c sv i (Stale s p) f g = either (ServerMade P) (nat_lt s p) (record sv { phase = Closed p; waiting = [] }) sv f f
received_made P c sv i (Unopened s p) f g = f
received_made P c sv i (Records s batch) f g =
    let more = take (chosen_len c sv - length sv.log) batch in
    either (ServerMade P) (takes_records c sv i (first_id batch)) (with_fetched (chosen_len c sv) sv (sv.log ++ more)) sv
    (joined_made P sv.log more f (all_taken (λ (r : Record). P r.tx) (chosen_len c sv - length sv.log) batch g)) f
received_made P c sv i (Staged s upto) f g = staged_made P sv i upto f
received_made P c sv i (StageAt s next) f g = either (ServerMade P) (nat_le 1 next) (after_staged sv i (next - 1)) sv (staged_made P sv i (next - 1) f) f
received_made P c sv i (Adopted s len) f g = ack_made P c sv i len f
received_made P c sv i (Acked s len) f g = ack_made P c sv i len f
received_made P c sv i (Gap s len) f g = f
received_made P c sv i (NotAdopted s adopted) f g = f
received_made P c sv i (LowSet s low) f g =
    either (ServerMade P) (sv.adopted i && nat_le low (commit_mark c sv)) (record sv { low = put sv.low i (max (sv.low i) low) }) sv f f

pub server_made : (P : Transaction → Type 0) (c : Config) (sv : ServerState) (i : ℕ) (m : FromNode) → ServerMade P sv → ReplyMade P m
    → ServerMade P (server_after c sv i m)
server_made P c sv i m f g = either (ServerMade P) (is_heard sv m) (received c sv i m) sv (received_made P c sv i m f g) f

append_made : (P : Transaction → Type 0) (sv : ServerState) (tx : Transaction) (o : Option Refusal) → ServerMade P sv → P tx
    → ServerMade P (if_taken o sv (assigned sv tx))
append_made P sv tx None f g = joined_made P sv.log (assigned_record sv tx ∷ []) f (g, tt)
append_made P sv tx (Some r) f g = f

pub to_server_made : (P : Transaction → Type 0) (c : Config) (sv : ServerState) (m : ToServer) → ServerMade P sv → ToServerMade P m
    → ServerMade P (served_after c sv m)
to_server_made P c sv (to_server.Append tx) f g = append_made P sv tx (append_refusal c sv tx) f g
to_server_made P c sv (to_server.Feed from max) f g = f
to_server_made P c sv (to_server.Get id) f g = f
to_server_made P c sv to_server.Flush f g = f

-- a server's messages

abbrev MayMade : (Transaction → Type 0) → Option ToNode → Type 0
MayMade P None = Unit {0}
MayMade P (Some m) = AskMade P m

chosen_made : (P : Transaction → Type 0) (c : Config) (sv : ServerState) (i : ℕ) → ServerMade P sv → MayMade P (chosen_message c sv i)
chosen_made P c sv i f =
    let low = if nat_lt (sv.low i) (commit_mark c sv) then Some (Low sv.session (commit_mark c sv)) else None in
    let stage = Some (Stage sv.session (take 8 (drop (sv.staged i) (take (chosen_len c sv) sv.log)))) in
    either (MayMade P) (not (sv.reported i)) (Some (Open sv.session)) (if sv.adopted i then append_message c sv i else repair_message c sv i) tt
    (either (MayMade P) (sv.adopted i) (append_message c sv i) (repair_message c sv i)
    (either (MayMade P) (nat_lt (sv.acked i) (length sv.log)) (Some (Append sv.session (take 8 (drop (sv.acked i) sv.log)))) low
    (part_made P sv.log (sv.acked i) 8 f)
    (either (MayMade P) (nat_lt (sv.low i) (commit_mark c sv)) (Some (Low sv.session (commit_mark c sv))) None tt tt))
    (either (MayMade P) (nat_lt (sv.staged i) (chosen_len c sv)) stage (Some (Adopt sv.session (chosen_len c sv)))
    (part_made P (take (chosen_len c sv) sv.log) (sv.staged i) 8 (all_taken (λ (r : Record). P r.tx) (chosen_len c sv) sv.log f)) tt))

message_made : (P : Transaction → Type 0) (c : Config) (sv : ServerState) (i : ℕ) (p : Phase) → ServerMade P sv → MayMade P (message_in p c sv i)
message_made P c sv i Idle f = tt
message_made P c sv i Opening f = either (MayMade P) (sv.reported i) None (Some (Open sv.session)) tt tt
message_made P c sv i Fetching f =
    let fetch = Some (Fetch sv.session (length sv.log + 1) (min 8 (chosen_len c sv - length sv.log))) in
    either (MayMade P) (not (sv.reported i)) (Some (Open sv.session)) (if is_of i (chosen c sv) then fetch else None) tt
    (either (MayMade P) (is_of i (chosen c sv)) fetch None tt tt)
message_made P c sv i Repairing f = chosen_made P c sv i f
message_made P c sv i Running f = chosen_made P c sv i f
message_made P c sv i (Closed by) f = tt

one_made : (P : Transaction → Type 0) (i : ℕ) (m : Option ToNode) → MayMade P m
    → AllByRecursion (λ (x : ℕ × ToNode). AskMade P x.1) (one_message i m)
one_made P i None f = tt
one_made P i (Some m) f = (f, tt)

pub messages_made : (P : Transaction → Type 0) (c : Config) (sv : ServerState) (k : ℕ) → ServerMade P sv
    → AllByRecursion (λ (x : ℕ × ToNode). AskMade P x.1) (next_messages c sv k)
messages_made P c sv zero f = tt
messages_made P c sv (suc k) f =
    AllByRecursion-append (λ (x : ℕ × ToNode). AskMade P x.1) (next_messages c sv k) (one_message (suc k) (next_message c sv (suc k)))
    (messages_made P c sv k f)
    (one_made P (suc k) (next_message c sv (suc k)) (message_made P c sv (suc k) sv.phase f))
