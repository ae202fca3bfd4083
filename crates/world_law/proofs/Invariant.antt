-- What every world of every run keeps.
use Rattle.std.proofs.Common.{◌≡◌, ◌≢◌, ℕ, ◌<◌, ◌≤◌, ◌⊎◌, Bool, true, false, List, [], ◌∷◌, length, take, Some}
use Rattle.proto_model.specs.Quorums.{count, quorum}
use Rattle.proto_model.specs.Replicas.{ReplicaState}
use Rattle.proto_model.specs.Servers.{Config, ServerState, length_of, chosen, is_active}
use Rattle.proto_model.specs.declared.message.FromNode.{FromNode}
use Rattle.proto_model.specs.declared.message.FromNode.TheVariants.{Opened, Stale, Unopened, Records, Staged, StageAt, Adopted, Acked, Gap, NotAdopted, LowSet}
use Rattle.proto_model.specs.declared.message.Phase.{Phase}
use Rattle.proto_model.specs.declared.message.Phase.TheVariants.{Idle, Opening, Fetching, Repairing, Running, Closed}
use Rattle.proto_model.specs.declared.message.Report.{Report}
use Rattle.proto_model.specs.declared.message.ToNode.{ToNode}
use Rattle.proto_model.specs.declared.message.ToNode.TheVariants.{Open, Fetch, Stage, Adopt, Append, Low}
use Rattle.world_law.specs.OneLog.{voted, IsCommitted}
use Rattle.world_law.specs.Worlds.{Book, empty_book, Vote, WorldState, config_of}
use Rattle.net_model.specs.declared.mail.Envelope.{Envelope}
use Rattle.net_model.specs.declared.mail.Mail.{Mail}
use Rattle.net_model.specs.declared.mail.Party.{Party}
use Rattle.std.specs.List.{AllByRecursion}
use Rattle.tx_model.specs.Logs.{IsClean}
use Rattle.tx_model.specs.declared.record.Record.{Record}
use Rattle.world_law.proofs.Lists.{IsFront, IsSlice, HasIds, IsPart}
use Rattle.world_law.proofs.Quorums.{IsNode}
use Rattle.world_law.specs.Promises.{chosen_log}
use Rattle.net_model.specs.declared.mail.Party.TheVariants as party
use Rattle.net_model.specs.declared.mail.Mail.TheVariants as mail

-- the report is one of these
abbrev pub OnList : Report → List Report → Type 0
OnList x [] = ⊥
OnList x (r ∷ rs) = (x ≡ r) ⊎ OnList x rs

-- part 1, of a node
pub record NodeFacts (books : ℕ → Book) (votes : List Vote) (i : ℕ) (n : ReplicaState) : Type 0 where
  pub promised : n.adopted ≤ n.promised
  pub front : IsFront n.log (books n.adopted).log
  pub based : length_of (books n.adopted).choice ≤ length n.log
  pub own : 0 < n.adopted → voted votes n.adopted (length n.log) i ≡ true
  pub above : (s k : ℕ) → n.adopted < s → voted votes s k i ≡ false
  pub most : (k : ℕ) → voted votes n.adopted k i ≡ true → k ≤ length n.log

-- part 1, of a vote of k or more in the book's session
pub record VoteFacts (book : Book) (k : ℕ) : Type 0 where
  pub repaired : book.repaired ≡ true
  pub fits : k ≤ length book.log

-- (a, len) is the greatest of the node's votes in sessions below s
pub record IsGreatest (votes : List Vote) (i s a len : ℕ) : Type 0 where
  pub before : a < s
  pub none : (t k : ℕ) → a < t → t < s → voted votes t k i ≡ false
  pub most : (k : ℕ) → voted votes a k i ≡ true → k ≤ len
  pub own : 0 < a → voted votes a len i ≡ true
  pub zero : a ≡ 0 → len ≡ 0

-- part 2, of a session s that chose len records of the book of c
pub record ChoiceFacts (w : WorldState) (s c len : ℕ) : Type 0 where
  pub before : c < s
  pub came : (c ≡ 0) ⊎ ((w.books c).repaired ≡ true)
  pub fits : len ≤ length (w.books c).log
  pub grows : length_of (w.books c).choice ≤ len
  pub members : ℕ → Bool
  pub enough : quorum w.cluster.nodes ≤ count members w.cluster.nodes
  pub promised : (i : ℕ) → members i ≡ true → s ≤ (w.nodes i).promised
  pub silent : (i t k : ℕ) → members i ≡ true → c < t → t < s → voted w.votes t k i ≡ false
  pub longest : (i k : ℕ) → members i ≡ true → voted w.votes c k i ≡ true → k ≤ len

-- part 2, once s came to repairing
pub record KeptFacts (books : ℕ → Book) (s c len : ℕ) : Type 0 where
  pub long : len ≤ length (books s).log
  pub same : take len (books s).log ≡ take len (books c).log

-- part 3
pub record LowFacts (w : WorldState) (n : ReplicaState) : Type 0 where
  pub fits : n.low ≤ length n.log
  pub committed : 0 < n.low → (s : ℕ) × (k : ℕ) × IsCommitted w s k × (s ≤ n.adopted) × (n.low ≤ k)

-- part 5
pub record StagedFacts (w : WorldState) (n : ReplicaState) : Type 0 where
  pub none : n.adopted ≡ n.promised → n.staged ≡ []
  pub chosen : 0 < length n.staged → (r : Report) × ((w.books n.promised).choice ≡ Some r)
  pub slice : 0 < length n.staged → IsSlice n.staged n.low (chosen_log w n.promised)

-- part 4, by the kind of message
pub record OpenedFacts (w : WorldState) (i s a len : ℕ) : Type 0 where
  pub promised : s ≤ (w.nodes i).promised
  pub greatest : IsGreatest w.votes i s a len

-- the same of a report that a server took
pub record OpenedWarrant (w : WorldState) (i s a len : ℕ) : Type 0 where
  pub node : IsNode w.cluster.nodes i
  pub promised : s ≤ (w.nodes i).promised
  pub greatest : IsGreatest w.votes i s a len

pub record RecordsWarrant (w : WorldState) (i s : ℕ) (batch : List Record) : Type 0 where
  pub promised : s ≤ (w.nodes i).promised
  pub part : (w.books s).repaired ≡ false → (a len : ℕ) → IsGreatest w.votes i s a len → IsPart batch (take len (w.books a).log)

pub record StageWarrant (w : WorldState) (s : ℕ) (batch : List Record) : Type 0 where
  pub some : 1 ≤ s
  pub chosen : (r : Report) × ((w.books s).choice ≡ Some r)
  pub part : IsPart batch (chosen_log w s)

pub record AdoptWarrant (w : WorldState) (s len : ℕ) : Type 0 where
  pub some : 1 ≤ s
  pub repaired : (w.books s).repaired ≡ true
  pub chosen_len : len ≡ length_of (w.books s).choice

pub record AppendWarrant (w : WorldState) (s : ℕ) (batch : List Record) : Type 0 where
  pub some : 1 ≤ s
  pub repaired : (w.books s).repaired ≡ true
  pub part : IsPart batch (w.books s).log

abbrev pub AskWarrant : WorldState → ℕ → ToNode → Type 0
AskWarrant w i (Open s) = Unit {0}
AskWarrant w i (Fetch s from most) = Unit {0}
AskWarrant w i (Stage s batch) = StageWarrant w s batch
AskWarrant w i (Adopt s len) = AdoptWarrant w s len
AskWarrant w i (Append s batch) = AppendWarrant w s batch
AskWarrant w i (Low s k) = IsCommitted w s k

abbrev pub ReplyWarrant : WorldState → ℕ → FromNode → Type 0
ReplyWarrant w i (Opened s a low len) = a < s → OpenedFacts w i s a len
ReplyWarrant w i (Records s batch) = RecordsWarrant w i s batch
ReplyWarrant w i (Adopted s len) = voted w.votes s len i ≡ true
ReplyWarrant w i (Acked s len) = voted w.votes s len i ≡ true
ReplyWarrant w i (Stale s p) = Unit {0}
ReplyWarrant w i (Unopened s p) = Unit {0}
ReplyWarrant w i (Staged s upto) = Unit {0}
ReplyWarrant w i (StageAt s next) = Unit {0}
ReplyWarrant w i (Gap s len) = Unit {0}
ReplyWarrant w i (NotAdopted s a) = Unit {0}
ReplyWarrant w i (LowSet s low) = Unit {0}

abbrev pub AskedWarrant : WorldState → ToNode → Party → Type 0
AskedWarrant w m (party.Node i) = AskWarrant w i m
AskedWarrant w m (party.Server v) = Unit {0}
AskedWarrant w m (party.Client c) = Unit {0}

abbrev pub RepliedWarrant : WorldState → FromNode → Party → Type 0
RepliedWarrant w m (party.Node i) = ReplyWarrant w i m
RepliedWarrant w m (party.Server v) = Unit {0}
RepliedWarrant w m (party.Client c) = Unit {0}

abbrev pub MailWarrant : WorldState → Party → Party → Mail → Type 0
MailWarrant w from to (mail.ToNode m) = AskedWarrant w m to
MailWarrant w from to (mail.FromNode m) = RepliedWarrant w m from
MailWarrant w from to (mail.ToServer m) = Unit {0}
MailWarrant w from to (mail.FromServer m) = Unit {0}

abbrev pub Warranted : WorldState → Envelope → Type 0
Warranted w e = MailWarrant w e.from e.to e.message

-- part 6

-- some report is of node i
abbrev pub IsListed : ℕ → List Report → Type 0
IsListed i [] = ⊥
IsListed i (r ∷ rs) = (r.node ≡ i) ⊎ IsListed i rs

pub record ActiveFacts (w : WorldState) (sv : ServerState) : Type 0 where
  pub some : 1 ≤ sv.session
  pub known : sv.session ≤ w.number
  pub reports : AllByRecursion (λ (r : Report). OpenedWarrant w r.node sv.session r.adopted r.length) sv.reports
  pub listed : (i : ℕ) → sv.reported i ≡ true → IsListed i sv.reports
  pub counted : length sv.reports ≤ count sv.reported w.cluster.nodes
  pub acks : (i : ℕ) → sv.adopted i ≡ true → voted w.votes sv.session (sv.acked i) i ≡ true
  pub unacked : (i : ℕ) → sv.adopted i ≡ false → sv.acked i ≡ 0

pub record OpeningFacts (c : Config) (books : ℕ → Book) (sv : ServerState) : Type 0 where
  pub few : length sv.reports < quorum c.nodes
  pub log : sv.log ≡ []
  pub book : books sv.session ≡ empty_book

pub record FetchingFacts (c : Config) (books : ℕ → Book) (sv : ServerState) : Type 0 where
  pub choice : Report
  pub chose : chosen c sv ≡ Some choice
  pub book : books sv.session ≡ record { log = []; choice = Some choice; repaired = false }
  pub front : IsFront sv.log (take choice.length (books choice.adopted).log)
  pub listed : OnList choice sv.reports

pub record RepairFacts (c : Config) (books : ℕ → Book) (sv : ServerState) : Type 0 where
  pub choice : Report
  pub chose : chosen c sv ≡ Some choice
  pub book : books sv.session ≡ record { log = sv.log; choice = Some choice; repaired = true }

abbrev pub PhaseFacts : Config → (ℕ → Book) → ServerState → Phase → Type 0
PhaseFacts c books sv Idle = Unit {0}
PhaseFacts c books sv Opening = OpeningFacts c books sv
PhaseFacts c books sv Fetching = FetchingFacts c books sv
PhaseFacts c books sv Repairing = RepairFacts c books sv
PhaseFacts c books sv Running = RepairFacts c books sv
PhaseFacts c books sv (Closed p) = Unit {0}

pub record Holds (w : WorldState) : Type 0 where
  pub nodes : (i : ℕ) → NodeFacts w.books w.votes i (w.nodes i)
  pub votes : (i s k : ℕ) → voted w.votes s k i ≡ true → VoteFacts (w.books s) k
  pub based : (i s : ℕ) → voted w.votes s 0 i ≡ true → voted w.votes s (length_of (w.books s).choice) i ≡ true
  pub choices : (s : ℕ) (r : Report) → (w.books s).choice ≡ Some r → ChoiceFacts w s r.adopted r.length
  pub kept : (s : ℕ) (r : Report) → (w.books s).choice ≡ Some r → (w.books s).repaired ≡ true → KeptFacts w.books s r.adopted r.length
  pub lows : (i : ℕ) → LowFacts w (w.nodes i)
  pub staged : (i : ℕ) → StagedFacts w (w.nodes i)
  pub sent : AllByRecursion (λ (e : Envelope). Warranted w e) w.sent
  pub active : (v : ℕ) → is_active (w.servers v).phase ≡ true → ActiveFacts w (w.servers v)
  pub phases : (v : ℕ) → PhaseFacts (config_of w.cluster) w.books (w.servers v) (w.servers v).phase
  pub distinct : (u v : ℕ) → u ≢ v → is_active (w.servers u).phase ≡ true → is_active (w.servers v).phase ≡ true →
      (w.servers u).session ≢ (w.servers v).session
  pub repaired : (s : ℕ) → (w.books s).repaired ≡ true → (r : Report) × ((w.books s).choice ≡ Some r)
  pub unrepaired : (s : ℕ) → (w.books s).repaired ≡ false → (w.books s).log ≡ []
  pub unused : (s : ℕ) → w.number < s → w.books s ≡ empty_book
  pub none : w.books 0 ≡ empty_book
  pub clean : (s : ℕ) → IsClean (w.books s).log
  pub ids : (s : ℕ) → HasIds (w.books s).log

-- k committed records of s stand in the log that the session t chose
pub record AgreesAt (w : WorldState) (s k t : ℕ) : Type 0 where
  pub fits : k ≤ length (w.books s).log
  pub long : k ≤ length_of (w.books t).choice
  pub same : take k (w.books s).log ≡ take k (chosen_log w t)

abbrev pub Agreement : WorldState → Type 0
Agreement w = (s k t : ℕ) → IsCommitted w s k → s < t → (w.books t).repaired ≡ true → AgreesAt w s k t
