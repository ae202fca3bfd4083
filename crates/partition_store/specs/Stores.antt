-- A store, and what it keeps of its files.
use Rattle.std.specs.Prelude.{◌≡◌, ℕ, ◌+◌, ◌-◌, ◌<◌, ◌≤◌, ◌^◌, Bool, true, false, List, [], ◌∷◌, ◌++◌, length, take, drop, Option, Some, None, Result, OnOk, OnErr, IsErrOf}
use Rattle.std.specs.List.{AllByRecursion}
use Rattle.tx_model.specs.declared.record.Record.{Record}
use Rattle.tx_model.specs.Records.{first_id}
use Rattle.tx_model.specs.Spelling.{IsCount}
use Rattle.tx_model.specs.Contents.{records_in, entries_in}
use Rattle.disk_model.specs.File.{IsPlain}
use Rattle.disk_model.specs.History.{Files, History}
use Rattle.segment_store.specs.Index.{Index, count_of, IsIndexOf, IsIndexOfAll, IsTidy as IsTidySegment}
use Rattle.meta_journal.specs.Entries.{IsTidy as IsTidyJournal}
use Rattle.proto_model.specs.declared.message.Status.{Status}
use Rattle.proto_model.specs.Replicas.{ReplicaState}
use Rattle.proto_model.specs.Crashes.{unstaged}
use Rattle.proto_model.specs.declared.replica.NodeFault.{NodeFault}
use Rattle.proto_model.specs.declared.replica.NodeFault.TheVariants.{Shut}
use Rattle.proto_model.specs.Nodes.{Shuts}
use Rattle.proto_model.specs.Held.{Held, Contents, EachNamed, held_in, replica_of, AreTidy}
use Rattle.partition_store.specs.Stands.{reads_of, held_now, Leaves, AreSynced}

pub record Kept (D : Type 0) : Type 0 where
  pub disk : D
  -- where the journal's last entry ends
  pub journal : ℕ
  -- the numbers of its state, and the greatest number of a file so far
  pub status : Status
  -- the segments that get no records any more, in the order of their ids
  pub closed : List Index
  -- the segment behind them that is appended to, once a session was adopted
  pub last : Option Index
  -- the segment of staged records, once there are any
  pub staged : Option Index
  pub shut : Bool

-- the records of a segment's file, if there is one
abbrev pub records_at : Files → Option Index → List Record
records_at s None = []
records_at s (Some i) = records_in (s i.file).reads

abbrev pub staged_count : Option Index → ℕ
staged_count None = 0
staged_count (Some i) = count_of i

-- The replica that the store keeps: what its files stand for, and the records that are staged.
abbrev pub state_of : {D : Type 0} → Files → Kept D → ReplicaState
state_of s k = record (replica_of (held_now s)) { staged = records_at s k.staged }

-- the same of a store whose disk tells its history
abbrev pub state_by : {D : Type 0} → (D → History) → Kept D → ReplicaState
state_by history k = state_of (history k.disk).now k

-- the records of a batch that a log lacks
abbrev pub lacking : List Record → List Record → List Record
lacking log batch = drop (length log + 1 - first_id batch) batch

-- ---- what callers know

-- The files stand for the store's state, and what it shows is that state's. Without any choice: a fact of this kind can be
-- kept beside a store.
pub record IsStanding {D : Type 0} (s : Files) (k : Kept D) : Type 0 where
  pub held : held_in (reads_of s) ≡ Some (held_now s)
  pub promised : k.status.promised ≡ (held_now s).promised
  pub adopted : k.status.adopted ≡ (held_now s).adopted
  pub low : k.status.low ≡ (held_now s).low
  pub file : k.status.file ≡ (held_now s).file
  pub staged : staged_count k.staged ≡ length (records_at s k.staged)
  pub length : k.status.length ≡ length (held_now s).log

-- The files stand for the store's state, end with whole frames and are on the disk, and so whatever a crash may leave
-- stands for that state, with nothing staged.
pub record IsDurable {D : Type 0} (plain : Type 0) (s : Files) (k : Kept D) : Type 0 where
  pub standing : IsStanding s k
  pub tidy : AreTidy (reads_of s)
  pub synced : AreSynced s
  pub left : Leaves plain (λ r. r ≡ unstaged (state_of s k)) s

-- How a call answers, and what that leaves of the store. `Shut` comes before any other answer, exactly where it was shut,
-- and changes nothing. After `Disk` and `Damaged` it is shut. Any other refusal leaves it as it was, the disk aside. What it
-- shows changes at no refusal.
pub record IsAnswer {T D : Type 0} (tells : Type 0) (history : D → History) (old new : Kept D) (result : Result T NodeFault) : Type 0 where
  pub only_shut : IsErrOf result Shut → old.shut ≡ true
  pub was_shut : old.shut ≡ true → IsErrOf result Shut × (new ≡ old)
  pub on : OnOk result (new.shut ≡ false)
  pub shuts : Shuts result → new.shut ≡ true
  pub shows : OnErr result ((new.status ≡ old.status) × (new.staged ≡ old.staged))
  pub kept : OnErr result ((Shuts result → ⊥) →
      (new ≡ record old { disk = new.disk }) × (tells → state_by history new ≡ state_by history old))

-- the numbers of a status are in the ranges of the formats
pub record IsInRange (status : Status) : Type 0 where
  pub promised : IsCount status.promised
  pub adopted : status.adopted ≤ status.promised
  pub low : status.low ≤ status.length
  pub length : IsCount status.length

-- ---- what is true of each

-- the segments have the records with ids from one on, in a row, up to another id
unfoldable pub IsChain : ℕ → List Index → ℕ → Type 0
IsChain from [] to = from ≡ to
IsChain from (i ∷ is) to = (i.first ≡ from) × IsChain (from + count_of i) is to

-- the log's ids are 1 to its length, those of the closed segments first
abbrev pub AreInOrder : List Index → Option Index → ℕ → Type 0
AreInOrder closed None length = (closed ≡ []) × (length ≡ 0)
AreInOrder closed (Some i) length = IsChain 1 closed i.first × (i.first + count_of i ≡ length + 1)

-- the staged records go on from an id
abbrev pub AreStagedFrom : ℕ → Option Index → Type 0
AreStagedFrom n None = Unit {0}
AreStagedFrom n (Some i) = (i.first ≡ n) × (0 < count_of i) × (n + count_of i ≤ 2 ^ 48)

-- What a store keeps fits together, whether or not its disk tells.
pub record IsFit {D : Type 0} (k : Kept D) : Type 0 where
  pub range : IsInRange k.status
  pub none : k.last ≡ None → k.status.adopted ≡ 0
  pub order : AreInOrder k.closed k.last k.status.length
  pub staged : AreStagedFrom (k.status.low + 1) k.staged

-- a closed segment has records of a file with a number below this one
pub record IsClosed (c : Contents) (file : ℕ) (i : Index) : Type 0 where
  pub above : 1 < i.file
  pub below : i.file < file
  pub index : IsIndexOf i (c i.file)

abbrev pub AreClosed : Contents → ℕ → List Index → Type 0
AreClosed c file closed = AllByRecursion (IsClosed c file) closed

-- the records of closed segments, of each as many as it counts
unfoldable pub records_by : Contents → List Index → List Record
records_by c [] = []
records_by c (i ∷ is) = take (count_of i) (records_in (c i.file)) ++ records_by c is

-- The segments are those of before, without the records with ids above this one.
pub record AreCut (len : ℕ) (old new : List Index) : Type 0 where
  pub closed : (c : Contents) (file : ℕ) → AreClosed c file old → AreClosed c file new
  pub records : (c : Contents) (file : ℕ) → AreClosed c file old → records_by c new ≡ take len (records_by c old)

-- the segment that is appended to is the last file that was named, and all of it is on the disk
pub record IsLast (s : Files) (h : Held) (i : Index) : Type 0 where
  pub file : i.file ≡ h.file
  pub above : 1 < h.file
  pub tidy : IsTidySegment i (s i.file)

-- before the first adoption there is none
abbrev pub IsLastOf : Files → Held → Option Index → Type 0
IsLastOf s h None = h.file ≡ 1
IsLastOf s h (Some i) = IsLast s h i

-- the staged records stand in a file that no entry names
pub record IsStaged (s : Files) (h : Held) (i : Index) : Type 0 where
  pub file : i.file ≡ h.file + 1
  pub all : IsIndexOfAll i (s i.file).reads

abbrev pub IsStagedOf : Files → Held → Option Index → Type 0
IsStagedOf s h None = Unit {0}
IsStagedOf s h (Some i) = IsStaged s h i

-- the segment that an adoption makes the last one: that of the staged records, or one without a record
abbrev pub begun : ℕ → ℕ → Option Index → Index
begun file first None = record { file = file; first = first; starts = []; end = 0 }
begun file first (Some i) = i

-- the file that an adoption will name is on the disk, and empty where nothing is staged
pub record IsReady (s : Files) (file : ℕ) (staged : Option Index) : Type 0 where
  pub plain : IsPlain (s file)
  pub none : staged ≡ None → (s file).reads ≡ []

-- The store has the state that its files stand for. These have no tail, and each file that an entry names is on the disk.
pub record IsSound {D : Type 0} (s : Files) (k : Kept D) : Type 0 where
  pub standing : IsStanding s k
  pub journal : IsTidyJournal k.journal (s 0)
  pub plain : EachNamed (λ q. IsPlain (s q)) (entries_in (s 0).reads)
  pub closed : AreClosed (reads_of s) (held_now s).file k.closed
  pub last : IsLastOf s (held_now s) k.last
  pub log : (held_now s).log ≡ records_by (reads_of s) k.closed ++ records_at s k.last
  pub staged : IsStagedOf s (held_now s) k.staged

-- what is true of each store: the second, where its disk tells and it is not shut
pub record IsKept {D : Type 0} (tells : Type 0) (history : D → History) (k : Kept D) : Type 0 where
  pub fit : IsFit k
  pub sound : tells → k.shut ≡ false → IsSound (history k.disk).now k
