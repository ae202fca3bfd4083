-- Loading a store: what was taken in so far of its files, and what holds of a disk that is loaded from.
use Rattle.std.specs.Prelude.{◌≡◌, ◌≢◌, ◌⊎◌, IfSome, ℕ, ◌-◌, ◌<◌, ◌≤◌, ◌^◌, min, true, List, [], ◌++◌, length, Option, Some, None, Result, Ok, Err}
use Rattle.tx_model.specs.declared.record.Record.{Record}
use Rattle.tx_model.specs.declared.meta.Meta.{Meta}
use Rattle.tx_model.specs.declared.meta.Meta.TheVariants.{Promise, Adopt, Low, Roll, Value}
use Rattle.tx_model.specs.Records.{ids_rise}
use Rattle.tx_model.specs.Spelling.{IsCount}
use Rattle.tx_model.specs.Frames.{joined, frames_in}
use Rattle.tx_model.specs.Contents.{records_in, entries_of, entries_in}
use Rattle.disk_model.specs.File.{IsPlain, settled}
use Rattle.disk_model.specs.Frames.{IsFirm}
use Rattle.disk_model.specs.History.{Files}
use Rattle.disk_model.specs.declared.unloaded.LoadFault.{LoadFault}
use Rattle.disk_model.specs.declared.unloaded.Unloaded.{Unloaded}
use Rattle.segment_store.specs.Index.{Index, IsWholeIndexOf, IsDamagedBehind}
use Rattle.proto_model.specs.Held.{Held, Contents, table_of, none_held, EachNamed}
use Rattle.proto_model.specs.Damages.{Naming, last_named, FoldsSoFar}
use Rattle.partition_store.specs.Stands.{reads_of, framing_of}
use Rattle.partition_store.specs.Stores.{Kept, AreInOrder, AreClosed, records_by}
use Rattle.partition_store.specs.declared.taking.Loaded.{Loaded}

-- ---- entries that were taken in

-- the segment of the last file has all of its records
abbrev pub IsLastRead : Contents → Held → Option Index → Type 0
IsLastRead c h None = h.file ≡ 1
IsLastRead c h (Some i) = (i.file ≡ h.file) × ((1 < h.file) × IsWholeIndexOf i (c i.file))

-- the records of its file, if there is one
abbrev pub last_records : Contents → Option Index → List Record
last_records c None = []
last_records c (Some i) = records_in (c i.file)

-- the tail of the last file is in order too, and the segments have the log
pub record IsWholeLog (c : Contents) (h : Held) (closed : List Index) (last : Option Index) : Type 0 where
  pub ids : ids_rise 1 h.log ≡ true
  pub below : AreClosed c h.file closed
  pub read : IsLastRead c h last
  pub log : h.log ≡ records_by c closed ++ last_records c last

-- behind its counted records the last file has a record with another id than the next
pub record IsWrongTail (c : Contents) (entries : List Meta) (h : Held) (at : ℕ) : Type 0 where
  pub named : Naming
  pub last : last_named None entries ≡ Some named
  pub file : h.file ≡ named.file
  pub damaged : IsDamagedBehind named.first named.count (c named.file) at

abbrev pub IsTailOf : Contents → List Meta → Held → List Index → Option Index → Option ℕ → Type 0
IsTailOf c entries h closed last None = IsWholeLog c h closed last
IsTailOf c entries h closed last (Some at) = IsWrongTail c entries h at

-- These entries were taken in, and this is held then.
pub record IsLoadedOf (c : Contents) (entries : List Meta) (h : Held) (l : Loaded) : Type 0 where
  pub folds : FoldsSoFar (table_of c) entries none_held h
  pub promised : l.status.promised ≡ h.promised
  pub adopted : l.status.adopted ≡ h.adopted
  pub low : l.status.low ≡ h.low
  -- where the ids are not in order, a log may be longer than ids are
  pub length : l.status.length ≡ min (length h.log) (2 ^ 64 - 1)
  pub file : l.status.file ≡ h.file
  pub first : l.first ≡ h.first
  pub tail : IsTailOf c entries h l.closed.items l.last l.wrong

pub record AreLoaded (c : Contents) (entries : List Meta) (l : Loaded) : Type 0 where
  pub held : Held
  pub of : IsLoadedOf c entries held l

-- What was taken in fits together, whether or not the disk tells.
pub record IsLoadedFit (l : Loaded) : Type 0 where
  pub promised : IsCount l.status.promised
  pub adopted : l.status.adopted ≤ l.status.promised
  pub low : l.status.low ≤ l.status.length
  pub none : l.last ≡ None → l.status.adopted ≡ 0
  pub length : l.wrong ≡ None → IsCount l.status.length
  pub order : l.wrong ≡ None → AreInOrder l.closed.items l.last l.status.length

-- ---- the disk

-- the frames of each file as it is read
abbrev pub frames_of : Files → ℕ → List (List ℕ)
frames_of s q = frames_in (framing_of q) (s q).reads

-- each file holds these frames
abbrev pub HoldFrames : (ℕ → List (List ℕ)) → Files → Type 0
HoldFrames frames s = (q : ℕ) → frames_of s q ≡ frames q

-- These frames of the journal, and of each file that its entries name, are synced and were put, and behind them no frame
-- was put.
pub record AreFirm (frames : ℕ → List (List ℕ)) (s : Files) : Type 0 where
  pub journal : IsFirm (framing_of 0) (frames 0) (s 0)
  pub named : EachNamed (λ q. IsFirm (framing_of q) (frames q) (s q)) (entries_of (frames 0))

-- so it is of all frames that are read
abbrev pub HasFirmFiles : Files → Type 0
HasFirmFiles s = AreFirm (frames_of s) s

-- ---- the tails that are cut away

abbrev pub named_file : Meta → Option ℕ
named_file (Promise s) = None
named_file (Adopt s first file count) = Some file
named_file (Low k) = None
named_file (Roll file first) = Some file
named_file (Value n) = None

-- the segment has all records of the file that these entries name last
pub record IsLastFile (entries : List Meta) (s : Files) (i : Index) : Type 0 where
  pub above : 1 < i.file
  pub whole : IsWholeIndexOf i (s i.file).reads
  pub named : Naming
  pub last : last_named None entries ≡ Some named
  pub file_is : i.file ≡ named.file

-- These entries of the journal, and the records of the last file, are all that is read there, and end here.
pub record AreRead (s : Files) (end : ℕ) (last : Option Index) (entries : List Meta) : Type 0 where
  pub entries_are : entries ≡ entries_in (s 0).reads
  pub end_is : end ≡ length (joined (frames_of s 0))
  pub last_is : IfSome last (IsLastFile entries s)

-- The journal and the last file hold their frames alone, and each file that the entries name is on the disk. All else
-- is read as before.
pub record AreTrimmed (last : Option Index) (entries : List Meta) (old new : Files) : Type 0 where
  pub journal : new 0 ≡ settled (joined (frames_of old 0))
  pub last_is : IfSome last (λ i. new i.file ≡ settled (joined (frames_of old i.file)))
  pub others : (q : ℕ) → q ≢ 0 → IfSome last (λ i. q ≢ i.file) → (new q).reads ≡ (old q).reads
  pub named : EachNamed (λ q. IsPlain (new q)) entries

-- a tail that holds no frame was cut away, or nothing was
abbrev pub IsTrimmedOf : (List ℕ → ℕ) → List ℕ → List ℕ → Type 0
IsTrimmedOf len old new = (new ≡ old) ⊎ (new ≡ joined (frames_in len old))

abbrev pub AreTrimmedOf : Files → Files → Type 0
AreTrimmedOf old new = (q : ℕ) → IsTrimmedOf (framing_of q) (old q).reads (new q).reads

-- All of it was read and taken in.
pub record AreReadFrom (s : Files) (end : ℕ) (entries : List Meta) (l : Loaded) : Type 0 where
  pub loaded : AreLoaded (reads_of s) entries l
  pub read : AreRead s end l.last entries

-- And then its files were trimmed.
pub record IsLoadedFrom (old new : Files) (end : ℕ) (entries : List Meta) (l : Loaded) : Type 0 where
  pub parts : AreReadFrom old end entries l
  pub trimmed : AreTrimmed l.last entries old new

-- ---- what loading answers

-- the disk that comes back from loading
abbrev pub disk_of : {D : Type 0} → Result (Kept D) (Unloaded D) → D
disk_of (Ok k) = k.disk
disk_of (Err u) = u.disk

-- what loading answers, the disk aside
abbrev pub answer_of : {D : Type 0} → Result (Kept D) (Unloaded D) → Result (Kept D) LoadFault
answer_of (Ok k) = Ok k
answer_of (Err u) = Err u.fault
