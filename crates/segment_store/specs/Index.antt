-- Where the records of a file stand.
use Rattle.std.specs.Prelude.{◌≡◌, ℕ, ◌+◌, ◌-◌, ◌<◌, ◌≤◌, true, List, [], ◌∷◌, ◌++◌, length, drop, min, nat_le, if◌then◌else◌, slice_index, slice_index_or}
use Rattle.std.specs.List.{AllByRecursion}
use Rattle.tx_model.specs.declared.record.Record.{Record}
use Rattle.tx_model.specs.Records.{IsRecord, RiseByOne, ids_rise}
use Rattle.tx_model.specs.Framing.{record_len, framed_record}
use Rattle.disk_model.specs.File.{File}
use Rattle.tx_model.specs.Frames.{IsFrame, joined}
use Rattle.disk_model.specs.Frames.{IsAtRest}
use Rattle.tx_model.specs.Contents.{records_of, IsDamagedAt}

-- what a segment keeps of its file
pub record Index : Type 0 where
  pub file : ℕ
  -- the id of its first record
  pub first : ℕ
  -- where each record's frame begins
  pub starts : List ℕ
  -- where the last one's frame ends
  pub end : ℕ

-- how many records the segment has
abbrev pub count_of : Index → ℕ
count_of s = length s.starts

-- the segment has a record with this id
abbrev pub HasId : Index → ℕ → Type 0
HasId s id = (s.first ≤ id) × (id < s.first + count_of s)

-- where the frame of the record with this id begins
abbrev pub start_of : Index → ℕ → ℕ
start_of s id = slice_index s.starts (id - s.first)

-- where the frame at this place among them begins, and behind the last one where that ends
abbrev pub place_of : Index → ℕ → ℕ
place_of s k = slice_index_or s.starts k s.end

-- how many of so many ids from one on the segment has
abbrev pub run_length : Index → ℕ → ℕ → ℕ
run_length s from count = if nat_le s.first from then min count ((s.first + count_of s) - from) else 0

-- where each of these frames begins, the first at a place
unfoldable pub starts_of : ℕ → List (List ℕ) → List ℕ
starts_of at [] = []
starts_of at (f ∷ fs) = at ∷ starts_of (at + length f) fs

-- The segment's records are the first ones of these bytes: it has the place of each, and their ids go on from its first.
pub record IsIndexOf (s : Index) (bytes : List ℕ) : Type 0 where
  pub frames : List (List ℕ)
  pub rest : List ℕ
  pub whole : AllByRecursion (IsFrame record_len) frames
  pub is : bytes ≡ joined frames ++ rest
  pub starts : s.starts ≡ starts_of 0 frames
  pub end : s.end ≡ length (joined frames)
  pub ids : RiseByOne s.first (records_of frames)

-- The segment's next record stands at the front of these bytes, in a whole and right frame of this length.
pub record IsNext (s : Index) (len : ℕ) (bytes : List ℕ) : Type 0 where
  pub some : 0 < len
  pub whole : record_len bytes ≡ len
  pub valid : IsRecord (framed_record bytes)
  pub id : (framed_record bytes).id ≡ s.first + count_of s

-- The segment's records are all that stand in whole and right frames from the front of these bytes.
pub record IsWholeIndexOf (s : Index) (bytes : List ℕ) : Type 0 where
  pub index : IsIndexOf s bytes
  pub none : record_len (drop s.end bytes) ≡ 0

-- The segment's records are all of these bytes, which have no tail behind them.
pub record IsIndexOfAll (s : Index) (bytes : List ℕ) : Type 0 where
  pub index : IsIndexOf s bytes
  pub ends : s.end ≡ length bytes

-- The segment's records are all of the file, which has no tail behind them and is on the disk.
pub record IsTidy (s : Index) (file : File) : Type 0 where
  pub index : IsIndexOf s file.reads
  pub at_rest : IsAtRest record_len file s.end

-- These records are as many as are needed, and their ids go on from the first. Loading never refuses a file that holds
-- such records.
pub record IsLoadable (first count : ℕ) (records : List Record) : Type 0 where
  pub ids : ids_rise first records ≡ true
  pub enough : count ≤ length records

-- One of the counted records is missing at this damaged place, or another one stands there.
pub record IsDamagedWithin (first count : ℕ) (bytes : List ℕ) (at : ℕ) : Type 0 where
  pub damaged : IsDamagedAt first count bytes at
  pub counted : length damaged.front < count

-- This damaged place is behind the counted records, and so another id than the next stands there.
pub record IsDamagedBehind (first count : ℕ) (bytes : List ℕ) (at : ℕ) : Type 0 where
  pub damaged : IsDamagedAt first count bytes at
  pub behind : count ≤ length damaged.front
