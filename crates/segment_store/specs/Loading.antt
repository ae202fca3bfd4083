-- How far a file is read.
use Rattle.std.specs.Prelude.{◌≡◌, ◌≢◌, ℕ, ◌+◌, ◌<◌, ◌≤◌, ◌^◌, List, ◌++◌, length, drop}
use Rattle.std.specs.List.{AllByRecursion}
use Rattle.tx_model.specs.Frames.{IsFrame, joined}
use Rattle.tx_model.specs.Framing.{record_len, framed_record}
use Rattle.disk_model.specs.Stretches.{IsAlignedAt, IsReadAt}
use Rattle.disk_model.specs.declared.stretch.Stretch.{Stretch}
use Rattle.segment_store.specs.Index.{Index, count_of, IsIndexOf}
use Rattle.segment_store.specs.declared.reading.Reading.{Reading}

-- the same file is read, with as many records counted
pub record IsSameFile (old new : Reading) : Type 0 where
  pub file : new.segment.file ≡ old.segment.file
  pub first : new.segment.first ≡ old.segment.first
  pub count : new.count ≡ old.count

-- what was read fits together, whatever the bytes were
pub record IsFit (r : Reading) : Type 0 where
  pub more : count_of r.segment ≤ r.frames
  pub few : r.frames ≤ r.end
  pub all : count_of r.segment ≡ r.frames → r.segment.end ≡ r.end
  pub ids : r.segment.first ≤ 2 ^ 48 → r.segment.first + count_of r.segment ≤ 2 ^ 48

-- so many whole and right frames stand at the front of these bytes, and the last of them ends here
pub record AreFrames (count end : ℕ) (bytes : List ℕ) : Type 0 where
  pub frames : List (List ℕ)
  pub rest : List ℕ
  pub whole : AllByRecursion (IsFrame record_len) frames
  pub is : bytes ≡ joined frames ++ rest
  pub count_is : count ≡ length frames
  pub end_is : end ≡ length (joined frames)

-- at the front of these bytes a whole and right frame stands that has another id than the segment's next
pub record IsWrongNext (s : Index) (bytes : List ℕ) : Type 0 where
  pub some : 0 < record_len bytes
  pub other : (framed_record bytes).id ≢ s.first + count_of s

-- what was read of a file with these bytes
pub record IsReadingOf (r : Reading) (bytes : List ℕ) : Type 0 where
  pub index : IsIndexOf r.segment bytes
  pub frames : AreFrames r.frames r.end bytes
  pub wrong : count_of r.segment < r.frames → IsWrongNext r.segment (drop r.segment.end bytes)

-- all that stands in whole and right frames from the front of these bytes was read
pub record IsWholeReadingOf (r : Reading) (bytes : List ℕ) : Type 0 where
  pub reading : IsReadingOf r bytes
  pub none : record_len (drop r.end bytes) ≡ 0

-- what was read and is not used stands where the last frame ends
abbrev pub IsAligned : Reading → Stretch → Type 0
IsAligned r stretch = IsAlignedAt r.segment.file r.end stretch

-- of a file with these bytes the frames were taken in that were read so far, and no whole one is left of what was read
pub record IsReadOf (r : Reading) (stretch : Stretch) (file : List ℕ) : Type 0 where
  pub reading : IsReadingOf r file
  pub read : IsReadAt record_len r.end stretch file
