-- One file of a disk at one moment, what its calls make of it, and what a crash at that moment may leave of it.
use Rattle.std.specs.Prelude.{◌≡◌, ℕ, ◌+◌, ◌<◌, ◌≤◌, Bool, true, false, ◌&&◌, ◌||◌, nat_le, nat_lt, List, ◌++◌, length, take, drop, slice_index}

pub record File : Type 0 where
  -- what a read gives
  pub reads : List ℕ
  -- what it held at the last sync that succeeded
  pub synced : List ℕ
  -- the byte that was last put at each place, also where it was cut away since
  pub put : List ℕ
  -- the place was written, cut away or newly reached since that sync
  pub unsynced : ℕ → Bool

-- each place has its byte on the disk
abbrev pub settled : List ℕ → File
settled bytes = record { reads = bytes; synced = bytes; put = bytes; unsynced = λ _. false }

abbrev pub overlaid : List ℕ → ℕ → List ℕ → List ℕ
overlaid old at bytes = take at old ++ bytes ++ drop (at + length bytes) old

abbrev pub is_within : ℕ → ℕ → ℕ → Bool
is_within from to i = nat_le from i && nat_lt i to

-- after these bytes are written at this place
abbrev pub written : ℕ → List ℕ → File → File
written at bytes f = record {
  reads = overlaid f.reads at bytes;
  synced = f.synced;
  put = overlaid f.put at bytes;
  unsynced = λ i. f.unsynced i || is_within at (at + length bytes) i;
}

-- after a cut to this length
abbrev pub shortened : ℕ → File → File
shortened len f = record {
  reads = take len f.reads;
  synced = f.synced;
  put = f.put;
  unsynced = λ i. f.unsynced i || is_within len (length f.reads) i;
}

-- what a crash at this moment may leave: the synced byte at each place that isn't unsynced, any byte at an unsynced
-- one, and an end at any place from which on all places are unsynced
pub record IsImage (f : File) (c : List ℕ) : Type 0 where
  pub within : (i : ℕ) → i < length c → f.unsynced i ≡ false → i < length f.synced
  pub bytes : (i : ℕ) → i < length c → f.unsynced i ≡ false → slice_index c i ≡ slice_index f.synced i
  pub ends : (i : ℕ) → length c ≤ i → i < length f.synced → f.unsynced i ≡ true

-- f has no image that g hasn't: no place is unsynced that isn't so in g, and the others have their synced byte
pub record IsFirmer (f g : File) : Type 0 where
  pub firm : (i : ℕ) → g.unsynced i ≡ false → f.unsynced i ≡ false
  pub bytes : (i : ℕ) → g.unsynced i ≡ false → slice_index f.synced i ≡ slice_index g.synced i
  pub no_longer : (i : ℕ) → g.unsynced i ≡ false → i < length f.synced → i < length g.synced
  pub no_shorter : (i : ℕ) → g.unsynced i ≡ false → i < length g.synced → i < length f.synced

-- the first list begins the second
abbrev pub Begins : List ℕ → List ℕ → Type 0
Begins front whole = (more : List ℕ) × (whole ≡ front ++ more)

-- on the way to done; where the call only adds at the end or cuts, nothing was put that isn't put in done
pub record IsDuring (adds : Type 0) (done f : File) : Type 0 where
  pub firmer : IsFirmer f done
  pub put : adds → Begins f.put done.put

-- nothing is unsynced, and all that was put is read
abbrev pub IsPlain : File → Type 0
IsPlain f = f ≡ settled f.reads

-- at a place that isn't unsynced the synced byte is the one that was last put
pub record IsSyncedAsPut (file : File) : Type 0 where
  pub within : (i : ℕ) → file.unsynced i ≡ false → i < length file.synced → i < length file.put
  pub same : (i : ℕ) → file.unsynced i ≡ false → i < length file.synced → slice_index file.put i ≡ slice_index file.synced i

-- what each file of a disk meets at each moment
pub record IsSound (file : File) : Type 0 where
  -- as it reads it is one of its images
  pub reads_image : IsImage file file.reads
  pub as_put : IsSyncedAsPut file
  -- each byte that is read was put
  pub reads_put : length file.reads ≤ length file.put
