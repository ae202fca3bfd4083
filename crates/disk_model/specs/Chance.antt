-- An image that passes its checks by chance.
use Rattle.std.specs.Prelude.{◌≡◌, ◌≢◌, ◌⊎◌, ℕ, ◌+◌, ◌<◌, ◌≤◌, true, List, ◌++◌, length, take, drop}
use Rattle.std.specs.List.{AllByRecursion}
use Rattle.disk_model.specs.File.{File, IsImage}
use Rattle.tx_model.specs.Frames.{IsFrame, joined, frames_in}

-- one of the frames that these bytes begin with
pub record FrameOf (len : List ℕ → ℕ) (c : List ℕ) : Type 0 where
  -- the frames before it
  pub front : List (List ℕ)
  pub frame : List ℕ
  pub rest : List ℕ
  pub fronts : AllByRecursion (IsFrame len) front
  pub whole : IsFrame len frame
  pub is : c ≡ joined front ++ (frame ++ rest)

-- where it stands
abbrev pub place_of : {len : List ℕ → ℕ} {c : List ℕ} → FrameOf len c → ℕ
place_of f = length (joined f.front)

-- a place of the frame is unsynced, and the bytes that were last put there are not the frame
pub record IsOther {len : List ℕ → ℕ} {c : List ℕ} (file : File) (f : FrameOf len c) : Type 0 where
  pub place : ℕ
  pub from : place_of f ≤ place
  pub to : place < place_of f + length f.frame
  pub unsynced : file.unsynced place ≡ true
  pub not_put : take (length f.frame) (drop (place_of f) file.put) ≢ f.frame

-- the bytes that were last put at the frame's place begin with no frame
abbrev pub StandsWhereNone : {len : List ℕ → ℕ} {c : List ℕ} → File → FrameOf len c → Type 0
StandsWhereNone {len} file f = len (drop (place_of f) file.put) ≡ 0

-- One of the frames that the image begins with holds an unsynced place and is not the frame that was last put there,
-- or stands where none was put.
abbrev pub PassesByChance : (List ℕ → ℕ) → File → List ℕ → Type 0
PassesByChance len file c = (f : FrameOf len c) × (IsOther file f ⊎ StandsWhereNone file f)

-- Of an image of all files, each read under a framing of its own, some file passes by chance.
abbrev pub AnyByChance : (ℕ → List ℕ → ℕ) → (ℕ → File) → (ℕ → List ℕ) → Type 0
AnyByChance len files image = (q : ℕ) × PassesByChance (len q) (files q) (image q)

-- What a crash may leave of a file: an image that does not pass by chance, or any where the disk is plain.
pub record MayLeave (plain : Type 0) (len : List ℕ → ℕ) (file : File) (c : List ℕ) : Type 0 where
  pub image : IsImage file c
  pub no_chance : plain ⊎ (PassesByChance len file c → ⊥)

-- Whatever a crash may leave begins with frames that have P.
abbrev pub EachLeft : Type 0 → (List ℕ → ℕ) → (List (List ℕ) → Type 0) → File → Type 0
EachLeft plain len P file = (c : List ℕ) → MayLeave plain len file c → P (frames_in len c)
