-- Frames at the front of a file's bytes, and what a crash may leave of them.
use Rattle.std.specs.Prelude.{◌≡◌, ℕ, false, ◌<◌, List, ◌++◌, length}
use Rattle.std.specs.List.{AllByRecursion}
use Rattle.tx_model.specs.Frames.{IsFrame, joined, frames_in}
use Rattle.disk_model.specs.File.{File, Begins, settled, IsImage}

-- Whatever frames the image begins with were last put there.
abbrev pub IsAsPut : (List ℕ → ℕ) → File → List ℕ → Type 0
IsAsPut len file c = (fs : List (List ℕ)) (rest : List ℕ) → AllByRecursion (IsFrame len) fs → c ≡ joined fs ++ rest
    → (more : List ℕ) × (file.put ≡ joined fs ++ more)

-- Each image whose frames were last put there begins with frames that have P.
abbrev pub EachImage : (List ℕ → ℕ) → (List (List ℕ) → Type 0) → File → Type 0
EachImage len P file = (c : List ℕ) → IsImage file c → IsAsPut len file c → P (frames_in len c)

-- These frames are synced and were put, and behind them no frame was put.
pub record IsFirm (len : List ℕ → ℕ) (frames : List (List ℕ)) (file : File) : Type 0 where
  pub whole : AllByRecursion (IsFrame len) frames
  pub firm : (i : ℕ) → i < length (joined frames) → file.unsynced i ≡ false
  pub synced : Begins (joined frames) file.synced
  -- what was put behind them
  pub behind : List ℕ
  pub put : file.put ≡ joined frames ++ behind
  pub none : len behind ≡ 0

-- The frames that are read are firm. It is so of each file that is on the disk.
abbrev pub HasFirmFrames : (List ℕ → ℕ) → File → Type 0
HasFirmFrames len file = IsFirm len (frames_in len file.reads) file

-- The file is frames alone, up to this end, and all of it is on the disk.
pub record IsAtRest (len : List ℕ → ℕ) (file : File) (end : ℕ) : Type 0 where
  pub is : file ≡ settled (joined (frames_in len file.reads))
  pub end_is : end ≡ length file.reads
