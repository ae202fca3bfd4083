-- A stretch of a file that is read a piece at a time, and frames that are taken off its front.
use Rattle.std.specs.Prelude.{◌≡◌, ℕ, ◌+◌, ◌<◌, ◌≤◌, List, ◌++◌, length, drop}
use Rattle.disk_model.specs.declared.stretch.Stretch.{Stretch}

-- what was read of this file and is not used yet stands from this place on
pub record IsAlignedAt (number at : ℕ) (stretch : Stretch) : Type 0 where
  pub file : stretch.file ≡ number
  pub next : stretch.next ≡ at + length stretch.bytes.items
  pub within : stretch.next ≤ stretch.end
  pub piece : 0 < length stretch.piece.items

-- of a file with these bytes all frames before this place are taken, and no whole one is left of what was read
pub record IsReadAt (len : List ℕ → ℕ) (at : ℕ) (stretch : Stretch) (file : List ℕ) : Type 0 where
  pub bytes : drop at file ≡ stretch.bytes.items ++ drop stretch.next file
  pub none : len stretch.bytes.items ≡ 0
  pub end : stretch.end ≡ length file
