-- Which number the file of a register stands for: its entries are Value 1, 2, 3 and so on up to that number.
use Rattle.std.specs.Prelude.{◌≡◌, ◌≢◌, ◌⊎◌, ℕ, zero, suc, ◌+◌, ◌<◌, List, [], ◌∷◌, ◌++◌, map, length}
use Rattle.std.specs.List.{AllByRecursion}
use Rattle.tx_model.specs.declared.meta.Meta.{Meta}
use Rattle.tx_model.specs.declared.meta.Meta.TheVariants.{Value}
use Rattle.tx_model.specs.Framing.{meta_len, framed_meta}
use Rattle.disk_model.specs.File.{File}
use Rattle.tx_model.specs.Frames.{IsFrame, joined, frames_in}
use Rattle.disk_model.specs.Frames.{IsAtRest, IsFirm}
use Rattle.disk_model.specs.Chance.{EachLeft}

-- the entries of these frames
abbrev pub entries_of : List (List ℕ) → List Meta
entries_of frames = map framed_meta frames

-- Value 1, 2, 3 and so on up to this number
unfoldable pub values_to : ℕ → List Meta
values_to zero = []
values_to (suc n) = values_to n ++ Value (suc n) ∷ []

-- these frames are the entries of a register with this number
abbrev pub HaveNumber : List (List ℕ) → ℕ → Type 0
HaveNumber frames number = entries_of frames ≡ values_to number

-- the whole and right frames at the front of these bytes are so
abbrev pub StandsFor : List ℕ → ℕ → Type 0
StandsFor bytes number = HaveNumber (frames_in meta_len bytes) number

-- whatever a crash may leave of the file stands for this number
abbrev pub EachLeftStandsFor : Type 0 → ℕ → File → Type 0
EachLeftStandsFor plain number file = EachLeft plain meta_len (λ frames. HaveNumber frames number) file

-- or for one of two
abbrev pub EachLeftStandsForEither : Type 0 → ℕ → ℕ → File → Type 0
EachLeftStandsForEither plain old new file = EachLeft plain meta_len (λ frames. HaveNumber frames old ⊎ HaveNumber frames new) file

-- the file stands for this number, has nothing behind its last entry, which ends here, and all of it is on the disk
pub record IsTidy (number end : ℕ) (file : File) : Type 0 where
  pub values : StandsFor file.reads number
  pub at_rest : IsAtRest meta_len file end

-- the frames that are read of the file are firm
abbrev pub KeepsFrames : List ℕ → File → Type 0
KeepsFrames bytes file = IsFirm meta_len (frames_in meta_len bytes) file

-- the entries of a register with this number stand at the front of these bytes, up to this place
pub record IsFront (bytes : List ℕ) (number end : ℕ) : Type 0 where
  pub frames : List (List ℕ)
  pub rest : List ℕ
  pub whole : AllByRecursion (IsFrame meta_len) frames
  pub is : bytes ≡ joined frames ++ rest
  pub values : HaveNumber frames number
  pub place : end ≡ length (joined frames)

-- and these are all entries of the bytes
pub record IsAllOf (bytes : List ℕ) (number end : ℕ) : Type 0 where
  pub values : StandsFor bytes number
  pub place : end ≡ length (joined (frames_in meta_len bytes))

-- Behind the entries up to some number stands at this place one that is not the next value.
pub record IsDamagedAt (bytes : List ℕ) (at : ℕ) : Type 0 where
  pub number : ℕ
  pub front : IsFront bytes number at
  pub some : 0 < meta_len front.rest
  pub wrong : framed_meta front.rest ≢ Value (number + 1)
