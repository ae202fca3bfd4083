-- The entries that the frames of a journal hold.
use Rattle.std.specs.Prelude.{◌≡◌, ◌⊎◌, ℕ, List, [], ◌∷◌, ◌++◌}
use Rattle.tx_model.specs.declared.meta.Meta.{Meta}
use Rattle.tx_model.specs.Framing.{meta_len}
use Rattle.tx_model.specs.Contents.{entries_of, entries_in}
use Rattle.disk_model.specs.File.{File, IsImage}
use Rattle.disk_model.specs.Chance.{EachLeft}
use Rattle.disk_model.specs.Frames.{IsAtRest}
use Rattle.disk_model.specs.History.{History}

-- the entries of the journal now
abbrev pub entries_at : History → List Meta
entries_at h = entries_in (h.now 0).reads

-- whatever a crash may leave of the file holds entries that have P
abbrev pub EachLeftHas : Type 0 → (List Meta → Type 0) → File → Type 0
EachLeftHas plain P file = EachLeft plain meta_len (λ frames. P (entries_of frames)) file

-- the old entries, and the new one or not
abbrev pub HasEntry : List Meta → Meta → List Meta → Type 0
HasEntry old e now = (now ≡ old) ⊎ (now ≡ old ++ e ∷ [])

-- the file is whole and right frames alone, up to this end, and all of it is on the disk
abbrev pub IsTidy : ℕ → File → Type 0
IsTidy end file = IsAtRest meta_len file end

-- The journal has this entry behind those of before, in each image, and is tidy up to this end.
pub record IsEntered (e : Meta) (end : ℕ) (old new : History) : Type 0 where
  pub every_image : (image : List ℕ) → IsImage (new.now 0) image → entries_in image ≡ entries_at old ++ e ∷ []
  pub entries : entries_at new ≡ entries_at old ++ e ∷ []
  pub tidy : IsTidy end (new.now 0)
