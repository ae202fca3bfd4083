-- The records that the frames of a file hold.
use Rattle.std.specs.Prelude.{◌≡◌, ℕ, ◌≤◌, List, ◌++◌, map, length, take}
use Rattle.tx_model.specs.declared.record.Record.{Record}
use Rattle.tx_model.specs.Spelling.{record_frame}
use Rattle.tx_model.specs.Framing.{record_len}
use Rattle.tx_model.specs.Contents.{records_of, records_in}
use Rattle.disk_model.specs.File.{File}
use Rattle.disk_model.specs.Chance.{EachLeft}
use Rattle.disk_model.specs.History.{History}

-- the records of a file now
abbrev pub records_at : History → ℕ → List Record
records_at h file = records_in (h.now file).reads

-- the one frame of each record
abbrev pub frames_of : List Record → List (List ℕ)
frames_of records = map record_frame records

-- the old records, and of the new ones a prefix
abbrev pub HasPrefixOf : List Record → List Record → List Record → Type 0
HasPrefixOf old new now = (k : ℕ) × (k ≤ length new) × (now ≡ old ++ take k new)

-- whatever a crash may leave of the file holds records that have P
abbrev pub EachLeftHolds : Type 0 → (List Record → Type 0) → File → Type 0
EachLeftHolds plain P file = EachLeft plain record_len (λ frames. P (records_of frames)) file
