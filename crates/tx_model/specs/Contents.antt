-- What the bytes of a file hold: the records, or the entries, in the whole and right frames at their front.
use Rattle.std.specs.Prelude.{◌≡◌, ◌≢◌, ◌⊎◌, ℕ, ◌+◌, ◌<◌, true, List, ◌++◌, length, map}
use Rattle.std.specs.List.{AllByRecursion}
use Rattle.tx_model.specs.declared.record.Record.{Record}
use Rattle.tx_model.specs.declared.meta.Meta.{Meta}
use Rattle.tx_model.specs.Records.{ids_rise}
use Rattle.tx_model.specs.Frames.{IsFrame, joined, frames_in}
use Rattle.tx_model.specs.Framing.{record_len, framed_record, meta_len, framed_meta}

abbrev pub records_of : List (List ℕ) → List Record
records_of frames = map framed_record frames

-- the records of the whole and right frames at the front of these bytes
abbrev pub records_in : List ℕ → List Record
records_in bytes = records_of (frames_in record_len bytes)

abbrev pub entries_of : List (List ℕ) → List Meta
entries_of frames = map framed_meta frames

-- the entries of the whole and right frames at the front of these bytes
abbrev pub entries_in : List ℕ → List Meta
entries_in bytes = entries_of (frames_in meta_len bytes)

-- Of records that are to have ids from this first one on, of which so many are counted, this place is damaged. Behind
-- frames with these ids no whole and right frame stands there though one more is counted, or one stands there with
-- another id than the next.
pub record IsDamagedAt (first count : ℕ) (bytes : List ℕ) (at : ℕ) : Type 0 where
  pub front : List (List ℕ)
  pub rest : List ℕ
  pub whole : AllByRecursion (IsFrame record_len) front
  pub is : bytes ≡ joined front ++ rest
  pub ids : ids_rise first (records_of front) ≡ true
  pub place : at ≡ length (joined front)
  pub wrong : ((record_len rest ≡ 0) × (length front < count))
      ⊎ ((0 < record_len rest) × ((framed_record rest).id ≢ first + length front))
