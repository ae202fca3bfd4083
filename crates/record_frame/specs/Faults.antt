-- When nothing is read, in terms of the bytes and of the spellings alone.
use Rattle.std.specs.Prelude.{◌≡◌, ℕ, ◌+◌, ◌<◌, ◌≤◌, ◌⊎◌, List, length, take, drop}
use Rattle.tx_model.specs.declared.record.Record.{Record}
use Rattle.tx_model.specs.declared.meta.Meta.{Meta}
use Rattle.tx_model.specs.Spelling.{check_of, SpellsRecord, SpellsRecordBody, SpellsMetaBody}
use Rattle.tx_model.specs.Reading.{length_in, body_in}
use Rattle.record_frame.specs.Reading.{BeginsWith}

-- the lengths that bodies have
abbrev pub IsRecordLength : ℕ → Type 0
IsRecordLength n = (47 ≤ n) × (n ≤ 69743)

abbrev pub IsMetaLength : ℕ → Type 0
IsMetaLength n = (n ≡ 9) ⊎ ((n ≡ 13) ⊎ (n ≡ 29))

-- more bytes may still make a frame of these
abbrev pub IsShort : (ℕ → Type 0) → List ℕ → Type 0
IsShort IsLength bytes =
    (length bytes < 4)
    ⊎ ((4 ≤ length bytes) × IsLength (length_in bytes) × (length bytes < 12 + length_in bytes))

-- a frame with a length in range stands there, whole
pub record IsWhole (IsLength : ℕ → Type 0) (bytes : List ℕ) : Type 0 where
  pub in_range : IsLength (length_in bytes)
  pub whole : 12 + length_in bytes ≤ length bytes

-- its check is that of the length and the body
abbrev pub IsRight : List ℕ → Type 0
IsRight bytes = check_of (take (4 + length_in bytes) bytes) ≡ take 8 (drop (4 + length_in bytes) bytes)

-- The place of the fault: 0 for a length out of range, that of the check for a wrong check, 4 for a body that is none.
abbrev pub IsBadAt : (ℕ → Type 0) → (List ℕ → Type 0) → List ℕ → ℕ → Type 0
IsBadAt IsLength IsBody bytes at =
    ((at ≡ 0) × (4 ≤ length bytes) × ¬ IsLength (length_in bytes))
    ⊎ (((at ≡ 4 + length_in bytes) × IsWhole IsLength bytes × ¬ IsRight bytes)
    ⊎ ((at ≡ 4) × IsWhole IsLength bytes × IsRight bytes × ¬ IsBody (body_in bytes)))

abbrev pub IsRecordBody : List ℕ → Type 0
IsRecordBody body = (r : Record) × SpellsRecordBody body r

abbrev pub IsMetaBody : List ℕ → Type 0
IsMetaBody body = (m : Meta) × SpellsMetaBody body m

-- some record stands at the front
abbrev pub BeginsWithRecord : List ℕ → Type 0
BeginsWithRecord bytes = (r : Record) × (n : ℕ) × BeginsWith SpellsRecord bytes r n
