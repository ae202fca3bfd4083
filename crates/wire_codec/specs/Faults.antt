-- When no message is read, in terms of the bytes and of the spellings alone.
use Rattle.std.specs.Prelude.{◌≡◌, ℕ, ◌+◌, ◌<◌, ◌≤◌, ◌⊎◌, List, length}
use Rattle.tx_model.specs.Reading.{length_in, body_in}
use Rattle.record_frame.specs.Reading.{BeginsWith}
use Rattle.wire_codec.specs.declared.message.Message.{Message}
use Rattle.wire_codec.specs.Spelling.{SpellsMessageBody, SpellsMessage}

-- the lengths that bodies may have
pub record IsMessageLength (n : ℕ) : Type 0 where
  pub least : 2 ≤ n
  pub most : n ≤ 600000

-- more bytes may still make a frame of these
abbrev pub IsShort : List ℕ → Type 0
IsShort bytes =
    (length bytes < 4)
    ⊎ ((4 ≤ length bytes)
    × IsMessageLength (length_in bytes)
    × (length bytes < 4 + length_in bytes))

-- a frame with a length in range stands there, whole
pub record IsWhole (bytes : List ℕ) : Type 0 where
  pub in_range : IsMessageLength (length_in bytes)
  pub whole : 4 + length_in bytes ≤ length bytes

abbrev pub IsMessageBody : List ℕ → Type 0
IsMessageBody body = (m : Message) × SpellsMessageBody body m

-- the place of the fault: 0 for a length out of range, 4 for a body that is none
abbrev pub IsBadAt : List ℕ → ℕ → Type 0
IsBadAt bytes at =
    ((at ≡ 0) × (4 ≤ length bytes) × ¬ IsMessageLength (length_in bytes))
    ⊎ ((at ≡ 4) × IsWhole bytes × ¬ IsMessageBody (body_in bytes))

-- some message stands at the front
abbrev pub BeginsWithMessage : List ℕ → Type 0
BeginsWithMessage bytes = (m : Message) × (n : ℕ) × BeginsWith SpellsMessage bytes m n
