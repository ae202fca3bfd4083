-- What the bytes of a request are read as.
use Rattle.std.specs.Prelude.{Bool, true, false, List, ℕ, Option, None, Some}
use Rattle.wire_codec.specs.declared.message.Message.{Message}
use Rattle.wire_codec.specs.declared.message.Message.TheVariants as of
use Rattle.wire_codec.specs.declared.message.Control.TheVariants.{Bye}
use Rattle.wire_codec.specs.Spelling.{SpellsMessage}

-- the one message that all of the bytes spell, or none where they spell no message
abbrev pub Reads : List ℕ → Option Message → Type 0
Reads bytes None = (m : Message) → SpellsMessage bytes m → ⊥
Reads bytes (Some m) = SpellsMessage bytes m

abbrev pub is_bye : Option Message → Bool
is_bye (Some (of.Control Bye)) = true
is_bye _ = false
