-- Where a lock stands in a row of a lock table: FNV-1a of 64 bits over the row's number and the name, modulo the slots.
use Rattle.std.specs.Prelude.{ℕ, ◌*◌, ◌%◌, ◌^◌, List, [], ◌∷◌, bit_xor}

-- the state after more bytes
abbrev pub fnv_from : ℕ → List ℕ → ℕ
fnv_from state [] = state
fnv_from state (byte ∷ bytes) = fnv_from ((bit_xor state byte * 0x100000001b3) % 2 ^ 64) bytes

unfoldable pub fnv : List ℕ → ℕ
fnv bytes = fnv_from 0xcbf29ce484222325 bytes

-- the slot of a lock in a row of so many slots
unfoldable pub slot_of : ℕ → ℕ → List ℕ → ℕ
slot_of slots row lock = fnv (row ∷ lock) % slots
