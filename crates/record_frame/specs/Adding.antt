-- Bytes that are added behind others.
use Rattle.std.specs.Prelude.{◌≡◌, ℕ, List, length, take}

-- what stood there still stands in front
abbrev pub Keeps : List ℕ → List ℕ → Type 0
Keeps old new = take (length old) new ≡ old
