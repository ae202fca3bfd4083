-- The first of several byte texts, and the buffer in which it is shown.
use Rattle.std.specs.Prelude.{ℕ, nat_le, if◌then◌else◌, List, [], ◌∷◌, ◌++◌, drop, length}

-- the first of them, or no bytes where there is none
abbrev pub first_of : List (List ℕ) → List ℕ
first_of [] = []
first_of (bytes ∷ more) = bytes

-- the buffer once the bytes stand in front of it; where they don't fit it is as before
abbrev pub shown_in : List ℕ → List ℕ → List ℕ
shown_in into bytes =
    if nat_le (length bytes) (length into) then bytes ++ drop (length bytes) into else into
