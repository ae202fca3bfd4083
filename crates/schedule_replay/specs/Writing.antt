-- A text of which some is written and the rest waits.
use Rattle.std.specs.Prelude.{◌≡◌, ℕ, List, ◌++◌, Option}
use Rattle.std.specs.Io.KnownBytes.{Appends}

pub record Writes (held_old held_new : Option (List ℕ)) (waiting text : List ℕ) : Type 0 where
  pub written : List ℕ
  pub held : Appends held_old held_new written
  pub told : written ++ waiting ≡ text
