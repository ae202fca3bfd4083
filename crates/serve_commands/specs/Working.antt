-- A register that tells its number as long as its disk has not failed.
use Rattle.std.specs.Prelude.{ℕ, Bool, if◌then◌else◌, Option, Some, None}

abbrev pub told_while : Bool → ℕ → Option ℕ
told_while stopped number = if stopped then None else Some number
