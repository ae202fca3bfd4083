-- What a line that was read is.
use Rattle.std.proofs.Common.{◌≡◌, ℕ, List, ◌++◌, arith, Option, Result, Err}
use Rattle.std.specs.Io.KnownBytes.{Consumes}
use Rattle.io_core.specs.declared.fault.Fault.{Fault}
use Rattle.io_core.specs.declared.fault.Fault.TheVariants.{Failed}
use Rattle.io_core.specs.Lines.{TakesLine, IsTooLong}
use Rattle.schedule_text.specs.Places.{IsBadScript}
use Rattle.schedule_text.specs.ReadingLaws.{LongLinesAreBad}
use Rattle.schedule_text.proofs.Taken.{next_has, long_has}
use Rattle.client_loop.specs.declared.input.Next.{Next}
use Rattle.client_loop.specs.declared.input.Next.TheVariants.{Line, Bad, End}
use Rattle.client_loop.specs.Reading.{IsNextOf, IsLineOrBad, IsLongBad}

-- a line that was read is one of a script or bad
pub next_line_is : (a b : Option (List ℕ)) (line : List ℕ) (next : Next) → TakesLine a b line → IsLineOrBad line next → IsNextOf a b next
next_line_is a b line (Line script) read spelled = record { line = line; read = read; spelled = spelled }
next_line_is a b line (Bad at) read bad = next_has (λ x. IsBadScript x at) a b line read bad
next_line_is a b line End read none = absurd none

-- a line that is too long is bad
pub next_long_is : (a b : Option (List ℕ)) (front : List ℕ) (next : Next) → Consumes a b front → IsTooLong 512 front → IsLongBad front next → IsNextOf a b next
next_long_is a b front (Bad at) read long bad = long_has (λ x. IsBadScript x at) a b front read long bad
next_long_is a b front (Line script) read long bad = absurd bad
next_long_is a b front End read long bad = absurd bad

-- a front that is too long is bad in every line
pub long_is_bad : (front : List ℕ) (at : ℕ) → LongLinesAreBad → IsTooLong 512 front → IsBadScript front at → (more : List ℕ) → IsBadScript (front ++ more) at
long_is_bad front at law long bad more = law.scripts front more at (omega (arith, long.size)) bad.1

pub failed_fault : {A : Type 0} (fault : Fault) (result : Result A Fault) → result ≡ Err fault → result ≡ Err Failed → fault ≡ Failed
failed_fault fault result p q = cc
