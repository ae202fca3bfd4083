-- The lines of a script, as they are read from a source.
use Rattle.std.specs.Prelude.{◌≡◌, ◌≢◌, ◌⊎◌, ℕ, ◌+◌, ◌<◌, ◌≤◌, List, [], ◌∷◌, ◌++◌, length, Option, None, Some, ⊤}
use Rattle.std.specs.Io.KnownBytes.{Keeps}
use Rattle.io_core.specs.Lines.{lines_of, TakesLine}
use Rattle.schedule_text.specs.declared.lines.script.ScriptLine.{ScriptLine}
use Rattle.schedule_text.specs.Spellings.{SpellsScript}
use Rattle.schedule_text.specs.Places.{IsBadScript}
use Rattle.schedule_text.specs.Taken.{FirstHas, NextHas, IsOver, IsLeft, Gave, ReadsNoFurther, IsReadForOne}
use Rattle.client_loop.specs.declared.input.Next.{Next}
use Rattle.client_loop.specs.declared.input.Next.TheVariants as next
use Rattle.client_loop.specs.declared.end.End.{End}
use Rattle.client_loop.specs.declared.end.End.TheVariants.{Done, Bad, Limit, ReadFault, WriteFault, Peer, Garbled, Memory}

-- these lines are those of a script, one after another
abbrev pub AreScripts : List (List ℕ) → List ScriptLine → Type 0
AreScripts [] [] = ⊤
AreScripts (line ∷ lines) (script ∷ scripts) = SpellsScript line script × AreScripts lines scripts
AreScripts _ _ = ⊥

-- ---- the next line

-- the next line is this one of a script
pub record TakesScript (left_old left_new : Option (List ℕ)) (script : ScriptLine) : Type 0 where
  pub line : List ℕ
  pub read : TakesLine left_old left_new line
  pub spelled : SpellsScript line script

-- there is a next line, and it is bad at this place
abbrev pub IsBadNext : List (List ℕ) → ℕ → Type 0
IsBadNext rest at = FirstHas (λ line. IsBadScript line at) rest

abbrev pub BeginsBad : Option (List ℕ) → ℕ → Type 0
BeginsBad left at = NextHas (λ line. IsBadScript line at) left

-- what the next line is
abbrev pub IsNextOf : Option (List ℕ) → Option (List ℕ) → Next → Type 0
IsNextOf left_old left_new (next.Line script) = TakesScript left_old left_new script
IsNextOf left_old left_new (next.Bad at) = BeginsBad left_old at
IsNextOf left_old left_new next.End = IsOver left_old left_new

-- a whole line is this one of a script, or bad
abbrev pub IsLineOrBad : List ℕ → Next → Type 0
IsLineOrBad line (next.Line script) = SpellsScript line script
IsLineOrBad line (next.Bad at) = IsBadScript line at
IsLineOrBad line next.End = ⊥

-- each line that begins so is bad at this place
abbrev pub IsLongBad : List ℕ → Next → Type 0
IsLongBad front (next.Bad at) = (more : List ℕ) → IsBadScript (front ++ more) at
IsLongBad front _ = ⊥

-- what comes after the last line that is allowed
abbrev pub LastOf : Option (List ℕ) → Option (List ℕ) → End → Type 0
LastOf left_old left_new Done = IsOver left_old left_new
LastOf left_old left_new Limit = IsLeft left_old
LastOf left_old left_new ReadFault = Keeps left_old left_new
LastOf left_old left_new _ = ⊥

-- ---- what was read

-- nothing was read, or one of these lines needed the last read
abbrev pub NeedsRead : List (List ℕ) → List ℕ → Option (List ℕ) → Option (List ℕ) → Type 0
NeedsRead lines bytes before left = (left ≡ Some bytes) ⊎ IsReadForOne 20000 lines bytes before left

-- nothing was read, or one of these lines needed the last read, of a source that tells
abbrev pub NeedsLastRead : List (List ℕ) → Option (List ℕ) → Option (List ℕ) → Option (List ℕ) → Type 0
NeedsLastRead lines None before left = ⊤
NeedsLastRead lines (Some bytes) before left = NeedsRead lines bytes before left

-- nothing was read, or no further than the piece that decides
abbrev pub ReadsNoMore : List (List ℕ) → List ℕ → Option (List ℕ) → Option (List ℕ) → Type 0
ReadsNoMore lines bytes before left = (left ≡ Some bytes) ⊎ ReadsNoFurther 20000 lines bytes before left

-- What an end leaves of the source. Where a line is bad, or a line's exchange or output fails, it read no further than
-- the piece that decided.
abbrev pub Leaves : End → List (List ℕ) → List ℕ → Option (List ℕ) → Option (List ℕ) → Type 0
Leaves Done lines bytes before left = left ≡ Some []
Leaves ReadFault lines bytes before left = Gave 20000 bytes left lines ⊎ ((left ≡ Some []) × (lines_of bytes ≡ lines))
Leaves (Bad line at) lines bytes before left = ReadsNoMore lines bytes before left
Leaves Limit lines bytes before left = ReadsNoMore lines bytes before left
Leaves Memory lines bytes before left = ReadsNoMore lines bytes before left ⊎ (left ≡ Some [])
Leaves WriteFault lines bytes before left = NeedsRead lines bytes before left
Leaves Peer lines bytes before left = NeedsRead lines bytes before left
Leaves Garbled lines bytes before left = NeedsRead lines bytes before left

-- ---- how lines end

-- what is so of the lines before an end, whatever follows them
abbrev pub IsAfter : End → List (List ℕ) → Type 0
IsAfter (Bad line at) lines = (line ≡ length lines + 1) × (length lines < 20000)
IsAfter Limit lines = length lines ≡ 20000
IsAfter _ lines = ⊤

-- what the lines that follow are like
abbrev pub IsFollowed : End → List (List ℕ) → Type 0
IsFollowed Done rest = rest ≡ []
IsFollowed (Bad line at) rest = IsBadNext rest at
IsFollowed Limit rest = rest ≢ []
IsFollowed _ rest = ⊤

-- Why a script of these lines ends so. It has at most 20,000 lines.
pub record HasReason (end : End) (lines rest : List (List ℕ)) : Type 0 where
  pub followed : IsFollowed end rest
  pub after : IsAfter end lines
  pub few : length lines ≤ 20000

-- the lines are the first ones of the source, and what follows them is the reason of the end
pub record Reads (end : End) (bytes : List ℕ) (before left : Option (List ℕ)) (lines : List (List ℕ)) : Type 0 where
  pub rest : List (List ℕ)
  pub split : lines_of bytes ≡ lines ++ rest
  pub followed : IsFollowed end rest
  pub leaves : Leaves end lines bytes before left

-- the same of a source that may not tell its bytes
abbrev pub ReadsWhere : End → Option (List ℕ) → Option (List ℕ) → Option (List ℕ) → List (List ℕ) → Type 0
ReadsWhere end None before left lines = ⊤
ReadsWhere end (Some bytes) before left lines = Reads end bytes before left lines
