-- The lines that were taken from a source, and how far it was read for them. A text has so many lines at most: most.
use Rattle.std.specs.Prelude.{◌≡◌, ◌≢◌, ◌⊎◌, ℕ, ◌<◌, ◌==◌, if◌then◌else◌, List, [], ◌∷◌, ◌++◌, length, flat_map, Option, None, Some, ⊤}
use Rattle.std.specs.Io.KnownBytes.{IsAtEnd, Keeps}
use Rattle.io_core.specs.Lines.{lines_of, IsOpen, IsReadWhileOpen}

-- ---- lines that were taken

-- the lines, each with its line feed
abbrev pub text_of : List (List ℕ) → List ℕ
text_of lines = flat_map (λ line. line ++ 10 ∷ []) lines

-- these bytes are whole lines, whatever follows them
pub record AreWhole (given : List ℕ) (lines : List (List ℕ)) : Type 0 where
  pub text : given ≡ text_of lines
  pub all : (more : List ℕ) → lines_of (given ++ more) ≡ lines ++ lines_of more

-- of these bytes the lines were taken, and the rest is left: each line was ended, or nothing is left
abbrev pub AreTaken : List ℕ → List ℕ → List (List ℕ) → Type 0
AreTaken bytes rest lines =
    ((given : List ℕ) × (bytes ≡ given ++ rest) × AreWhole given lines) ⊎ ((rest ≡ []) × (lines_of bytes ≡ lines))

-- known bytes lose these lines from their front
abbrev pub TakesLines : Option (List ℕ) → Option (List ℕ) → List (List ℕ) → Type 0
TakesLines None new lines = ⊤
TakesLines (Some bytes) None lines = ⊥
TakesLines (Some bytes) (Some rest) lines = AreTaken bytes rest lines

-- ---- what follows them

-- the first of these lines has P
abbrev pub FirstHas : (List ℕ → Type 0) → List (List ℕ) → Type 0
FirstHas P [] = ⊥
FirstHas P (line ∷ rest) = P line

-- the next line of known bytes has P
abbrev pub NextHas : (List ℕ → Type 0) → Option (List ℕ) → Type 0
NextHas P None = ⊤
NextHas P (Some bytes) = FirstHas P (lines_of bytes)

-- no byte was left, and none is
pub record IsOver (left_old left_new : Option (List ℕ)) : Type 0 where
  pub none : IsAtEnd left_old
  pub same : Keeps left_old left_new

-- some byte is left
abbrev pub IsLeft : Option (List ℕ) → Type 0
IsLeft None = ⊤
IsLeft (Some bytes) = bytes ≢ []

-- ---- how far it was read

-- no read was made, or the last one while nothing that had come decided the next line
abbrev pub ReadsOn : {S : Type 0} → (left before : S → Option (List ℕ)) → S → S → ℕ → List ℕ → Type 0
ReadsOn left before old new limit pending = (new ≡ old) ⊎ IsReadWhileOpen limit pending (left old) (before new) (left new)

-- So many bytes may come after these lines and decide nothing, where no line feed is among them: after the last line
-- that is allowed none may.
abbrev pub room_after : ℕ → List (List ℕ) → ℕ
room_after most lines = if length lines == most then 0 else 512

-- a source gave these lines and after them what decides nothing, and has the rest left
pub record Gave (most : ℕ) (bytes : List ℕ) (left : Option (List ℕ)) (lines : List (List ℕ)) : Type 0 where
  pub part : List ℕ
  pub rest : List ℕ
  pub left_is : left ≡ Some rest
  pub split : bytes ≡ text_of lines ++ (part ++ rest)
  pub open_yet : IsOpen (room_after most lines) part

-- Before its last read a source had given some of these lines, and after them what decides nothing. The read gave a
-- piece, and the rest is left.
pub record ReadsNoFurther (most : ℕ) (lines : List (List ℕ)) (bytes : List ℕ) (before left : Option (List ℕ)) : Type 0 where
  pub earlier : List (List ℕ)
  pub later : List (List ℕ)
  pub front : lines ≡ earlier ++ later
  pub part : List ℕ
  pub piece : List ℕ
  pub rest : List ℕ
  pub before_is : before ≡ Some (piece ++ rest)
  pub left_is : left ≡ Some rest
  pub split : bytes ≡ text_of earlier ++ (part ++ (piece ++ rest))
  pub open_yet : IsOpen (room_after most earlier) part

-- one of these lines needed the last read
pub record IsReadForOne (most : ℕ) (lines : List (List ℕ)) (bytes : List ℕ) (before left : Option (List ℕ)) : Type 0 where
  pub reads : ReadsNoFurther most lines bytes before left
  pub one : 0 < length reads.later
