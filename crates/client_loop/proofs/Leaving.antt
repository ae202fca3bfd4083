-- What the lines of a script needed of the source, and what an end leaves of it.
use Rattle.std.proofs.Common.{◌≡◌, ◌⊎◌, ℕ, List, [], ◌∷◌, ◌++◌, refl, ◌∙◌, ap, Option, None, Some, inl, inr}
use Rattle.std.specs.Io.KnownBytes.{prepend_known}
use Rattle.io_core.specs.Lines.{lines_of, TakesLine}
use Rattle.schedule_text.specs.Taken.{AreTaken, TakesLines, ReadsOn, room_after}
use Rattle.schedule_text.proofs.Taken.{lines-rest, reads_on, needs_read, without_read}
use Rattle.client_loop.specs.declared.end.End.{End}
use Rattle.client_loop.specs.declared.end.End.TheVariants.{Memory}
use Rattle.client_loop.specs.Reading.{NeedsRead, NeedsLastRead, ReadsNoMore, IsFollowed, Leaves, ReadsWhere}

-- one line more
pub needs_more : {S : Type 0} (left before : S → Option (List ℕ)) (old new : S) (a next : Option (List ℕ)) (pending line : List ℕ) (lines : List (List ℕ)) → TakesLines a (prepend_known pending (left old)) lines → NeedsLastRead lines a (before old) (left old) → TakesLine (prepend_known pending (left old)) next line → ReadsOn left before old new (room_after 20000 lines) pending → NeedsLastRead (lines ++ line ∷ []) a (before new) (left new)
needs_more left before old new None next pending line lines taken last takes on = tt
needs_more left before old new (Some bytes) next pending line lines taken (inl none) takes (inl same) = inl (ap left same ∙ none)
needs_more left before old new (Some bytes) next pending line lines taken (inr last) takes (inl same) =
    inr (rw same (without_read 20000 bytes line (before old) (left old) lines last))
needs_more left before old new (Some bytes) next pending line lines taken last takes (inr p) =
    inr (needs_read 20000 bytes pending line (left old) next (before new) (left new) lines taken takes p)

-- the last read, where it is known what was left
pub known_last : (a before left : Option (List ℕ)) (bytes : List ℕ) (lines : List (List ℕ)) → a ≡ Some bytes → NeedsLastRead lines a before left → NeedsRead lines bytes before left
known_last None before left bytes lines is last = let e : None ≡ Some bytes = is in cc
known_last (Some xs) before left bytes lines is last = let same : xs ≡ bytes = cc in rw same at last

no_more : (lines : List (List ℕ)) (bytes : List ℕ) (before left : Option (List ℕ)) → NeedsRead lines bytes before left → ReadsNoMore lines bytes before left
no_more lines bytes before left (inl none) = inl none
no_more lines bytes before left (inr one) = inr one.reads

-- ---- how it ends

-- the reason of an end, of a source that tells
pub reads : (a b before left : Option (List ℕ)) (end : End) (lines : List (List ℕ)) → TakesLines a b lines → ((bytes rest : List ℕ) → a ≡ Some bytes → b ≡ Some rest → AreTaken bytes rest lines → IsFollowed end (lines_of rest) × Leaves end lines bytes before left) → ReadsWhere end a before left lines
reads None b before left end lines taken reason = tt
reads (Some bytes) None before left end lines taken reason = absurd taken
reads (Some bytes) (Some rest) before left end lines taken reason =
    let why = reason bytes rest refl refl taken in
    record { rest = lines_of rest; split = lines-rest bytes rest lines taken; followed = why.0; leaves = why.1 }

-- the last read, once one line more is asked for, unless nothing was left
pub asked : {S : Type 0} (left before : S → Option (List ℕ)) (s0 s1 : S) (a : Option (List ℕ)) (lines : List (List ℕ)) (bytes pending mid : List ℕ) → a ≡ Some bytes → prepend_known pending (left s0) ≡ Some mid → AreTaken bytes mid lines → NeedsLastRead lines a (before s0) (left s0) → ReadsOn left before s0 s1 (room_after 20000 lines) pending → ReadsNoMore lines bytes (before s1) (left s1) ⊎ ((mid ≡ []) × (left s1 ≡ Some []))
asked left before s0 s1 a lines bytes pending mid known here taken last on =
    reads_on left before s0 s1 20000 lines bytes pending mid (λ b l. ReadsNoMore lines bytes b l) taken here (no_more lines bytes (before s0) (left s0) (known_last a (before s0) (left s0) bytes lines known last)) (λ b l further. inr further) on

-- a line that was read before memory ran out
pub memory_after : (lines : List (List ℕ)) (bytes : List ℕ) (before left : Option (List ℕ)) → NeedsRead lines bytes before left → Leaves Memory lines bytes before left
memory_after lines bytes before left last = inl (no_more lines bytes before left last)
