-- What a line that was read is.
use Rattle.std.proofs.Common.{◌≡◌, ◌<◌, ◌≤◌, ◌∙◌, ℕ, List, [], ◌∷◌, ◌++◌, length, arith, length-append, sym, subst, Option, None, Some, Result, Ok, Err, inl, inr}
use Rattle.std.specs.Io.KnownBytes.{Consumes}
use Rattle.io_core.specs.Lines.{TakesLine, IsTooLong, IsReadWhileOpen, ReadsWhileOpen}
use Rattle.io_core.proofs.LineLemmas.{lines_of-line}
use Rattle.net_model.specs.declared.cluster.Cluster.{Cluster}
use Rattle.net_model.specs.declared.event.Event.{Event as AnEvent}
use Rattle.schedule_text.specs.Spellings.{IsEventOutOfRange, IsClusterOutOfRange}
use Rattle.schedule_text.specs.Places.{IsBadEvent, IsBadCluster}
use Rattle.schedule_text.proofs.LawLemmas.{long_lines}
use Rattle.schedule_text.proofs.Taken.{next_has, long_has, too_long_lines}
use Rattle.schedule_replay.specs.declared.fault.ReplayFault.{ReplayFault}
use Rattle.schedule_replay.specs.declared.fault.ReplayFault.TheVariants.{Read, Write, Line, Range, TooManyEvents, Memory}
use Rattle.schedule_replay.specs.Steps.{SaysEvent, SaysCluster, NextOf, IsBadFirst, BeginsBad, FirstOf}

-- ---- a whole line

bad_first : (at : ℕ) (a b : Option (List ℕ)) (line : List ℕ) → TakesLine a b line → IsBadCluster line at → BeginsBad at a
bad_first at None b line read has = tt
bad_first at (Some xs) None line read has = absurd read
bad_first at (Some xs) (Some ys) line read has =
    let F : List (List ℕ) → Type 0 = λ lines. IsBadFirst at lines in
    subst F (sym (lines_of-line xs line ys read)) has

pub line_fault : (a b : Option (List ℕ)) (cluster : Cluster) (line : List ℕ) (number : ℕ) (fault : ReplayFault) → TakesLine a b line → SaysEvent cluster line number (Err fault) → NextOf a b cluster number (Err fault)
line_fault a b cluster line number (Line l at) read says = (next_has (λ x. IsBadEvent x at) a b line read says.1, says.0)
line_fault a b cluster line number (Range l name) read says = (next_has (λ x. IsEventOutOfRange cluster x name) a b line read says.1, says.0)
line_fault a b cluster line number Memory read says = tt
line_fault a b cluster line number Read read says = absurd says
line_fault a b cluster line number Write read says = absurd says
line_fault a b cluster line number TooManyEvents read says = absurd says

pub first_line_is : (a b : Option (List ℕ)) (line : List ℕ) (result : Result Cluster ReplayFault) → TakesLine a b line → SaysCluster line result → FirstOf a b result
first_line_is a b line (Ok cluster) read says = record { line = line; read = read; first = says }
first_line_is a b line (Err (Line l at)) read says = (bad_first at a b line read says.1, says.0)
first_line_is a b line (Err (Range l name)) read says = (next_has (λ x. IsClusterOutOfRange x name) a b line read says.1, says.0)
first_line_is a b line (Err Memory) read says = absurd says
first_line_is a b line (Err Read) read says = absurd says
first_line_is a b line (Err Write) read says = absurd says
first_line_is a b line (Err TooManyEvents) read says = absurd says

-- ---- a line that is too long

long_bad_first : (at : ℕ) (a b : Option (List ℕ)) (front : List ℕ) → Consumes a b front → IsTooLong 512 front → ((more : List ℕ) → IsBadCluster (front ++ more) at) → BeginsBad at a
long_bad_first at None b front read long has = tt
long_bad_first at (Some xs) None front read long has = absurd read
long_bad_first at (Some xs) (Some ys) front read long has =
    let F : List (List ℕ) → Type 0 = λ lines. IsBadFirst at lines in
    let h = too_long_lines xs ys front read long in
    subst F (sym h.2) (has h.0)

not_short : (front : List ℕ) → IsTooLong 512 front → length front ≤ 512 → ⊥
not_short front long short = let size = long.size in omega arith

over : (front : List ℕ) → IsTooLong 512 front → 512 < length front
over front long = let size = long.size in omega arith

pub no_long_event : (cluster : Cluster) (front : List ℕ) (number : ℕ) (event : AnEvent) → IsTooLong 512 front → SaysEvent cluster front number (Ok event) → ⊥
no_long_event cluster front number event long says = not_short front long says.text.short

pub long_fault : (a b : Option (List ℕ)) (cluster : Cluster) (front : List ℕ) (number : ℕ) (fault : ReplayFault) → Consumes a b front → IsTooLong 512 front → SaysEvent cluster front number (Err fault) → NextOf a b cluster number (Err fault)
long_fault a b cluster front number (Line l at) read long says =
    (long_has (λ x. IsBadEvent x at) a b front read long (λ more. long_lines.events front more at (over front long) says.1.1), says.0)
long_fault a b cluster front number (Range l name) read long says = absurd (not_short front long says.1.1.short)
long_fault a b cluster front number Memory read long says = tt
long_fault a b cluster front number Read read long says = absurd says
long_fault a b cluster front number Write read long says = absurd says
long_fault a b cluster front number TooManyEvents read long says = absurd says

pub no_long_first : (front : List ℕ) (cluster : Cluster) → IsTooLong 512 front → SaysCluster front (Ok cluster) → ⊥
no_long_first front cluster long says = not_short front long says.text.short

pub long_first_fault : (a b : Option (List ℕ)) (front : List ℕ) (fault : ReplayFault) → Consumes a b front → IsTooLong 512 front → SaysCluster front (Err fault) → FirstOf a b (Err fault)
long_first_fault a b front (Line l at) read long says =
    (long_bad_first at a b front read long (λ more. long_lines.clusters front more at (over front long) says.1.1), says.0)
long_first_fault a b front (Range l name) read long says = absurd (not_short front long says.1.1.short)
long_first_fault a b front Memory read long says = absurd says
long_first_fault a b front Read read long says = absurd says
long_first_fault a b front Write read long says = absurd says
long_first_fault a b front TooManyEvents read long says = absurd says

-- ---- what was read

no_bytes : (bytes more : List ℕ) → 0 < length bytes → ¬ ([] ≡ bytes ++ more)
no_bytes [] more some e = absurd (omega (arith, some))
no_bytes (x ∷ bytes) more some e = cc

-- where nothing was pending a read was made
pub begun : {S : Type 0} (left before : S → Option (List ℕ)) (old new : S) (pending pending_new bytes : List ℕ) → pending ≡ [] → 0 < length bytes → ReadsWhileOpen left before old new 512 pending pending_new bytes → IsReadWhileOpen 512 [] (left old) (before new) (left new)
begun left before old new pending pending_new bytes none some (inl p) = absurd (no_bytes bytes pending_new some (sym none ∙ p.1))
begun left before old new pending pending_new bytes none some (inr p) = rw none at p

pub some_line_bytes : (line : List ℕ) → 0 < length (line ++ 10 ∷ [])
some_line_bytes line = simp length-append (omega arith)

pub some_long : (line : List ℕ) → IsTooLong 512 line → 0 < length line
some_long line long = omega (arith, long.size)
