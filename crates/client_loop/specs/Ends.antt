-- How a client's command ends: its status and its last line.
use Rattle.std.specs.Prelude.{◌≡◌, ◌⊎◌, ◌≤◌, ℕ, List, [], ◌∷◌, ◌++◌, codes, decimal, Option, ⊤}
use Rattle.std.specs.Io.KnownBytes.{Appends}
use Rattle.io_core.specs.Bytes.{AppendsPrefix}
use Rattle.io_core.specs.Causes.{Rose}
use Rattle.client_loop.specs.declared.end.End.{End}
use Rattle.client_loop.specs.declared.end.End.TheVariants.{Done, Bad, Limit, ReadFault, WriteFault, Peer, Garbled, Memory}

abbrev pub status_of : End → ℕ
status_of Done = 0
status_of (Bad line at) = 3
status_of Limit = 4
status_of ReadFault = 10
status_of WriteFault = 11
status_of Peer = 13
status_of Garbled = 19
status_of Memory = 20

-- with its line feed
abbrev pub last_line : End → List ℕ
last_line Done = []
last_line (Bad line at) = codes "! line " ++ (decimal line ++ (codes " at " ++ (decimal at ++ 10 ∷ [])))
last_line Limit = codes "! limit events 20000" ++ 10 ∷ []
last_line ReadFault = codes "! read" ++ 10 ∷ []
last_line WriteFault = []
last_line Peer = codes "! peer" ++ 10 ∷ []
last_line Garbled = codes "! answer" ++ 10 ∷ []
last_line Memory = []

-- the output failed, or there was no memory
abbrev pub IsBroken : ℕ → Type 0
IsBroken status = (status ≡ 11) ⊎ (status ≡ 20)

-- the output failed; running out of memory is so only where the sink met it
abbrev pub IsBrokenBy : Type 0 → ℕ → Type 0
IsBrokenBy refused status = (status ≡ 11) ⊎ ((status ≡ 20) × refused)

-- the ends whose whole text is printed
abbrev pub IsReported : End → Type 0
IsReported WriteFault = ⊥
IsReported Memory = ⊥
IsReported _ = ⊤

-- the count of faults rose where this is so, and else it is what it was
pub record Counts (before now : ℕ) (fault : Type 0) : Type 0 where
  pub later : before ≤ now
  pub rose : fault → Rose before now
  pub same : ¬ fault → now ≡ before

-- ---- what is printed

-- The text and the last line of the end; or at running out of memory the text alone; or a prefix, where the output
-- failed. refused says whether the sink ran out of memory.
abbrev pub Prints : Type 0 → End → Option (List ℕ) → Option (List ℕ) → List ℕ → ℕ → Type 0
Prints refused end held_old held_new text status =
    (IsReported end × (status ≡ status_of end) × Appends held_old held_new (text ++ last_line end))
    ⊎ (((status ≡ 20) × Appends held_old held_new text) ⊎ (IsBrokenBy refused status × AppendsPrefix held_old held_new (text ++ last_line end)))

-- what is held of a text before its last line: all of it, or a prefix where the sink failed or ran out of memory
abbrev pub IsTold : Type 0 → End → Option (List ℕ) → Option (List ℕ) → List ℕ → Type 0
IsTold refused WriteFault held_old held_new text = AppendsPrefix held_old held_new text
IsTold refused Memory held_old held_new text =
    Appends held_old held_new text ⊎ (refused × AppendsPrefix held_old held_new text)
IsTold refused _ held_old held_new text = Appends held_old held_new text

-- the last line of an end is written; or there is no memory for it; or it breaks off
abbrev pub Finishes : Type 0 → Option (List ℕ) → Option (List ℕ) → End → ℕ → Type 0
Finishes refused held_old held_new end status =
    ((status ≡ status_of end) × Appends held_old held_new (last_line end))
    ⊎ (((status ≡ 20) × (held_new ≡ held_old)) ⊎ (IsBrokenBy refused status × AppendsPrefix held_old held_new (last_line end)))
