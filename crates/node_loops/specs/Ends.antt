-- How a command that serves ends: its status, and what it has printed then.
use Rattle.std.specs.Prelude.{◌≡◌, ◌⊎◌, ◌≤◌, ℕ, List, [], ◌∷◌, ◌++◌, codes, decimal, ⊤, Option}
use Rattle.std.specs.Io.KnownBytes.{Appends}
use Rattle.io_core.specs.Bytes.{AppendsPrefix}
use Rattle.io_core.specs.Causes.{Rose}
use Rattle.node_loops.specs.declared.end.End.{End}
use Rattle.node_loops.specs.declared.end.End.TheVariants.{Bye, Port, Turns, Unheard, Peer, Disk, Damaged, TakenOver, Answer, Full, WriteFault, Memory}

abbrev pub status_of : End → ℕ
status_of Bye = 0
status_of Port = 0
status_of Turns = 0
status_of Unheard = 13
status_of Peer = 13
status_of Disk = 12
status_of (Damaged file at) = 15
status_of (TakenOver session) = 16
status_of Answer = 19
status_of Full = 21
status_of WriteFault = 11
status_of Memory = 20

-- with its line feed
abbrev pub last_line : End → List ℕ
last_line Bye = codes "end bye" ++ 10 ∷ []
last_line Port = codes "end port" ++ 10 ∷ []
last_line Turns = codes "end turns" ++ 10 ∷ []
last_line Unheard = codes "! peer" ++ 10 ∷ []
last_line Peer = codes "! peer" ++ 10 ∷ []
last_line Disk = codes "! disk" ++ 10 ∷ []
last_line (Damaged file at) = codes "! damaged " ++ (decimal file ++ (32 ∷ (decimal at ++ 10 ∷ [])))
last_line (TakenOver session) = codes "! taken over by " ++ (decimal session ++ 10 ∷ [])
last_line Answer = codes "! answer" ++ 10 ∷ []
last_line Full = codes "! full" ++ 10 ∷ []
last_line WriteFault = []
last_line Memory = []

-- the line of a command that has begun to listen
abbrev pub first_line : ℕ → List ℕ
first_line port = codes "listening " ++ (decimal port ++ 10 ∷ [])

-- all lines; a port at which the command can't listen is the one that has no first line
abbrev pub serving_text : ℕ → End → List ℕ
serving_text port Unheard = last_line Unheard
serving_text port end = first_line port ++ last_line end

-- the output failed, or there was no memory
abbrev pub IsBroken : ℕ → Type 0
IsBroken status = (status ≡ 11) ⊎ (status ≡ 20)

-- the text is printed, and the status is that of the end; or the output broke off, or there was no memory
abbrev pub Prints : Option (List ℕ) → Option (List ℕ) → List ℕ → ℕ → ℕ → Type 0
Prints old new text due status =
    ((status ≡ due) × Appends old new text)
    ⊎ (IsBroken status × AppendsPrefix old new text)

-- the output failed, or there was no memory
abbrev pub IsBrokenEnd : End → Type 0
IsBrokenEnd WriteFault = ⊤
IsBrokenEnd Memory = ⊤
IsBrokenEnd _ = ⊥

-- what is printed at an end, before its last line
abbrev pub HasBegun : Option (List ℕ) → Option (List ℕ) → ℕ → End → Type 0
HasBegun old new port Unheard = Appends old new []
HasBegun old new port WriteFault = AppendsPrefix old new (first_line port)
HasBegun old new port Memory = AppendsPrefix old new (first_line port)
HasBegun old new port _ = Appends old new (first_line port)

-- an end of the turns
abbrev pub IsTurnsEnd : End → Type 0
IsTurnsEnd Unheard = ⊥
IsTurnsEnd WriteFault = ⊥
IsTurnsEnd _ = ⊤

-- an end at a request that can't be read
abbrev pub IsRequestEnd : End → Type 0
IsRequestEnd Port = ⊤
IsRequestEnd Peer = ⊤
IsRequestEnd Memory = ⊤
IsRequestEnd _ = ⊥

-- an end before the first turn
abbrev pub IsEarlyEnd : End → Type 0
IsEarlyEnd Unheard = ⊤
IsEarlyEnd WriteFault = ⊤
IsEarlyEnd Memory = ⊤
IsEarlyEnd _ = ⊥

-- an end at a request that has no reply
abbrev pub IsFailing : End → Type 0
IsFailing Disk = ⊤
IsFailing (Damaged file at) = ⊤
IsFailing Answer = ⊤
IsFailing Full = ⊤
IsFailing Memory = ⊤
IsFailing _ = ⊥

-- an end after an answer: what served serves no longer
abbrev pub IsClosing : End → Type 0
IsClosing (TakenOver session) = ⊤
IsClosing _ = ⊥

-- an end by which what served tells something of itself
abbrev pub IsOwn : End → Type 0
IsOwn Full = ⊤
IsOwn (TakenOver session) = ⊤
IsOwn _ = ⊥

-- an end that only what tells nothing comes to
abbrev pub IsBlind : End → Type 0
IsBlind (Damaged file at) = ⊤
IsBlind Answer = ⊤
IsBlind _ = ⊥

-- an end at which the port failed
abbrev pub IsPortEnd : End → Type 0
IsPortEnd Unheard = ⊤
IsPortEnd Peer = ⊤
IsPortEnd _ = ⊥

-- the count of faults rose where this is so, and else it is what it was
pub record Counts (before now : ℕ) (fault : Type 0) : Type 0 where
  pub later : before ≤ now
  pub rose : fault → Rose before now
  pub same : ¬ fault → now ≡ before

-- Each end by its cause: the counts of faults of the port and of what serves, before and after; what is told by an end
-- of its own, and what is not told at one that is blind.
pub record HasItsCause (port port' server server' : ℕ) (own blind : End → Type 0) (end : End) : Type 0 where
  pub peer : Counts port port' (IsPortEnd end)
  pub disk : Counts server server' (end ≡ Disk)
  pub told : IsOwn end → own end
  pub hidden : IsBlind end → blind end

-- the ends of a register that gives no answer
abbrev pub IsRegisterEnd : End → Type 0
IsRegisterEnd Disk = ⊤
IsRegisterEnd Answer = ⊤
IsRegisterEnd Memory = ⊤
IsRegisterEnd _ = ⊥
