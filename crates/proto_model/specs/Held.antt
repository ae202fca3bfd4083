-- What the files of a storage node stand for: the entries of its journal, folded over the records that its files hold.
-- File 0 is the journal, and record files have numbers from 2 on.
use Rattle.std.specs.Prelude.{◌≡◌, ℕ, ◌+◌, ◌-◌, ◌<◌, Bool, true, false, ◌&&◌, ◌==◌, nat_le, nat_lt, if◌then◌else◌, List, [], ◌∷◌, ◌++◌, length, take, Option, Some, None}
use Rattle.tx_model.specs.declared.record.Record.{Record}
use Rattle.tx_model.specs.declared.meta.Meta.{Meta}
use Rattle.tx_model.specs.declared.meta.Meta.TheVariants.{Promise, Adopt, Low, Roll, Value}
use Rattle.tx_model.specs.Records.{ids_rise}
use Rattle.tx_model.specs.Frames.{joined, frames_in}
use Rattle.tx_model.specs.Framing.{record_len, meta_len}
use Rattle.tx_model.specs.Contents.{records_in, entries_in}
use Rattle.proto_model.specs.Replicas.{ReplicaState}

pub record Held : Type 0 where
  pub promised : ℕ
  pub adopted : ℕ
  pub low : ℕ
  pub log : List Record
  -- the greatest number of a file so far, and the id that its records begin with
  pub file : ℕ
  pub first : ℕ

-- before the first entry
abbrev pub none_held : Held
none_held = record { promised = 0; adopted = 0; low = 0; log = []; file = 1; first = 1 }

-- the records that each file holds
abbrev pub Table : Type 0
Table = ℕ → List Record

-- with these records behind the log
abbrev pub with_more : Held → List Record → Held
with_more h records = record h { log = h.log ++ records }

-- The entry is legal, but for what the file holds that it names. A Roll closes the last file alone, at a place where all
-- that is known to be committed stays.
abbrev pub is_legal : Held → Meta → Bool
is_legal h (Promise s) = nat_lt h.promised s
is_legal h (Adopt s first file count) =
    (s == h.promised) && (nat_lt h.adopted s && ((first == h.low + 1) && nat_lt h.file file))
is_legal h (Low k) = nat_lt h.low k && nat_le k (length h.log)
is_legal h (Roll file first) =
    nat_lt 0 h.adopted && (nat_lt h.low first && (nat_le h.first first && (nat_le first (length h.log + 1) && nat_lt h.file file)))
is_legal h (Value n) = false

-- the file that it names has the records that it needs, with their ids
abbrev pub has_records : Table → Meta → Bool
has_records tab (Promise s) = true
has_records tab (Adopt s first file count) = nat_le count (length (tab file)) && ids_rise first (tab file)
has_records tab (Low k) = true
has_records tab (Roll file first) = ids_rise first (tab file)
has_records tab (Value n) = true

-- what it makes of that
abbrev pub held_after : Table → Held → Meta → Held
held_after tab h (Promise s) = record h { promised = s }
held_after tab h (Adopt s first file count) = record h { adopted = s; log = take h.low h.log ++ tab file; file = file; first = first }
held_after tab h (Low k) = record h { low = k }
held_after tab h (Roll file first) = record h { log = take (first - 1) h.log ++ tab file; file = file; first = first }
held_after tab h (Value n) = h

-- what the entries make of it, if all are legal
unfoldable pub folded : Table → List Meta → Held → Option Held
folded tab [] h = Some h
folded tab (e ∷ es) h =
    if is_legal h e && has_records tab e then folded tab es (held_after tab h e) else None

-- the same as a relation
pub record IsTaken (tab : Table) (h : Held) (e : Meta) : Type 0 where
  pub legal : is_legal h e ≡ true
  pub records : has_records tab e ≡ true

unfoldable pub Folds : Table → List Meta → Held → Held → Type 0
Folds tab [] h end = h ≡ end
Folds tab (e ∷ es) h end = IsTaken tab h e × Folds tab es (held_after tab h e) end

-- each file that the entries name has P
abbrev pub IfNames : (ℕ → Type 0) → Meta → Type 0
IfNames P (Promise s) = Unit {0}
IfNames P (Adopt s first file count) = P file
IfNames P (Low k) = Unit {0}
IfNames P (Roll file first) = P file
IfNames P (Value n) = Unit {0}

unfoldable pub EachNamed : (ℕ → Type 0) → List Meta → Type 0
EachNamed P [] = Unit {0}
EachNamed P (e ∷ es) = IfNames P e × EachNamed P es

-- ---- what bytes stand for

-- the bytes of each file
abbrev pub Contents : Type 0
Contents = ℕ → List ℕ

-- the records that each file holds
abbrev pub table_of : Contents → Table
table_of c q = records_in (c q)

-- what the files stand for, unless something is damaged
abbrev pub held_in : Contents → Option Held
held_in c = folded (table_of c) (entries_in (c 0)) none_held

-- a replica that holds this, with nothing staged
abbrev pub replica_of : Held → ReplicaState
replica_of h = record { promised = h.promised; adopted = h.adopted; low = h.low; log = h.log; staged = [] }

-- the files stand for a state that has P
pub record Stands (P : ReplicaState → Type 0) (c : Contents) : Type 0 where
  pub held : Held
  pub is : held_in c ≡ Some held
  pub has : P (replica_of held)

-- the bytes are whole and right frames alone
abbrev pub HasNoTail : (List ℕ → ℕ) → List ℕ → Type 0
HasNoTail len bytes = bytes ≡ joined (frames_in len bytes)

-- The journal and the last record file end with their last whole and right frame. Before the first adoption there is no
-- record file.
pub record AreTidy (c : Contents) : Type 0 where
  pub journal : HasNoTail meta_len (c 0)
  pub last : (h : Held) → held_in c ≡ Some h → 1 < h.file → HasNoTail record_len (c h.file)
