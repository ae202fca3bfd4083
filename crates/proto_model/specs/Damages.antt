-- Where loading finds the files of a storage node damaged. Places are taken in the order of the journal's entries. The
-- tail of a record file, which is what stands behind the records that its entry counts, is looked at once the next file
-- takes over, and that of the last file at the end.
use Rattle.std.specs.Prelude.{◌≡◌, ◌⊎◌, ℕ, ◌<◌, ◌≤◌, Bool, true, false, ◌&&◌, nat_le, List, [], ◌∷◌, ◌++◌, length, take, Option, Some, None}
use Rattle.std.specs.List.{flat_map}
use Rattle.tx_model.specs.declared.meta.Meta.{Meta}
use Rattle.tx_model.specs.declared.meta.Meta.TheVariants.{Promise, Adopt, Low, Roll, Value}
use Rattle.tx_model.specs.Records.{ids_rise}
use Rattle.tx_model.specs.Spelling.{meta_frame}
use Rattle.tx_model.specs.Contents.{entries_in, IsDamagedAt}
use Rattle.proto_model.specs.Held.{Held, Table, none_held, is_legal, held_after, IfNames, Contents, table_of}

-- a file that an entry names: its number, the id of its first record, and how many are counted
pub record Naming : Type 0 where
  pub file : ℕ
  pub first : ℕ
  pub count : ℕ

abbrev pub named_by : Meta → Option Naming
named_by (Promise s) = None
named_by (Adopt s first file count) = Some (record { file = file; first = first; count = count })
named_by (Low k) = None
named_by (Roll file first) = Some (record { file = file; first = first; count = 0 })
named_by (Value n) = None

-- the file that it names, or else that of before
abbrev pub or_before : Option Naming → Option Naming → Option Naming
or_before (Some n) before = Some n
or_before None before = before

-- the last file that they name, or else that of before
unfoldable pub last_named : Option Naming → List Meta → Option Naming
last_named before [] = before
last_named before (e ∷ es) = last_named (or_before (named_by e) before) es

-- the file that the entry names holds the records that are counted
abbrev pub has_counted : Table → Meta → Bool
has_counted tab (Promise s) = true
has_counted tab (Adopt s first file count) =
    nat_le count (length (tab file)) && ids_rise first (take count (tab file))
has_counted tab (Low k) = true
has_counted tab (Roll file first) = true
has_counted tab (Value n) = true

-- The entry is taken, and nothing is known yet of the tail of the file that it names. The ids of the log so far rise from
-- 1 where it names one, so that the tail of the file before is in order.
pub record IsTakenSoFar (tab : Table) (h : Held) (e : Meta) : Type 0 where
  pub legal : is_legal h e ≡ true
  pub before : IfNames (λ file. ids_rise 1 h.log ≡ true) e
  pub counted : has_counted tab e ≡ true

unfoldable pub FoldsSoFar : Table → List Meta → Held → Held → Type 0
FoldsSoFar tab [] h end = h ≡ end
FoldsSoFar tab (e ∷ es) h end = IsTakenSoFar tab h e × FoldsSoFar tab es (held_after tab h e) end

-- How far loading came: so many entries were taken, and this is held.
pub record Reached (c : Contents) : Type 0 where
  pub front : List Meta
  pub back : List Meta
  pub entries : entries_in (c 0) ≡ front ++ back
  pub held : Held
  pub folds : FoldsSoFar (table_of c) front none_held held

-- where the next entry stands in the journal
abbrev pub place_of : {c : Contents} → Reached c → ℕ
place_of r = length (flat_map meta_frame r.front)

-- the next entry is not legal
pub record IsIllegal (c : Contents) (file at : ℕ) : Type 0 where
  pub reached : Reached c
  pub entry : Meta
  pub more : List Meta
  pub next : reached.back ≡ entry ∷ more
  pub illegal : is_legal reached.held entry ≡ false
  pub file_is : file ≡ 0
  pub at_is : at ≡ place_of reached

-- the next entry is legal and names a file, in which one of the counted records is missing or has another id
pub record IsMiscounted (c : Contents) (file at : ℕ) : Type 0 where
  pub reached : Reached c
  pub entry : Meta
  pub more : List Meta
  pub next : reached.back ≡ entry ∷ more
  pub legal : is_legal reached.held entry ≡ true
  pub before : ids_rise 1 reached.held.log ≡ true
  pub named : Naming
  pub names : named_by entry ≡ Some named
  pub file_is : file ≡ named.file
  pub damaged : IsDamagedAt named.first named.count (c file) at
  pub counted : length damaged.front < named.count

-- the next entry names another file, or there is none
pub data IsClosed (h : Held) : List Meta → Type 0 where
  end : IsClosed h []
  names : (e : Meta) (es : List Meta) (n : Naming) → named_by e ≡ Some n → is_legal h e ≡ true → IsClosed h (e ∷ es)

-- behind its counted records the last file has a record with another id than the next
pub record IsMistailed (c : Contents) (file at : ℕ) : Type 0 where
  pub reached : Reached c
  pub closed : IsClosed reached.held reached.back
  pub named : Naming
  pub last : last_named None reached.front ≡ Some named
  pub file_is : file ≡ named.file
  pub damaged : IsDamagedAt named.first named.count (c file) at
  pub behind : named.count ≤ length damaged.front

-- Loading answers this place.
abbrev pub IsDamaged : Contents → ℕ → ℕ → Type 0
IsDamaged c file at = IsIllegal c file at ⊎ (IsMiscounted c file at ⊎ IsMistailed c file at)
