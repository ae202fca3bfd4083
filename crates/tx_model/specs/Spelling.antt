-- The bytes that spell a record and a meta entry. Numbers are big-endian.
use Rattle.std.specs.Prelude.{◌≡◌, ℕ, ◌≤◌, ◌<◌, ◌^◌, List, ◌∷◌, ◌++◌, length, take}
use Rattle.std.specs.List.{flat_map}
use Rattle.std.specs.Int.{w32, w64, to_be_bytes}
use Rattle.sha2.specs.Sha256.{sha256}
use Rattle.tx_model.specs.declared.record.Record.{Record}
use Rattle.tx_model.specs.declared.meta.Meta.{Meta}
use Rattle.tx_model.specs.declared.meta.Meta.TheVariants.{Promise, Adopt, Low, Roll, Value}
use Rattle.tx_model.specs.Transactions.{Transaction}
use Rattle.tx_model.specs.Records.{IsPlace, IsRecord}

-- the value is one that may be written, and the bytes are its spelling
pub record Spells {V : Type 0} (IsValid : V → Type 0) (spelling : V → List ℕ) (bytes : List ℕ) (value : V) : Type 0 where
  pub valid : IsValid value
  pub spelled : bytes ≡ spelling value

-- ---- frames

-- the first 8 bytes of a digest
abbrev pub check_of : List ℕ → List ℕ
check_of bytes = take 8 (sha256 bytes)

-- the length of a body, and the body
abbrev pub with_length : List ℕ → List ℕ
with_length body = to_be_bytes w32 (length body) ++ body

-- the length, the body, and the check of both
abbrev pub frame : List ℕ → List ℕ
frame body = with_length body ++ check_of (with_length body)

-- ---- transactions

-- a name behind its length
abbrev pub spelled_name : List ℕ → List ℕ
spelled_name name = length name ∷ name

abbrev pub spelled_names : List (List ℕ) → List ℕ
spelled_names names = flat_map spelled_name names

-- how many there are of each, then the names
abbrev pub spelled_locks : List (List ℕ) → List (List ℕ) → List ℕ
spelled_locks reads writes = length reads ∷ length writes ∷ (spelled_names reads ++ spelled_names writes)

abbrev pub spelled_transaction : Transaction → List ℕ
spelled_transaction tx =
    to_be_bytes w64 tx.client
    ++ (to_be_bytes w64 tx.request
    ++ (to_be_bytes w64 tx.mark
    ++ (spelled_locks tx.reads tx.writes
    ++ (to_be_bytes w32 (length tx.payload)
    ++ tx.payload))))

-- ---- records

-- the version, 1, then the fields of the record
unfoldable pub record_body : Record → List ℕ
record_body r = 1 ∷ (to_be_bytes w64 r.id ++ (to_be_bytes w64 r.session ++ spelled_transaction r.tx))

abbrev pub record_frame : Record → List ℕ
record_frame r = frame (record_body r)

abbrev pub SpellsRecordBody : List ℕ → Record → Type 0
SpellsRecordBody bytes r = Spells IsRecord record_body bytes r

abbrev pub SpellsRecord : List ℕ → Record → Type 0
SpellsRecord bytes r = Spells IsRecord record_frame bytes r

-- ---- meta entries

-- the entry's number, then its fields
abbrev pub meta_body : Meta → List ℕ
meta_body (Promise session) = 1 ∷ to_be_bytes w64 session
meta_body (Adopt session first file count) =
    2 ∷ (to_be_bytes w64 session ++ (to_be_bytes w64 first ++ (to_be_bytes w32 file ++ to_be_bytes w64 count)))
meta_body (Low low) = 3 ∷ to_be_bytes w64 low
meta_body (Roll file first) = 4 ∷ (to_be_bytes w32 file ++ to_be_bytes w64 first)
meta_body (Value number) = 5 ∷ to_be_bytes w64 number

abbrev pub meta_frame : Meta → List ℕ
meta_frame m = frame (meta_body m)

-- the place after the records so far: 1 to 2 ^ 48
pub record IsNextPlace (n : ℕ) : Type 0 where
  pub some : 1 ≤ n
  pub within : n ≤ 2 ^ 48

-- how many records a log may have: 0 to 2 ^ 48 - 1
abbrev pub IsCount : ℕ → Type 0
IsCount n = n < 2 ^ 48

-- a meta entry in the ranges of the formats
abbrev pub IsMeta : Meta → Type 0
IsMeta (Promise session) = IsPlace session
IsMeta (Adopt session first file count) = IsPlace session × IsNextPlace first × (file < 2 ^ 32) × IsCount count
IsMeta (Low low) = IsCount low
IsMeta (Roll file first) = (file < 2 ^ 32) × IsNextPlace first
IsMeta (Value number) = IsCount number

abbrev pub SpellsMetaBody : List ℕ → Meta → Type 0
SpellsMetaBody bytes m = Spells IsMeta meta_body bytes m

abbrev pub SpellsMeta : List ℕ → Meta → Type 0
SpellsMeta bytes m = Spells IsMeta meta_frame bytes m
