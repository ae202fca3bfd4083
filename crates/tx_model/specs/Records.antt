-- Records and their heads, logs and batches.
use Rattle.std.specs.Prelude.{◌≡◌, ℕ, ◌+◌, ◌≤◌, ◌<◌, ◌^◌, ◌-◌, Bool, true, ◌&&◌, ◌==◌, List, [], ◌∷◌, length, slice_index_or}
use Rattle.tx_model.specs.declared.record.Record.{Record}
use Rattle.tx_model.specs.declared.record.Head.{Head}
use Rattle.tx_model.specs.Transactions.{IsTransaction}

-- the number of a session or of a record's place: 1 to 2 ^ 48 - 1
pub record IsPlace (n : ℕ) : Type 0 where
  pub some : 1 ≤ n
  pub below : n < 2 ^ 48

-- a record in the ranges of the formats
pub record IsRecord (r : Record) : Type 0 where
  pub id : IsPlace r.id
  pub session : IsPlace r.session
  pub tx : IsTransaction r.tx

-- a record without client, request and payload
abbrev pub head_of : Record → Head
head_of r = record { id = r.id; session = r.session; mark = r.tx.mark; reads = r.tx.reads; writes = r.tx.writes }

-- a log: the k-th record has the id k, counted from 1
abbrev pub IsLog : List Record → Type 0
IsLog log = (k : ℕ) (other : Record) → k < length log → (slice_index_or log k other).id ≡ k + 1

-- ids that rise by one, the first of them this
unfoldable pub RiseByOne : ℕ → List Record → Type 0
RiseByOne id [] = Unit {0}
RiseByOne id (r ∷ records) = IsRecord r × (r.id ≡ id) × RiseByOne (id + 1) records

abbrev pub first_id : List Record → ℕ
first_id [] = 0
first_id (r ∷ records) = r.id

-- one to eight records whose ids rise by one
pub record IsBatch (records : List Record) : Type 0 where
  pub some : 1 ≤ length records
  pub few : length records ≤ 8
  pub rise : RiseByOne (first_id records) records

-- the id at this place, counted from 0, is the first that is not one more than the id before it
pub record IsFirstGap (records : List Record) (at : ℕ) : Type 0 where
  pub some : 1 ≤ at
  pub within : at < length records
  pub gap : (other : Record) → (slice_index_or records at other).id ≡ (slice_index_or records (at - 1) other).id + 1 → ⊥
  pub first : (k : ℕ) (other : Record) → 1 ≤ k → k < at → (slice_index_or records k other).id ≡ (slice_index_or records (k - 1) other).id + 1

-- the same of the ids alone
unfoldable pub ids_rise : ℕ → List Record → Bool
ids_rise id [] = true
ids_rise id (r ∷ records) = (r.id == id) && ids_rise (id + 1) records
