-- Probed marks and admission, by a scan of the log. Locks that share their slot in every row are told apart by no mark.
use Rattle.std.specs.Prelude.{ℕ, zero, suc, ◌+◌, ◌-◌, min, max, nat_lt, Bool, false, ◌==◌, ◌||◌, if◌then◌else◌, List, [], ◌∷◌, Option, Some, None}
use Rattle.tx_model.specs.Transactions.{Transaction, named_locks, held_locks}
use Rattle.tx_model.specs.declared.record.Record.{Record}
use Rattle.tx_model.specs.Hashes.{slot_of}

-- the shape of a lock table
pub record Shape : Type 0 where
  pub rows : ℕ
  pub slots : ℕ

-- whether one of the locks has this slot in the row
abbrev pub has_slot : ℕ → ℕ → ℕ → List (List ℕ) → Bool
has_slot slots row at [] = false
has_slot slots row at (lock ∷ locks) = slot_of slots row lock == at || has_slot slots row at locks

-- the greatest id above start of a record that holds a lock of the slot, or start where there is none
abbrev pub slot_mark : ℕ → ℕ → ℕ → ℕ → List Record → ℕ
slot_mark slots row at start [] = start
slot_mark slots row at start (r ∷ log) =
    if has_slot slots row at (held_locks r.tx) then max r.id (slot_mark slots row at start log) else slot_mark slots row at start log

-- the least of f 0 to f n
abbrev pub least : (ℕ → ℕ) → ℕ → ℕ
least f zero = f 0
least f (suc n) = min (least f n) (f (suc n))

-- the probed mark of a lock: the least over the rows
abbrev pub probed_mark : Shape → ℕ → List Record → List ℕ → ℕ
probed_mark shape start log lock = least (λ row. slot_mark shape.slots row (slot_of shape.slots row lock) start log) (shape.rows - 1)

-- ---- admission

-- a lock that refuses a transaction: its place among the named locks, counted from 0, and its probed mark
pub record Conflict : Type 0 where
  pub place : ℕ
  pub mark : ℕ

-- the first of the locks that probe gives a greater number than mark. place is that of the first of them
abbrev pub first_above : (List ℕ → ℕ) → ℕ → ℕ → List (List ℕ) → Option Conflict
first_above probe mark place [] = None
first_above probe mark place (lock ∷ locks) =
    if nat_lt mark (probe lock) then Some (record { place = place; mark = probe lock }) else first_above probe mark (place + 1) locks

-- None where the transaction is admitted, else the first named lock whose probed mark is above the transaction's mark
abbrev pub admission : Shape → ℕ → List Record → Transaction → Option Conflict
admission shape start log tx = first_above (probed_mark shape start log) tx.mark 0 (named_locks tx)
