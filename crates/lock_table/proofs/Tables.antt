-- What the calls of a lock table have to do with a scan of the log.
use Rattle.std.proofs.Common.{inl, inr, ◌≢◌, ◌/◌, take, get_or, slice_index, slice_set, add-one, subst, ◌≡◌, ℕ, zero, suc, ◌+◌, ◌-◌, ◌*◌, ◌<◌, ◌≤◌, max, nat_lt, ◌==◌, ◌||◌, if◌then◌else◌, Bool, true, false, List, [], ◌∷◌, ◌++◌, length, Option, Some, None, All, refl, ap, sym, ◌∙◌, arith}
use Rattle.std.proofs.lemmas.Bool.{cases_eq}
use Rattle.std.proofs.lemmas.Bool.Decides.{nat_tests}
use Rattle.std.proofs.lemmas.Nat.{div-mul-add}
use Rattle.std.proofs.lemmas.List.{get_or-set_other, get_or-set_same}
use Rattle.std.proofs.Math.Seq.{take-suc}
use Rattle.tx_model.specs.Transactions.{Transaction, named_locks, held_locks}
use Rattle.tx_model.specs.declared.record.Record.{Record}
use Rattle.tx_model.specs.Hashes.{slot_of}
use Rattle.tx_model.specs.Probes.{Shape, Conflict, has_slot, slot_mark, least, probed_mark, first_above, admission}
use Rattle.lock_table.specs.Tables.{Table, IsTable, table_shape, entry_of, probe_of, conflict_of, TableStandsFor, AreRaised}

pub slot_within : (slots row : ℕ) (lock : List ℕ) → 1 ≤ slots → slot_of slots row lock < slots
unfolding slot_of
slot_within slots row lock some = omega arith

-- ---- locks that are raised

or_moves : (a x y z : Bool) → x ≡ (y || z) → (a || x) ≡ ((a || y) || z)
or_moves true x y z same = refl
or_moves false x y z same = same

has_slot-append : (slots row slot : ℕ) (xs ys : List (List ℕ)) → has_slot slots row slot (xs ++ ys) ≡ (has_slot slots row slot xs || has_slot slots row slot ys)
has_slot-append slots row slot [] ys = refl
has_slot-append slots row slot (x ∷ xs) ys = or_moves (slot_of slots row x == slot) _ _ _ (has_slot-append slots row slot xs ys)

raised_twice : (b c : Bool) (id x : ℕ) → (if c then max id (if b then max id x else x) else (if b then max id x else x)) ≡ (if b || c then max id x else x)
raised_twice true true id x = grind arith
raised_twice true false id x = refl
raised_twice false c id x = refl

pub none_raised : (id : ℕ) (t : Table) → AreRaised id [] t t
none_raised id t = record { shape = refl; as_long = refl; each = λ row slot p q. refl }

-- some locks and then more
pub more_raised : (id : ℕ) (xs ys : List (List ℕ)) (a b c : Table) → AreRaised id xs a b → AreRaised id ys b c → AreRaised id (xs ++ ys) a c
more_raised id xs ys a b c first second = record {
  shape = second.shape ∙ first.shape;
  as_long = second.as_long ∙ first.as_long;
  each = λ row slot p q.
      let rows : b.rows ≡ a.rows = ap (λ (s : Shape). s.rows) first.shape in
      let slots : b.slots ≡ a.slots = ap (λ (s : Shape). s.slots) first.shape in
      let p' : row < b.rows = omega arith in
      let q' : slot < b.slots = omega arith in
      let f : ℕ → Bool → ℕ = λ x h. if h then max id x else x in
      let one : entry_of b row slot ≡ f (entry_of a row slot) (has_slot a.slots row slot xs) = first.each row slot p q in
      let two : entry_of c row slot ≡ f (entry_of b row slot) (has_slot b.slots row slot ys) = second.each row slot p' q' in
      two ∙ ap (λ s. f (entry_of b row slot) (has_slot s row slot ys)) slots ∙ ap (λ x. f x (has_slot a.slots row slot ys)) one
      ∙ raised_twice (has_slot a.slots row slot xs) (has_slot a.slots row slot ys) id (entry_of a row slot)
      ∙ ap (f (entry_of a row slot)) (sym (has_slot-append a.slots row slot xs ys));
}

-- the locks up to a place, and then the next
pub next_raised : (id k : ℕ) (locks : List (List ℕ)) (lock : List ℕ) (a b c : Table) → k < length locks → lock ≡ get_or locks k lock → AreRaised id (take k locks) a b → AreRaised id (lock ∷ []) b c → AreRaised id (take (k + 1) locks) a c
next_raised id k locks lock a b c within is first second =
    let more : take (k + 1) locks ≡ take k locks ++ lock ∷ [] = rw add-one (take-suc locks k lock within ∙ ap (λ l. take k locks ++ l ∷ []) (sym is)) in
    let P : List (List ℕ) → Type 0 = λ ls. AreRaised id ls a c in
    subst P (sym more) (more_raised id (take k locks) (lock ∷ []) a b c first second)

-- ---- a record more

-- whichever of two ids an entry is raised to first
if_commutes : (b c : Bool) (i j x : ℕ) → (if b then max i (if c then max j x else x) else (if c then max j x else x)) ≡ (if c then max j (if b then max i x else x) else (if b then max i x else x))
if_commutes true true i j x = grind arith
if_commutes true false i j x = refl
if_commutes false true i j x = refl
if_commutes false false i j x = refl

pub slot_mark-append : (slots row slot start : ℕ) (log : List Record) (r : Record) →
    slot_mark slots row slot start (log ++ r ∷ []) ≡ (if has_slot slots row slot (held_locks r.tx) then max r.id (slot_mark slots row slot start log) else slot_mark slots row slot start log)
slot_mark-append slots row slot start [] r = refl
slot_mark-append slots row slot start (a ∷ log) r =
    ap (λ x. if has_slot slots row slot (held_locks a.tx) then max a.id x else x) (slot_mark-append slots row slot start log r)
    ∙ if_commutes (has_slot slots row slot (held_locks a.tx)) (has_slot slots row slot (held_locks r.tx)) a.id r.id (slot_mark slots row slot start log)

still_valid : (old new : Table) → IsTable old → table_shape new ≡ table_shape old → length new.entries ≡ length old.entries → IsTable new
still_valid old new valid shape as_long =
    let rows : new.rows ≡ old.rows = ap (λ (s : Shape). s.rows) shape in
    let slots : new.slots ≡ old.slots = ap (λ (s : Shape). s.slots) shape in
    record {
      some_rows = omega arith;
      few_rows = omega arith;
      some_slots = omega arith;
      few_slots = omega arith;
      full = as_long ∙ rw (rows, slots) valid.full;
    }

-- a table that stands for a log stands for one record more, once the entries of its locks are raised to its id
pub stands_for_more : (old new : Table) (id : ℕ) (locks : List (List ℕ)) → AreRaised id locks old new →
    (start : ℕ) (log : List Record) (r : Record) → r.id ≡ id → held_locks r.tx ≡ locks → TableStandsFor old start log → TableStandsFor new start (log ++ r ∷ [])
stands_for_more old new id locks raised start log r same_id same_locks stands = record {
  valid = still_valid old new stands.valid raised.shape raised.as_long;
  each = λ row slot p q.
      let rows : new.rows ≡ old.rows = ap (λ (s : Shape). s.rows) raised.shape in
      let slots : new.slots ≡ old.slots = ap (λ (s : Shape). s.slots) raised.shape in
      let p' : row < old.rows = omega arith in
      let q' : slot < old.slots = omega arith in
      let now : entry_of new row slot ≡ (if has_slot old.slots row slot locks then max id (entry_of old row slot) else entry_of old row slot) = raised.each row slot p' q' in
      let before : entry_of old row slot ≡ slot_mark old.slots row slot start log = stands.each row slot p' q' in
      let after = slot_mark-append old.slots row slot start log r in
      now ∙ rw (slots, after, same_id, same_locks, before) refl;
}

-- records with no id above the start leave no mark
raised_low : (b : Bool) (id x : ℕ) → id ≤ x → (if b then max id x else x) ≡ x
raised_low true id x low = grind (arith, low)
raised_low false id x low = refl

slot_mark-low : (slots row slot start : ℕ) (log : List Record) → All (λ (r : Record). r.id ≤ start) log → slot_mark slots row slot start log ≡ start
slot_mark-low slots row slot start [] low = refl
slot_mark-low slots row slot start (r ∷ log) low =
    let rest : slot_mark slots row slot start log ≡ start = slot_mark-low slots row slot start log (λ k d l. low (suc k) d (omega (arith, l))) in
    let first : r.id ≤ start = low 0 r (omega arith) in
    ap (λ x. if has_slot slots row slot (held_locks r.tx) then max r.id x else x) rest ∙ raised_low (has_slot slots row slot (held_locks r.tx)) r.id start first

-- a table that stands for no record stands for all records up to its start: so after a reset to a recovered log's last id
pub stands_for_low : (t : Table) (start : ℕ) (log : List Record) → All (λ (r : Record). r.id ≤ start) log → TableStandsFor t start [] → TableStandsFor t start log
stands_for_low t start log low stands = record {
  valid = stands.valid;
  each = λ row slot p q. stands.each row slot p q ∙ sym (slot_mark-low t.slots row slot start log low);
}

-- ---- probes

pub least-same : (f g : ℕ → ℕ) (n : ℕ) → ((i : ℕ) → i ≤ n → f i ≡ g i) → least f n ≡ least g n
least-same f g zero same = same 0 (omega arith)
least-same f g (suc n) same =
    let rest : least f n ≡ least g n = least-same f g n (λ i p. same i (omega arith)) in
    let last : f (suc n) ≡ g (suc n) = same (suc n) (omega arith) in
    cc

pub probe_stands : (t : Table) (lock : List ℕ) (start : ℕ) (log : List Record) → TableStandsFor t start log → probe_of t lock ≡ probed_mark (table_shape t) start log lock
probe_stands t lock start log stands =
    let some_rows = stands.valid.some_rows in
    let some_slots = stands.valid.some_slots in
    least-same _ _ (t.rows - 1) (λ i p. stands.each i (slot_of t.slots i lock) (omega arith) (slot_within t.slots i lock some_slots))

-- ---- admission

first_above-same : (p q : List ℕ → ℕ) (mark place : ℕ) (locks : List (List ℕ)) → ((lock : List ℕ) → p lock ≡ q lock) → first_above p mark place locks ≡ first_above q mark place locks
first_above-same p q mark place [] same = refl
first_above-same p q mark place (lock ∷ locks) same = rw (same lock, first_above-same p q mark (place + 1) locks same) refl

pub conflict_stands : (t : Table) (tx : Transaction) (start : ℕ) (log : List Record) → TableStandsFor t start log → admission (table_shape t) start log tx ≡ conflict_of t tx
conflict_stands t tx start log stands =
    sym (first_above-same (probe_of t) (probed_mark (table_shape t) start log) tx.mark 0 (named_locks tx) (λ lock. probe_stands t lock start log stands))

else_none : (b : Bool) (r : Conflict) (u v w : Option Conflict) → (if b then Some r else u) ≡ None → (u ≡ None → v ≡ w) → (if b then Some r else v) ≡ w
else_none true r u v w none rest = cc
else_none false r u v w none rest = rest none

-- where none of the first locks is above the mark, the others answer
pub first_above-later : (probe : List ℕ → ℕ) (mark place : ℕ) (xs ys : List (List ℕ)) → first_above probe mark place xs ≡ None → first_above probe mark place (xs ++ ys) ≡ first_above probe mark (place + length xs) ys
first_above-later probe mark place [] ys none = ap (λ n. first_above probe mark n ys) (omega arith)
first_above-later probe mark place (x ∷ xs) ys none =
    else_none (nat_lt mark (probe x)) _ _ _ _ none (λ e. first_above-later probe mark (place + 1) xs ys e ∙ ap (λ n. first_above probe mark n ys) (omega arith))

else_some : (b : Bool) (a r : Conflict) (u v : Option Conflict) → (if b then Some a else u) ≡ Some r → (u ≡ Some r → v ≡ Some r) → (if b then Some a else v) ≡ Some r
else_some true a r u v some rest = some
else_some false a r u v some rest = rest some

-- where one of the first locks is above the mark, it answers
pub first_above-now : (probe : List ℕ → ℕ) (mark place : ℕ) (xs ys : List (List ℕ)) (r : Conflict) → first_above probe mark place xs ≡ Some r → first_above probe mark place (xs ++ ys) ≡ Some r
first_above-now probe mark place [] ys r some = cc
first_above-now probe mark place (x ∷ xs) ys r some =
    else_some (nat_lt mark (probe x)) _ _ _ _ some (λ e. first_above-now probe mark (place + 1) xs ys r e)

-- the read locks go before the write locks
pub conflict_of-reads : (t : Table) (tx : Transaction) (r : Conflict) → first_above (probe_of t) tx.mark 0 tx.reads ≡ Some r → conflict_of t tx ≡ Some r
conflict_of-reads t tx r some = first_above-now (probe_of t) tx.mark 0 tx.reads tx.writes r some

pub conflict_of-writes : (t : Table) (tx : Transaction) → first_above (probe_of t) tx.mark 0 tx.reads ≡ None → conflict_of t tx ≡ first_above (probe_of t) tx.mark (length tx.reads) tx.writes
conflict_of-writes t tx none = first_above-later (probe_of t) tx.mark 0 tx.reads tx.writes none ∙ ap (λ n. first_above (probe_of t) tx.mark n tx.writes) (omega arith)

-- ---- one more row, and one more lock

-- no two slots have their entries in one place
one_row : (slots row here slot mine : ℕ) → slot < slots → mine < slots → row * slots + slot ≡ here * slots + mine → row ≡ here
one_row slots row here slot mine p q same = sym (div-mul-add row slots slot p) ∙ ap (λ n. n / slots) same ∙ div-mul-add here slots mine q

entry_elsewhere : (items : List ℕ) (slots row here slot mine v : ℕ) → slot < slots → mine < slots → row ≢ here → slice_index (slice_set items (here * slots + mine) v) (row * slots + slot) ≡ slice_index items (row * slots + slot)
entry_elsewhere items slots row here slot mine v p q apart =
    get_or-set_other items (here * slots + mine) (row * slots + slot) v 0 (λ same. apart (one_row slots row here slot mine p q same))

entry_beside : (items : List ℕ) (slots here slot mine v : ℕ) → slot ≢ mine → slice_index (slice_set items (here * slots + mine) v) (here * slots + slot) ≡ slice_index items (here * slots + slot)
entry_beside items slots here slot mine v apart =
    get_or-set_other items (here * slots + mine) (here * slots + slot) v 0 (λ same. apart (omega (arith, same)))

-- in its own row a lock's entry is raised, and no other
own_row_raised : (items : List ℕ) (slots here slot id x v : ℕ) (lock : List ℕ) → here * slots + slot_of slots here lock < length items → x ≡ slice_index items (here * slots + slot) → v ≡ max (slice_index items (here * slots + slot_of slots here lock)) id →
    slice_index (slice_set items (here * slots + slot_of slots here lock) v) (here * slots + slot) ≡ (if has_slot slots here slot (lock ∷ []) then max id x else x)
own_row_raised items slots here slot id x v lock inside was value =
    elim (cases_eq slot (slot_of slots here lock)) [
      | inl same ↦
          let raised : v ≡ max id x = grind (arith, same, was, value) in
          let test : has_slot slots here slot (lock ∷ []) ≡ true = grind (arith, nat_tests, same) in
          rw (same, get_or-set_same items (here * slots + slot_of slots here lock) v 0 inside) (raised ∙ ap (λ b. if b then max id x else x) (sym (rw same at test)))
      | inr apart ↦
          let test : has_slot slots here slot (lock ∷ []) ≡ false = grind (arith, nat_tests, apart) in
          entry_beside items slots here slot (slot_of slots here lock) v apart ∙ sym was ∙ ap (λ b. if b then max id x else x) (sym test)
    ]

-- the row of a lock's entry is raised, and the rows before it stay so
pub one_row_raised : (items : List ℕ) (old : ℕ → ℕ → ℕ) (rows slots here id at v : ℕ) (lock : List ℕ) → at < length items → at ≡ here * slots + slot_of slots here lock → v ≡ max (slice_index items at) id →
    ((row slot : ℕ) → row < rows → slot < slots → slice_index items (row * slots + slot) ≡ (if nat_lt row here then (if has_slot slots row slot (lock ∷ []) then max id (old row slot) else old row slot) else old row slot)) →
    (row slot : ℕ) → row < rows → slot < slots → slice_index (slice_set items at v) (row * slots + slot) ≡ (if nat_lt row (here + 1) then (if has_slot slots row slot (lock ∷ []) then max id (old row slot) else old row slot) else old row slot)
one_row_raised items old rows slots here id at v lock inside place value before row slot p q =
    let mine : ℕ = slot_of slots here lock in
    let P : Bool → ℕ = λ b. if b then (if has_slot slots row slot (lock ∷ []) then max id (old row slot) else old row slot) else old row slot in
    let was : slice_index items (row * slots + slot) ≡ P (nat_lt row here) = before row slot p q in
    elim (cases_eq row here) [
      | inl same ↦
          let low : nat_lt row here ≡ false = grind (arith, nat_tests, same) in
          let high : nat_lt row (here + 1) ≡ true = grind (arith, nat_tests, same) in
          let place' : at ≡ row * slots + slot_of slots row lock = rw same place in
          let inside' : row * slots + slot_of slots row lock < length items = rw (← place') inside in
          let value' : v ≡ max (slice_index items (row * slots + slot_of slots row lock)) id = rw (← place') value in
          rw place' (own_row_raised items slots row slot id (old row slot) v lock inside' (sym (was ∙ ap P low)) value') ∙ ap P (sym high)
      | inr apart ↦
          let tests : nat_lt row here ≡ nat_lt row (here + 1) = grind (arith, nat_tests, apart) in
          rw place (entry_elsewhere items slots row here slot mine v q (slot_within slots here lock (omega arith)) apart) ∙ was ∙ ap P tests
    ]
