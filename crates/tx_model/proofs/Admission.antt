-- An admitted transaction names no lock that a record above its mark holds.
use Rattle.std.proofs.Common.{inl, inr, ◌≡◌, ℕ, zero, suc, ◌+◌, ◌-◌, ◌<◌, ◌≤◌, max, nat_lt, ◌==◌, ◌||◌, if◌then◌else◌, Bool, true, false, bytes_eq, List, [], ◌∷◌, slice_get, Option, Some, None, refl, ap, sym, ◌∙◌, arith}
use Rattle.std.proofs.lemmas.Bool.Decides.{nat_tests}
use Rattle.std.proofs.lemmas.Bool.{or_cases}
use Rattle.std.proofs.lemmas.Slice.Eq.{bytes_eq-Decides}
use Rattle.std.proofs.Math.Bool.{or-true}
use Rattle.tx_model.specs.Transactions.{Transaction, named_locks, held_locks, is_among}
use Rattle.tx_model.specs.declared.record.Record.{Record}
use Rattle.tx_model.specs.Hashes.{slot_of}
use Rattle.tx_model.specs.Logs.{record_at}
use Rattle.tx_model.specs.Probes.{Shape, Conflict, has_slot, slot_mark, least, probed_mark, first_above, admission}

-- a lock among others has its slot among theirs

or_first : (a b : Bool) → a ≡ true → (a || b) ≡ true
or_first a b holds = rw holds refl

or_second : (a b : Bool) → b ≡ true → (a || b) ≡ true
or_second a b holds = rw holds (or-true a)

equal_at : (a b : ℕ) → a ≡ b → (a == b) ≡ true
equal_at a b same = grind (arith, nat_tests, same)

has_own_slot : (slots row : ℕ) (lock : List ℕ) (locks : List (List ℕ)) → is_among lock locks ≡ true → has_slot slots row (slot_of slots row lock) locks ≡ true
unfolding is_among
has_own_slot slots row lock [] among = cc
has_own_slot slots row lock (other ∷ locks) among =
    elim (or_cases (bytes_eq lock other) (is_among lock locks) among) [
      | inl same ↦
          let one : slot_of slots row other ≡ slot_of slots row lock = ap (slot_of slots row) (sym ((bytes_eq-Decides lock other).0 same)) in
          or_first (slot_of slots row other == slot_of slots row lock) (has_slot slots row (slot_of slots row lock) locks) (equal_at _ _ one)
      | inr rest ↦ or_second (slot_of slots row other == slot_of slots row lock) (has_slot slots row (slot_of slots row lock) locks) (has_own_slot slots row lock locks rest)
    ]

-- the mark of a slot is at least the id of each record that holds a lock of the slot

mark_here : (b : Bool) (id x : ℕ) → b ≡ true → id ≤ (if b then max id x else x)
mark_here true id x holds = omega arith
mark_here false id x holds = absurd cc

mark_later : (b : Bool) (id x y : ℕ) → y ≤ x → y ≤ (if b then max id x else x)
mark_later true id x y below = omega arith
mark_later false id x y below = below

marked : (slots row slot start : ℕ) (log : List Record) (k : ℕ) (r : Record) → slice_get log k ≡ Some r → has_slot slots row slot (held_locks r.tx) ≡ true → r.id ≤ slot_mark slots row slot start log
marked slots row slot start [] k r at holds = absurd cc
marked slots row slot start (first ∷ log) zero r at holds =
    let same : first ≡ r = cc at in
    let held : has_slot slots row slot (held_locks first.tx) ≡ true = ap (λ (d : Record). has_slot slots row slot (held_locks d.tx)) same ∙ holds in
    let here = mark_here (has_slot slots row slot (held_locks first.tx)) first.id (slot_mark slots row slot start log) held in
    let id : first.id ≡ r.id = ap (λ (d : Record). d.id) same in
    omega (arith, here)
marked slots row slot start (first ∷ log) (suc k) r at holds =
    mark_later (has_slot slots row slot (held_locks first.tx)) first.id _ r.id (marked slots row slot start log k r at holds)

above_least : (f : ℕ → ℕ) (n x : ℕ) → ((i : ℕ) → x ≤ f i) → x ≤ least f n
above_least f zero x below = below 0
above_least f (suc n) x below = let rest = above_least f n x below in let last = below (suc n) in omega (arith, rest, last)

-- where no lock is above the mark, each is at most the mark

not_first : (b : Bool) (r : Conflict) (o : Option Conflict) → (if b then Some r else o) ≡ None → (b ≡ false) × (o ≡ None)
not_first true r o none = absurd cc
not_first false r o none = (refl, none)

low : (x y mark : ℕ) → x ≡ y → nat_lt mark y ≡ false → x ≤ mark
low x y mark same below = grind (arith, nat_tests, same, below)

none_above : (probe : List ℕ → ℕ) (mark place : ℕ) (lock : List ℕ) (locks : List (List ℕ)) → first_above probe mark place locks ≡ None → is_among lock locks ≡ true → probe lock ≤ mark
unfolding is_among
none_above probe mark place lock [] none among = cc
none_above probe mark place lock (other ∷ locks) none among =
    let parts = not_first (nat_lt mark (probe other)) _ _ none in
    elim (or_cases (bytes_eq lock other) (is_among lock locks) among) [
      | inl same ↦ low (probe lock) (probe other) mark (ap probe ((bytes_eq-Decides lock other).0 same)) parts.0
      | inr rest ↦ none_above probe mark (place + 1) lock locks parts.1 rest
    ]

false_by : (b : Bool) → (b ≡ true → ⊥) → b ≡ false
false_by true never = absurd (never refl)
false_by false never = refl

pub admitted_names_no_held : (shape : Shape) (start : ℕ) (log : List Record) (tx : Transaction) → admission shape start log tx ≡ None →
    (place : ℕ) (earlier : Record) (lock : List ℕ) → record_at log place ≡ Some earlier → tx.mark < earlier.id →
    is_among lock (held_locks earlier.tx) ≡ true → is_among lock (named_locks tx) ≡ false
admitted_names_no_held shape start log tx none zero earlier lock at above holds = absurd cc
admitted_names_no_held shape start log tx none (suc k) earlier lock at above holds = false_by (is_among lock (named_locks tx)) (λ among.
    let lowest : probed_mark shape start log lock ≤ tx.mark = none_above (probed_mark shape start log) tx.mark 0 lock (named_locks tx) none among in
    let f : ℕ → ℕ = λ row. slot_mark shape.slots row (slot_of shape.slots row lock) start log in
    let each : (row : ℕ) → earlier.id ≤ f row =
    (λ row. marked shape.slots row (slot_of shape.slots row lock) start log k earlier at (has_own_slot shape.slots row lock (held_locks earlier.tx) holds)) in
    let high = above_least f (shape.rows - 1) earlier.id each in
    omega (arith, lowest, high, above))
