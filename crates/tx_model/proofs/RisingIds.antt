-- Ids that rise by one, whatever else the records hold: their parts.
use Rattle.std.proofs.Common.{◌≡◌, ℕ, zero, suc, ◌+◌, ◌<◌, true, List, [], ◌∷◌, ◌++◌, length, get_or, take, drop, refl, sym, subst, arith, eq-eqb, take-append-drop}
use Rattle.std.specs.Prelude.{◌==◌}
use Rattle.std.proofs.lemmas.Bool.{and_parts, and_from, eqb-true}
use Rattle.tx_model.specs.declared.record.Record.{Record}
use Rattle.tx_model.specs.Records.{RiseByOne, ids_rise}

-- ids that rise by one, of records in their ranges
pub rise-ids : (id : ℕ) (rs : List Record) → RiseByOne id rs → ids_rise id rs ≡ true
unfolding RiseByOne ids_rise
rise-ids id [] rise = refl
rise-ids id (r ∷ rs) rise = and_from (r.id == id) (ids_rise (id + 1) rs) (eq-eqb r.id id rise.1) (rise-ids (id + 1) rs rise.2)

pub none-rise : (id : ℕ) → ids_rise id [] ≡ true
unfolding ids_rise
none-rise id = refl

-- the first id
pub ids_rise-head : (id : ℕ) (r : Record) (rs : List Record) → ids_rise id (r ∷ rs) ≡ true → r.id ≡ id
unfolding ids_rise
ids_rise-head id r rs is = eqb-true r.id id (and_parts (r.id == id) (ids_rise (id + 1) rs) is).0

pub ids_rise-append : (id : ℕ) (xs ys : List Record) → ids_rise id xs ≡ true → ids_rise (id + length xs) ys ≡ true → ids_rise id (xs ++ ys) ≡ true
unfolding ids_rise
ids_rise-append id [] ys a b = subst (λ (n : ℕ). ids_rise n ys ≡ true) (omega arith) b
ids_rise-append id (x ∷ xs) ys a b =
    let parts = and_parts (x.id == id) (ids_rise (id + 1) xs) a in
    and_from (x.id == id) (ids_rise (id + 1) (xs ++ ys)) parts.0 (ids_rise-append (id + 1) xs ys parts.1 (subst (λ (n : ℕ). ids_rise n ys ≡ true) (omega arith) b))

pub ids_rise-front : (id : ℕ) (xs ys : List Record) → ids_rise id (xs ++ ys) ≡ true → ids_rise id xs ≡ true
unfolding ids_rise
ids_rise-front id [] ys is = refl
ids_rise-front id (x ∷ xs) ys is =
    let parts = and_parts (x.id == id) (ids_rise (id + 1) (xs ++ ys)) is in
    and_from (x.id == id) (ids_rise (id + 1) xs) parts.0 (ids_rise-front (id + 1) xs ys parts.1)

pub ids_rise-back : (id : ℕ) (xs ys : List Record) → ids_rise id (xs ++ ys) ≡ true → ids_rise (id + length xs) ys ≡ true
unfolding ids_rise
ids_rise-back id [] ys is = subst (λ (n : ℕ). ids_rise n ys ≡ true) (omega arith) is
ids_rise-back id (x ∷ xs) ys is =
    subst (λ (n : ℕ). ids_rise n ys ≡ true) (omega arith) (ids_rise-back (id + 1) xs ys (and_parts (x.id == id) (ids_rise (id + 1) (xs ++ ys)) is).1)

pub ids_rise-take : (id : ℕ) (records : List Record) (n : ℕ) → ids_rise id records ≡ true → ids_rise id (take n records) ≡ true
ids_rise-take id records n is =
    ids_rise-front id (take n records) (drop n records) (subst (λ (rs : List Record). ids_rise id rs ≡ true) (sym (take-append-drop n records)) is)

-- the id at a place
pub ids_rise-id : (id : ℕ) (records : List Record) (k : ℕ) (other : Record) → ids_rise id records ≡ true → k < length records → (get_or records k other).id ≡ id + k
unfolding ids_rise
ids_rise-id id [] k other is lt = absurd (omega arith)
ids_rise-id id (r ∷ records) zero other is lt = omega (arith, eqb-true r.id id (and_parts (r.id == id) (ids_rise (id + 1) records) is).0)
ids_rise-id id (r ∷ records) (suc k) other is lt =
    omega (arith, ids_rise-id (id + 1) records k other (and_parts (r.id == id) (ids_rise (id + 1) records) is).1 (omega arith))
