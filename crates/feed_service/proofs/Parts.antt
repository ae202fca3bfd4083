-- A window's log when records are added, and its records by their ids.
use Rattle.std.proofs.Common.{◌≡◌, ℕ, zero, suc, ◌+◌, ◌<◌, ◌≤◌, ◌^◌, List, [], ◌∷◌, ◌++◌, None, refl, subst, length, get_or, take, slice_get, arith, lit<}
use Rattle.std.proofs.lemmas.Option.{slice_get_past}
use Rattle.tx_model.specs.declared.record.Record.{Record}
use Rattle.tx_model.specs.Logs.{record_at}
use Rattle.tx_model.specs.Records.{IsRecord, IsBatch, RiseByOne, first_id}
use Rattle.tx_model.proofs.Batches.{RiseByOne-All, RiseByOne-append, RiseByOne-id, RiseByOne-take}

-- ---- records that are added

pub none_rise : RiseByOne 1 []
unfolding RiseByOne
none_rise = tt

pub rise_alone : (id : ℕ) (r : Record) → IsRecord r → r.id ≡ id → RiseByOne id (r ∷ [])
unfolding RiseByOne
rise_alone id r valid is = (valid, is, tt)

pub rise_pushed : (log : List Record) (r : Record) → RiseByOne 1 log → IsRecord r → r.id ≡ length log + 1 → RiseByOne 1 (log ++ r ∷ [])
rise_pushed log r rise valid next =
    let id : r.id ≡ 1 + length log = omega (arith, next) in
    RiseByOne-append 1 log (r ∷ []) rise (rise_alone (1 + length log) r valid id)

-- the first records of a batch that goes on where the log ends
pub rise_extended : (log batch : List Record) (n : ℕ) → RiseByOne 1 log → IsBatch batch → first_id batch ≡ length log + 1 → RiseByOne 1 (log ++ take n batch)
rise_extended log batch n rise is next =
    let id : first_id batch ≡ 1 + length log = omega (arith, next) in
    let more : RiseByOne (1 + length log) (take n batch) = subst (λ k. RiseByOne k (take n batch)) id (RiseByOne-take (first_id batch) batch n is.rise) in
    RiseByOne-append 1 log (take n batch) rise more

-- ---- what the crates above need of a window's log

-- its length is within the greatest id
pub log_within : (log : List Record) → RiseByOne 1 log → length log < 2 ^ 48
log_within [] rise = lit< tt
log_within (r ∷ log) rise =
    let place = (RiseByOne-All 1 (r ∷ log) rise (length log) r (omega arith)).id in
    let id : (get_or (r ∷ log) (length log) r).id ≡ 1 + length log = RiseByOne-id 1 (r ∷ log) (length log) r rise (omega arith) in
    let below = place.below in
    omega (arith, below, id)

got-take : (log : List Record) (n k : ℕ) → k < n → slice_get (take n log) k ≡ slice_get log k
got-take [] zero k low = refl
got-take [] (suc n) k low = refl
got-take (r ∷ log) zero k low = absurd (omega arith)
got-take (r ∷ log) (suc n) zero low = refl
got-take (r ∷ log) (suc n) (suc k) low = got-take log n k (omega arith)

-- there is none behind the last one
pub none_at : (log : List Record) (id place : ℕ) → id ≡ place + 1 → length log ≤ place → record_at log id ≡ None
none_at log zero place next past = absurd (omega arith)
none_at log (suc k) place next past = slice_get_past log k (omega arith)

-- a record within the first ones is one of them
pub record_at-take : (log : List Record) (n id : ℕ) → id ≤ n → record_at (take n log) id ≡ record_at log id
record_at-take log n zero low = refl
record_at-take log n (suc k) low = got-take log n k (omega arith)
