-- Records whose ids rise by one: their ids by place, and their parts.
use Rattle.std.proofs.Common.{◌≡◌, ℕ, zero, suc, ◌+◌, ◌-◌, ◌<◌, ◌≤◌, min, List, [], ◌∷◌, ◌++◌, length, get_or, take, drop, All, inl, inr, arith, ap, ◌∙◌, add-zero, length-append, length-take, length-drop, take-append-drop}
use Rattle.std.proofs.Math.ListN.{get_or-append}
use Rattle.std.proofs.Math.Seq.{get_or-append_right}
use Rattle.std.proofs.lemmas.Bool.{cases_lt}
use Rattle.std.proofs.lemmas.List.{length-take-le}
use Rattle.tx_model.specs.declared.record.Record.{Record}
use Rattle.tx_model.specs.Records.{IsRecord, IsLog, RiseByOne, first_id, IsBatch, IsFirstGap}

-- ---- from the ids, and to them

-- each id is one more than the id before it
abbrev pub StepByOne : List Record → ℕ → Type 0
StepByOne records n = (k : ℕ) (other : Record) → 1 ≤ k → k < n → (get_or records k other).id ≡ (get_or records (k - 1) other).id + 1

pub RiseByOne-from_ids : (id : ℕ) (records : List Record) → All IsRecord records → ((k : ℕ) (other : Record) → k < length records → (get_or records k other).id ≡ id + k) → RiseByOne id records
unfolding RiseByOne
RiseByOne-from_ids id [] each ids = tt
RiseByOne-from_ids id (r ∷ records) each ids =
    (each 0 r (omega arith), omega (arith, ids 0 r (omega arith)), RiseByOne-from_ids (id + 1) records (λ k other lt. each (suc k) other (omega arith)) (λ k other lt. omega (arith, ids (suc k) other (omega arith))))

pub RiseByOne-id : (id : ℕ) (records : List Record) (k : ℕ) (other : Record) → RiseByOne id records → k < length records → (get_or records k other).id ≡ id + k
unfolding RiseByOne
RiseByOne-id id [] k other rise lt = absurd (omega arith)
RiseByOne-id id (r ∷ records) zero other rise lt = omega (arith, rise.1)
RiseByOne-id id (r ∷ records) (suc k) other rise lt = omega (arith, RiseByOne-id (id + 1) records k other rise.2 (omega arith))

pub RiseByOne-All : (id : ℕ) (records : List Record) → RiseByOne id records → All IsRecord records
unfolding RiseByOne
RiseByOne-All id [] rise k other lt = absurd (omega arith)
RiseByOne-All id (r ∷ records) rise zero other lt = rise.0
RiseByOne-All id (r ∷ records) rise (suc k) other lt = RiseByOne-All (id + 1) records rise.2 k other (omega arith)

-- ids that step by one are the first and what it counts to
step_id : (records : List Record) → StepByOne records (length records) → (k : ℕ) (other : Record) → k < length records → (get_or records k other).id ≡ first_id records + k
step_id [] steps k other lt = absurd (omega arith)
step_id (r ∷ records) steps zero other lt = omega arith
step_id (r ∷ records) steps (suc k) other lt =
    let back : suc k - 1 ≡ k = omega arith in
    let step : (get_or (r ∷ records) (suc k) other).id ≡ (get_or (r ∷ records) k other).id + 1 = rw back at (steps (suc k) other (omega arith) lt) in
    omega (arith, step, step_id (r ∷ records) steps k other (omega arith))

pub RiseByOne-from_steps : (records : List Record) → All IsRecord records → StepByOne records (length records) → RiseByOne (first_id records) records
RiseByOne-from_steps records each steps = RiseByOne-from_ids (first_id records) records each (step_id records steps)

pub none_gap : (records : List Record) → StepByOne records (length records) → (at : ℕ) → IsFirstGap records at → ⊥
none_gap [] steps at gap = let within = gap.within in absurd (omega arith)
none_gap (r ∷ records) steps at gap = gap.gap r (steps at r gap.some gap.within)

-- ---- parts

pub RiseByOne-append : (id : ℕ) (front back : List Record) → RiseByOne id front → RiseByOne (id + length front) back → RiseByOne id (front ++ back)
unfolding RiseByOne
RiseByOne-append id [] back front_rise back_rise = rw add-zero at back_rise
RiseByOne-append id (r ∷ front) back front_rise back_rise =
    let place : id + suc (length front) ≡ (id + 1) + length front = omega arith in
    (front_rise.0, front_rise.1, RiseByOne-append (id + 1) front back front_rise.2 (rw place at back_rise))

pub RiseByOne-front : (id : ℕ) (front back : List Record) → RiseByOne id (front ++ back) → RiseByOne id front
unfolding RiseByOne
RiseByOne-front id [] back rise = tt
RiseByOne-front id (r ∷ front) back rise = (rise.0, rise.1, RiseByOne-front (id + 1) front back rise.2)

pub RiseByOne-back : (id : ℕ) (front back : List Record) → RiseByOne id (front ++ back) → RiseByOne (id + length front) back
unfolding RiseByOne
RiseByOne-back id [] back rise = rw add-zero rise
RiseByOne-back id (r ∷ front) back rise =
    let place : id + suc (length front) ≡ (id + 1) + length front = omega arith in
    rw place (RiseByOne-back (id + 1) front back rise.2)

pub RiseByOne-take : (id : ℕ) (records : List Record) (n : ℕ) → RiseByOne id records → RiseByOne id (take n records)
RiseByOne-take id records n rise = RiseByOne-front id (take n records) (drop n records) (rw take-append-drop rise)

pub RiseByOne-drop : (id : ℕ) (records : List Record) (n : ℕ) → n ≤ length records → RiseByOne id records → RiseByOne (id + n) (drop n records)
RiseByOne-drop id records n le rise =
    let len : length (take n records) ≡ n = length-take-le n records le in
    let back : RiseByOne (id + length (take n records)) (drop n records) = RiseByOne-back id (take n records) (drop n records) (rw take-append-drop rise) in
    rw len at back

-- ---- batches

first_id-RiseByOne : (id : ℕ) (records : List Record) → 1 ≤ length records → RiseByOne id records → first_id records ≡ id
unfolding RiseByOne
first_id-RiseByOne id [] some rise = absurd (omega arith)
first_id-RiseByOne id (r ∷ records) some rise = rise.1

-- records that rise from any id are a batch, where there are one to eight
pub IsBatch-from_RiseByOne : (id : ℕ) (records : List Record) → 1 ≤ length records → length records ≤ 8 → RiseByOne id records → IsBatch records
IsBatch-from_RiseByOne id records some few rise = record {
  some = some;
  few = few;
  rise = let first : first_id records ≡ id = first_id-RiseByOne id records some rise in rw first rise;
}

-- the record at a place of a batch
pub IsBatch-id : (records : List Record) (k : ℕ) (other : Record) → IsBatch records → k < length records → (get_or records k other).id ≡ first_id records + k
IsBatch-id records k other batch lt = RiseByOne-id (first_id records) records k other batch.rise lt

pub IsBatch-All : (records : List Record) → IsBatch records → All IsRecord records
IsBatch-All records batch = RiseByOne-All (first_id records) records batch.rise

-- some of the first records, and some of the last
pub IsBatch-take : (records : List Record) (n : ℕ) → 1 ≤ n → n ≤ length records → IsBatch records → IsBatch (take n records)
IsBatch-take records n some le batch =
    let len : length (take n records) ≡ n = length-take-le n records le in
    let few = batch.few in
    IsBatch-from_RiseByOne (first_id records) (take n records) (omega arith) (omega arith) (RiseByOne-take (first_id records) records n batch.rise)

pub IsBatch-drop : (records : List Record) (n : ℕ) → n < length records → IsBatch records → IsBatch (drop n records)
IsBatch-drop records n lt batch =
    let few = batch.few in
    IsBatch-from_RiseByOne (first_id records + n) (drop n records) (omega (arith, length-drop n records)) (omega (arith, length-drop n records)) (RiseByOne-drop (first_id records) records n (omega arith) batch.rise)

-- ---- logs

-- a part of a log, of one to eight records
pub IsBatch-part : (log : List Record) (place n : ℕ) → RiseByOne 1 log → place < length log → 1 ≤ n → n ≤ 8 → IsBatch (take n (drop place log))
IsBatch-part log place n rise within some few =
    let len : length (take n (drop place log)) ≡ min n (length log - place) = length-take n (drop place log) ∙ ap (min n) (length-drop place log) in
    IsBatch-from_RiseByOne (1 + place) (take n (drop place log)) (omega (arith, len)) (omega (arith, len))
    (RiseByOne-take (1 + place) (drop place log) n (RiseByOne-drop 1 log place (omega arith) rise))

-- a log of records rises from 1
pub RiseByOne-from_IsLog : (log : List Record) → IsLog log → All IsRecord log → RiseByOne 1 log
RiseByOne-from_IsLog log ids each = RiseByOne-from_ids 1 log each (λ k other lt. omega (arith, ids k other lt))

pub IsLog-from_RiseByOne : (log : List Record) → RiseByOne 1 log → IsLog log
IsLog-from_RiseByOne log rise k other lt = omega (arith, RiseByOne-id 1 log k other rise lt)

-- a batch goes on where a log ends
pub IsLog-append : (log batch : List Record) → IsLog log → IsBatch batch → first_id batch ≡ length log + 1 → IsLog (log ++ batch)
IsLog-append log batch ids is first k other lt = elim (cases_lt k (length log)) [
  | inl in_log ↦ rw (get_or-append log batch other k in_log) (ids k other in_log)
  | inr in_batch ↦
      let total : length (log ++ batch) ≡ length log + length batch = length-append log batch in
      rw (get_or-append_right log batch k other in_batch) (omega (arith, IsBatch-id batch (k - length log) other is (omega arith)))
]
