-- Records at their places, clean logs, and the application of a log.
use Rattle.std.proofs.Common.{true≢false, Contains, ◌≡◌, ℕ, zero, suc, ◌+◌, ◌<◌, ◌≤◌, ◌⊎◌, false, arith, refl, ap, sym, ◌∙◌, inl, inr, List, [], ◌∷◌, ◌++◌, length, take, get_or, take-take, slice_get, Some, None}
use Rattle.world_law.specs.Worlds.{start}
use Rattle.std.proofs.lemmas.List.{places, get_or_append_left, get_or_at}
use Rattle.tx_model.proofs.Admission.{admitted_names_no_held}
use Rattle.tx_model.proofs.Names.{is_among-from_Contains}
use Rattle.tx_model.specs.Applications.{after_records, Application, empty_application, after_payload, serial}
use Rattle.tx_model.specs.Logs.{record_at, IsClean}
use Rattle.tx_model.specs.Probes.{Shape, admission}
use Rattle.tx_model.specs.Transactions.{named_locks, held_locks, is_among}
use Rattle.tx_model.specs.declared.record.Record.{Record}
use Rattle.world_law.proofs.Lists.{IsFront, HasIds, front_take}
use Rattle.world_law.proofs.Tests.{above}

pub front_at : (k : ℕ) (xs ys : List Record) → IsFront xs ys → k ≤ length xs → take k ys ≡ take k xs
front_at k xs ys f le = sym (ap (take k) (front_take xs ys f) ∙ take-take k (length xs) ys le)

pub at_get : (log : List Record) (k : ℕ) (r d : Record) → slice_get log k ≡ Some r → (k < length log) × (get_or log k d ≡ r)
at_get [] k r d is = absurd cc
at_get (x ∷ log) zero r d is = (omega arith, cc)
at_get (x ∷ log) (suc k) r d is = let h = at_get log k r d is in (omega (arith, h.0), h.1)

pub get_at : (log : List Record) (k : ℕ) (d : Record) → k < length log → slice_get log k ≡ Some (get_or log k d)
get_at [] k d less = absurd (omega arith)
get_at (x ∷ log) zero d less = refl
get_at (x ∷ log) (suc k) d less = get_at log k d (omega arith)

-- it is at the same place of a longer log
pub at_front : (xs ys : List Record) (t : ℕ) (r : Record) → IsFront xs ys → record_at xs t ≡ Some r → record_at ys t ≡ Some r
at_front xs ys zero r f is = absurd cc
at_front xs ys (suc k) r f is =
    let h = at_get xs k r r is in
    get_at ys k r (let l = f.fits in omega (arith, h.0)) ∙ ap (λ (x : Record). Some x) (sym (f.same k r h.0) ∙ h.1)

-- its place is its id
pub at_id : (log : List Record) (t : ℕ) (r : Record) → HasIds log → record_at log t ≡ Some r → r.id ≡ t
at_id log zero r ids is = absurd cc
at_id log (suc k) r ids is =
    let h = at_get log k r r is in
    ap (λ (x : Record). x.id) (sym h.1) ∙ (ids k r h.0 ∙ (omega arith))

pub at_within : (log : List Record) (t : ℕ) (r : Record) → record_at log t ≡ Some r → (1 ≤ t) × (t ≤ length log)
at_within log zero r is = absurd cc
at_within log (suc k) r is = let h = at_get log k r r is in (omega arith, omega (arith, h.0))

records_more : (app : Application) (records : List Record) (r : Record)
    → after_records app (records ++ r ∷ []) ≡ after_payload (after_records app records) r.tx.payload
records_more app [] r = refl
records_more app (x ∷ records) r = records_more (after_payload app x.tx.payload) records r

take_next : (log : List Record) (k : ℕ) (r : Record) → slice_get log k ≡ Some r → take (suc k) log ≡ take k log ++ r ∷ []
take_next [] k r is = absurd cc
take_next (x ∷ log) zero r is = let e : x ≡ r = cc in ap (λ y. y ∷ []) e
take_next (x ∷ log) (suc k) r is = ap (λ l. x ∷ l) (take_next log k r is)

-- one transaction more
pub serial_next : (log : List Record) (k : ℕ) (r : Record) → record_at log (suc k) ≡ Some r
    → serial log (suc k) ≡ after_payload (serial log k) r.tx.payload
serial_next log k r is = ap (after_records empty_application) (take_next log k r is) ∙ records_more empty_application (take k log) r

pub serial_front : (xs ys : List Record) (m : ℕ) → IsFront xs ys → m ≤ length xs → serial xs m ≡ serial ys m
serial_front xs ys m f fits = ap (after_records empty_application) (sym (front_at m xs ys f fits))

at_last : (log : List Record) (r : Record) (k : ℕ) (x : Record) → slice_get (log ++ r ∷ []) k ≡ Some x
    → (slice_get log k ≡ Some x) ⊎ ((k ≡ length log) × (r ≡ x))
at_last [] r zero x is = inr (omega arith, cc)
at_last [] r (suc k) x is = absurd cc
at_last (y ∷ log) r zero x is = inl is
at_last (y ∷ log) r (suc k) x is = elim (at_last log r k x is) [ inl e ↦ inl e | inr e ↦ inr (omega (arith, e.0), e.1) ]

place_last : (log : List Record) (r : Record) (t : ℕ) (x : Record) → record_at (log ++ r ∷ []) t ≡ Some x
    → (record_at log t ≡ Some x) ⊎ ((t ≡ length log + 1) × (r ≡ x))
place_last log r zero x is = absurd cc
place_last log r (suc k) x is = elim (at_last log r k x is) [ inl e ↦ inl e | inr e ↦ inr (omega (arith, e.0), e.1) ]

split_at : (t n : ℕ) → t < n + 1 → (t < n) ⊎ (t ≡ n)
split_at t n lt = grind arith

last_length : (log : List Record) (e : Record) → length (log ++ e ∷ []) ≡ length log + 1
last_length log e = grind (arith, places)

ids_at : (log : List Record) (e : Record) → HasIds log → e.id ≡ length log + 1 → (k : ℕ) (d : Record) → (k < length log) ⊎ (k ≡ length log)
    → (get_or (log ++ e ∷ []) k d).id ≡ k + 1
ids_at log e h q k d (inl lt) = rw (get_or_append_left log (e ∷ []) d k lt) (h k d lt)
ids_at log e h q k d (inr at) = rw (get_or_at log e [] d k (sym at)) (q ∙ ap (λ (n : ℕ). n + 1) (sym at))

pub ids_last : (log : List Record) (e : Record) → HasIds log → e.id ≡ length log + 1 → HasIds (log ++ e ∷ [])
ids_last log e h q k d lt = ids_at log e h q k d (split_at k (length log) (omega (arith, last_length log e)))

-- an admitted record leaves the log clean

below_last : (log : List Record) (r : Record) → IsClean log → r.tx.mark ≤ length log → (t : ℕ) (later : Record)
    → (record_at log t ≡ Some later) ⊎ ((t ≡ length log + 1) × (r ≡ later)) → later.tx.mark < t
below_last log r clean fits t later (inl is) = clean.below t later is
below_last log r clean fits t later (inr is) = let same = ap (λ (x : Record). x.tx.mark) is.1 in omega (arith, is.0, same)

earlier_last : (log : List Record) (r : Record) (u : ℕ) (earlier : Record)
    → (record_at log u ≡ Some earlier) ⊎ ((u ≡ length log + 1) × (r ≡ earlier)) → u ≤ length log → record_at log u ≡ Some earlier
earlier_last log r u earlier (inl is) fits = is
earlier_last log r u earlier (inr is) fits = absurd (omega (arith, is.0))

apart_last : (shape : Shape) (start : ℕ) (log : List Record) (r : Record) → HasIds log → IsClean log → admission shape start log r.tx ≡ None
    → (t u : ℕ) (later earlier : Record) (lock : List ℕ) →
    (record_at log t ≡ Some later) ⊎ ((t ≡ length log + 1) × (r ≡ later)) → record_at (log ++ r ∷ []) u ≡ Some earlier → later.tx.mark < u → u < t →
    Contains (held_locks earlier.tx) lock → ¬ Contains (named_locks later.tx) lock
apart_last shape start log r ids clean none t u later earlier lock (inl is) was above less held =
    clean.apart t u later earlier lock is
    (earlier_last log r u earlier (place_last log r u earlier was) (let w = at_within log t later is in omega (arith, w.1))) above less held
apart_last shape start log r ids clean none t u later earlier lock (inr is) was above less held =
    let at : record_at log u ≡ Some earlier = earlier_last log r u earlier (place_last log r u earlier was) (omega (arith, is.0)) in
    let id : earlier.id ≡ u = at_id log u earlier ids at in
    let mark : r.tx.mark ≡ later.tx.mark = ap (λ (x : Record). x.tx.mark) is.1 in
    let free : is_among lock (named_locks r.tx) ≡ false = admitted_names_no_held shape start log r.tx none u earlier lock at
    (omega (arith, id, mark, above)) (is_among-from_Contains lock (held_locks earlier.tx) held) in
    λ named. true≢false (sym (is_among-from_Contains lock (named_locks later.tx) named)
    ∙ ap (λ (x : Record). is_among lock (named_locks x.tx)) (sym is.1) ∙ free)

pub clean_last : (shape : Shape) (start : ℕ) (log : List Record) (r : Record) → HasIds log → IsClean log → admission shape start log r.tx ≡ None
    → r.tx.mark ≤ length log → IsClean (log ++ r ∷ [])
clean_last shape start log r ids clean none fits = record {
  below = λ t later is. below_last log r clean fits t later (place_last log r t later is);
  apart = λ t u later earlier lock is was. apart_last shape start log r ids clean none t u later earlier lock (place_last log r t later is) was;
}

pub clean_front : (xs ys : List Record) → IsFront xs ys → IsClean ys → IsClean xs
clean_front xs ys f clean = record {
  below = λ t later is. clean.below t later (at_front xs ys t later f is);
  apart = λ t u later earlier lock is was. clean.apart t u later earlier lock (at_front xs ys t later f is) (at_front xs ys u earlier f was);
}

pub clean_none : IsClean []
clean_none = record { below = λ t later is. absurd (none_at t later is); apart = λ t u later earlier lock is. absurd (none_at t later is) }
  where
    none_at : (t : ℕ) (r : Record) → record_at [] t ≡ Some r → ⊥
    none_at zero r is = cc
    none_at (suc k) r is = cc

pub ids_none : HasIds []
ids_none k d lt = absurd (omega arith)
