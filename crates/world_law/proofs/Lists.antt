-- Fronts, slices and parts of logs.
use Rattle.std.proofs.Common.{◌≡◌, ℕ, zero, suc, ◌+◌, ◌-◌, ◌<◌, ◌≤◌, arith, refl, ap, sym, ◌∙◌, subst, List, [], ◌∷◌, ◌++◌, length, take, drop, get_or, get_or-take, length-take, length-take-le, append-nil}
use Rattle.proto_model.specs.Replicas.{grown}
use Rattle.proto_model.specs.Servers.{chosen}
use Rattle.std.proofs.lemmas.Grind.{common_steps}
use Rattle.std.proofs.lemmas.List.{places, same_lists}
use Rattle.tx_model.specs.Records.{first_id}
use Rattle.tx_model.specs.declared.record.Record.{Record}

-- xs are the first elements of ys
pub record IsFront {A : Type 0} (xs ys : List A) : Type 0 where
  pub fits : length xs ≤ length ys
  pub same : (i : ℕ) (d : A) → i < length xs → get_or xs i d ≡ get_or ys i d

-- xs stand in ys from the place at on, where 0 is the first
pub record IsSlice {A : Type 0} (xs : List A) (at : ℕ) (ys : List A) : Type 0 where
  pub fits : at + length xs ≤ length ys
  pub same : (i : ℕ) (d : A) → i < length xs → get_or xs i d ≡ get_or ys (at + i) d

-- each record's id is its place, from 1
abbrev pub HasIds : List Record → Type 0
HasIds log = (k : ℕ) (d : Record) → k < length log → (get_or log k d).id ≡ k + 1

-- a batch stands in a log at its first record's id
pub record IsPart (batch log : List Record) : Type 0 where
  pub some : 0 < length batch → 1 ≤ first_id batch
  pub slice : IsSlice batch (first_id batch - 1) log

pub still : {A : Type 0} (xs : List A) → IsFront xs xs
still xs = record { fits = omega arith; same = λ i d lt. refl }

-- a log with what is new of a batch that begins at this id
grown_at : List Record → ℕ → List Record → List Record
grown_at log first batch = log ++ drop (length log + 1 - first) batch

grown_length : (log batch book : List Record) (first : ℕ) → length log ≤ length book → 1 ≤ first → first ≤ length log + 1
    → first - 1 + length batch ≤ length book → length (grown_at log first batch) ≤ length book
unfolding grown_at
grown_length log batch book first fits some le h = grind (arith, common_steps)

pub grown_longer : (log batch : List Record) → length log ≤ length (grown log batch)
grown_longer log batch = grind (arith, common_steps)

-- a slice that an append adds leaves the log a front of the book
grown_front_at : (log batch book : List Record) (first : ℕ) → IsFront log book → 1 ≤ first → first ≤ length log + 1
    → IsSlice batch (first - 1) book → IsFront (grown_at log first batch) book
unfolding grown_at
grown_front_at log batch book first f some le s = record {
  fits = grown_length log batch book first f.fits some le s.fits;
  same = λ i d lt. grind (arith, places, f.same, s.same);
}

nothing_new : (log : List Record) (k : ℕ) → log ++ drop k [] ≡ log
nothing_new log zero = append-nil log
nothing_new log (suc k) = append-nil log

pub grown_front : (log batch book : List Record) → IsFront log book → first_id batch ≤ length log + 1 → IsPart batch book
    → IsFront (grown log batch) book
unfolding grown_at
grown_front log [] book f le p = subst (λ (l : List Record). IsFront l book) (sym (nothing_new log (length log + 1 - 0))) f
grown_front log (x ∷ xs) book f le p = grown_front_at log (x ∷ xs) book x.id f (p.some (omega arith)) le p.slice

-- the same as an equation
pub front_take : {A : Type 0} (xs ys : List A) → IsFront xs ys → xs ≡ take (length xs) ys
front_take xs ys f =
    same_lists xs (take (length xs) ys) (sym (length-take-le (length xs) ys f.fits)) (λ k d lt. f.same k d lt ∙ sym (get_or-take (length xs) ys k d lt))

pub take_front : {A : Type 0} (xs ys : List A) → length xs ≤ length ys → xs ≡ take (length xs) ys → IsFront xs ys
take_front xs ys fits e = record { fits = fits; same = λ i d lt. ap (λ l. get_or l i d) e ∙ get_or-take (length xs) ys i d lt }

-- the first w of the log and staged records from there on make up a front of the chosen log
pub adopted_front : (log staged chosen : List Record) (w : ℕ) → w ≤ length log → w ≤ length chosen
    → ((i : ℕ) (d : Record) → i < w → get_or log i d ≡ get_or chosen i d) → IsSlice staged w chosen → IsFront (take w log ++ staged) chosen
adopted_front log staged chosen w le le' same s = record {
  fits = (let h = s.fits in grind (arith, common_steps));
  same = λ i d lt. grind (arith, places, same, s.same);
}

pub front_trans : {A : Type 0} (xs ys zs : List A) → IsFront xs ys → IsFront ys zs → IsFront xs zs
front_trans xs ys zs f g =
    record { fits = (let a = f.fits in let b = g.fits in omega arith); same = λ i d lt. f.same i d lt ∙ g.same i d (let a = f.fits in omega arith) }

pub joined_length : (log staged : List Record) (w : ℕ) → w ≤ length log → length (take w log ++ staged) ≡ w + length staged
joined_length log staged w le = grind (arith, common_steps)

pub take_short : (k : ℕ) (xs : List Record) → k ≤ length xs → length (take k xs) ≡ k
take_short k xs le = length-take-le k xs le

pub taken : (xs : List Record) (k : ℕ) → IsFront (take k xs) xs
taken xs k = record { fits = grind (arith, common_steps); same = λ i d lt. grind (arith, places) }

-- parts of a log with ids

pub ids_front : (xs ys : List Record) → IsFront xs ys → HasIds ys → HasIds xs
ids_front xs ys f h k d lt = ap (λ (r : Record). r.id) (f.same k d lt) ∙ h k d (let a = f.fits in omega arith)

first_read : (xs : List Record) (d : Record) → 0 < length xs → first_id xs ≡ (get_or xs 0 d).id
first_read [] d lt = absurd (omega arith)
first_read (x ∷ xs) d lt = refl

slice_of : (log : List Record) (k m : ℕ) → k < length log → IsSlice (take m (drop k log)) k log
slice_of log k m lt = record { fits = grind (arith, common_steps); same = λ i d le. grind (arith, places) }

slice_read : (log : List Record) (k m : ℕ) (d : Record) → k < length log → 1 ≤ m → get_or (take m (drop k log)) 0 d ≡ get_or log k d
slice_read log k m d lt some = grind (arith, places)

slice_some : (log : List Record) (k m : ℕ) → k < length log → 1 ≤ m → 0 < length (take m (drop k log))
slice_some log k m lt some = grind (arith, common_steps)

first_of : (log : List Record) (k m : ℕ) (d : Record) → HasIds log → k < length log → 1 ≤ m → first_id (take m (drop k log)) ≡ k + 1
first_of log k m d h lt some =
    first_read (take m (drop k log)) d (slice_some log k m lt some) ∙ ap (λ (r : Record). r.id) (slice_read log k m d lt some) ∙ h k d lt

pub part_of : (log : List Record) (k m : ℕ) (d : Record) → HasIds log → k < length log → 1 ≤ m → IsPart (take m (drop k log)) log
part_of log k m d h lt some =
    let first = first_of log k m d h lt some in
    record {
      some = λ any. rw first (omega arith);
      slice = subst (λ (j : ℕ). IsSlice (take m (drop k log)) j log) (let e = first in omega arith) (slice_of log k m lt);
    }

-- a shorter batch

slice_taken : (xs ys : List Record) (at k : ℕ) → IsSlice xs at ys → IsSlice (take k xs) at ys
slice_taken xs ys at k s = record {
  fits = (let a = s.fits in grind (arith, common_steps));
  same = λ i d lt. get_or-take k xs i d (omega (arith, length-take k xs)) ∙ s.same i d (omega (arith, length-take k xs));
}

none_part : (ys : List Record) → IsPart [] ys
none_part ys = record { some = λ any. absurd (omega arith); slice = record { fits = omega arith; same = λ i d lt. absurd (omega arith) } }

pub part_taken : (xs ys : List Record) (k : ℕ) → IsPart xs ys → IsPart (take k xs) ys
part_taken [] ys zero p = none_part ys
part_taken [] ys (suc k) p = none_part ys
part_taken (x ∷ xs) ys zero p = none_part ys
part_taken (x ∷ xs) ys (suc k) p = record { some = λ any. p.some (omega arith); slice = slice_taken (x ∷ xs) ys (x.id - 1) (suc k) p.slice }

pub no_record : Record
no_record = record { id = 0; session = 0; tx = record { client = 0; request = 0; mark = 0; reads = []; writes = []; payload = [] } }
