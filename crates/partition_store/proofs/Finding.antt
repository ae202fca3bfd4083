-- Where the records of a log are read: the segment that has an id.
use Rattle.std.proofs.Common.{◌≡◌, inl, inr, ℕ, zero, suc, ◌+◌, ◌-◌, ◌<◌, ◌≤◌, Bool, true, false, List, [], ◌∷◌, ◌++◌, length, length-append, min, take, drop, get_or, refl, sym, ◌∙◌, ap, subst, arith, append_assoc, take-append-drop, drop-cons, leb, leb-true, leb-false, Option, Some, None, Result, Ok, Err, IfOk, IfSome}
use Rattle.std.specs.List.{AllByRecursion}
use Rattle.std.specs.List.Sorted.{IsPartitionedBy, IsPartitionPoint}
use Rattle.std.proofs.lemmas.Bool.{cases_lt}
use Rattle.std.specs.Option.{option_to_list}
use Rattle.std.specs.Prelude.{slice_get, nat_le, if◌then◌else◌}
use Rattle.std.proofs.lemmas.Bool.Decides.{nat_tests}
use Rattle.std.proofs.Math.Seq.{take-add}
use Rattle.std.proofs.lemmas.List.{get_or-drop, length-drop, drop-drop, drop_at, drop-append-le, drop-take, take-append-le, take-take, take_all, drop_all, take_min, append-nil, length-take-le}
use Rattle.std.proofs.lemmas.List.Sorted.{IsPartitionedBy-leb}
use Rattle.tx_model.specs.declared.record.Record.{Record}
use Rattle.tx_model.specs.Contents.{records_in}
use Rattle.segment_store.specs.Index.{Index, count_of, HasId, run_length, IsIndexOf}
use Rattle.proto_model.specs.Held.{Contents}
use Rattle.proto_model.proofs.TableLemmas.{slice_get-append}
use Rattle.partition_store.specs.Stores.{IsChain, AreInOrder, records_by}
use Rattle.partition_store.specs.Found.{AreIndexed, IsFound}
use Rattle.partition_store.proofs.Chains.{chain-more, records_by-append, records_by-one, counted}

-- ---- chains

-- a segment of a chain, and those around it
record SegmentParts (from : ℕ) (before : List Index) (i : Index) (behind : List Index) (to : ℕ) : Type 0 where
  pub front : IsChain from before i.first
  pub back : IsChain (i.first + count_of i) behind to

chain-parts : (from to : ℕ) (front : List Index) (i : Index) (behind : List Index) → IsChain from (front ++ i ∷ behind) to → SegmentParts from front i behind to
unfolding IsChain
chain-parts from to [] i behind chain = record { front = sym chain.0; back = subst (λ (n : ℕ). IsChain (n + count_of i) behind to) (sym chain.0) chain.1 }
chain-parts from to (x ∷ front) i behind chain =
    let rest = chain-parts (from + count_of x) to front i behind chain.1 in
    record { front = (chain.0, rest.front); back = rest.back }

-- those behind an id begin behind it
chain-behind : (len from to : ℕ) (is : List Index) → IsChain from is to → AllByRecursion (λ i. len < i.first) is → len < to → len < from
unfolding IsChain
chain-behind len from to [] chain all lt = omega (arith, chain)
chain-behind len from to (i ∷ is) chain all lt = omega (arith, chain.0, all.0)

-- the last segment goes on where the closed ones end
pub chain-last : (closed : List Index) (last : Option Index) (len : ℕ) → AreInOrder closed last len → IsChain 1 (closed ++ option_to_list last) (len + 1)
unfolding IsChain
chain-last closed None len order =
    let none : closed ++ [] ≡ [] = append-nil closed ∙ order.0 in
    subst (λ (is : List Index). IsChain 1 is (len + 1)) (sym none) (omega (arith, order.1))
chain-last closed (Some i) len order = subst (λ (n : ℕ). IsChain 1 (closed ++ i ∷ []) n) order.1 (chain-more 1 closed i order.0)

length-own : (i : Index) (bytes : List ℕ) → IsIndexOf i bytes → length (take (count_of i) (records_in bytes)) ≡ count_of i
length-own i bytes index = length-take-le (count_of i) (records_in bytes) (counted i bytes index)

-- a chain has as many records as its ids
length-indexed : (c : Contents) (from to : ℕ) (is : List Index) → AreIndexed c is → IsChain from is to → from + length (records_by c is) ≡ to
unfolding IsChain records_by
length-indexed c from to [] all chain = omega (arith, chain)
length-indexed c from to (i ∷ is) all chain =
    let own = take (count_of i) (records_in (c i.file)) in
    omega (arith, length-own i (c i.file) all.0, length-append own (records_by c is), length-indexed c (from + count_of i) to is all.1 chain.1)

-- ---- the first ids of a chain rise

chain-from : (from to : ℕ) (is : List Index) → IsChain from is to → (k : ℕ) (d : Index) → k < length is → from ≤ (get_or is k d).first
unfolding IsChain
chain-from from to [] chain k d lt = absurd (omega arith)
chain-from from to (i ∷ is) chain zero d lt = omega (arith, chain.0)
chain-from from to (i ∷ is) chain (suc k) d lt = omega (arith, chain-from (from + count_of i) to is chain.1 k d (omega arith))

rises : (from to : ℕ) (is : List Index) → IsChain from is to → (i j : ℕ) (d : Index) → i ≤ j → j < length is → (get_or is i d).first ≤ (get_or is j d).first
unfolding IsChain
rises from to [] chain i j d le lt = absurd (omega arith)
rises from to (x ∷ is) chain zero zero d le lt = omega arith
rises from to (x ∷ is) chain zero (suc j) d le lt = omega (arith, chain.0, chain-from (from + count_of x) to is chain.1 j d (omega arith))
rises from to (x ∷ is) chain (suc i) zero d le lt = absurd (omega arith)
rises from to (x ∷ is) chain (suc i) (suc j) d le lt = rises (from + count_of x) to is chain.1 i j d (omega arith) (omega arith)

pub chain-parted : (from to id : ℕ) (is : List Index) → IsChain from is to → IsPartitionedBy (λ i. leb i.first id) is
chain-parted from to id is chain = IsPartitionedBy-leb (λ (i : Index). i.first) is id (rises from to is chain)

-- ---- the last one that begins at an id or before it

all-from : {X : Type 0} (P : X → Type 0) (xs : List X) → ((k : ℕ) (d : X) → k < length xs → P (get_or xs k d)) → AllByRecursion P xs
all-from P [] each = tt
all-from P (x ∷ xs) each = (each 0 x (omega arith), all-from P xs (λ k d lt. each (suc k) d (omega arith)))

module _ (closed : List Index) (last : Index) (id k : ℕ) (some : 1 ≤ id) (chain : IsChain 1 closed last.first) (before : id < last.first)
    (bound : k ≤ length closed) (point : IsPartitionPoint (λ i. leb i.first id ≡ true) (λ i. leb i.first id ≡ false) closed k) where
  behind : AllByRecursion (λ i. id < i.first) (drop k closed)
  behind = all-from (λ i. id < i.first) (drop k closed) (λ j d lt.
      let there = get_or-drop k closed j d in
      let within : k + j < length closed = omega (arith, length-drop k closed, lt) in
      let above = leb-false (get_or closed (k + j) d).first id (point.1 (k + j) d (omega arith) within) in
      subst (λ (i : Index). id < i.first) (sym there) above)

  pub one_begins : 1 ≤ k
  one_begins = elim (cases_lt 0 k) [
    | inl is ↦ omega arith
    | inr not ↦
        let none : k ≡ 0 = omega (arith, not) in
        let all : AllByRecursion (λ i. id < i.first) closed = subst (λ (n : ℕ). AllByRecursion (λ i. id < i.first) (drop n closed)) none behind in
        absurd (omega (arith, some, chain-behind id 1 last.first closed chain all before))
  ]

  pub is_found : (i : Index) → i ≡ get_or closed (k - 1) i → IsFound (closed ++ last ∷ []) id i
  is_found i is =
      let j : ℕ = k - 1 in
      let next : suc j ≡ k = omega (arith, one_begins) in
      let within : j < length closed = omega (arith, one_begins) in
      let split : closed ≡ take j closed ++ i ∷ drop k closed =
      sym (take-append-drop j closed) ∙ ap (λ (l : List Index). take j closed ++ l) (drop-cons closed j i within)
      ∙ ap (λ (x : Index). take j closed ++ x ∷ drop (suc j) closed) (sym is) ∙ ap (λ (n : ℕ). take j closed ++ i ∷ drop n closed) next in
      let parts = chain-parts 1 last.first (take j closed) i (drop k closed) (subst (λ (l : List Index). IsChain 1 l last.first) split chain) in
      let lower : i.first ≤ id = subst (λ (x : Index). x.first ≤ id) (sym is) (leb-true (get_or closed j i).first id (point.0 j i (omega arith) (omega (arith, one_begins)))) in
      record {
        front = take j closed;
        back = drop k closed ++ last ∷ [];
        is = ap (λ (l : List Index). l ++ last ∷ []) split ∙ append_assoc (take j closed) (i ∷ drop k closed) (last ∷ []);
        has = (lower, chain-behind id (i.first + count_of i) last.first (drop k closed) parts.back behind before);
      }

-- ---- its records among those of the log

indexed-front : (c : Contents) (front : List Index) (i : Index) (back : List Index) → AreIndexed c (front ++ i ∷ back) → AreIndexed c front × IsIndexOf i (c i.file)
indexed-front c [] i back all = (tt, all.0)
indexed-front c (x ∷ front) i back all = let rest = indexed-front c front i back all.1 in ((all.0, rest.0), rest.1)

pub found-index : (c : Contents) (segments : List Index) (id : ℕ) (i : Index) → AreIndexed c segments → IsFound segments id i → IsIndexOf i (c i.file)
found-index c segments id i all found = (indexed-front c found.front i found.back (subst (λ (l : List Index). AreIndexed c l) found.is all)).1

slice_get-take : {A : Type 0} (n k : ℕ) (xs : List A) → k < n → slice_get (take n xs) k ≡ slice_get xs k
slice_get-take zero k xs lt = absurd (omega arith)
slice_get-take (suc n) k [] lt = refl
slice_get-take (suc n) zero (x ∷ xs) lt = refl
slice_get-take (suc n) (suc k) (x ∷ xs) lt = slice_get-take n k xs (omega arith)

slice_get-drop : {A : Type 0} (k : ℕ) (xs : List A) → slice_get (drop k xs) 0 ≡ slice_get xs k
slice_get-drop zero xs = refl
slice_get-drop (suc k) [] = refl
slice_get-drop (suc k) (x ∷ xs) = slice_get-drop k xs

module _ (c : Contents) (segments : List Index) (to id : ℕ) (i : Index) (chain : IsChain 1 segments to) (all : AreIndexed c segments) (found : IsFound segments id i) where
  abbrev held : List Record
  held = records_in (c i.file)

  abbrev own : List Record
  own = take (count_of i) held

  abbrev at : ℕ
  at = id - i.first

  index : IsIndexOf i (c i.file)
  index = found-index c segments id i all found

  -- from the id on
  from_id : drop (id - 1) (records_by c segments) ≡ drop at own ++ records_by c found.back
  from_id =
      let front = records_by c found.front in
      let back = records_by c found.back in
      let parts = chain-parts 1 to found.front i found.back (subst (λ (l : List Index). IsChain 1 l to) found.is chain) in
      let long = length-indexed c 1 i.first found.front (indexed-front c found.front i found.back (subst (λ (l : List Index). AreIndexed c l) found.is all)).0 parts.front in
      let these : records_by c segments ≡ front ++ (own ++ back) =
      ap (records_by c) found.is ∙ records_by-append c found.front (i ∷ found.back)
      ∙ ap (λ (rs : List Record). front ++ rs) (records_by-append c (i ∷ []) found.back ∙ ap (λ (rs : List Record). rs ++ back) (records_by-one c i)) in
      let place : id - 1 ≡ length front + at = omega (arith, long, found.has.0) in
      let within : at ≤ length own = omega (arith, length-own i (c i.file) index, found.has.0, found.has.1) in
      ap (λ (rs : List Record). drop (id - 1) rs) these ∙ ap (λ (n : ℕ). drop n (front ++ (own ++ back))) place
      ∙ sym (drop-drop at (length front) (front ++ (own ++ back))) ∙ ap (λ (rs : List Record). drop at rs) (drop_at front (own ++ back) (length front) refl)
      ∙ drop-append-le at own back within

  -- one of them
  pub found-record : (r : Record) → slice_get (records_in (c i.file)) (id - i.first) ≡ Some r → slice_get (records_by c segments) (id - 1) ≡ Some r
  found-record r is =
      let inside : at < count_of i = omega (arith, found.has.0, found.has.1) in
      let one : slice_get (drop at own) 0 ≡ Some r = slice_get-drop at own ∙ slice_get-take (count_of i) at held inside ∙ is in
      sym (slice_get-drop (id - 1) (records_by c segments)) ∙ ap (λ (rs : List Record). slice_get rs 0) from_id ∙ slice_get-append (drop at own) (records_by c found.back) 0 r one

  -- so many in a row
  pub found-run : (n : ℕ) → (id - i.first) + n ≤ count_of i → take n (drop (id - 1) (records_by c segments)) ≡ take n (drop (id - i.first) (records_in (c i.file)))
  found-run n fits =
      let back = records_by c found.back in
      let left : ℕ = count_of i - at in
      let whole : at + left ≡ count_of i = omega (arith, fits) in
      let mine : drop at own ≡ take left (drop at held) = ap (λ (m : ℕ). drop at (take m held)) (sym whole) ∙ drop-take at left held in
      let enough : n ≤ length (drop at own) = omega (arith, length-drop at own, length-own i (c i.file) index, fits) in
      ap (λ (rs : List Record). take n rs) from_id ∙ take-append-le n (drop at own) back enough
      ∙ ap (λ (rs : List Record). take n rs) mine ∙ take-take n left (drop at held) (omega (arith, fits))

-- what is true of each record that is answered
pub each_found : {T E : Type 0} (P Q : T → Type 0) (result : Result (Option T) E) → ((x : T) → P x → Q x) → IfOk result (λ found. IfSome found P) → IfOk result (λ found. IfSome found Q)
each_found P Q (Ok None) to has = tt
each_found P Q (Ok (Some x)) to has = to x has
each_found P Q (Err fault) to has = tt

-- ---- so many in a row

-- the segments have as many as the log is long
pub log-length : (c : Contents) (closed : List Index) (last : Option Index) (len : ℕ) → AreInOrder closed last len → AreIndexed c (closed ++ option_to_list last) → length (records_by c (closed ++ option_to_list last)) ≡ len
log-length c closed last len order all = omega (arith, length-indexed c 1 (len + 1) (closed ++ option_to_list last) all (chain-last closed last len order))

pub no-order : (closed : List Index) (last : Option Index) (len : ℕ) → last ≡ None → AreInOrder closed last len → len ≡ 0
no-order closed last len none order = (subst (λ (o : Option Index). AreInOrder closed o len) none order).1

-- none stands behind the last
pub none-behind : (log : List Record) (from max : ℕ) → length log < from → take max (drop (from - 1) log) ≡ []
none-behind log from max past = ap (λ (rs : List Record). take max rs) (drop_all (from - 1) log (omega (arith, past))) ∙ take_all max [] (omega arith)

-- as many as there are
pub all-left : (log : List Record) (len from max n : ℕ) → length log ≡ len → 1 ≤ from → from ≤ len → n ≡ min max ((len - from) + 1) → take n (drop (from - 1) log) ≡ take max (drop (from - 1) log)
all-left log len from max n long some within count =
    let rest = drop (from - 1) log in
    let left : length rest ≡ (len - from) + 1 = omega (arith, length-drop (from - 1) log, long, some, within) in
    ap (λ (k : ℕ). take k rest) (count ∙ ap (λ (k : ℕ). min max k) (sym left)) ∙ take_min max rest

-- how many of them its segment has
pub found-length : (i : Index) (id n : ℕ) → HasId i id → run_length i id n ≡ min n ((i.first + count_of i) - id)
found-length i id n has = pick (nat_le i.first id) (let lower : i.first ≤ id = has.0 in let is : nat_le i.first id ≡ true = grind (arith, nat_tests) in is)
  where
    pick : (b : Bool) → b ≡ true → (if b then min n ((i.first + count_of i) - id) else 0) ≡ min n ((i.first + count_of i) - id)
    pick b is = ap (λ (x : Bool). if x then min n ((i.first + count_of i) - id) else 0) is

module _ (log taken more now : List Record) (from next n : ℕ) (some : 1 ≤ from) (next_is : next ≡ from + length taken) (first : taken ≡ take (length taken) (drop (from - 1) log))
    (onward : more ≡ take n (drop (next - 1) log)) (long : length more ≡ n) (joins : now ≡ taken ++ more) where
  pub run-more : now ≡ take (length now) (drop (from - 1) log)
  run-more =
      let from_log = drop (from - 1) log in
      let at : next - 1 ≡ (from - 1) + length taken = omega (arith, next_is, some) in
      let total : length now ≡ length taken + n = omega (arith, ap length joins, length-append taken more, long) in
      let behind : more ≡ take n (drop (length taken) from_log) =
      onward ∙ ap (λ (k : ℕ). take n (drop k log)) at ∙ ap (λ (rs : List Record). take n rs) (sym (drop-drop (length taken) (from - 1) log)) in
      joins ∙ ap (λ (rs : List Record). rs ++ more) first ∙ ap (λ (rs : List Record). take (length taken) from_log ++ rs) behind
      ∙ sym (take-add (length taken) n from_log) ∙ ap (λ (k : ℕ). take k from_log) (sym total)
