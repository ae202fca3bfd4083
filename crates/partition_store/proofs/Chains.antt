-- Segments in a row.
use Rattle.std.proofs.Common.{◌≡◌, ℕ, ◌+◌, ◌-◌, ◌<◌, ◌≤◌, List, [], ◌∷◌, ◌++◌, length, take, refl, sym, ◌∙◌, ap, subst, arith, append_assoc, length-append}
use Rattle.std.specs.Prelude.{min}
use Rattle.std.proofs.lemmas.List.{append-nil, length-take-le, take-append-le, take-take}
use Rattle.std.proofs.Math.Seq.{take-append-add}
use Rattle.tx_model.specs.declared.record.Record.{Record}
use Rattle.tx_model.specs.Contents.{records_in, records_of}
use Rattle.segment_store.specs.Index.{Index, count_of, IsIndexOf}
use Rattle.segment_store.proofs.Indexing.{index-count, index-frames, length-records_of, records_of-append}
use Rattle.tx_model.specs.Frames.{frames_in}
use Rattle.tx_model.specs.Framing.{record_len}
use Rattle.proto_model.specs.Held.{Contents}
use Rattle.partition_store.specs.Stores.{IsChain, AreClosed, records_by, AreCut}

-- ---- ids

pub chain-back : (from : ℕ) (xs : List Index) (i : Index) (to : ℕ) → IsChain from (xs ++ i ∷ []) to → IsChain from xs i.first × (i.first + count_of i ≡ to)
unfolding IsChain
chain-back from [] i to is = (sym is.0, subst (λ (n : ℕ). n + count_of i ≡ to) (sym is.0) is.1)
chain-back from (x ∷ xs) i to is = let back = chain-back (from + count_of x) xs i to is.1 in ((is.0, back.0), back.1)

pub chain-more : (from : ℕ) (xs : List Index) (i : Index) → IsChain from xs i.first → IsChain from (xs ++ i ∷ []) (i.first + count_of i)
unfolding IsChain
chain-more from [] i is = (sym is, ap (λ (n : ℕ). n + count_of i) is)
chain-more from (x ∷ xs) i is = (is.0, chain-more (from + count_of x) xs i is.1)

pub chain-rises : (from : ℕ) (xs : List Index) (to : ℕ) → IsChain from xs to → from ≤ to
unfolding IsChain
chain-rises from [] to is = omega (arith, is)
chain-rises from (x ∷ xs) to is = omega (arith, chain-rises (from + count_of x) xs to is.1)

-- ---- records

pub records_by-append : (c : Contents) (xs ys : List Index) → records_by c (xs ++ ys) ≡ records_by c xs ++ records_by c ys
unfolding records_by
records_by-append c [] ys = refl
records_by-append c (x ∷ xs) ys =
    ap (λ (rs : List Record). take (count_of x) (records_in (c x.file)) ++ rs) (records_by-append c xs ys)
    ∙ sym (append_assoc (take (count_of x) (records_in (c x.file))) (records_by c xs) (records_by c ys))

pub records_by-one : (c : Contents) (i : Index) → records_by c (i ∷ []) ≡ take (count_of i) (records_in (c i.file))
unfolding records_by
records_by-one c i = append-nil (take (count_of i) (records_in (c i.file)))

-- a file has the records that its segment counts
pub counted : (i : Index) (bytes : List ℕ) → IsIndexOf i bytes → count_of i ≤ length (records_in bytes)
counted i bytes index = omega (
  arith,
  index-count i bytes index,
  length-records_of index.frames,
  ap (λ (fs : List (List ℕ)). length (records_of fs)) (index-frames i bytes index),
  ap length (records_of-append index.frames (frames_in record_len index.rest)),
  length-append (records_of index.frames) (records_of (frames_in record_len index.rest)),
)

pub length-records_by : (c : Contents) (file from : ℕ) (xs : List Index) (to : ℕ) → AreClosed c file xs → IsChain from xs to → from + length (records_by c xs) ≡ to
unfolding IsChain records_by
length-records_by c file from [] to all is = omega (arith, is)
length-records_by c file from (x ∷ xs) to all is = omega (
  arith,
  length-records_by c file (from + count_of x) xs to all.1 is.1,
  length-append (take (count_of x) (records_in (c x.file))) (records_by c xs),
  length-take-le (count_of x) (records_in (c x.file)) (counted x (c x.file) all.0.index),
)

pub closed-append : (c : Contents) (file : ℕ) (xs ys : List Index) → AreClosed c file xs → AreClosed c file ys → AreClosed c file (xs ++ ys)
closed-append c file [] ys a b = b
closed-append c file (x ∷ xs) ys a b = (a.0, closed-append c file xs ys a.1 b)

pub closed-parts : (c : Contents) (file : ℕ) (xs ys : List Index) → AreClosed c file (xs ++ ys) → AreClosed c file xs × AreClosed c file ys
closed-parts c file [] ys all = (tt, all)
closed-parts c file (x ∷ xs) ys all = let rest = closed-parts c file xs ys all.1 in ((all.0, rest.0), rest.1)

pub closed-higher : (c : Contents) (file top : ℕ) (xs : List Index) → file ≤ top → AreClosed c file xs → AreClosed c top xs
closed-higher c file top [] below all = tt
closed-higher c file top (x ∷ xs) below all = (record { above = all.0.above; below = omega (arith, all.0.below, below); index = all.0.index }, closed-higher c file top xs below all.1)

-- ---- cutting

-- so far the records above len alone are gone, and these segments end before this id
pub record IsCutting (len : ℕ) (old now : List Index) (end : ℕ) : Type 0 where
  pub chain : IsChain 1 now end
  pub longer : len + 1 ≤ end
  pub closed : (c : Contents) (file : ℕ) → AreClosed c file old → AreClosed c file now
  pub records : (c : Contents) (file : ℕ) → AreClosed c file old → take len (records_by c now) ≡ take len (records_by c old)

pub cut-begins : (len : ℕ) (old : List Index) (end : ℕ) → IsChain 1 old end → len + 1 ≤ end → IsCutting len old old end
cut-begins len old end chain longer = record { chain = chain; longer = longer; closed = λ c file all. all; records = λ c file all. refl }

-- no segment is left
pub cut-none : (len : ℕ) (old now : List Index) (end : ℕ) → now ≡ [] → IsCutting len old now end → IsChain 1 now (len + 1) × AreCut len old now
unfolding IsChain records_by
cut-none len old now end none cutting =
    let is : IsCutting len old [] end = subst (λ (l : List Index). IsCutting len old l end) none cutting in
    let zero : len ≡ 0 = omega (arith, is.chain, is.longer) in
    subst (λ (l : List Index). IsChain 1 l (len + 1) × AreCut len old l) (sym none) (
      omega (arith, zero),
      record { closed = is.closed; records = λ c file all. subst (λ (n : ℕ). [] ≡ take n (records_by c old)) (sym zero) refl },
    )

module _ (len : ℕ) (old xs : List Index) (s : Index) (end : ℕ) (cutting : IsCutting len old (xs ++ s ∷ []) end) where
  back : IsChain 1 xs s.first × (s.first + count_of s ≡ end)
  back = chain-back 1 xs s end cutting.chain

  pub cut-first : end - count_of s ≡ s.first
  cut-first = omega (arith, back.1)

  pub cut-within : count_of s ≤ end
  cut-within = omega (arith, back.1)

  parts : (c : Contents) (file : ℕ) → AreClosed c file old → AreClosed c file xs × AreClosed c file (s ∷ [])
  parts c file all = closed-parts c file xs (s ∷ []) (cutting.closed c file all)

  long : (c : Contents) (file : ℕ) → AreClosed c file old → length (records_by c xs) + 1 ≡ s.first
  long c file all = omega (arith, length-records_by c file 1 xs s.first (parts c file all).0 back.0)

  -- the last segment has none of the records that stay
  pub cut-goes_on : len < s.first → IsCutting len old xs s.first
  cut-goes_on above = record {
    chain = back.0;
    longer = omega (arith, above);
    closed = λ c file all. (parts c file all).0;
    records = λ c file all.
        sym (take-append-le len (records_by c xs) (records_by c (s ∷ [])) (omega (arith, long c file all, above)))
        ∙ ap (λ (rs : List Record). take len rs) (sym (records_by-append c xs (s ∷ [])))
        ∙ cutting.records c file all;
  }

  -- it has some of them
  module _ (within : s.first ≤ len) (t : Index) (file_is : t.file ≡ s.file) (first : t.first ≡ s.first) (count : count_of t ≡ min (len + 1 - s.first) (count_of s)) (index : (bytes : List ℕ) → IsIndexOf s bytes → IsIndexOf t bytes) where
    fewer : count_of t + s.first ≡ len + 1
    fewer = grind (arith, count, back.1, cutting.longer, within)

    pub cut-chain : IsChain 1 (xs ++ t ∷ []) (len + 1)
    cut-chain = subst (λ (n : ℕ). IsChain 1 (xs ++ t ∷ []) n) (omega (arith, fewer, first)) (chain-more 1 xs t (subst (λ (n : ℕ). IsChain 1 xs n) (sym first) back.0))

    one_closed : (c : Contents) (file : ℕ) → AreClosed c file (s ∷ []) → AreClosed c file (t ∷ [])
    one_closed c file all = (
      record {
        above = omega (arith, file_is, all.0.above);
        below = omega (arith, file_is, all.0.below);
        index = subst (λ (q : ℕ). IsIndexOf t (c q)) (sym file_is) (index (c s.file) all.0.index);
      },
      tt,
    )

    some_records : (c : Contents) (file : ℕ) → AreClosed c file old → records_by c (xs ++ t ∷ []) ≡ take len (records_by c (xs ++ s ∷ []))
    some_records c file all =
        let m = length (records_by c xs) in
        let sum : len ≡ m + count_of t = omega (arith, fewer, long c file all) in
        let few : count_of t ≤ count_of s = omega (arith, fewer, back.1, cutting.longer) in
        records_by-append c xs (t ∷ [])
        ∙ ap (λ (rs : List Record). records_by c xs ++ rs) (records_by-one c t ∙ ap (λ (q : ℕ). take (count_of t) (records_in (c q))) file_is ∙ sym (take-take (count_of t) (count_of s) (records_in (c s.file)) few) ∙ ap (λ (rs : List Record). take (count_of t) rs) (sym (records_by-one c s)))
        ∙ sym (take-append-add (records_by c xs) (records_by c (s ∷ [])) (count_of t))
        ∙ ap (λ (n : ℕ). take n (records_by c xs ++ records_by c (s ∷ []))) (sym sum)
        ∙ ap (λ (rs : List Record). take len rs) (sym (records_by-append c xs (s ∷ [])))

    pub cut-done : AreCut len old (xs ++ t ∷ [])
    cut-done = record {
      closed = λ c file all. closed-append c file xs (t ∷ []) (parts c file all).0 (one_closed c file (parts c file all).1);
      records = λ c file all. some_records c file all ∙ cutting.records c file all;
    }
