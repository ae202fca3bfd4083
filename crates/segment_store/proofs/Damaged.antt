-- Where the records of bytes stop going on by one: the one place that can be damaged.
use Rattle.std.proofs.Common.{◌≡◌, ◌≢◌, inl, inr, ℕ, ◌+◌, ◌<◌, ◌≤◌, true, List, [], ◌∷◌, ◌++◌, length, take, drop, get_or, refl, sym, ◌∙◌, ap, subst, arith, length-append}
use Rattle.std.proofs.Math.Seq.{get_or-append_seam}
use Rattle.std.proofs.lemmas.Bool.{cases_lt}
use Rattle.std.proofs.lemmas.List.{take_at, length-take-le, take-take, get_or-take}
use Rattle.tx_model.specs.declared.record.Record.{Record}
use Rattle.tx_model.specs.Records.{ids_rise}
use Rattle.tx_model.specs.Frames.{joined, frames_in}
use Rattle.tx_model.specs.Framing.{record_len, framed_record}
use Rattle.tx_model.specs.Contents.{records_of, records_in, IsDamagedAt}
use Rattle.tx_model.proofs.RisingIds.{rise-ids, ids_rise-id, ids_rise-take}
use Rattle.tx_model.proofs.Walks.{frames_in-stop, frames_in-step}
use Rattle.segment_store.specs.Index.{Index, count_of, IsLoadable, IsIndexOf, IsWholeIndexOf, IsDamagedWithin, IsDamagedBehind}
use Rattle.segment_store.specs.Loading.{IsWrongNext}
use Rattle.segment_store.proofs.Indexing.{framing, index-count, index-rest, frames_behind, length-records_of, records_of-append, frame_front}

-- ---- what a damaged place says of the records

-- the frames of the bytes are those in front of the place, and then those from it on
pub frames-at : (first count : ℕ) (all : List ℕ) (at : ℕ) (damaged : IsDamagedAt first count all at) → frames_in record_len all ≡ damaged.front ++ frames_in record_len damaged.rest
frames-at first count all at damaged = frames_behind damaged.front damaged.rest all damaged.whole damaged.is

-- and so are the records
records-at : (first count : ℕ) (all : List ℕ) (at : ℕ) (damaged : IsDamagedAt first count all at) → records_in all ≡ records_of damaged.front ++ records_of (frames_in record_len damaged.rest)
records-at first count all at damaged = ap records_of (frames-at first count all at damaged) ∙ records_of-append damaged.front (frames_in record_len damaged.rest)

length-at : (first count : ℕ) (all : List ℕ) (at : ℕ) (damaged : IsDamagedAt first count all at) → length (records_in all) ≡ length damaged.front + length (records_of (frames_in record_len damaged.rest))
length-at first count all at damaged =
    let gs = records_of (frames_in record_len damaged.rest) in
    ap length (records-at first count all at damaged) ∙ length-append (records_of damaged.front) gs ∙ ap (λ (n : ℕ). n + length gs) (length-records_of damaged.front)

-- so many records are there, with their ids
pub record AreCounted (first count : ℕ) (records : List Record) : Type 0 where
  pub enough : count ≤ length records
  pub ids : ids_rise first (take count records) ≡ true

-- and the next, if there is one, has another id
record StopAt (first k : ℕ) (records : List Record) : Type 0 where
  counted : AreCounted first k records
  next : (other : Record) → k < length records → (get_or records k other).id ≢ first + k

-- what stands behind such a place
next-at : (front : List (List ℕ)) (rest : List ℕ) (other : Record) → 0 < record_len rest → get_or (records_of front ++ records_of (frames_in record_len rest)) (length front) other ≡ framed_record rest
next-at front rest other some =
    let step = frames_in-step record_len framing rest (omega (arith, some)) in
    let f : List ℕ = take (record_len rest) rest in
    let more = frames_in record_len (drop (record_len rest) rest) in
    ap (λ (gs : List (List ℕ)). get_or (records_of front ++ records_of gs) (length front) other) step
    ∙ ap (λ (k : ℕ). get_or (records_of front ++ framed_record f ∷ records_of more) k other) (sym (length-records_of front))
    ∙ get_or-append_seam (records_of front) (framed_record f) (records_of more) other ∙ (frame_front rest some).1

damaged-stop : (first count : ℕ) (all : List ℕ) (at : ℕ) (damaged : IsDamagedAt first count all at) → StopAt first (length damaged.front) (records_in all)
damaged-stop first count all at damaged =
    let gs = frames_in record_len damaged.rest in
    let same = records-at first count all at damaged in
    let long = length-at first count all at damaged in
    record {
      counted = record {
        enough = omega (arith, long);
        ids =
            subst (λ (rs : List Record). ids_rise first rs ≡ true)
            (sym (ap (λ (rs : List Record). take (length damaged.front) rs) same ∙ take_at (records_of damaged.front) (records_of gs) (length damaged.front) (length-records_of damaged.front)))
            damaged.ids;
      };
      next = λ other lt. elim damaged.wrong [
        | inl short ↦
            let none : length (records_of gs) ≡ 0 = ap (λ (hs : List (List ℕ)). length (records_of hs)) (frames_in-stop record_len framing damaged.rest short.0) in
            absurd (omega (arith, long, none, lt))
        | inr wrong ↦
            λ id.
            let there = ap (λ (rs : List Record). get_or rs (length damaged.front) other) same ∙ next-at damaged.front damaged.rest other wrong.0 in
            wrong.1 (sym (ap (λ (r : Record). r.id) there) ∙ id)
      ];
    }

-- more than that are not counted
no_more : (first k count : ℕ) (records : List Record) → StopAt first k records → k < count → ¬ AreCounted first count records
no_more first k count records stop lt counted =
    let long : length (take count records) ≡ count = length-take-le count records counted.enough in
    let within : count ≤ length records = counted.enough in
    let other : Record = framed_record [] in
    let id : (get_or (take count records) k other).id ≡ first + k = ids_rise-id first (take count records) k other counted.ids (omega arith) in
    stop.next other (omega arith) (ap (λ (r : Record). r.id) (sym (get_or-take count records k other lt)) ∙ id)

-- so there is one such number
one_stop : (first k k' : ℕ) (records : List Record) → StopAt first k records → StopAt first k' records → k ≡ k'
one_stop first k k' records stop other = elim (cases_lt k k') [
  | inl below ↦ absurd (no_more first k k' records stop below other.counted)
  | inr most ↦ elim (cases_lt k' k) [
    | inl above ↦ absurd (no_more first k' k records other above stop.counted)
    | inr same ↦ omega arith
  ]
]

-- ---- one place at most

module _ (first count count' : ℕ) (all : List ℕ) (at at' : ℕ) (one : IsDamagedAt first count all at) (other : IsDamagedAt first count' all at') where
  -- as many records stand in front of both
  pub damaged-front : length one.front ≡ length other.front
  damaged-front = one_stop first (length one.front) (length other.front) (records_in all) (damaged-stop first count all at one) (damaged-stop first count' all at' other)

  front_frames : (n : ℕ) (place : ℕ) (d : IsDamagedAt first n all place) → d.front ≡ take (length d.front) (frames_in record_len all)
  front_frames n place d =
      sym (ap (λ (gs : List (List ℕ)). take (length d.front) gs) (frames-at first n all place d) ∙ take_at d.front (frames_in record_len d.rest) (length d.front) refl)

  pub damaged-once : at ≡ at'
  damaged-once =
      let fronts : one.front ≡ other.front = front_frames count at one ∙ ap (λ (k : ℕ). take k (frames_in record_len all)) damaged-front ∙ sym (front_frames count' at' other) in
      one.place ∙ ap (λ (fs : List (List ℕ)). length (joined fs)) fronts ∙ sym other.place

-- and none where the records can be loaded
pub not_both : (first count : ℕ) (all : List ℕ) (at : ℕ) → IsLoadable first count (records_in all) → IsDamagedAt first count all at → ⊥
not_both first count all at load damaged =
    let gs = frames_in record_len damaged.rest in
    let same = records-at first count all at damaged in
    let long = length-at first count all at damaged in
    elim damaged.wrong [
      | inl short ↦
          let none : length (records_of gs) ≡ 0 = ap (λ (hs : List (List ℕ)). length (records_of hs)) (frames_in-stop record_len framing damaged.rest short.0) in
          omega (arith, long, none, load.enough, short.1)
      | inr wrong ↦
          let other : Record = framed_record [] in
          let some : 0 < length (records_of gs) = some_records damaged.rest wrong.0 in
          let there = ap (λ (rs : List Record). get_or rs (length damaged.front) other) same ∙ next-at damaged.front damaged.rest other wrong.0 in
          wrong.1 (sym (ap (λ (r : Record). r.id) there) ∙ ids_rise-id first (records_in all) (length damaged.front) other load.ids (omega (arith, long, some)))
    ]
  where
    some_records : (rest : List ℕ) → 0 < record_len rest → 0 < length (records_of (frames_in record_len rest))
    some_records rest some = subst (λ (gs : List (List ℕ)). 0 < length (records_of gs)) (sym (frames_in-step record_len framing rest (omega (arith, some)))) (omega arith)

-- ---- the counted records

pub loadable-counted : (first count : ℕ) (records : List Record) → IsLoadable first count records → AreCounted first count records
loadable-counted first count records load = record { enough = load.enough; ids = ids_rise-take first records count load.ids }

-- with a damaged place behind them they are all there
pub behind-counted : (first count : ℕ) (all : List ℕ) (at : ℕ) → IsDamagedBehind first count all at → AreCounted first count (records_in all)
behind-counted first count all at is =
    let counted = (damaged-stop first count all at is.damaged).counted in
    record {
      enough = omega (arith, is.behind, counted.enough);
      ids = subst (λ (rs : List Record). ids_rise first rs ≡ true) (take-take count (length is.damaged.front) (records_in all) is.behind) (ids_rise-take first (take (length is.damaged.front) (records_in all)) count counted.ids);
    }

-- but not all records have their ids
pub behind-wrong : (first count : ℕ) (all : List ℕ) (at : ℕ) → IsDamagedBehind first count all at → ids_rise first (records_in all) ≡ true → ⊥
behind-wrong first count all at is ids = not_both first count all at (record { ids = ids; enough = (behind-counted first count all at is).enough }) is.damaged

-- with a damaged place among them they are not
pub within-uncounted : (first count : ℕ) (all : List ℕ) (at : ℕ) → IsDamagedWithin first count all at → ¬ AreCounted first count (records_in all)
within-uncounted first count all at is = no_more first (length is.damaged.front) count (records_in all) (damaged-stop first count all at is.damaged) is.counted

-- ---- what was read

module _ (s : Index) (count : ℕ) (all : List ℕ) where
  -- with another id behind the segment's records
  abbrev wrong-at : (index : IsIndexOf s all) → IsWrongNext s (drop s.end all) → IsDamagedAt s.first count all s.end
  wrong-at index wrong = record {
    front = index.frames;
    rest = index.rest;
    whole = index.whole;
    is = index.is;
    ids = rise-ids s.first (records_of index.frames) index.ids;
    place = index.end;
    wrong =
        let here : drop s.end all ≡ index.rest = index-rest s all index in
        inr (
          subst (λ (l : List ℕ). 0 < record_len l) here wrong.some,
          λ same. wrong.other (ap (λ (l : List ℕ). (framed_record l).id) here ∙ same ∙ ap (λ (k : ℕ). s.first + k) (sym (index-count s all index))),
        );
  }

  pub wrong-within : IsIndexOf s all → IsWrongNext s (drop s.end all) → count_of s < count → IsDamagedWithin s.first count all s.end
  wrong-within index wrong few = record { damaged = wrong-at index wrong; counted = omega (arith, few, index-count s all index) }

  pub wrong-behind : IsIndexOf s all → IsWrongNext s (drop s.end all) → count ≤ count_of s → IsDamagedBehind s.first count all s.end
  wrong-behind index wrong enough = record { damaged = wrong-at index wrong; behind = omega (arith, enough, index-count s all index) }

  -- with too few records
  pub short-within : IsWholeIndexOf s all → count_of s < count → IsDamagedWithin s.first count all s.end
  short-within wholly few =
      let index = wholly.index in
      let counted : length index.frames < count = omega (arith, few, index-count s all index) in
      record {
        damaged = record {
          front = index.frames;
          rest = index.rest;
          whole = index.whole;
          is = index.is;
          ids = rise-ids s.first (records_of index.frames) index.ids;
          place = index.end;
          wrong = inl (ap record_len (sym (index-rest s all index)) ∙ wholly.none, counted);
        };
        counted = counted;
      }
