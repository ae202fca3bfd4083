-- Records read by their ids: the frames in a row from a place among the segment's on.
use Rattle.std.proofs.Common.{◌≡◌, inl, inr, ℕ, zero, suc, ◌+◌, ◌-◌, ◌<◌, ◌≤◌, min, List, [], ◌∷◌, ◌++◌, length, take, drop, get_or, Some, refl, sym, ◌∙◌, ap, subst, arith, append_assoc, length-append}
use Rattle.std.specs.Prelude.{slice_get, Bool, nat_le, if◌then◌else◌}
use Rattle.std.specs.List.{AllByRecursion}
use Rattle.std.proofs.lemmas.Bool.{cases_lt, cases_Bool}
use Rattle.std.proofs.lemmas.Bool.Decides.{nat_tests}
use Rattle.std.proofs.lemmas.List.{take_at, drop_at, take_all, take-map, drop-map, take-append-le, drop-append-le, length-take-le, length-take, length-drop, get_or_past, get_or-map}
use Rattle.std.proofs.lemmas.Option.{slice_get-get_or}
use Rattle.std.proofs.Math.Seq.{take-add, take-suc, drop-cons}
use Rattle.tx_model.specs.declared.record.Record.{Record}
use Rattle.tx_model.specs.Records.{RiseByOne}
use Rattle.tx_model.proofs.Batches.{RiseByOne-take, RiseByOne-drop, RiseByOne-id}
use Rattle.tx_model.specs.Framing.{record_len, framed_record}
use Rattle.tx_model.specs.Frames.{IsFrame, joined, frames_in}
use Rattle.tx_model.proofs.Walks.{joined-append}
use Rattle.tx_model.specs.Contents.{records_of, records_in}
use Rattle.segment_store.specs.Index.{Index, count_of, place_of, run_length, IsIndexOf}
use Rattle.segment_store.proofs.Indexing.{behind, all-take, all-drop, get_or-starts_of, split_at, index-count, index-frames, records_of-append, length-records_of}

get-all : {A : Type 0} (P : A → Type 0) (k : ℕ) (xs : List A) (d : A) → k < length xs → AllByRecursion P xs → P (get_or xs k d)
get-all P k [] d lt all = absurd (omega arith)
get-all P zero (x ∷ xs) d lt all = all.0
get-all P (suc k) (x ∷ xs) d lt all = get-all P k xs d (omega arith) all.1

-- ---- a run of frames in the file

module _ (s : Index) (all : List ℕ) (index : IsIndexOf s all) where
  place_is : (m : ℕ) → m ≤ count_of s → place_of s m ≡ length (joined (take m index.frames))
  place_is m le =
      let count = index-count s all index in
      elim (cases_lt m (length index.frames)) [
        | inl inner ↦ ap (λ (l : List ℕ). get_or l m s.end) index.starts ∙ get_or-starts_of m 0 index.frames s.end inner ∙ omega arith
        | inr last ↦ get_or_past s.starts m s.end (omega (arith, count, last)) ∙ index.end ∙ ap (λ (fs : List (List ℕ)). length (joined fs)) (sym (take_all m index.frames last))
      ]

  module _ (k n : ℕ) (fits : k + n ≤ count_of s) where
    abbrev run : List (List ℕ)
    run = take n (drop k index.frames)

    within : k + n ≤ length index.frames
    within = omega (arith, fits, index-count s all index)

    parts : all ≡ joined (take k index.frames) ++ (joined run ++ (joined (drop n (drop k index.frames)) ++ index.rest))
    parts =
        let front = joined (take k index.frames) in
        let back = joined (drop n (drop k index.frames)) in
        index.is ∙ ap (λ (l : List ℕ). l ++ index.rest) (split_at k index.frames) ∙ append_assoc front (joined (drop k index.frames)) index.rest
        ∙ ap (λ (l : List ℕ). front ++ (l ++ index.rest)) (split_at n (drop k index.frames))
        ∙ ap (λ (l : List ℕ). front ++ l) (append_assoc (joined run) back index.rest)

    ends : place_of s (k + n) ≡ place_of s k + length (joined run)
    ends =
        let front = joined (take k index.frames) in
        let longer : length (joined (take (k + n) index.frames)) ≡ length front + length (joined run) =
        ap (λ (fs : List (List ℕ)). length (joined fs)) (take-add k n index.frames) ∙ ap length (joined-append (take k index.frames) run) ∙ length-append front (joined run) in
        omega (arith, longer, place_is (k + n) fits, place_is k (omega (arith, fits)))

    -- what is read from its place on is the run
    pub run_read : (start len m : ℕ) (into : List ℕ) → start ≡ place_of s k → len ≡ place_of s (k + n) - start → length into ≡ len
        → m ≡ min len (length all - start) → take m into ≡ take m (drop start all) → into ≡ joined run
    run_read start len m into start_is len_is size count read =
        let front = joined (take k index.frames) in
        let more = joined (drop n (drop k index.frames)) ++ index.rest in
        let begins : start ≡ length front = start_is ∙ place_is k (omega (arith, fits)) in
        let long : length (joined run) ≡ len = omega (arith, ends, start_is, len_is) in
        let total : length all ≡ length front + (length (joined run) + length more) =
        ap length parts ∙ length-append front (joined run ++ more) ∙ ap (λ (j : ℕ). length front + j) (length-append (joined run) more) in
        let full : m ≡ length (joined run) = omega (arith, count, total, begins, long) in
        sym (take_all m into (omega (arith, full, long, size))) ∙ read
        ∙ ap (λ (l : List ℕ). take m (drop start l)) parts ∙ ap (λ (l : List ℕ). take m l) (drop_at front (joined run ++ more) start (sym begins))
        ∙ take_at (joined run) more m (sym full)

    pub run_whole : AllByRecursion (IsFrame record_len) run
    run_whole = all-take (IsFrame record_len) n (drop k index.frames) (all-drop (IsFrame record_len) k index.frames index.whole)

    pub run_long : length run ≡ n
    run_long = length-take-le n (drop k index.frames) (omega (arith, within, length-drop k index.frames))

    in_records : records_of run ≡ take n (drop k (records_of index.frames))
    in_records = sym (take-map framed_record n (drop k index.frames)) ∙ ap (λ (rs : List Record). take n rs) (sym (drop-map framed_record k index.frames))

    pub run_ids : RiseByOne (s.first + k) (records_of run)
    run_ids =
        let rs = records_of index.frames in
        subst (RiseByOne (s.first + k)) (sym in_records)
        (RiseByOne-take (s.first + k) (drop k rs) n (RiseByOne-drop s.first rs k (omega (arith, within, length-records_of index.frames)) index.ids))

    pub run_records : records_of run ≡ take n (drop k (records_in all))
    run_records =
        let rs = records_of index.frames in
        let more = records_of (frames_in record_len index.rest) in
        let same : records_in all ≡ rs ++ more = ap records_of (index-frames s all index) ∙ records_of-append index.frames (frames_in record_len index.rest) in
        let long = length-records_of index.frames in
        in_records ∙ sym (take-append-le n (drop k rs) more (omega (arith, within, long, length-drop k rs)))
        ∙ ap (λ (l : List Record). take n l) (sym (drop-append-le k rs more (omega (arith, within, long))))
        ∙ ap (λ (l : List Record). take n (drop k l)) (sym same)

-- ---- one of them

-- the frame at this place among them, and its record
pub record GotFrame (fs : List (List ℕ)) (k : ℕ) (bytes : List ℕ) : Type 0 where
  pub len : record_len bytes ≡ length (get_or fs k [])
  pub some : 0 < length (get_or fs k [])
  pub holds : framed_record bytes ≡ get_or (records_of fs) k (framed_record [])
  pub rest : drop (length (get_or fs k [])) bytes ≡ joined (drop (suc k) fs)

pub frame_at : (fs : List (List ℕ)) (k : ℕ) (bytes : List ℕ) → AllByRecursion (IsFrame record_len) fs → k < length fs → bytes ≡ joined (drop k fs) → GotFrame fs k bytes
frame_at fs k bytes whole lt is =
    let f = get_or fs k [] in
    let rest = joined (drop (suc k) fs) in
    let frame : IsFrame record_len f = get-all (IsFrame record_len) k fs [] lt whole in
    let here : bytes ≡ f ++ rest = is ∙ ap joined (drop-cons fs k [] lt) in
    record {
      len = ap record_len here ∙ (behind f rest frame).0;
      some = frame.some;
      holds = ap framed_record here ∙ (behind f rest frame).1 ∙ sym (get_or-map framed_record fs k [] (framed_record []) lt);
      rest = ap (λ (l : List ℕ). drop (length f) l) here ∙ drop_at f rest (length f) refl;
    }

-- the first of these records is the one at this place
first_of : (rs : List Record) (k : ℕ) (d : Record) → k < length rs → get_or (take 1 (drop k rs)) 0 d ≡ get_or rs k d
first_of rs k d lt = ap (λ (l : List Record). get_or (take 1 l) 0 d) (drop-cons rs k d lt)

module _ (s : Index) (all : List ℕ) (index : IsIndexOf s all) (k : ℕ) (lt : k < count_of s) (bytes : List ℕ) (is : bytes ≡ joined (take 1 (drop k index.frames))) where
  fits : k + 1 ≤ count_of s
  fits = omega (arith, lt)

  one : GotFrame (take 1 (drop k index.frames)) 0 bytes
  one = frame_at (take 1 (drop k index.frames)) 0 bytes (run_whole s all index k 1 fits) (omega (arith, run_long s all index k 1 fits)) is

  -- it is a frame, whose record has the id of this place
  pub got_id : (0 < record_len bytes) × ((framed_record bytes).id ≡ s.first + k)
  got_id =
      let long = length-records_of (take 1 (drop k index.frames)) in (
        omega (arith, one.len, one.some),
        ap (λ (r : Record). r.id) one.holds
            ∙ RiseByOne-id (s.first + k) (records_of (take 1 (drop k index.frames))) 0 (framed_record []) (run_ids s all index k 1 fits) (omega (arith, long, run_long s all index k 1 fits)) ∙ omega arith,
      )

  pub got_record : slice_get (records_in all) k ≡ Some (framed_record bytes)
  got_record =
      let rs = records_in all in
      let here = run_records s all index k 1 fits in
      let inside : k < length rs = omega (arith, ap length here, length-records_of (take 1 (drop k index.frames)), run_long s all index k 1 fits, length-take 1 (drop k rs), length-drop k rs) in
      slice_get-get_or rs k (framed_record []) inside
      ∙ ap (λ (r : Record). Some r) (sym (one.holds ∙ ap (λ (l : List Record). get_or l 0 (framed_record [])) here ∙ first_of rs k (framed_record []) inside))

-- how far a run goes
pub run_within : (s : Index) (from count : ℕ) → 0 < run_length s from count → (s.first ≤ from) × ((from - s.first) + run_length s from count ≤ count_of s)
run_within s from count some = elim (cases_Bool (nat_le s.first from)) [
  | inl is ↦ (
      let lower : s.first ≤ from = grind (arith, nat_tests) in
      let same : run_length s from count ≡ min count ((s.first + count_of s) - from) = ap (λ (b : Bool). if b then min count ((s.first + count_of s) - from) else 0) is in
      (lower, omega (arith, lower, same))
      )
  | inr not ↦ (
      let none : run_length s from count ≡ 0 = ap (λ (b : Bool). if b then min count ((s.first + count_of s) - from) else 0) not in
      absurd (omega (arith, none, some))
      )
]

-- ---- taken one by one

-- the records taken so far are the first of the frames', and the other frames are left
pub record IsTaken (fs : List (List ℕ)) (records : List Record) (rest : List ℕ) : Type 0 where
  pub front : records ≡ take (length records) (records_of fs)
  pub left : rest ≡ joined (drop (length records) fs)

pub taken_more : (fs : List (List ℕ)) (records now : List Record) (rest behind_it : List ℕ) (r : Record) → AllByRecursion (IsFrame record_len) fs → IsTaken fs records rest → length records < length fs
    → r ≡ framed_record rest → now ≡ records ++ r ∷ [] → behind_it ≡ drop (record_len rest) rest → IsTaken fs now behind_it
taken_more fs records now rest behind_it r whole taken lt is more left =
    let k = length records in
    let got = frame_at fs k rest whole lt taken.left in
    let longer : length now ≡ suc k = ap length more ∙ length-append records (r ∷ []) ∙ omega arith in
    let within : k < length (records_of fs) = omega (arith, lt, length-records_of fs) in
    record {
      front =
          more ∙ ap (λ (rs : List Record). rs ++ r ∷ []) taken.front ∙ ap (λ (x : Record). take k (records_of fs) ++ x ∷ []) (is ∙ got.holds)
          ∙ sym (take-suc (records_of fs) k (framed_record []) within) ∙ ap (λ (n : ℕ). take n (records_of fs)) (sym longer);
      left = left ∙ ap (λ (n : ℕ). drop n rest) got.len ∙ got.rest ∙ ap (λ (n : ℕ). joined (drop n fs)) (sym longer);
    }

-- no frame that goes on is missed
pub taken_next : (fs : List (List ℕ)) (records : List Record) (rest : List ℕ) (first : ℕ) → AllByRecursion (IsFrame record_len) fs → IsTaken fs records rest → length records < length fs → RiseByOne first (records_of fs)
    → (0 < record_len rest) × ((framed_record rest).id ≡ first + length records)
taken_next fs records rest first whole taken lt ids =
    let k = length records in
    let got = frame_at fs k rest whole lt taken.left in (
      omega (arith, got.len, got.some),
      ap (λ (r : Record). r.id) got.holds ∙ RiseByOne-id first (records_of fs) k (framed_record []) ids (omega (arith, lt, length-records_of fs)),
    )

-- none is left
pub taken_all : (fs : List (List ℕ)) (records : List Record) (rest : List ℕ) → IsTaken fs records rest → length fs ≤ length records → records ≡ records_of fs
taken_all fs records rest taken past = taken.front ∙ take_all (length records) (records_of fs) (omega (arith, past, length-records_of fs))

-- before the first
pub nothing_taken : (fs : List (List ℕ)) (bytes : List ℕ) → bytes ≡ joined fs → IsTaken fs [] bytes
nothing_taken fs bytes is = record { front = refl; left = is }
