-- Where records stand: one more, and some fewer.
use Rattle.std.proofs.Common.{◌≡◌, ℕ, zero, suc, ◌+◌, ◌-◌, ◌<◌, ◌≤◌, List, [], ◌∷◌, ◌++◌, length, take, drop, get_or, refl, sym, ◌∙◌, ap, subst, arith, append_assoc, length-append, take-append-drop}
use Rattle.std.specs.List.{AllByRecursion}
use Rattle.std.proofs.lemmas.List.{append-nil, map-append, length-map, drop_at, take-append-le, length-take-le, drop-drop, take_all}
use Rattle.tx_model.specs.declared.record.Record.{Record}
use Rattle.tx_model.specs.Records.{IsRecord, RiseByOne}
use Rattle.tx_model.proofs.Batches.{RiseByOne-append, RiseByOne-front}
use Rattle.tx_model.specs.Framing.{record_len, framed_record}
use Rattle.record_frame.proofs.FrontFrames.{record_len-within, record_len-alike, framed_record-alike}
use Rattle.tx_model.specs.Frames.{IsFrame, IsFraming, joined, frames_in}
use Rattle.tx_model.proofs.Walks.{joined-append, all-append, split, frames_in-joined}
use Rattle.tx_model.specs.Contents.{records_of}
use Rattle.segment_store.specs.Index.{Index, count_of, starts_of, IsIndexOf, IsNext}

-- ---- the framing of records

-- the frame at the front, by itself
pub frame_front : (bs : List ℕ) → 0 < record_len bs → (record_len (take (record_len bs) bs) ≡ record_len bs) × (framed_record (take (record_len bs) bs) ≡ framed_record bs)
frame_front bs some =
    let n = record_len bs in
    let f = take n bs in
    let long : length f ≡ n = length-take-le n bs (record_len-within bs) in
    let same : take n f ≡ take n bs = take_all n f (omega arith) in
    (record_len-alike bs f some (omega arith) same, framed_record-alike bs f some (omega arith) same)

-- what follows a frame doesn't matter
pub behind : (f rest : List ℕ) → IsFrame record_len f → (record_len (f ++ rest) ≡ length f) × (framed_record (f ++ rest) ≡ framed_record f)
behind f rest is =
    let whole : record_len f ≡ length f = is.whole in
    let some : 0 < record_len f = omega (arith, is.some) in
    let enough : record_len f ≤ length (f ++ rest) = omega (arith, length-append f rest) in
    let same : take (record_len f) (f ++ rest) ≡ take (record_len f) f = take-append-le (record_len f) f rest (omega arith) in
    (record_len-alike f (f ++ rest) some enough same ∙ whole, framed_record-alike f (f ++ rest) some enough same)

-- what follows the bytes doesn't matter to a frame that stands there whole and right
pub in-front : (bytes more : List ℕ) → 0 < record_len bytes → (record_len (bytes ++ more) ≡ record_len bytes) × (framed_record (bytes ++ more) ≡ framed_record bytes)
in-front bytes more some =
    let within : record_len bytes ≤ length bytes = record_len-within bytes in
    let enough : record_len bytes ≤ length (bytes ++ more) = omega (arith, length-append bytes more) in
    let same : take (record_len bytes) (bytes ++ more) ≡ take (record_len bytes) bytes = take-append-le (record_len bytes) bytes more within in
    (record_len-alike bytes (bytes ++ more) some enough same, framed_record-alike bytes (bytes ++ more) some enough same)

pub framing : IsFraming record_len
framing = record { fits = record_len-within; alone = λ f rest is. (behind f rest is).0; front = λ bs some. (frame_front bs some).0 }

pub first_frame : (bs : List ℕ) → 0 < record_len bs → IsFrame record_len (take (record_len bs) bs)
first_frame bs some =
    let long : length (take (record_len bs) bs) ≡ record_len bs = length-take-le (record_len bs) bs (record_len-within bs) in
    record { some = omega arith; whole = (frame_front bs some).0 ∙ sym long }

-- ---- lists

pub records_of-append : (fs gs : List (List ℕ)) → records_of (fs ++ gs) ≡ records_of fs ++ records_of gs
records_of-append fs gs = map-append framed_record fs gs

pub length-records_of : (fs : List (List ℕ)) → length (records_of fs) ≡ length fs
length-records_of fs = length-map fs framed_record

pub length-starts_of : (at : ℕ) (fs : List (List ℕ)) → length (starts_of at fs) ≡ length fs
unfolding starts_of
length-starts_of at [] = refl
length-starts_of at (f ∷ fs) = ap suc (length-starts_of (at + length f) fs)

pub starts_of-append : (at : ℕ) (fs gs : List (List ℕ)) → starts_of at (fs ++ gs) ≡ starts_of at fs ++ starts_of (at + length (joined fs)) gs
unfolding starts_of
starts_of-append at [] gs = ap (λ (n : ℕ). starts_of n gs) (omega arith)
starts_of-append at (f ∷ fs) gs =
    let place : (at + length f) + length (joined fs) ≡ at + length (f ++ joined fs) = omega (arith, length-append f (joined fs)) in
    ap (λ (l : List ℕ). at ∷ l) (starts_of-append (at + length f) fs gs ∙ ap (λ (n : ℕ). starts_of (at + length f) fs ++ starts_of n gs) place)

pub starts_of-one : (at : ℕ) (f : List ℕ) → starts_of at (f ∷ []) ≡ at ∷ []
unfolding starts_of
starts_of-one at f = refl

pub joined-one : (fs : List (List ℕ)) (f : List ℕ) → joined (fs ++ f ∷ []) ≡ joined fs ++ f
joined-one fs f = joined-append fs (f ∷ []) ∙ ap (λ (l : List ℕ). joined fs ++ l) (append-nil f)

pub rise_one : (id : ℕ) (r : Record) → IsRecord r → r.id ≡ id → RiseByOne id (r ∷ [])
unfolding RiseByOne
rise_one id r is same = (is, same, tt)

pub none_rise : (id : ℕ) → RiseByOne id []
unfolding RiseByOne
none_rise id = tt

-- ---- one more

-- no record yet
pub index-none : (file first : ℕ) (bytes : List ℕ) → IsIndexOf (record { file = file; first = first; starts = []; end = 0 }) bytes
unfolding starts_of
index-none file first bytes = record { frames = []; rest = bytes; whole = tt; is = refl; starts = refl; end = refl; ids = none_rise first }

-- what stands where the last frame ends
pub index-rest : (s : Index) (all : List ℕ) (index : IsIndexOf s all) → drop s.end all ≡ index.rest
index-rest s all index = ap (λ (l : List ℕ). drop s.end l) index.is ∙ drop_at (joined index.frames) index.rest s.end (sym index.end)

pub index-count : (s : Index) (all : List ℕ) (index : IsIndexOf s all) → count_of s ≡ length index.frames
index-count s all index = ap length index.starts ∙ length-starts_of 0 index.frames

-- one frame more
module _ (fs : List (List ℕ)) (rest : List ℕ) (some : 0 < record_len rest) where
  abbrev f : List ℕ
  f = take (record_len rest) rest

  one_more : joined (fs ++ f ∷ []) ≡ joined fs ++ f
  one_more = joined-one fs f

  pub more_is : joined fs ++ rest ≡ joined (fs ++ f ∷ []) ++ drop (record_len rest) rest
  more_is =
      ap (λ (l : List ℕ). joined fs ++ l) (sym (take-append-drop (record_len rest) rest)) ∙ sym (append_assoc (joined fs) f (drop (record_len rest) rest))
      ∙ ap (λ (l : List ℕ). l ++ drop (record_len rest) rest) (sym one_more)

  pub more_whole : AllByRecursion (IsFrame record_len) fs → AllByRecursion (IsFrame record_len) (fs ++ f ∷ [])
  more_whole whole = all-append (IsFrame record_len) fs (f ∷ []) whole (first_frame rest some, tt)

  pub more_long : length (joined (fs ++ f ∷ [])) ≡ length (joined fs) + record_len rest
  more_long =
      let long : length f ≡ record_len rest = length-take-le (record_len rest) rest (record_len-within rest) in
      omega (arith, long, ap length one_more, length-append (joined fs) f)

-- one record more
pub index-more : (s : Index) (len : ℕ) (all : List ℕ) → IsIndexOf s all → IsNext s len (drop s.end all) → IsIndexOf (record s { starts = s.starts ++ s.end ∷ []; end = s.end + len }) all
index-more s len all index next =
    let fs = index.frames in
    let rest = index.rest in
    let here : drop s.end all ≡ rest = index-rest s all index in
    let whole : record_len rest ≡ len = subst (λ (l : List ℕ). record_len l ≡ len) here next.whole in
    let some : 0 < record_len rest = omega (arith, next.some) in
    let f : List ℕ = take (record_len rest) rest in
    let says : framed_record f ≡ framed_record (drop s.end all) = (frame_front rest some).1 ∙ ap framed_record (sym here) in
    let place : s.first + count_of s ≡ s.first + length (records_of fs) = ap (λ (k : ℕ). s.first + k) (index-count s all index ∙ sym (length-records_of fs)) in
    let one : RiseByOne (s.first + length (records_of fs)) (framed_record f ∷ []) =
    rise_one _ (framed_record f) (subst IsRecord (sym says) next.valid) (ap (λ (r : Record). r.id) says ∙ next.id ∙ place) in
    record {
      frames = fs ++ f ∷ [];
      rest = drop (record_len rest) rest;
      whole = more_whole fs rest some index.whole;
      is = index.is ∙ more_is fs rest some;
      starts =
          ap (λ (l : List ℕ). l ++ s.end ∷ []) index.starts ∙ ap (λ (k : ℕ). starts_of 0 fs ++ k ∷ []) index.end
          ∙ ap (λ (l : List ℕ). starts_of 0 fs ++ l) (sym (starts_of-one (length (joined fs)) f)) ∙ sym (starts_of-append 0 fs (f ∷ []) ∙ ap (λ (k : ℕ). starts_of 0 fs ++ starts_of k (f ∷ [])) (omega arith));
      end = omega (arith, index.end, whole, more_long fs rest some);
      ids = subst (RiseByOne s.first) (sym (records_of-append fs (f ∷ []))) (RiseByOne-append s.first (records_of fs) (framed_record f ∷ []) index.ids one);
    }

-- ---- the record at a place

pub all-take : {A : Type 0} (P : A → Type 0) (k : ℕ) (xs : List A) → AllByRecursion P xs → AllByRecursion P (take k xs)
all-take P zero xs all = tt
all-take P (suc k) [] all = tt
all-take P (suc k) (x ∷ xs) all = (all.0, all-take P k xs all.1)

pub all-drop : {A : Type 0} (P : A → Type 0) (k : ℕ) (xs : List A) → AllByRecursion P xs → AllByRecursion P (drop k xs)
all-drop P zero xs all = all
all-drop P (suc k) [] all = tt
all-drop P (suc k) (x ∷ xs) all = all-drop P k xs all.1

take-starts_of : (k at : ℕ) (fs : List (List ℕ)) → take k (starts_of at fs) ≡ starts_of at (take k fs)
unfolding starts_of
take-starts_of zero at fs = refl
take-starts_of (suc k) at [] = refl
take-starts_of (suc k) at (f ∷ fs) = ap (λ (l : List ℕ). at ∷ l) (take-starts_of k (at + length f) fs)

pub get_or-starts_of : (k at : ℕ) (fs : List (List ℕ)) (d : ℕ) → k < length fs → get_or (starts_of at fs) k d ≡ at + length (joined (take k fs))
unfolding starts_of
get_or-starts_of k at [] d lt = absurd (omega arith)
get_or-starts_of zero at (f ∷ fs) d lt = omega arith
get_or-starts_of (suc k) at (f ∷ fs) d lt =
    omega (arith, get_or-starts_of k (at + length f) fs d (omega arith), length-append f (joined (take k fs)))

pub split_at : (k : ℕ) (fs : List (List ℕ)) → joined fs ≡ joined (take k fs) ++ joined (drop k fs)
split_at k fs = ap joined (sym (take-append-drop k fs)) ∙ joined-append (take k fs) (drop k fs)

-- the first records alone
pub index-close : (s : Index) (all : List ℕ) (len end : ℕ) → len < count_of s → end ≡ get_or s.starts len end → IsIndexOf s all → IsIndexOf (record s { starts = take len s.starts; end = end }) all
index-close s all len end lt end_is index =
    let fs = index.frames in
    let few : len < length fs = omega (arith, index-count s all index) in
    let cut : records_of fs ≡ records_of (take len fs) ++ records_of (drop len fs) = ap records_of (sym (take-append-drop len fs)) ∙ records_of-append (take len fs) (drop len fs) in
    record {
      frames = take len fs;
      rest = joined (drop len fs) ++ index.rest;
      whole = all-take (IsFrame record_len) len fs index.whole;
      is = index.is ∙ ap (λ (l : List ℕ). l ++ index.rest) (split_at len fs) ∙ append_assoc (joined (take len fs)) (joined (drop len fs)) index.rest;
      starts = ap (λ (l : List ℕ). take len l) index.starts ∙ take-starts_of len 0 fs;
      end = omega (arith, end_is, ap (λ (l : List ℕ). get_or l len end) index.starts, get_or-starts_of len 0 fs end few);
      ids = RiseByOne-front s.first (records_of (take len fs)) (records_of (drop len fs)) (subst (RiseByOne s.first) cut index.ids);
    }

-- behind whole and right frames go on those of the rest
pub frames_behind : (fs : List (List ℕ)) (rest all : List ℕ) → AllByRecursion (IsFrame record_len) fs → all ≡ joined fs ++ rest → frames_in record_len all ≡ fs ++ frames_in record_len rest
frames_behind fs rest all whole is =
    let parts = split record_len framing rest in
    let gs = frames_in record_len rest in
    let same : all ≡ joined (fs ++ gs) ++ parts.rest =
    is ∙ ap (λ (l : List ℕ). joined fs ++ l) parts.is ∙ sym (append_assoc (joined fs) (joined gs) parts.rest) ∙ ap (λ (l : List ℕ). l ++ parts.rest) (sym (joined-append fs gs)) in
    ap (frames_in record_len) same ∙ frames_in-joined record_len framing (fs ++ gs) parts.rest (all-append (IsFrame record_len) fs gs whole parts.frames) parts.none

-- the frames of the file are those of the index, and perhaps more
pub index-frames : (s : Index) (all : List ℕ) (index : IsIndexOf s all) → frames_in record_len all ≡ index.frames ++ frames_in record_len index.rest
index-frames s all index = frames_behind index.frames index.rest all index.whole index.is

-- the same places, first id and end make the same index
pub index-as : (s t : Index) (bytes : List ℕ) → t.first ≡ s.first → t.starts ≡ s.starts → t.end ≡ s.end → IsIndexOf s bytes → IsIndexOf t bytes
index-as s t bytes first starts end index = record {
  frames = index.frames;
  rest = index.rest;
  whole = index.whole;
  is = index.is;
  starts = starts ∙ index.starts;
  end = end ∙ index.end;
  ids = subst (λ (n : ℕ). RiseByOne n (records_of index.frames)) (sym first) index.ids;
}

-- ---- on through the bytes that were read

pub further : (bytes rest : List ℕ) (old now n : ℕ) → old ≤ now → rest ≡ drop (now - old) bytes → drop n rest ≡ drop ((now + n) - old) bytes
further bytes rest old now n later rest_is =
    let there : (now - old) + n ≡ (now + n) - old = omega arith in
    ap (λ (l : List ℕ). drop n l) rest_is ∙ drop-drop n (now - old) bytes ∙ ap (λ (k : ℕ). drop k bytes) there
