-- Damaged places of one file: there is one at most, and there is one where the ids of the records are not in order.
use Rattle.std.proofs.Common.{◌≡◌, ◌≢◌, ◌⊎◌, inl, inr, ℕ, ◌+◌, ◌<◌, ◌≤◌, true, List, [], ◌∷◌, ◌++◌, length, take, drop, refl, sym, ◌∙◌, ap, subst, arith, append_assoc, length-append}
use Rattle.std.specs.Prelude.{◌==◌}
use Rattle.std.specs.List.{AllByRecursion}
use Rattle.std.proofs.lemmas.Bool.{cases_eq, cases_lt, and_from, eq-eqb}
use Rattle.std.proofs.lemmas.List.{append-nil, map-append, length-map, take-append-le, take-append-drop, take-take}
use Rattle.std.proofs.Math.Seq.{take-append-add}
use Rattle.tx_model.specs.declared.record.Record.{Record}
use Rattle.tx_model.specs.Records.{ids_rise}
use Rattle.tx_model.specs.Frames.{IsFrame, joined, frames_in}
use Rattle.tx_model.specs.Framing.{record_len, framed_record}
use Rattle.tx_model.specs.Contents.{records_of, records_in, IsDamagedAt}
use Rattle.tx_model.proofs.RisingIds.{none-rise, ids_rise-append, ids_rise-back, ids_rise-head, ids_rise-take}
use Rattle.tx_model.proofs.Walks.{split, joined-append, all-append, frames_in-joined, frames_in-stop, frames_in-step, first_frame}
use Rattle.tx_model.proofs.RecordFrames.{record_framing, framed_record-alone}

-- ---- two fronts of one list

pub data Compared {A : Type 0} (xs ys more_x more_y : List A) : Type 0 where
  same : xs ≡ ys → more_x ≡ more_y → Compared xs ys more_x more_y
  longer : (y : A) (between : List A) → ys ≡ xs ++ y ∷ between → more_x ≡ y ∷ between ++ more_y → Compared xs ys more_x more_y
  shorter : (x : A) (between : List A) → xs ≡ ys ++ x ∷ between → more_y ≡ x ∷ between ++ more_x → Compared xs ys more_x more_y

heads : {A : Type 0} (x y : A) (xs ys : List A) → x ∷ xs ≡ y ∷ ys → (x ≡ y) × (xs ≡ ys)
heads x y xs ys e = (cc, cc)

pub compared : {A : Type 0} (xs ys more_x more_y : List A) → xs ++ more_x ≡ ys ++ more_y → Compared xs ys more_x more_y
compared [] [] more_x more_y e = same refl e
compared [] (y ∷ ys) more_x more_y e = longer y ys refl e
compared (x ∷ xs) [] more_x more_y e = shorter x xs refl (sym e)
compared (x ∷ xs) (y ∷ ys) more_x more_y e =
    let parts = heads x y (xs ++ more_x) (ys ++ more_y) e in
    elim (compared xs ys more_x more_y parts.1) [
      | same a b ↦ same (ap (λ (l : List _). x ∷ l) a ∙ ap (λ z. z ∷ ys) parts.0) b
      | longer z between a b ↦ longer z between (ap (λ (l : List _). y ∷ l) a ∙ ap (λ w. w ∷ xs ++ z ∷ between) (sym parts.0)) b
      | shorter z between a b ↦ shorter z between (ap (λ (l : List _). x ∷ l) a ∙ ap (λ w. w ∷ ys ++ z ∷ between) parts.0) b
    ]

-- ---- the frames in front of a damaged place, and behind it

pub length-records : (fs : List (List ℕ)) → length (records_of fs) ≡ length fs
length-records fs = length-map fs framed_record

-- frames that stand in front of bytes
pub frames-front : (front : List (List ℕ)) (rest : List ℕ) → AllByRecursion (IsFrame record_len) front → frames_in record_len (joined front ++ rest) ≡ front ++ frames_in record_len rest
frames-front front rest whole =
    let behind = split record_len record_framing rest in
    let gs = frames_in record_len rest in
    let is : joined front ++ rest ≡ joined (front ++ gs) ++ behind.rest = ap (λ (l : List ℕ). joined front ++ l) behind.is ∙ sym (append_assoc (joined front) (joined gs) behind.rest) ∙ ap (λ (l : List ℕ). l ++ behind.rest) (sym (joined-append front gs)) in
    ap (frames_in record_len) is ∙ frames_in-joined record_len record_framing (front ++ gs) behind.rest (all-append (IsFrame record_len) front gs whole behind.frames) behind.none

module _ (first count : ℕ) (bytes : List ℕ) (at : ℕ) (damaged : IsDamagedAt first count bytes at) where
  abbrev behind : List (List ℕ)
  behind = frames_in record_len damaged.rest

  pub damaged-frames : frames_in record_len bytes ≡ damaged.front ++ frames_in record_len damaged.rest
  damaged-frames = ap (frames_in record_len) damaged.is ∙ frames-front damaged.front damaged.rest damaged.whole

  pub damaged-records : records_in bytes ≡ records_of damaged.front ++ records_of (frames_in record_len damaged.rest)
  damaged-records = ap records_of damaged-frames ∙ map-append framed_record damaged.front (frames_in record_len damaged.rest)

  -- the frame behind, if there is one, has a record with another id
  pub not_next : (f : List ℕ) (more : List (List ℕ)) → frames_in record_len damaged.rest ≡ f ∷ more → (framed_record f).id ≡ first + length damaged.front → ⊥
  not_next f more is next = elim damaged.wrong [
    | inl none ↦ absurd (let gone : frames_in record_len damaged.rest ≡ [] = frames_in-stop record_len record_framing damaged.rest none.0 in cc)
    | inr other ↦
        let some : record_len damaged.rest ≢ 0 = omega (arith, other.0) in
        let step = frames_in-step record_len record_framing damaged.rest some in
        let head : take (record_len damaged.rest) damaged.rest ≡ f = (heads _ _ _ _ (sym step ∙ is)).0 in
        let frame : IsFrame record_len (take (record_len damaged.rest) damaged.rest) = first_frame record_len record_framing damaged.rest some in
        let same : framed_record damaged.rest ≡ framed_record f = sym (ap framed_record (take-append-drop (record_len damaged.rest) damaged.rest)) ∙ framed_record-alone (take (record_len damaged.rest) damaged.rest) (drop (record_len damaged.rest) damaged.rest) frame ∙ ap framed_record head in
        other.1 (ap (λ (r : Record). r.id) same ∙ next)
  ]

  -- and where there is none, too few records stand in front
  pub none_next : frames_in record_len damaged.rest ≡ [] → length damaged.front < count
  none_next is = elim damaged.wrong [
    | inl none ↦ none.1
    | inr other ↦
        let some : record_len damaged.rest ≢ 0 = omega (arith, other.0) in
        absurd (let step = frames_in-step record_len record_framing damaged.rest some in cc)
  ]

-- ---- one place

-- the id of a record behind others
id_behind : (first : ℕ) (front : List (List ℕ)) (f : List ℕ) (more : List (List ℕ)) → ids_rise first (records_of front ++ framed_record f ∷ records_of more) ≡ true → (framed_record f).id ≡ first + length front
id_behind first front f more ids =
    ids_rise-head (first + length (records_of front)) (framed_record f) (records_of more) (ids_rise-back first (records_of front) (framed_record f ∷ records_of more) ids) ∙ ap (λ (n : ℕ). first + n) (length-records front)

id_within : (first : ℕ) (front : List (List ℕ)) (f : List ℕ) (more all : List (List ℕ)) → all ≡ front ++ f ∷ more → ids_rise first (records_of all) ≡ true → (framed_record f).id ≡ first + length front
id_within first front f more all is ids =
    id_behind first front f more (subst (λ (rs : List Record). ids_rise first rs ≡ true) (ap records_of is ∙ map-append framed_record front (f ∷ more)) ids)

pub one_place : (first count : ℕ) (bytes : List ℕ) (a b : ℕ) → IsDamagedAt first count bytes a → IsDamagedAt first count bytes b → a ≡ b
one_place first count bytes a b one two =
    elim (compared one.front two.front (frames_in record_len one.rest) (frames_in record_len two.rest) (sym (damaged-frames first count bytes a one) ∙ damaged-frames first count bytes b two)) [
      | same fronts rests ↦ one.place ∙ ap (λ (fs : List (List ℕ)). length (joined fs)) fronts ∙ sym two.place
      | longer f between front rest ↦ absurd (not_next first count bytes a one f (between ++ frames_in record_len two.rest) rest (id_within first one.front f between two.front front two.ids))
      | shorter f between front rest ↦ absurd (not_next first count bytes b two f (between ++ frames_in record_len one.rest) rest (id_within first two.front f between one.front front one.ids))
    ]

-- ---- records that are in order

data IsList {A : Type 0} (xs : List A) : Type 0 where
  none : xs ≡ [] → IsList xs
  some : (y : A) (ys : List A) → xs ≡ y ∷ ys → IsList xs

list_cases : {A : Type 0} (xs : List A) → IsList xs
list_cases [] = none refl
list_cases (x ∷ xs) = some x xs refl

module _ (first count : ℕ) (bytes : List ℕ) (at : ℕ) (enough : count ≤ length (records_in bytes)) (damaged : IsDamagedAt first count bytes at) where
  records_none : frames_in record_len damaged.rest ≡ [] → length (records_in bytes) ≡ length damaged.front
  records_none gone =
      ap length (damaged-records first count bytes at damaged ∙ ap (λ (fs : List (List ℕ)). records_of damaged.front ++ records_of fs) gone ∙ append-nil (records_of damaged.front)) ∙ length-records damaged.front

  records_some : (f : List ℕ) (more : List (List ℕ)) → frames_in record_len damaged.rest ≡ f ∷ more → records_in bytes ≡ records_of damaged.front ++ framed_record f ∷ records_of more
  records_some f more is = damaged-records first count bytes at damaged ∙ ap (λ (fs : List (List ℕ)). records_of damaged.front ++ records_of fs) is

  -- not all of them
  pub not_in_order : ids_rise first (records_in bytes) ≡ true → ⊥
  not_in_order ids = elim (list_cases (frames_in record_len damaged.rest)) [
    | none gone ↦ omega (arith, none_next first count bytes at damaged gone, records_none gone, enough)
    | some f more is ↦ not_next first count bytes at damaged f more is (id_behind first damaged.front f more (subst (λ (rs : List Record). ids_rise first rs ≡ true) (records_some f more is) ids))
  ]

  -- nor those that are counted, where the place is one of theirs
  pub not_counted : ids_rise first (take count (records_in bytes)) ≡ true → length damaged.front < count → ⊥
  not_counted ids few = elim (list_cases (frames_in record_len damaged.rest)) [
    | none gone ↦ omega (arith, few, records_none gone, enough)
    | some f more is ↦
        let fs = records_of damaged.front in
        let n : length fs + 1 ≤ count = omega (arith, few, length-records damaged.front) in
        let seen : take (length fs + 1) (take count (records_in bytes)) ≡ fs ++ framed_record f ∷ [] =
        take-take (length fs + 1) count (records_in bytes) n ∙ ap (take (length fs + 1)) (records_some f more is) ∙ take-append-add fs (framed_record f ∷ records_of more) 1 in
        not_next first count bytes at damaged f more is (id_behind first damaged.front f [] (subst (λ (rs : List Record). ids_rise first rs ≡ true) seen (ids_rise-take first (take count (records_in bytes)) (length fs + 1) ids)))
  ]

-- ---- where there is a damaged place

-- the records are in order, or one is not
data Ordered (first : ℕ) (frames : List (List ℕ)) : Type 0 where
  in_order : ids_rise first (records_of frames) ≡ true → Ordered first frames
  wrong : (front : List (List ℕ)) (f : List ℕ) (more : List (List ℕ)) → frames ≡ front ++ f ∷ more → ids_rise first (records_of front) ≡ true → (framed_record f).id ≢ first + length front → Ordered first frames

one_id : (id : ℕ) (r : Record) → r.id ≡ id → ids_rise id (r ∷ []) ≡ true
unfolding ids_rise
one_id id r is = and_from (r.id == id) true (eq-eqb r.id id is) refl

ordered_from : (first : ℕ) (fs gs : List (List ℕ)) → ids_rise first (records_of fs) ≡ true → Ordered first (fs ++ gs)
ordered_from first fs [] ids = in_order (subst (λ (hs : List (List ℕ)). ids_rise first (records_of hs) ≡ true) (sym (append-nil fs)) ids)
ordered_from first fs (g ∷ gs) ids = elim (cases_eq (framed_record g).id (first + length fs)) [
  | inl next ↦
      let longer : ids_rise first (records_of (fs ++ g ∷ [])) ≡ true = subst (λ (rs : List Record). ids_rise first rs ≡ true) (sym (map-append framed_record fs (g ∷ [])))
      (ids_rise-append first (records_of fs) (framed_record g ∷ []) ids (one_id (first + length (records_of fs)) (framed_record g) (next ∙ ap (λ (n : ℕ). first + n) (sym (length-records fs))))) in
      subst (Ordered first) (append_assoc fs (g ∷ []) gs) (ordered_from first (fs ++ g ∷ []) gs longer)
  | inr other ↦ wrong fs g gs refl ids other
]

ordered : (first : ℕ) (frames : List (List ℕ)) → Ordered first frames
ordered first frames = ordered_from first [] frames (none-rise first)

all_front : {A : Type 0} (P : A → Type 0) (xs : List A) (y : A) (ys : List A) → AllByRecursion P (xs ++ y ∷ ys) → AllByRecursion P xs × P y
all_front P [] y ys all = (tt, all.0)
all_front P (x ∷ xs) y ys all = let later = all_front P xs y ys all.1 in ((all.0, later.0), later.1)

-- the place of the record that is not in order
wrong_at : (first count : ℕ) (bytes : List ℕ) (front : List (List ℕ)) (f : List ℕ) (more : List (List ℕ)) → frames_in record_len bytes ≡ front ++ f ∷ more → ids_rise first (records_of front) ≡ true → (framed_record f).id ≢ first + length front
    → (damaged : IsDamagedAt first count bytes (length (joined front))) × (damaged.front ≡ front)
wrong_at first count bytes front f more is ids other =
    let parts = split record_len record_framing bytes in
    let whole = all_front (IsFrame record_len) front f more (subst (λ (fs : List (List ℕ)). AllByRecursion (IsFrame record_len) fs) is parts.frames) in
    let rest = f ++ (joined more ++ parts.rest) in
    let frame : IsFrame record_len f = whole.1 in
    let len : record_len rest ≡ length f = record_framing.alone f (joined more ++ parts.rest) frame in (
      record {
        front = front;
        rest = rest;
        whole = whole.0;
        is = parts.is ∙ ap (λ (fs : List (List ℕ)). joined fs ++ parts.rest) is ∙ ap (λ (l : List ℕ). l ++ parts.rest) (joined-append front (f ∷ more))
            ∙ append_assoc (joined front) (f ++ joined more) parts.rest ∙ ap (λ (l : List ℕ). joined front ++ l) (append_assoc f (joined more) parts.rest);
        ids = ids;
        place = refl;
        wrong = inr (omega (arith, len, frame.some), λ next. other (ap (λ (r : Record). r.id) (sym (framed_record-alone f (joined more ++ parts.rest) frame)) ∙ next));
      },
      refl,
    )

-- the place behind all of them, where one more is counted
short_at : (first count : ℕ) (bytes : List ℕ) → ids_rise first (records_in bytes) ≡ true → length (records_in bytes) < count
    → (damaged : IsDamagedAt first count bytes (length (joined (frames_in record_len bytes)))) × (damaged.front ≡ frames_in record_len bytes)
short_at first count bytes ids few =
    let parts = split record_len record_framing bytes in (
      record {
        front = frames_in record_len bytes;
        rest = parts.rest;
        whole = parts.frames;
        is = parts.is;
        ids = ids;
        place = refl;
        wrong = inl (parts.none, omega (arith, few, length-records (frames_in record_len bytes)));
      },
      refl,
    )

-- one of the counted records is missing or has another id
pub record HasMissing (first count : ℕ) (bytes : List ℕ) : Type 0 where
  pub at : ℕ
  pub damaged : IsDamagedAt first count bytes at
  pub few : length damaged.front < count

-- behind them one has another id
pub record HasWrongTail (first count : ℕ) (bytes : List ℕ) : Type 0 where
  pub at : ℕ
  pub damaged : IsDamagedAt first count bytes at
  pub many : count ≤ length damaged.front

module _ (first count : ℕ) (bytes : List ℕ) where
  frames_long : (front : List (List ℕ)) (f : List ℕ) (more : List (List ℕ)) → frames_in record_len bytes ≡ front ++ f ∷ more → records_in bytes ≡ records_of front ++ framed_record f ∷ records_of more
  frames_long front f more is = ap records_of is ∙ map-append framed_record front (f ∷ more)

  pub counted_or_missing : ((count ≤ length (records_in bytes)) × (ids_rise first (take count (records_in bytes)) ≡ true)) ⊎ HasMissing first count bytes
  counted_or_missing = elim (ordered first (frames_in record_len bytes)) [
    | in_order ids ↦ elim (cases_lt (length (records_in bytes)) count) [
      | inl few ↦ let place = short_at first count bytes ids few in inr (record { at = length (joined (frames_in record_len bytes)); damaged = place.0; few = omega (arith, few, ap length place.1, length-records (frames_in record_len bytes)) })
      | inr enough ↦ inl (enough, ids_rise-take first (records_in bytes) count ids)
    ]
    | wrong front f more is ids other ↦
        let place = wrong_at first count bytes front f more is ids other in
        let all = frames_long front f more is in
        elim (cases_lt (length front) count) [
          | inl few ↦ inr (record { at = length (joined front); damaged = place.0; few = omega (arith, few, ap length place.1) })
          | inr many ↦
              let here : count ≤ length (records_of front) = omega (arith, many, length-records front) in
              let seen : take count (records_in bytes) ≡ take count (records_of front) = ap (take count) all ∙ take-append-le count (records_of front) (framed_record f ∷ records_of more) here in
              inl (omega (arith, here, ap length all, length-append (records_of front) (framed_record f ∷ records_of more)), subst (λ (rs : List Record). ids_rise first rs ≡ true) (sym seen) (ids_rise-take first (records_of front) count ids))
        ]
  ]

  pub in_order_or_wrong : count ≤ length (records_in bytes) → ids_rise first (take count (records_in bytes)) ≡ true → (ids_rise first (records_in bytes) ≡ true) ⊎ HasWrongTail first count bytes
  in_order_or_wrong enough counted = elim (ordered first (frames_in record_len bytes)) [
    | in_order ids ↦ inl ids
    | wrong front f more is ids other ↦
        let place = wrong_at first count bytes front f more is ids other in
        elim (cases_lt (length front) count) [
          | inl few ↦ absurd (not_counted first count bytes (length (joined front)) enough place.0 counted (omega (arith, few, ap length place.1)))
          | inr many ↦ inr (record { at = length (joined front); damaged = place.0; many = omega (arith, many, ap length place.1) })
        ]
  ]
