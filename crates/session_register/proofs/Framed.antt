-- The frames of entries, and what stands at the front of a register's file.
use Rattle.std.proofs.Common.{◌≡◌, ◌≢◌, inl, inr, ℕ, zero, suc, ◌+◌, ◌<◌, ◌≤◌, List, [], ◌∷◌, ◌++◌, length, take, drop, refl, sym, ◌∙◌, ap, subst, arith, length-append, append_assoc, take-append-drop, Result, Ok, Err}
use Rattle.std.specs.Prelude.{IfSome, IfNone}
use Rattle.std.specs.Result.{result_ok}
use Rattle.std.proofs.lemmas.Bool.{cases_lt}
use Rattle.std.proofs.lemmas.List.{append-nil, map-append, length-take-le, take-append-le, take_all, take-take, drop_at, append_cancel_left}
use Rattle.tx_model.specs.declared.meta.Meta.{Meta}
use Rattle.tx_model.specs.declared.meta.Meta.TheVariants.{Value}
use Rattle.tx_model.specs.Spelling.{meta_body, meta_frame, IsMeta, SpellsMeta}
use Rattle.record_frame.specs.declared.fault.FrameFault.{FrameFault}
use Rattle.record_frame.specs.Faults.{IsMetaLength}
use Rattle.tx_model.specs.Reading.{is_meta_length, meta_in, length_in}
use Rattle.record_frame.specs.Reading.{meta_at, read_length}
use Rattle.tx_model.specs.Framing.{meta_len, framed_meta}
use Rattle.record_frame.proofs.Lengths.{meta_len-read}
use Rattle.record_frame.proofs.FrontFrames.{meta_len-within, meta_len-alike, framed_meta-alike, meta_at-len, meta-spelling-framed, alike, holds}
use Rattle.record_frame.proofs.Metas.{meta_format}
use Rattle.tx_model.specs.Frames.{IsFrame, IsFraming, joined, frames_in}
use Rattle.tx_model.proofs.Walks.{joined-append, all-append, frames_in-joined, frames_in-step, first_frame, split}
use Rattle.session_register.specs.Values.{entries_of, values_to, StandsFor, IsFront, IsAllOf, IsDamagedAt}

front : (bs : List ℕ) → 0 < meta_len bs → meta_len (take (meta_len bs) bs) ≡ meta_len bs
front bs some =
    let n = meta_len bs in
    let f = take n bs in
    let long : length f ≡ n = length-take-le n bs (meta_len-within bs) in
    let same : take n f ≡ take n bs = take_all n f (omega arith) in
    meta_len-alike bs f some (omega arith) same

behind : (f rest : List ℕ) → IsFrame meta_len f → meta_len (f ++ rest) ≡ length f
behind f rest is =
    let whole : meta_len f ≡ length f = is.whole in
    let some : 0 < meta_len f = omega (arith, is.some) in
    let enough : meta_len f ≤ length (f ++ rest) = omega (arith, length-append f rest) in
    let same : take (meta_len f) (f ++ rest) ≡ take (meta_len f) f = take-append-le (meta_len f) f rest (omega arith) in
    meta_len-alike f (f ++ rest) some enough same ∙ whole

pub framing : IsFraming meta_len
framing = record { fits = meta_len-within; alone = behind; front = front }

-- ---- one entry

-- its frame
pub one_frame : (e : Meta) → IsMeta e → IsFrame meta_len (meta_frame e) × (framed_meta (meta_frame e) ≡ e)
one_frame e valid =
    let spells : SpellsMeta (meta_frame e) e = record { valid = valid; spelled = refl } in
    let found = meta-spelling-framed (meta_frame e) [] e spells in
    let alone : meta_frame e ++ [] ≡ meta_frame e = append-nil (meta_frame e) in (
      record { some = omega (arith, found.2); whole = ap meta_len (sym alone) ∙ found.0 },
      ap framed_meta (sym alone) ∙ found.1,
    )

same_length : (bs : List ℕ) → read_length (meta_at bs) ≡ meta_len bs
same_length bs = sym (meta_len-read bs)

read_some : (r : Result (Meta × ℕ) FrameFault) → 0 < read_length r → (x : Meta × ℕ) × (r ≡ Ok x)
read_some (Ok x) some = (x, refl)
read_some (Err e) some = absurd (omega arith)

-- what is read of a frame rests on its bytes
meta_at-alike : (bs other : List ℕ) → 0 < meta_len bs → meta_len bs ≤ length other → take (meta_len bs) other ≡ take (meta_len bs) bs → meta_at other ≡ meta_at bs
meta_at-alike bs other some enough same =
    let n = same_length bs in
    alike IsMetaLength IsMeta meta_body is_meta_length meta_in meta_format bs other (omega (arith, n, some)) (omega (arith, n, enough)) (subst (λ (k : ℕ). take k other ≡ take k bs) (sym n) same)

short : (bs : List ℕ) (x : Meta × ℕ) → meta_at bs ≡ Ok x → x.1 ≤ 41
short bs x is =
    let found = holds IsMetaLength IsMeta meta_body is_meta_length meta_in meta_format bs x is in
    let few : length_in bs ≤ 29 = elim found.whole.in_range [ inl nine ↦ omega arith | inr more ↦ elim more [ inl thirteen ↦ omega arith | inr most ↦ omega arith ] ] in
    omega (arith, found.len)

-- a piece from the front of bytes, that has 41 of them or all
pub record IsPieceOf (bs piece : List ℕ) : Type 0 where
  pub n : ℕ
  pub is : piece ≡ take n bs
  pub size : length piece ≡ n
  pub enough : n < 41 → length bs ≤ n

-- it begins with the entry that the bytes begin with
piece_some : (bs piece : List ℕ) → IsPieceOf bs piece → (x : Meta × ℕ) → meta_at piece ≡ Ok x → (framed_meta bs ≡ x.0) × (meta_len bs ≡ x.1)
piece_some bs piece part x here =
    let n = part.n in
    let found = meta_at-len piece x here in
    let size : length piece ≡ part.n = part.size in
    let fits : meta_len piece ≤ part.n = omega (arith, meta_len-within piece, size) in
    let long : length (take part.n bs) ≤ length bs = omega (arith, ap length (take-append-drop part.n bs), length-append (take part.n bs) (drop part.n bs)) in
    let within : meta_len piece ≤ length bs = omega (arith, fits, long, ap length part.is, size) in
    let same : take (meta_len piece) bs ≡ take (meta_len piece) piece = sym (ap (λ (l : List ℕ). take (meta_len piece) l) part.is ∙ take-take (meta_len piece) part.n bs fits) in
    let all = meta_at-len bs x (meta_at-alike piece bs (omega (arith, found.0, found.2)) within same ∙ here) in
    (all.1, all.0)

piece_none : (bs piece : List ℕ) → IsPieceOf bs piece → (e : FrameFault) → meta_at piece ≡ Err e → meta_len bs ≡ 0
piece_none bs piece part e here = elim (cases_lt 0 (meta_len bs)) [
  | inl some ↦
      let x = read_some (meta_at bs) (omega (arith, some, same_length bs)) in
      let found = meta_at-len bs x.0 x.1 in
      let few = short bs x.0 x.1 in
      let within : meta_len bs ≤ part.n = elim (cases_lt part.n 41) [ inl less ↦ omega (arith, part.enough less, meta_len-within bs) | inr more ↦ omega (arith, found.0, few, more) ] in
      let same : take (meta_len bs) piece ≡ take (meta_len bs) bs = ap (λ (l : List ℕ). take (meta_len bs) l) part.is ∙ take-take (meta_len bs) part.n bs within in
      let both : meta_at piece ≡ Ok x.0 = meta_at-alike bs piece some (omega (arith, within, part.size)) same ∙ x.1 in
      absurd (not_err (meta_at piece) x.0 e both here)
  | inr none ↦ omega arith
]
  where
    not_err : (r : Result (Meta × ℕ) FrameFault) (x : Meta × ℕ) (e : FrameFault) → r ≡ Ok x → r ≡ Err e → ⊥
    not_err r x e is other = cc

pub entry_some : (T : Type 0) (bs piece : List ℕ) (r : Result (Meta × ℕ) FrameFault) → r ≡ meta_at piece → (T → IsPieceOf bs piece) → IfSome (result_ok r) (λ x. T → (framed_meta bs ≡ x.0) × (meta_len bs ≡ x.1))
entry_some T bs piece (Ok x) is part = λ t. piece_some bs piece (part t) x (sym is)
entry_some T bs piece (Err e) is part = tt

pub entry_none : (T : Type 0) (bs piece : List ℕ) (r : Result (Meta × ℕ) FrameFault) → r ≡ meta_at piece → (T → IsPieceOf bs piece) → IfNone (result_ok r) (T → meta_len bs ≡ 0)
entry_none T bs piece (Ok x) is part = tt
entry_none T bs piece (Err e) is part = λ t. piece_none bs piece (part t) e (sym is)

-- ---- the entries from the front

pub entries_of-append : (fs gs : List (List ℕ)) → entries_of (fs ++ gs) ≡ entries_of fs ++ entries_of gs
entries_of-append fs gs = map-append framed_meta fs gs

pub length-values_to : (n : ℕ) → length (values_to n) ≡ n
unfolding values_to
length-values_to zero = refl
length-values_to (suc n) = omega (arith, length-append (values_to n) (Value (suc n) ∷ []), length-values_to n)

values_to-next : (n : ℕ) → values_to (suc n) ≡ values_to n ++ Value (suc n) ∷ []
unfolding values_to
values_to-next n = refl

pub values_to-suc : (n : ℕ) → values_to (n + 1) ≡ values_to n ++ Value (n + 1) ∷ []
values_to-suc n = subst (λ (k : ℕ). values_to k ≡ values_to n ++ Value k ∷ []) (omega arith) (values_to-next n)

-- no entry yet
pub front-none : (bytes : List ℕ) → IsFront bytes 0 0
unfolding values_to
front-none bytes = record { frames = []; rest = bytes; whole = tt; is = refl; values = refl; place = refl }

module _ (bytes : List ℕ) (number end : ℕ) (at : IsFront bytes number end) where
  -- what stands behind them
  pub front-rest : drop end bytes ≡ at.rest
  front-rest = ap (λ (l : List ℕ). drop end l) at.is ∙ drop_at (joined at.frames) at.rest end (sym at.place)

  pub front-within : end + length at.rest ≡ length bytes
  front-within = omega (arith, ap length at.is, length-append (joined at.frames) at.rest, at.place)

  -- one more
  pub front-more : (e : Meta) (len : ℕ) → framed_meta (drop end bytes) ≡ e → meta_len (drop end bytes) ≡ len → 0 < len → e ≡ Value (number + 1) → IsFront bytes (number + 1) (end + len) × (end + len ≤ length bytes)
  front-more e len holds_it n some next =
      let rest = at.rest in
      let size : meta_len rest ≡ len = ap meta_len (sym front-rest) ∙ n in
      let f = take (meta_len rest) rest in
      let long : length f ≡ meta_len rest = length-take-le (meta_len rest) rest (meta_len-within rest) in
      let one : joined (at.frames ++ f ∷ []) ≡ joined at.frames ++ f = joined-append at.frames (f ∷ []) ∙ ap (λ (l : List ℕ). joined at.frames ++ l) (append-nil f) in
      let is_frame : IsFrame meta_len f = first_frame meta_len framing rest (omega (arith, size, some)) in
      let same : take (meta_len rest) f ≡ take (meta_len rest) rest = take_all (meta_len rest) f (omega (arith, long)) in
      let value : framed_meta f ≡ Value (number + 1) = framed_meta-alike rest f (omega (arith, size, some)) (omega (arith, long)) same ∙ ap framed_meta (sym front-rest) ∙ holds_it ∙ next in (
        record {
          frames = at.frames ++ f ∷ [];
          rest = drop (meta_len rest) rest;
          whole = all-append (IsFrame meta_len) at.frames (f ∷ []) at.whole (is_frame, tt);
          is = at.is ∙ ap (λ (l : List ℕ). joined at.frames ++ l) (sym (take-append-drop (meta_len rest) rest)) ∙ sym (append_assoc (joined at.frames) f (drop (meta_len rest) rest)) ∙ ap (λ (l : List ℕ). l ++ drop (meta_len rest) rest) (sym one);
          values = entries_of-append at.frames (f ∷ []) ∙ ap (λ (l : List Meta). l ++ framed_meta f ∷ []) at.values ∙ ap (λ (o : Meta). values_to number ++ o ∷ []) value ∙ sym (values_to-suc number);
          place = omega (arith, at.place, size, long, ap length one, length-append (joined at.frames) f);
        },
        omega (arith, size, meta_len-within rest, front-within),
      )

  -- no more
  pub front-all : meta_len (drop end bytes) ≡ 0 → IsAllOf bytes number end
  front-all none =
      let no_more : meta_len at.rest ≡ 0 = ap meta_len (sym front-rest) ∙ none in
      let frames : frames_in meta_len bytes ≡ at.frames = ap (frames_in meta_len) at.is ∙ frames_in-joined meta_len framing at.frames at.rest at.whole no_more in
      record { values = ap entries_of frames ∙ at.values; place = at.place ∙ ap (λ (fs : List (List ℕ)). length (joined fs)) (sym frames) }

  -- at the end of the bytes
  pub front-ends : length bytes ≤ end → IsAllOf bytes number end
  front-ends past = front-all (omega (arith, meta_len-within (drop end bytes), ap length front-rest, front-within, past))

  -- another entry
  pub front-damaged : (e : Meta) (len : ℕ) → framed_meta (drop end bytes) ≡ e → meta_len (drop end bytes) ≡ len → 0 < len → e ≢ Value (number + 1) → IsDamagedAt bytes end
  front-damaged e len holds_it n some other = record {
    number = number;
    front = at;
    some = omega (arith, some, ap meta_len (sym front-rest) ∙ n);
    wrong = λ value. other (sym holds_it ∙ ap framed_meta front-rest ∙ value);
  }

-- ---- damaged or not

-- the values up to a number begin with those up to a lesser one, and the next one
next_value : (k j : ℕ) → (more : List Meta) × (values_to (suc (k + j)) ≡ values_to k ++ Value (suc k) ∷ more)
next_value k zero = let here : suc (k + 0) ≡ suc k = omega arith in ([], ap values_to here ∙ values_to-next k)
next_value k (suc j) =
    let before = next_value k j in
    let last : List Meta = Value (suc (suc (k + j))) ∷ [] in
    let here : suc (k + suc j) ≡ suc (suc (k + j)) = omega arith in
    (before.0 ++ last, ap values_to here ∙ values_to-next (suc (k + j)) ∙ ap (λ (l : List Meta). l ++ last) before.1 ∙ append_assoc (values_to k) (Value (suc k) ∷ before.0) last)

head_of : (a b : Meta) (xs ys : List Meta) → a ∷ xs ≡ b ∷ ys → a ≡ b
head_of a b xs ys same = cc

-- the entry behind the values up to a number
value_behind : (n k : ℕ) (e : Meta) (more : List Meta) → values_to n ≡ values_to k ++ e ∷ more → e ≡ Value (k + 1)
value_behind n k e more is =
    let long : n ≡ k + suc (length more) = sym (length-values_to n) ∙ ap length is ∙ length-append (values_to k) (e ∷ more) ∙ ap (λ (m : ℕ). m + suc (length more)) (length-values_to k) in
    let there = next_value k (length more) in
    let same : n ≡ suc (k + length more) = omega (arith, long) in
    let one : suc k ≡ k + 1 = omega arith in
    head_of e (Value (k + 1)) more there.0 (append_cancel_left (values_to k) (e ∷ more) (Value (k + 1) ∷ there.0)
    (sym is ∙ ap values_to same ∙ there.1 ∙ ap (λ (m : ℕ). values_to k ++ Value m ∷ there.0) one))

pub not_both : (bytes : List ℕ) (n at : ℕ) → StandsFor bytes n → IsDamagedAt bytes at → ⊥
not_both bytes n at stands damaged =
    let fs = damaged.front.frames in
    let rest = damaged.front.rest in
    let gs = frames_in meta_len rest in
    let parts = split meta_len framing rest in
    let all : bytes ≡ joined (fs ++ gs) ++ parts.rest =
    damaged.front.is ∙ ap (λ (l : List ℕ). joined fs ++ l) parts.is ∙ sym (append_assoc (joined fs) (joined gs) parts.rest) ∙ ap (λ (l : List ℕ). l ++ parts.rest) (sym (joined-append fs gs)) in
    let frames : frames_in meta_len bytes ≡ fs ++ gs = ap (frames_in meta_len) all ∙ frames_in-joined meta_len framing (fs ++ gs) parts.rest (all-append (IsFrame meta_len) fs gs damaged.front.whole parts.frames) parts.none in
    let some : meta_len rest ≢ 0 = omega (arith, damaged.some) in
    let f = take (meta_len rest) rest in
    let later = frames_in meta_len (drop (meta_len rest) rest) in
    let step : gs ≡ f ∷ later = frames_in-step meta_len framing rest some in
    let entries : values_to n ≡ values_to damaged.number ++ framed_meta f ∷ entries_of later =
    sym stands ∙ ap entries_of frames ∙ entries_of-append fs gs ∙ ap (λ (l : List Meta). l ++ entries_of gs) damaged.front.values ∙ ap (λ (hs : List (List ℕ)). values_to damaged.number ++ entries_of hs) step in
    let long : length f ≡ meta_len rest = length-take-le (meta_len rest) rest (meta_len-within rest) in
    let same : framed_meta f ≡ framed_meta rest = framed_meta-alike rest f damaged.some (omega (arith, long)) (take_all (meta_len rest) f (omega (arith, long))) in
    damaged.wrong (sym same ∙ value_behind n damaged.number (framed_meta f) (entries_of later) entries)
