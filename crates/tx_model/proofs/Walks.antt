-- Frames from the front: each list of bytes has one split into frames and a rest that begins with none.
use Rattle.std.proofs.Common.{◌≡◌, ◌≢◌, inl, inr, ℕ, zero, suc, ◌≤◌, List, [], ◌∷◌, ◌++◌, length, take, drop, refl, sym, ◌∙◌, ap, subst, arith, append_assoc, length-append, length-drop, take-append-drop}
use Rattle.std.specs.List.{AllByRecursion}
use Rattle.std.proofs.lemmas.Bool.{cases_eq}
use Rattle.std.proofs.lemmas.Bool.Decides.{nat_tests}
use Rattle.std.proofs.lemmas.List.{append_cancel_left, take_at, drop_at, length-take-le}
use Rattle.tx_model.specs.Frames.{IsFrame, IsFraming, joined, walk, frames_in}

-- the bytes of frames behind frames
pub joined-append : (fs gs : List (List ℕ)) → joined (fs ++ gs) ≡ joined fs ++ joined gs
joined-append [] gs = refl
joined-append (f ∷ fs) gs = ap (λ (l : List ℕ). f ++ l) (joined-append fs gs) ∙ sym (append_assoc f (joined fs) (joined gs))

-- what holds of each of two lists' elements holds of each of both
pub all-append : {A : Type 0} (P : A → Type 0) (xs ys : List A) → AllByRecursion P xs → AllByRecursion P ys → AllByRecursion P (xs ++ ys)
all-append P [] ys p q = q
all-append P (x ∷ xs) ys p q = (p.0, all-append P xs ys p.1 q)

-- bytes are frames, and then a rest that begins with none
pub record Split (len : List ℕ → ℕ) (bs : List ℕ) (fs : List (List ℕ)) : Type 0 where
  pub rest : List ℕ
  pub is : bs ≡ joined fs ++ rest
  pub frames : AllByRecursion (IsFrame len) fs
  pub none : len rest ≡ 0

module _ (len : List ℕ → ℕ) (framing : IsFraming len) where
  step : (n : ℕ) (bs : List ℕ) → len bs ≢ 0 → walk len (suc n) bs ≡ take (len bs) bs ∷ walk len n (drop (len bs) bs)
  unfolding walk
  step n bs some = grind (arith, nat_tests)

  stop : (n : ℕ) (bs : List ℕ) → len bs ≡ 0 → walk len n bs ≡ []
  unfolding walk
  stop zero bs none = refl
  stop (suc n) bs none = grind (arith, nat_tests)

  pub first_frame : (bs : List ℕ) → len bs ≢ 0 → IsFrame len (take (len bs) bs)
  first_frame bs some =
      let long : length (take (len bs) bs) ≡ len bs = length-take-le (len bs) bs (framing.fits bs) in
      record { some = omega (arith, long, some); whole = framing.front bs (omega (arith, some)) ∙ sym long }

  -- the walk is a split, where it goes far enough
  pub splits : (n : ℕ) (bs : List ℕ) → length bs ≤ n → Split len bs (walk len n bs)
  splits zero bs fuel = subst (λ (fs : List (List ℕ)). Split len bs fs) (sym (stop zero bs none)) (record { rest = bs; is = refl; frames = tt; none = none })
    where
      none : len bs ≡ 0
      none = omega (arith, framing.fits bs, fuel)
  splits (suc n) bs fuel = elim (cases_eq (len bs) 0) [
    | inl none ↦ subst (λ (fs : List (List ℕ)). Split len bs fs) (sym (stop (suc n) bs none)) (record { rest = bs; is = refl; frames = tt; none = none })
    | inr some ↦
        let later = splits n (drop (len bs) bs) (omega (arith, length-drop (len bs) bs, some, fuel, framing.fits bs)) in
        subst (λ (fs : List (List ℕ)). Split len bs fs) (sym (step n bs some)) (record {
          rest = later.rest;
          is = sym (take-append-drop (len bs) bs) ∙ ap (λ (l : List ℕ). take (len bs) bs ++ l) later.is ∙ sym (append_assoc (take (len bs) bs) (joined (walk len n (drop (len bs) bs))) later.rest);
          frames = (first_frame bs some, later.frames);
          none = later.none;
        })
  ]

  -- there is no other split
  pub one_split : (n : ℕ) (fs : List (List ℕ)) (rest : List ℕ) → AllByRecursion (IsFrame len) fs → len rest ≡ 0 → length (joined fs ++ rest) ≤ n → walk len n (joined fs ++ rest) ≡ fs
  one_split n [] rest all none fuel = stop n rest none
  one_split zero (f ∷ fs) rest all none fuel = absurd (omega (arith, all.0.some, fuel, length-append (f ++ joined fs) rest, length-append f (joined fs)))
  one_split (suc n) (f ∷ fs) rest all none fuel =
      let whole : (f ++ joined fs) ++ rest ≡ f ++ (joined fs ++ rest) = append_assoc f (joined fs) rest in
      let is : len (f ++ (joined fs ++ rest)) ≡ length f = framing.alone f (joined fs ++ rest) all.0 in
      let some : len (f ++ (joined fs ++ rest)) ≢ 0 = omega (arith, is, all.0.some) in
      let here : take (len (f ++ (joined fs ++ rest))) (f ++ (joined fs ++ rest)) ≡ f = take_at f (joined fs ++ rest) _ (sym is) in
      let there : drop (len (f ++ (joined fs ++ rest))) (f ++ (joined fs ++ rest)) ≡ joined fs ++ rest = drop_at f (joined fs ++ rest) _ (sym is) in
      ap (λ (l : List ℕ). walk len (suc n) l) whole
      ∙ step n (f ++ (joined fs ++ rest)) some
      ∙ ap (λ (l : List ℕ). l ∷ walk len n (drop (len (f ++ (joined fs ++ rest))) (f ++ (joined fs ++ rest)))) here
      ∙ ap (λ (l : List ℕ). f ∷ walk len n l) there
      ∙ ap (λ (l : List (List ℕ)). f ∷ l) (one_split n fs rest all.1 none (omega (arith, fuel, all.0.some, ap length whole, length-append f (joined fs ++ rest))))

  -- so the frames of a file are those that it is made of
  pub frames_in-joined : (fs : List (List ℕ)) (rest : List ℕ) → AllByRecursion (IsFrame len) fs → len rest ≡ 0 → frames_in len (joined fs ++ rest) ≡ fs
  frames_in-joined fs rest all none = one_split (length (joined fs ++ rest)) fs rest all none (omega arith)

  -- each list of bytes is split into its frames and a rest
  pub split : (bs : List ℕ) → Split len bs (frames_in len bs)
  split bs = splits (length bs) bs (omega arith)

  -- the walk ends where no frame stands
  pub frames_in-stop : (bs : List ℕ) → len bs ≡ 0 → frames_in len bs ≡ []
  frames_in-stop bs none = stop (length bs) bs none

  -- else it takes the frame at the front and goes on behind it
  pub frames_in-step : (bs : List ℕ) → len bs ≢ 0 → frames_in len bs ≡ take (len bs) bs ∷ frames_in len (drop (len bs) bs)
  frames_in-step bs some =
      let later = split (drop (len bs) bs) in
      let f = take (len bs) bs in
      let gs = frames_in len (drop (len bs) bs) in
      let whole : bs ≡ joined (f ∷ gs) ++ later.rest = sym (take-append-drop (len bs) bs) ∙ ap (λ (l : List ℕ). f ++ l) later.is ∙ sym (append_assoc f (joined gs) later.rest) in
      ap (λ (l : List ℕ). frames_in len l) whole ∙ frames_in-joined (f ∷ gs) later.rest (first_frame bs some, later.frames) later.none

  -- frames that begin other frames are the first of them
  pub first_of_them : (ts ns : List (List ℕ)) (more rest : List ℕ) → AllByRecursion (IsFrame len) ts → AllByRecursion (IsFrame len) ns → len rest ≡ 0 → joined ts ++ more ≡ joined ns ++ rest
      → (k : ℕ) × (k ≤ length ns) × (ts ≡ take k ns)
  first_of_them [] ns more rest all_t all_n none same = (0, omega arith, refl)
  first_of_them (t ∷ ts) [] more rest all_t all_n none same =
      let is : len ((t ++ joined ts) ++ more) ≡ length t = ap len (append_assoc t (joined ts) more) ∙ framing.alone t (joined ts ++ more) all_t.0 in
      let not : len ((t ++ joined ts) ++ more) ≡ 0 = ap len same ∙ none in
      absurd (omega (arith, is, not, all_t.0.some))
  first_of_them (t ∷ ts) (n ∷ ns) more rest all_t all_n none same =
      let whole : t ++ (joined ts ++ more) ≡ n ++ (joined ns ++ rest) = sym (append_assoc t (joined ts) more) ∙ same ∙ append_assoc n (joined ns) rest in
      let t_len : len (t ++ (joined ts ++ more)) ≡ length t = framing.alone t (joined ts ++ more) all_t.0 in
      let n_len : len (n ++ (joined ns ++ rest)) ≡ length n = framing.alone n (joined ns ++ rest) all_n.0 in
      let long : length t ≡ length n = sym t_len ∙ ap len whole ∙ n_len in
      let head : t ≡ n = sym (take_at t (joined ts ++ more) (length t) refl) ∙ ap (λ (l : List ℕ). take (length t) l) whole ∙ take_at n (joined ns ++ rest) (length t) (sym long) in
      let tail : joined ts ++ more ≡ joined ns ++ rest = append_cancel_left t (joined ts ++ more) (joined ns ++ rest) (whole ∙ ap (λ (l : List ℕ). l ++ (joined ns ++ rest)) (sym head)) in
      let later = first_of_them ts ns more rest all_t.1 all_n.1 none tail in
      (suc later.0, omega (arith, later.1), ap (λ (l : List ℕ). l ∷ ts) head ∙ ap (λ (l : List (List ℕ)). n ∷ l) later.2)

  -- a front of bytes that begin with no frame begins with none
  pub none_before : (front more : List ℕ) → len (front ++ more) ≡ 0 → len front ≡ 0
  none_before front more none = elim (cases_eq (len front) 0) [
    | inl is ↦ is
    | inr some ↦
        let f = take (len front) front in
        let frame = first_frame front some in
        let whole : front ++ more ≡ f ++ (drop (len front) front ++ more) = ap (λ (l : List ℕ). l ++ more) (sym (take-append-drop (len front) front)) ∙ append_assoc f (drop (len front) front) more in
        let there : len (front ++ more) ≡ length f = ap len whole ∙ framing.alone f (drop (len front) front ++ more) frame in
        absurd (omega (arith, there, none, frame.some))
  ]
