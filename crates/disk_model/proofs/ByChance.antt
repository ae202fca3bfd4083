-- An image that does not pass by chance begins with frames that were put, and the other way round.
use Rattle.std.proofs.Common.{◌≡◌, ◌≢◌, ◌⊎◌, inl, inr, ℕ, ◌+◌, ◌-◌, ◌<◌, ◌≤◌, false, List, [], ◌∷◌, ◌++◌, length, take, drop, get_or, refl, sym, ◌∙◌, ap, arith, append_assoc, length-append, length-drop, take-append-drop}
use Rattle.std.specs.Prelude.{bytes_eq}
use Rattle.std.specs.List.{AllByRecursion}
use Rattle.std.proofs.lemmas.Bool.{cases_Bool}
use Rattle.std.proofs.lemmas.List.{append-nil, drop_at, take_at, length-take-le, get_or-append-add, get_or-take, get_or-drop, get_or_append_left}
use Rattle.std.proofs.lemmas.Grind.{same_number_lists}
use Rattle.std.proofs.lemmas.Slice.Eq.{bytes_eq-Decides}
use Rattle.disk_model.specs.File.{File, IsImage, IsSyncedAsPut, IsSound}
use Rattle.tx_model.specs.Frames.{IsFrame, IsFraming, joined, frames_in}
use Rattle.disk_model.specs.Frames.{IsAsPut, EachImage}
use Rattle.disk_model.specs.History.{Files, History, moments, EachMoment, Always}
use Rattle.disk_model.proofs.Moments.{weaker, always_too}
use Rattle.disk_model.specs.Chance.{AnyByChance, FrameOf, PassesByChance, IsOther, StandsWhereNone, place_of}
use Rattle.tx_model.proofs.Walks.{joined-append, all-append}

-- one frame more is moved from the front to the others
joined_on : {put : List ℕ} (gs fs : List (List ℕ)) (f more : List ℕ) → joined (gs ++ f ∷ []) ≡ joined gs ++ f
    → put ≡ joined (gs ++ f ∷ []) ++ (joined fs ++ more) → put ≡ joined gs ++ (joined (f ∷ fs) ++ more)
joined_on gs fs f more one is =
    is ∙ ap (λ (l : List ℕ). l ++ (joined fs ++ more)) one ∙ append_assoc (joined gs) f (joined fs ++ more)
    ∙ ap (λ (l : List ℕ). joined gs ++ l) (sym (append_assoc f (joined fs) more))

module _ (len : List ℕ → ℕ) (file : File) (c : List ℕ) (firm : IsSyncedAsPut file) (image : IsImage file c) (not : PassesByChance len file c → ⊥) where
  -- the next frame is what was put, or it has no unsynced place and so is what was put
  next : (gs : List (List ℕ)) (f rest : List ℕ) → AllByRecursion (IsFrame len) gs → IsFrame len f → c ≡ joined gs ++ (f ++ rest) → take (length f) (drop (length (joined gs)) file.put) ≡ f
  next gs f rest all is_frame is = elim (cases_Bool (bytes_eq (take (length f) (drop (length (joined gs)) file.put)) f)) [
    | inl equal ↦ (bytes_eq-Decides (take (length f) (drop (length (joined gs)) file.put)) f).0 equal
    | inr unequal ↦ absurd (differs ((λ same. absurd (cc ((bytes_eq-Decides (take (length f) (drop (length (joined gs)) file.put)) f).1 same, unequal)))))
  ]
    where
      p : ℕ
      p = length (joined gs)

      tight : take (length f) (drop (length (joined gs)) file.put) ≢ f → (i : ℕ) → length (joined gs) ≤ i → i < length (joined gs) + length f → file.unsynced i ≡ false
      tight other i from to = elim (cases_Bool (file.unsynced i)) [
        | inl is_unsynced ↦ absurd (not (record { front = gs; frame = f; rest = rest; fronts = all; whole = is_frame; is = is }, inl (record { place = i; from = from; to = to; unsynced = is_unsynced; not_put = other })))
        | inr firmly ↦ firmly
      ]

      differs : take (length f) (drop (length (joined gs)) file.put) ≢ f → ⊥
      differs other = other (same_put other)
        where
          in_image : (i : ℕ) → i < length (joined gs) + length f → i < length c
          in_image i to = omega (arith, ap (λ (l : List ℕ). length l) is, length-append (joined gs) (f ++ rest), length-append f rest)

          same_put : take (length f) (drop (length (joined gs)) file.put) ≢ f → take (length f) (drop (length (joined gs)) file.put) ≡ f
          same_put other =
              let n = length f in
              let p = length (joined gs) in
              let at : (k : ℕ) → k < n → file.unsynced (p + k) ≡ false = λ k near. tight other (p + k) (omega arith) (omega (arith, near)) in
              let synced : (k : ℕ) → k < n → p + k < length file.synced = λ k near. image.within (p + k) (in_image (p + k) (omega (arith, near))) (at k near) in
              let short : n - 1 < n = omega (arith, is_frame.some) in
              let long : p + (n - 1) < length file.put = firm.within (p + (n - 1)) (at (n - 1) short) (synced (n - 1) short) in
              let size : length (take n (drop p file.put)) ≡ n = length-take-le n (drop p file.put) (omega (arith, length-drop p file.put, long, is_frame.some)) in
              same_number_lists (take n (drop p file.put)) f size (λ k below.
              let near : k < n = omega (arith, below, size) in
              get_or-take n (drop p file.put) k 0 near ∙ get_or-drop p file.put k 0 ∙ firm.same (p + k) (at k near) (synced k near)
              ∙ sym (image.bytes (p + k) (in_image (p + k) (omega (arith, near))) (at k near))
              ∙ ap (λ (l : List ℕ). get_or l (p + k) 0) is ∙ get_or-append-add (joined gs) (f ++ rest) k 0 ∙ get_or_append_left f rest 0 k near)

  all_put : (gs fs : List (List ℕ)) (rest more : List ℕ) → AllByRecursion (IsFrame len) gs → AllByRecursion (IsFrame len) fs → c ≡ joined gs ++ (joined fs ++ rest) → file.put ≡ joined gs ++ more → (m : List ℕ) × (file.put ≡ joined gs ++ (joined fs ++ m))
  all_put gs [] rest more all_g all_f is put = (more, put)
  all_put gs (f ∷ fs) rest more all_g all_f is put =
      let here = next gs f (joined fs ++ rest) all_g all_f.0 (is ∙ ap (λ (l : List ℕ). joined gs ++ l) (append_assoc f (joined fs) rest)) in
      let behind : drop (length (joined gs)) file.put ≡ more = ap (λ (l : List ℕ). drop (length (joined gs)) l) put ∙ drop_at (joined gs) more (length (joined gs)) refl in
      let split : more ≡ f ++ drop (length f) more = sym (take-append-drop (length f) more) ∙ ap (λ (l : List ℕ). l ++ drop (length f) more) (ap (λ (l : List ℕ). take (length f) l) (sym behind) ∙ here) in
      let one : joined (gs ++ f ∷ []) ≡ joined gs ++ f = joined-append gs (f ∷ []) ∙ ap (λ (l : List ℕ). joined gs ++ l) (append-nil f) in
      let later = all_put (gs ++ f ∷ []) fs rest (drop (length f) more) (all-append (IsFrame len) gs (f ∷ []) all_g (all_f.0, tt)) all_f.1
      (is ∙ ap (λ (l : List ℕ). joined gs ++ l) (append_assoc f (joined fs) rest) ∙ sym (append_assoc (joined gs) f (joined fs ++ rest)) ∙ ap (λ (l : List ℕ). l ++ (joined fs ++ rest)) (sym one))
      (put ∙ ap (λ (l : List ℕ). joined gs ++ l) split ∙ sym (append_assoc (joined gs) f (drop (length f) more)) ∙ ap (λ (l : List ℕ). l ++ drop (length f) more) (sym one)) in
      (later.0, joined_on gs fs f later.0 one later.1)

  -- so whatever frames it begins with were put
  pub as_put : IsAsPut len file c
  as_put fs rest all is = all_put [] fs rest file.put tt all is refl

-- so what each image as put has, each image has that does not pass by chance
pub each_image : (len : List ℕ → ℕ) (P : List (List ℕ) → Type 0) (file : File) → IsSyncedAsPut file → EachImage len P file
    → (c : List ℕ) → IsImage file c → (PassesByChance len file c → ⊥) → P (frames_in len c)
each_image len P file synced each c image not = each c image (as_put len file c synced image not)

-- at each moment of a disk
pub always_as_put : (h : History) → Always IsSound h → Always (λ f. (len : List ℕ → ℕ) (c : List ℕ) → IsImage f c → (PassesByChance len f c → ⊥) → IsAsPut len f c) h
always_as_put h sound = of_all (moments h) sound
  where
    of_all : (ss : List Files) → AllByRecursion (λ s. (q : ℕ) → IsSound (s q)) ss → AllByRecursion (λ s. (q : ℕ) → (len : List ℕ → ℕ) (c : List ℕ) → IsImage (s q) c → (PassesByChance len (s q) c → ⊥) → IsAsPut len (s q) c) ss
    of_all [] all = tt
    of_all (s ∷ ss) all = (λ q len c image not. as_put len (s q) c (all.0 q).as_put image not, of_all ss all.1)

-- at each moment of a call
pub each_moment : (len : List ℕ → ℕ) (P : List (List ℕ) → Type 0) (file : ℕ) (old new : History) → Always IsSound new → EachMoment file (EachImage len P) old new
    → EachMoment file (λ f. (c : List ℕ) → IsImage f c → (PassesByChance len f c → ⊥) → P (frames_in len c)) old new
each_moment len P file old new sound run =
    weaker file (λ f. (c : List ℕ) → IsImage f c → (PassesByChance len f c → ⊥) → P (frames_in len c)) (λ f. EachImage len P f × IsSound f) old new
    (always_too file (EachImage len P) IsSound old new run sound)
    (λ f both. each_image len P f both.1.as_put both.0)

-- of an image of all files
pub files_as_put : (len : ℕ → List ℕ → ℕ) (files : Files) (image : ℕ → List ℕ) → ((q : ℕ) → IsSound (files q)) → ((q : ℕ) → IsImage (files q) (image q))
    → (AnyByChance len files image → ⊥) → (q : ℕ) → IsAsPut (len q) (files q) (image q)
files_as_put len files image sound images not q = as_put (len q) (files q) (image q) (sound q).as_put (images q) (λ chance. not (q, chance))

-- and an image that is as put passes by no chance
module _ (len : List ℕ → ℕ) (framing : IsFraming len) (file : File) (c : List ℕ) (put : IsAsPut len file c) (f : FrameOf len c) where
  stands : (more : List ℕ) × (drop (place_of f) file.put ≡ f.frame ++ more)
  stands =
      let one : joined (f.front ++ f.frame ∷ []) ≡ joined f.front ++ f.frame = joined-append f.front (f.frame ∷ []) ∙ ap (λ (l : List ℕ). joined f.front ++ l) (append-nil f.frame) in
      let is : c ≡ joined (f.front ++ f.frame ∷ []) ++ f.rest = f.is ∙ sym (append_assoc (joined f.front) f.frame f.rest) ∙ ap (λ (l : List ℕ). l ++ f.rest) (sym one) in
      let found = put (f.front ++ f.frame ∷ []) f.rest (all-append (IsFrame len) f.front (f.frame ∷ []) f.fronts (f.whole, tt)) is in
      let split : file.put ≡ joined f.front ++ (f.frame ++ found.0) = found.1 ∙ ap (λ (l : List ℕ). l ++ found.0) one ∙ append_assoc (joined f.front) f.frame found.0 in
      (found.0, ap (λ (l : List ℕ). drop (place_of f) l) split ∙ drop_at (joined f.front) (f.frame ++ found.0) (place_of f) refl)

  is_there : take (length f.frame) (drop (place_of f) file.put) ≡ f.frame
  is_there = ap (λ (l : List ℕ). take (length f.frame) l) stands.1 ∙ take_at f.frame stands.0 (length f.frame) refl

  is_frame : len (drop (place_of f) file.put) ≡ length f.frame
  is_frame = ap len stands.1 ∙ framing.alone f.frame stands.0 f.whole

  no_such : IsOther file f ⊎ StandsWhereNone file f → ⊥
  no_such (inl other) = other.not_put is_there
  no_such (inr nowhere) = let n : 0 < length f.frame = f.whole.some in omega (arith, nowhere, is_frame, n)

pub no_chance : (len : List ℕ → ℕ) → IsFraming len → (file : File) (c : List ℕ) → IsAsPut len file c → PassesByChance len file c → ⊥
no_chance len framing file c put chance = no_such len framing file c put chance.0 chance.1
