-- What is still to come of a list, from a place on.
use Rattle.std.proofs.Common.{◌≡◌, ◌≢◌, ℕ, ◌+◌, ◌<◌, ◌≤◌, List, [], ◌∷◌, ◌++◌, length, map, drop, get_or, arith, refl, sym, ap, ◌∙◌, length-append, length-drop}
use Rattle.std.proofs.lemmas.List.{drop-map, drop_more, length-map}

-- it begins with the item of this place
pub coming-front : {A : Type 0} (f : A → List ℕ) (xs : List A) (at : ℕ) (x : A) → at < length xs → x ≡ get_or xs at x → drop at (map f xs) ≡ f x ∷ drop (at + 1) (map f xs)
coming-front f xs at x within is =
    drop-map f at xs ∙ (ap (map f) (drop_more xs at x within) ∙ (ap (λ y. f y ∷ map f (drop (at + 1) xs)) (sym is) ∙ ap (λ ys. f x ∷ ys) (sym (drop-map f (at + 1) xs))))

-- nothing is to come exactly at the end
pub nothing_comes : {A : Type 0} (f : A → List ℕ) (xs : List A) (at : ℕ) → at ≡ length xs → drop at (map f xs) ≡ []
nothing_comes f xs at e = none (drop at (map f xs)) (simp (length-drop, length-map) (omega arith))
  where
    none : (ys : List (List ℕ)) → length ys ≡ 0 → ys ≡ []
    none [] e = refl
    none (y ∷ ys) e = absurd (omega arith)

pub at_end : {A : Type 0} (f : A → List ℕ) (xs : List A) (at : ℕ) → at ≤ length xs → drop at (map f xs) ≡ [] → at ≡ length xs
at_end f xs at within none = omega (arith, within, simp (length-drop, length-map) at (ap length none))

pub before_end : {A : Type 0} (f : A → List ℕ) (xs : List A) (at : ℕ) → at ≤ length xs → drop at (map f xs) ≢ [] → at < length xs
before_end f xs at within some = let apart : at ≢ length xs = λ e. some (nothing_comes f xs at e) in omega arith

-- one item more
pub length-added : {A : Type 0} (f : A → List ℕ) (xs ys : List A) (x : List ℕ) → map f ys ≡ map f xs ++ x ∷ [] → length ys ≡ length xs + 1
length-added f xs ys x e = omega (arith, simp (length-append, length-map) at (ap length e))
