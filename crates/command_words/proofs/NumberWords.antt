-- Texts of numbers, and lists of them.
use Rattle.std.proofs.Common.{◌≡◌, ◌≢◌, ℕ, zero, suc, ◌<◌, ◌≤◌, ◌^◌, ◌+◌, List, [], ◌∷◌, ◌++◌, length, take, map, get_or, ap, sym, ◌∙◌, refl, arith, decimal, subst, Contains, length-append, inl, inr}
use Rattle.std.specs.List.{AllByRecursion}
use Rattle.std.proofs.Math.Nat.{eq-or-lt_of_le}
use Rattle.std.proofs.lemmas.Fmt.{decimal_injective}
use Rattle.std.proofs.lemmas.List.{take-append-le, take_all, map-append, length-map}
use Rattle.command_words.specs.Commands.{IsWithin, IsPort, AreNodePorts, AreDifferent}

-- a text of one number is none of another
pub other_number : (text : List ℕ) (n least most : ℕ) → n < 2 ^ 64 → most < 2 ^ 64 → text ≡ decimal n → (IsWithin least most n → ⊥) → (m : ℕ) → IsWithin least most m → text ≢ decimal m
other_number text n least most small bound is outside m within same =
    outside (subst (IsWithin least most) (sym (decimal_injective n m small (omega (arith, bound, within.to)) (sym is ∙ same))) within)

pub nth_map : {A B : Type 0} (f : A → B) (xs : List A) (i : ℕ) (d : A) (e : B) → i < length xs → get_or (map f xs) i e ≡ f (get_or xs i d)
nth_map f [] i d e below = absurd (omega (arith, below))
nth_map f (x ∷ xs) zero d e below = refl
nth_map f (x ∷ xs) (suc i) d e below = nth_map f xs i d e (omega (arith, below))

pub take_map : {A B : Type 0} (f : A → B) (k : ℕ) (xs : List A) → take k (map f xs) ≡ map f (take k xs)
take_map f zero xs = refl
take_map f (suc k) [] = refl
take_map f (suc k) (x ∷ xs) = ap (λ ys. f x ∷ ys) (take_map f k xs)

take_suc : {A : Type 0} (xs : List A) (i : ℕ) (d : A) → i < length xs → take (suc i) xs ≡ take i xs ++ get_or xs i d ∷ []
take_suc [] i d below = absurd (omega (arith, below))
take_suc (x ∷ xs) zero d below = refl
take_suc (x ∷ xs) (suc i) d below = ap (λ ys. x ∷ ys) (take_suc xs i d (omega (arith, below)))

pub take_next : {A : Type 0} (xs : List A) (i : ℕ) (d : A) → i < length xs → take (i + 1) xs ≡ take i xs ++ get_or xs i d ∷ []
take_next xs i d below =
    let next : i + 1 ≡ suc i = omega arith in
    ap (λ (k : ℕ). take k xs) next ∙ take_suc xs i d below

pub all_at : {A : Type 0} (P : A → Type 0) (xs : List A) (i : ℕ) (d : A) → AllByRecursion P xs → i < length xs → P (get_or xs i d)
all_at P [] i d all below = absurd (omega (arith, below))
all_at P (x ∷ xs) zero d all below = all.0
all_at P (x ∷ xs) (suc i) d all below = all_at P xs i d all.1 (omega (arith, below))

pub all_taken : (P : ℕ → Type 0) (k : ℕ) (xs : List ℕ) → AllByRecursion P xs → AllByRecursion P (take k xs)
all_taken P zero xs all = tt
all_taken P (suc k) [] all = tt
all_taken P (suc k) (x ∷ xs) all = (all.0, all_taken P k xs all.1)

pub all_more : {A : Type 0} (P : A → Type 0) (xs : List A) (x : A) → AllByRecursion P xs → P x → AllByRecursion P (xs ++ x ∷ [])
all_more P [] x all is = (is, tt)
all_more P (y ∷ ys) x all is = (all.0, all_more P ys x all.1 is)

small : (n : ℕ) → IsPort n → n < 2 ^ 64
small n is = omega (arith, is.to)

same_port : (m n : ℕ) → IsPort m → IsPort n → decimal m ≡ decimal n → m ≡ n
same_port m n p q e = decimal_injective m n (small m p) (small n q) e

pub same_ports : (xs ys : List ℕ) → AllByRecursion IsPort xs → AllByRecursion IsPort ys → map decimal xs ≡ map decimal ys → xs ≡ ys
same_ports [] [] p q e = refl
same_ports [] (y ∷ ys) p q e = absurd (let n : 0 ≡ length (map decimal (y ∷ ys)) = ap length e in omega (arith, n))
same_ports (x ∷ xs) [] p q e = absurd (let n : length (map decimal (x ∷ xs)) ≡ 0 = ap length e in omega (arith, n))
same_ports (x ∷ xs) (y ∷ ys) p q e =
    let first = same_port x y p.0 q.0 (ap (λ (l : List (List ℕ)). get_or l 0 []) e) in
    let others = same_ports xs ys p.1 q.1 (ap (λ (l : List (List ℕ)). rest l) e) in
    rw (first, others) refl
  where
    rest : List (List ℕ) → List (List ℕ)
    rest [] = []
    rest (z ∷ zs) = zs

-- one more that is not among them
pub different_more : (xs : List ℕ) (x : ℕ) → AreDifferent xs → ¬ Contains xs x → AreDifferent (xs ++ x ∷ [])
different_more xs x each apart i below = elim (eq-or-lt_of_le (within below)) [
  | inl end ↦ rw (end, take-append-le (length xs) xs (x ∷ []) (omega arith), take_all (length xs) xs (omega arith), nth_end xs) apart
  | inr inside ↦ rw (take-append-le i xs (x ∷ []) (omega (arith, inside)), nth_left xs i inside) (each i inside)
]
  where
    within : i < length (xs ++ x ∷ []) → i ≤ length xs
    within b = omega (arith, length-append xs (x ∷ []), b)

    nth_left : (ys : List ℕ) (k : ℕ) → k < length ys → get_or (ys ++ x ∷ []) k 0 ≡ get_or ys k 0
    nth_left [] k b = absurd (omega (arith, b))
    nth_left (y ∷ ys) zero b = refl
    nth_left (y ∷ ys) (suc k) b = nth_left ys k (omega (arith, b))

    nth_end : (ys : List ℕ) → get_or (ys ++ x ∷ []) (length ys) 0 ≡ x
    nth_end [] = refl
    nth_end (y ∷ ys) = nth_end ys

-- ---- words that are no ports of nodes

module _ {W : Type 0} (f : W → List ℕ) (words : List W) (at : ℕ) (w : W) (below : at < length words) where
  at_text : (ports : List ℕ) → map f words ≡ map decimal ports → (at < length ports) × (f (get_or words at w) ≡ decimal (get_or ports at 0))
  at_text ports e =
      let count : length words ≡ length ports = sym (length-map words f) ∙ ap length e ∙ length-map ports decimal in
      let inside : at < length ports = omega (arith, below, count) in
      (inside, sym (nth_map f words at w [] below) ∙ ap (λ (l : List (List ℕ)). get_or l at []) e ∙ nth_map decimal ports at 0 [] inside)

  -- one of them is no port
  pub no_port : ((n : ℕ) → IsPort n → f (get_or words at w) ≢ decimal n) → (ports : List ℕ) → AreNodePorts ports → map f words ≢ map decimal ports
  no_port none ports are e =
      let t = at_text ports e in
      none (get_or ports at 0) (all_at IsPort ports at 0 are.each t.0) t.1

  -- one of them is a port that came before
  pub again : (port : ℕ) (items : List ℕ) → IsPort port → f (get_or words at w) ≡ decimal port → AllByRecursion IsPort items → map f (take at words) ≡ map decimal items → Contains items port →
      (ports : List ℕ) → AreNodePorts ports → map f words ≢ map decimal ports
  again port items is text each front found ports are e =
      let t = at_text ports e in
      let here : get_or ports at 0 ≡ port = same_port _ _ (all_at IsPort ports at 0 are.each t.0) is (sym t.1 ∙ text) in
      let before : take at ports ≡ items = same_ports _ _ (all_taken IsPort at ports are.each) each (sym (take_map decimal at ports) ∙ sym (ap (take at) e) ∙ take_map f at words ∙ front) in
      are.different at t.0 (rw (before, here) found)

  pub one_more : (port : ℕ) (items : List ℕ) → f (get_or words at w) ≡ decimal port → map f (take at words) ≡ map decimal items → map f (take (at + 1) words) ≡ map decimal (items ++ port ∷ [])
  one_more port items text front =
      ap (map f) (take_next words at w below) ∙ map-append f (take at words) (get_or words at w ∷ []) ∙ ap (λ (l : List (List ℕ)). l ++ f (get_or words at w) ∷ []) front ∙ ap (λ (t : List ℕ). map decimal items ++ t ∷ []) text ∙ sym (map-append decimal items (port ∷ []))
