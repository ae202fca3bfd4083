-- Tables with one entry changed, and lists of which each element keeps something.
use Rattle.std.proofs.Common.{◌≡◌, ◌≢◌, ℕ, zero, suc, List, [], ◌∷◌, ◌++◌, Bool, true, false, arith, refl, subst, Some, slice_get}
use Rattle.std.specs.Prelude.{◌==◌, if◌then◌else◌}
use Rattle.std.specs.List.{AllByRecursion}
use Rattle.std.proofs.lemmas.Bool.Decides.{nat_tests}
use Rattle.proto_model.specs.Tables.{put}

-- what holds of the new entry and of the old ones
pub all_put : {A : Type 0} (P : A → Type 0) (f : ℕ → A) (i : ℕ) (x : A) → P x → ((k : ℕ) → P (f k)) → (k : ℕ) → P (put f i x k)
all_put P f i x here there k = elim (k == i) as (λ b. P (if b then x else f k)) [ true ↦ here | false ↦ there k ]

pub same_index : (k i : ℕ) → (k == i) ≡ true → k ≡ i
same_index k i is = grind (arith, nat_tests)

pub other_index : (k i : ℕ) → (k == i) ≡ false → k ≢ i
other_index k i is same = grind (arith, nat_tests)

-- one of two, whatever decides
pub either : {A : Type 0} (P : A → Type 0) (b : Bool) (x y : A) → P x → P y → P (if b then x else y)
either P true x y p q = p
either P false x y p q = q

-- the same, where the test is known in each
pub if_each : {A : Type 0} (P : A → Type 0) (b : Bool) (x y : A) → (b ≡ true → P x) → (b ≡ false → P y) → P (if b then x else y)
if_each P true x y p q = p refl
if_each P false x y p q = q refl

pub AllByRecursion-more : {A : Type 0} (P Q : A → Type 0) (xs : List A) → ((x : A) → P x → Q x) → AllByRecursion P xs → AllByRecursion Q xs
AllByRecursion-more P Q [] more all = tt
AllByRecursion-more P Q (x ∷ xs) more all = (more x all.0, AllByRecursion-more P Q xs more all.1)

pub AllByRecursion-append : {A : Type 0} (P : A → Type 0) (xs ys : List A) → AllByRecursion P xs → AllByRecursion P ys → AllByRecursion P (xs ++ ys)
AllByRecursion-append P [] ys p q = q
AllByRecursion-append P (x ∷ xs) ys p q = (p.0, AllByRecursion-append P xs ys p.1 q)

pub AllByRecursion-get : {A : Type 0} (P : A → Type 0) (xs : List A) (k : ℕ) (x : A) → AllByRecursion P xs → slice_get xs k ≡ Some x → P x
AllByRecursion-get P [] k x all is = cc
AllByRecursion-get P (y ∷ xs) zero x all is = let same : y ≡ x = cc in subst P same all.0
AllByRecursion-get P (y ∷ xs) (suc k) x all is = AllByRecursion-get P xs k x all.1 is

pub slice_get-append : {A : Type 0} (xs ys : List A) (k : ℕ) (x : A) → slice_get xs k ≡ Some x → slice_get (xs ++ ys) k ≡ Some x
slice_get-append [] ys k x is = cc
slice_get-append (y ∷ xs) ys zero x is = is
slice_get-append (y ∷ xs) ys (suc k) x is = slice_get-append xs ys k x is
