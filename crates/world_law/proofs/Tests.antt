-- What a test says.
use Rattle.std.proofs.Common.{◌≡◌, ◌≢◌, ℕ, ◌<◌, ◌≤◌, ◌==◌, ◌&&◌, nat_lt, nat_le, if◌then◌else◌, Bool, true, false, arith, refl}
use Rattle.std.proofs.lemmas.Bool.Decides.{nat_tests}

-- both ways of a test
pub if_each : {A : Type 0} (P : A → Type 0) (b : Bool) (x y : A) → (b ≡ true → P x) → (b ≡ false → P y) → P (if b then x else y)
if_each P true x y f g = f refl
if_each P false x y f g = g refl

pub not_above : (a b : ℕ) → nat_lt a b ≡ false → b ≤ a
not_above a b e = grind (arith, nat_tests)

pub above : (a b : ℕ) → nat_lt a b ≡ true → a < b
above a b e = grind (arith, nat_tests)

pub equal : (a b : ℕ) → a == b ≡ true → a ≡ b
equal a b e = grind (arith, nat_tests)

pub unequal : (a b : ℕ) → a == b ≡ false → a ≢ b
unequal a b e = grind (arith, nat_tests)

pub within : (a b : ℕ) → nat_le a b ≡ true → a ≤ b
within a b e = grind (arith, nat_tests)

pub and_right : (a b : Bool) → (a && b) ≡ true → b ≡ true
and_right a b e = grind arith

pub and_left : (a b : Bool) → (a && b) ≡ true → a ≡ true
and_left a b e = grind arith
