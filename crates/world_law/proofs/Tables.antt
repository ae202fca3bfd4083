-- Tables with one entry changed.
use Rattle.std.proofs.Common.{◌≡◌, ◌≢◌, ℕ, if◌then◌else◌, Bool, arith, refl, sym, inl, inr, subst}
use Rattle.proto_model.specs.Tables.{put}
use Rattle.std.proofs.lemmas.Bool.Decides.{nat_tests}
use mathlib.Core.Path.{fun_ext}

pub put_same : {A : Type 0} (f : ℕ → A) (i : ℕ) (x : A) → put f i x i ≡ x
put_same f i x = grind (arith, nat_tests)

pub put_other : {A : Type 0} (f : ℕ → A) (i : ℕ) (x : A) (k : ℕ) → k ≢ i → put f i x k ≡ f k
put_other f i x k ne = grind (arith, nat_tests)

-- what holds of the new value and of the others holds of each
pub put_each : {A : Type 0} (P : ℕ → A → Type 0) (f : ℕ → A) (i : ℕ) (x : A) → P i x → ((k : ℕ) → k ≢ i → P k (f k)) → (k : ℕ)
    → P k (put f i x k)
put_each {A} P f i x new others k =
    elim (Rattle.std.proofs.lemmas.Bool.Decides.eqb_tells k i) [
      | inl t ↦ subst (λ (b : Bool). P k (if b then x else f k)) (sym t.0) (subst (λ (j : ℕ). P j x) (sym t.1) new)
      | inr t ↦ subst (λ (b : Bool). P k (if b then x else f k)) (sym t.0) (others k t.1)
    ]

-- the same of two tables
pub put_each₂ : {A B : Type 0} (P : ℕ → A → B → Type 0) (f : ℕ → A) (g : ℕ → B) (i : ℕ) (x : A) (y : B) → P i x y
    → ((k : ℕ) → k ≢ i → P k (f k) (g k)) → (k : ℕ) → P k (put f i x k) (put g i y k)
put_each₂ {A} {B} P f g i x y new others k =
    elim (Rattle.std.proofs.lemmas.Bool.Decides.eqb_tells k i) [
      | inl t ↦ subst (λ (b : Bool). P k (if b then x else f k) (if b then y else g k)) (sym t.0) (subst (λ (j : ℕ). P j x y) (sym t.1) new)
      | inr t ↦ subst (λ (b : Bool). P k (if b then x else f k) (if b then y else g k)) (sym t.0) (others k t.1)
    ]

-- a table with its own value put back
pub put_back : {A : Type 0} (f : ℕ → A) (i : ℕ) → put f i (f i) ≡ f
put_back {A} f i = fun_ext (put_each (λ (k : ℕ) (x : A). x ≡ f k) f i (f i) refl (λ k ne. refl))
