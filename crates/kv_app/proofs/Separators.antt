-- Texts that are cut at a byte.
use Rattle.std.proofs.Common.{◌≡◌, ◌≢◌, ℕ, zero, suc, ◌+◌, List, [], ◌∷◌, ◌++◌, length, take, refl}
use Rattle.std.proofs.Math.Seq.{take-append-add}

-- no byte of the text is this one
abbrev pub HasNoByte : ℕ → List ℕ → Type 0
HasNoByte byte [] = Unit {0}
HasNoByte byte (b ∷ bytes) = (b ≢ byte) × HasNoByte byte bytes

pub HasNoByte-append : (byte : ℕ) (xs ys : List ℕ) → HasNoByte byte xs → HasNoByte byte ys → HasNoByte byte (xs ++ ys)
HasNoByte-append byte [] ys p q = q
HasNoByte-append byte (x ∷ xs) ys p q = (p.0, HasNoByte-append byte xs ys p.1 q)

pub HasNoByte-take : (byte : ℕ) (n : ℕ) (xs : List ℕ) → HasNoByte byte xs → HasNoByte byte (take n xs)
HasNoByte-take byte zero xs p = tt
HasNoByte-take byte (suc n) [] p = tt
HasNoByte-take byte (suc n) (x ∷ xs) p = (p.0, HasNoByte-take byte n xs p.1)

-- a text is cut at its first such byte in one way
pub parts_unique : (byte : ℕ) (a b c d : List ℕ) → HasNoByte byte a → HasNoByte byte c → a ++ byte ∷ b ≡ c ++ byte ∷ d → (a ≡ c) × (b ≡ d)
parts_unique byte [] b [] d p q e = (refl, cc)
parts_unique byte [] b (y ∷ c) d p q e = absurd (q.0 cc)
parts_unique byte (x ∷ a) b [] d p q e = absurd (p.0 cc)
parts_unique byte (x ∷ a) b (y ∷ c) d p q e = let h = parts_unique byte a b c d p.1 q.1 cc in (cc, h.1)

pub has_byte : (byte : ℕ) (xs ys zs : List ℕ) → HasNoByte byte zs → zs ≡ xs ++ byte ∷ ys → ⊥
has_byte byte [] ys [] p e = cc
has_byte byte [] ys (z ∷ zs) p e = p.0 cc
has_byte byte (x ∷ xs) ys [] p e = cc
has_byte byte (x ∷ xs) ys (z ∷ zs) p e = has_byte byte xs ys zs p.1 cc

pub take_past : (xs ys : List ℕ) (byte n k : ℕ) → n ≡ length xs + suc k → take n (xs ++ byte ∷ ys) ≡ xs ++ byte ∷ take k ys
take_past xs ys byte n k at = rw at (take-append-add xs (byte ∷ ys) (suc k))
