-- Quorums of nodes, which are numbered from 1.
use Rattle.std.specs.Prelude.{ℕ, zero, suc, ◌+◌, ◌/◌, Bool, nat_le, ◌&&◌, if◌then◌else◌}

-- how many of the numbers 1 to n pass
abbrev pub count : (ℕ → Bool) → ℕ → ℕ
count passes zero = 0
count passes (suc n) = (if passes (suc n) then 1 else 0) + count passes n

-- how many of n nodes are a quorum
abbrev pub quorum : ℕ → ℕ
quorum n = n / 2 + 1

-- the greatest number up to k that a quorum of n nodes reaches, else 0
abbrev pub reached : ℕ → (ℕ → ℕ → Bool) → ℕ → ℕ
reached n reaches zero = 0
reached n reaches (suc k) = if nat_le (quorum n) (count (reaches (suc k)) n) then suc k else reached n reaches k

-- a number from 1 to the greatest
abbrev pub is_within : ℕ → ℕ → Bool
is_within greatest number = nat_le 1 number && nat_le number greatest
