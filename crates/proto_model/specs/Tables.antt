-- Tables: total functions from numbers, which lists stand for.
use Rattle.std.specs.Prelude.{ℕ, zero, suc, ◌==◌, if◌then◌else◌, List, get_or}

-- the table f with x at i
abbrev pub put : {A : Type 0} → (ℕ → A) → ℕ → A → ℕ → A
put f i x k = if k == i then x else f k

-- a list as a table, counted from 1; what is not in the list is d
abbrev pub table : {A : Type 0} → A → List A → ℕ → A
table d xs zero = d
table d xs (suc i) = get_or xs i d
