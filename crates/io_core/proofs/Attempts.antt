-- The calls of `answer` of a port in memory, one call on.
use Rattle.std.proofs.Common.{◌≡◌, ℕ, ◌+◌, true, false, List, [], ◌∷◌, ◌++◌, length, drop, arith, refl, ap}
use Rattle.std.specs.Prelude.{Vec}
use Rattle.std.specs.declared.alloc.Global.{Global}
use Rattle.io_core.specs.Keeping.{answers_of, given_count}
use Rattle.io_core.specs.MemPort.{given_bytes}
use Rattle.io_core.specs.Rooms.{first_of}
use Rattle.io_core.specs.declared.kept.Attempt.{Attempt}
use Rattle.io_core.specs.declared.kept.Attempt.TheVariants.{Given, Lost}

pub given_bytes-answers_of : (past : List Attempt) (given : List (List ℕ)) → given_count past ≡ length given → given_bytes (answers_of past given) ≡ given
given_bytes-answers_of [] [] e = refl
given_bytes-answers_of [] (x ∷ given) e = absurd (omega (arith, e))
given_bytes-answers_of (Given ∷ past) [] e = absurd (omega (arith, e))
given_bytes-answers_of (Given ∷ past) (x ∷ given) e = ap (λ xs. x ∷ xs) (given_bytes-answers_of past given (omega (arith, e)))
given_bytes-answers_of (Lost bytes ∷ past) given e = given_bytes-answers_of past given e

-- one more that is given
pub answers_of-given : (past : List Attempt) (given : List (List ℕ)) (x : List ℕ) → given_count past ≡ length given →
    answers_of (past ++ Given ∷ []) (given ++ x ∷ []) ≡ answers_of past given ++ record { bytes = x; given = true } ∷ []
answers_of-given [] [] x e = refl
answers_of-given [] (y ∷ given) x e = absurd (omega (arith, e))
answers_of-given (Given ∷ past) [] x e = absurd (omega (arith, e))
answers_of-given (Given ∷ past) (y ∷ given) x e = ap (λ calls. record { bytes = y; given = true } ∷ calls) (answers_of-given past given x (omega (arith, e)))
answers_of-given (Lost bytes ∷ past) given x e = ap (λ calls. record { bytes = bytes.items; given = false } ∷ calls) (answers_of-given past given x e)

-- one more that is lost
pub answers_of-lost : (past : List Attempt) (given : List (List ℕ)) (bytes : Vec ℕ Global) →
    answers_of (past ++ Lost bytes ∷ []) given ≡ answers_of past given ++ record { bytes = bytes.items; given = false } ∷ []
answers_of-lost [] given bytes = refl
answers_of-lost (Given ∷ past) given bytes = ap (λ calls. record { bytes = first_of given; given = true } ∷ calls) (answers_of-lost past (drop 1 given) bytes)
answers_of-lost (Lost other ∷ past) given bytes = ap (λ calls. record { bytes = other.items; given = false } ∷ calls) (answers_of-lost past given bytes)

pub given_count-given : (past : List Attempt) → given_count (past ++ Given ∷ []) ≡ given_count past + 1
given_count-given [] = refl
given_count-given (Given ∷ past) = ap (λ n. n + 1) (given_count-given past)
given_count-given (Lost bytes ∷ past) = given_count-given past

pub given_count-lost : (past : List Attempt) (bytes : Vec ℕ Global) → given_count (past ++ Lost bytes ∷ []) ≡ given_count past
given_count-lost [] bytes = refl
given_count-lost (Given ∷ past) bytes = ap (λ n. n + 1) (given_count-lost past bytes)
given_count-lost (Lost other ∷ past) bytes = given_count-lost past bytes
