-- Words that are a command, or none.
use Rattle.std.proofs.Common.{◌≡◌, Option, Some, None, subst}
use Rattle.std.specs.Prelude.{MatchOption}

pub none_of : {A : Type 0} (o : Option A) (X : Type 0) (Y : A → Type 0) → o ≡ None → MatchOption o X Y → X
none_of None X Y is held = held
none_of (Some a) X Y is held = absurd (let never : Some a ≡ None = is in cc)

pub some_of : {A : Type 0} (o : Option A) (a : A) (X : Type 0) (Y : A → Type 0) → o ≡ Some a → MatchOption o X Y → Y a
some_of {A = A} o a X Y is held =
    let M : Option A → Type 0 = λ p. MatchOption p X Y in
    subst M is held
