-- What stands first in a text, each behind a space.
use Rattle.std.specs.Prelude.{◌≡◌, ◌≢◌, ℕ, ◌<◌, ◌^◌, List, ◌∷◌, ◌++◌, length, flat_map}
use Rattle.schedule_text.specs.Words.{EndsWord}
use Rattle.schedule_text.specs.Lists.{IsKeysWord}
use Rattle.schedule_text.specs.Lines.{AreNumbers, number_text}

-- a number, and what follows it
pub record IsNumberThen (text : List ℕ) (n : ℕ) (rest : List ℕ) : Type 0 where
  pub text_is : text ≡ number_text n ++ rest
  pub ends : EndsWord rest
  pub fits : n < 2 ^ 64

-- no number
abbrev pub IsNoNumberThen : List ℕ → Type 0
IsNoNumberThen text = (n : ℕ) (rest : List ℕ) → n < 2 ^ 64 → EndsWord rest → text ≢ number_text n ++ rest

-- not so many numbers
abbrev pub AreNoNumbersThen : ℕ → List ℕ → Type 0
AreNoNumbersThen count text =
    (numbers rest : List ℕ) → length numbers ≡ count → AreNumbers numbers → EndsWord rest → text ≢ flat_map number_text numbers ++ rest

-- a list of keys, and what follows it
pub record AreKeysThen (text word rest : List ℕ) : Type 0 where
  pub text_is : text ≡ 32 ∷ (word ++ rest)
  pub ends : EndsWord rest
  pub are : IsKeysWord word

-- no list of keys
abbrev pub AreNoKeysThen : List ℕ → Type 0
AreNoKeysThen text = (word rest : List ℕ) → IsKeysWord word → EndsWord rest → text ≢ 32 ∷ (word ++ rest)
