-- Words with single spaces between them, and numbers as words.
use Rattle.std.specs.Prelude.{◌≡◌, ◌≢◌, ℕ, List, [], ◌∷◌, ◌++◌, ⊤}

-- no byte of these is a space
abbrev pub HasNoSpace : List ℕ → Type 0
HasNoSpace [] = ⊤
HasNoSpace (byte ∷ bytes) = (byte ≢ 32) × HasNoSpace bytes

-- a word ends before these: there is nothing more, or a space
abbrev pub EndsWord : List ℕ → Type 0
EndsWord [] = ⊤
EndsWord (byte ∷ bytes) = byte ≡ 32

-- a text is a word and what follows it
pub record IsCut (text word rest : List ℕ) : Type 0 where
  pub text_is : text ≡ word ++ rest
  pub plain : HasNoSpace word
  pub ends : EndsWord rest
