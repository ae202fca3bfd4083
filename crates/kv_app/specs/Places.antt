-- Where a text stops to begin some op text.
use Rattle.std.specs.Prelude.{◌≡◌, ℕ, zero, suc, ◌+◌, ◌≤◌, Bool, is_some, if◌then◌else◌, List, [], ◌∷◌, ◌++◌, length, take, codes}
use Rattle.std.specs.List.{list_any}
use Rattle.tx_model.specs.declared.op.Op.{Op}
use Rattle.tx_model.specs.Applications.{ops_of, SpellsOps}

-- some text of these begins so
abbrev pub Begins : (List ℕ → Type 0) → List ℕ → Type 0
Begins IsText front = (more : List ℕ) × IsText (front ++ more)

-- the length of the longest front that begins some text of these
pub record IsLongest (IsText : List ℕ → Type 0) (text : List ℕ) (len : ℕ) : Type 0 where
  pub within : len ≤ length text
  pub begins : Begins IsText (take len text)
  pub most : (n : ℕ) → n ≤ length text → Begins IsText (take n text) → n ≤ len

-- the text is none of these, and this is the length of its longest front that begins one
pub record StopsAt (IsText : List ℕ → Type 0) (text : List ℕ) (len : ℕ) : Type 0 where
  pub refused : ¬ IsText text
  pub longest : IsLongest IsText text len

-- the text spells some ops
abbrev pub IsOpText : List ℕ → Type 0
IsOpText text = (ops : List Op) × SpellsOps text ops

-- the text is no op text, and the place is one more than the length of its longest front that begins one
abbrev pub IsBadAt : List ℕ → ℕ → Type 0
IsBadAt text at = (len : ℕ) × StopsAt IsOpText text len × (at ≡ len + 1)

-- ---- the same place, as a function

abbrev pub is_op_text : List ℕ → Bool
is_op_text text = is_some (ops_of text)

-- whatever begins some op text is made one by one of these
abbrev pub endings : List (List ℕ)
endings =
    [] ∷ codes "0" ∷ codes "1" ∷ codes " 0" ∷ codes "a" ∷ codes " a"
    ∷ codes "a 0" ∷ codes " a 0" ∷ codes "t a 0" ∷ codes "et a 0" ∷ codes "set a 0"
    ∷ codes "d a 0" ∷ codes "dd a 0" ∷ codes "l a" ∷ codes "el a" ∷ []

-- some op text begins so
unfoldable pub begins_op_text : List ℕ → Bool
begins_op_text front = list_any (λ ending. is_op_text (front ++ ending)) endings

-- the length of the longest front of at most n bytes that begins some op text
abbrev pub longest_front : ℕ → List ℕ → ℕ
longest_front zero text = 0
longest_front (suc n) text = if begins_op_text (take (suc n) text) then suc n else longest_front n text

-- where the text is no op text, the place is this
unfoldable pub bad_place : List ℕ → ℕ
bad_place text = longest_front (length text) text + 1
