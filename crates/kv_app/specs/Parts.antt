-- The texts of one op and of its parts.
use Rattle.std.specs.Prelude.{◌≡◌, ℕ, ◌+◌, ◌*◌, ◌-◌, ◌≤◌, ℤ, List, ◌∷◌, ◌++◌, decimal}
use Rattle.std.specs.Fmt.{signed_decimal}
use Rattle.tx_model.specs.declared.op.Op.{Op}
use Rattle.tx_model.specs.Applications.{IsKey, IsAmount, IsOp, op_spelling}

-- a digit behind a number makes this number, which is from the least to the most
pub record IsNext (value least byte next : ℕ) : Type 0 where
  pub from_0 : 48 ≤ byte
  pub to_9 : byte ≤ 57
  pub next_is : next ≡ value * 10 + (byte - 48)
  pub least_is : least ≤ next
  pub most_is : next ≤ 1000000000

-- the text of a number from the least to the most
pub record IsCount (least : ℕ) (text : List ℕ) (value : ℕ) : Type 0 where
  pub least_is : least ≤ value
  pub most_is : value ≤ 1000000000
  pub text_is : text ≡ decimal value

abbrev pub IsCountText : ℕ → List ℕ → Type 0
IsCountText least text = (value : ℕ) × IsCount least text value

-- the text of a number of an op
pub record IsAmountOf (text : List ℕ) (n : ℤ) : Type 0 where
  pub valid : IsAmount n
  pub text_is : text ≡ signed_decimal n

abbrev pub IsAmountText : List ℕ → Type 0
IsAmountText text = (n : ℤ) × IsAmountOf text n

-- a key, a space and a number
pub record IsPair (text key : List ℕ) (n : ℤ) : Type 0 where
  pub key_is : IsKey key
  pub amount_is : IsAmount n
  pub text_is : text ≡ key ++ 32 ∷ signed_decimal n

abbrev pub IsPairText : List ℕ → Type 0
IsPairText text = (key : List ℕ) × (n : ℤ) × IsPair text key n

-- a word, and one of these texts
abbrev pub IsAfter : List ℕ → (List ℕ → Type 0) → List ℕ → Type 0
IsAfter word IsText text = (rest : List ℕ) × IsText rest × (text ≡ word ++ rest)

-- the text of one op
pub record IsPieceOf (text : List ℕ) (op : Op) : Type 0 where
  pub valid : IsOp op
  pub text_is : text ≡ op_spelling op

abbrev pub IsPiece : List ℕ → Type 0
IsPiece text = (op : Op) × IsPieceOf text op
