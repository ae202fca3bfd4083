-- The texts of numbers with a sign.
use Rattle.std.proofs.Common.{◌≡◌, ◌≢◌, ℕ, zero, suc, pos, negsuc, neg_ℤ, ◌+◌, ◌^◌, ◌<◌, ◌≤◌, List, [], ◌∷◌, ◌++◌, length, take, get_or, decimal, arith, sym, ap}
use Rattle.std.proofs.lemmas.Int.{ints}
use Rattle.std.specs.Str.Parse.{AllDigits}
use Rattle.std.proofs.lemmas.Str.Parse.{numerals_by_value, tells_digits, digit_from_value}
use Rattle.std.proofs.lemmas.Fmt.{digits_decimal, decimal_nonempty}
use Rattle.kv_app.specs.Places.{StopsAt}
use Rattle.kv_app.specs.Parts.{IsCount, IsCountText, IsAmountOf, IsAmountText}
use Rattle.kv_app.proofs.PlaceLemmas.{StopsAt-wider, StopsAt-behind}

-- the first byte of a number's text is a digit
pub first_is_digit : (n : ℕ) (b : ℕ) (text : List ℕ) → n < 2 ^ 64 → b ∷ text ≡ decimal n → (48 ≤ b) × (b ≤ 57)
first_is_digit n b text small e =
    let digits : AllDigits 10 (b ∷ text) = rw (sym e) at (digits_decimal (numerals_by_value (AllDigits 10) tells_digits) n small) in
    let range = digit_from_value b digits.0 in
    (omega (arith, range), omega (arith, range))

pub IsAmountOf-pos : (text : List ℕ) (value : ℕ) → IsCount 0 text value → IsAmountOf text (pos value)
IsAmountOf-pos text value count = record {
  valid = record { least = omega (arith, ints); most = omega (arith, ints, count.most_is) };
  text_is = count.text_is;
}

pub IsAmountOf-neg : (digits : List ℕ) (value : ℕ) → IsCount 1 digits value → IsAmountOf (45 ∷ digits) (neg_ℤ (pos value))
IsAmountOf-neg digits zero count = absurd (omega (arith, count.least_is))
IsAmountOf-neg digits (suc k) count = record {
  valid = record { least = omega (arith, ints, count.most_is); most = omega (arith, ints) };
  text_is = ap (λ (xs : List ℕ). 45 ∷ xs) count.text_is;
}

-- no sign in front
pub plain_count : (b : ℕ) (text : List ℕ) → b ≢ 45 → IsAmountText (b ∷ text) → IsCountText 0 (b ∷ text)
plain_count b text plain (pos n, amount) = (n, record { least_is = omega arith; most_is = omega (arith, ints, amount.valid.most); text_is = amount.text_is })
plain_count b text plain (negsuc n, amount) = absurd (plain (ap (λ xs. get_or xs 0 0) amount.text_is))

-- a sign in front
pub signed_count : (text : List ℕ) → IsAmountText (45 ∷ text) → IsCountText 1 text
signed_count text (pos n, amount) = absurd (omega (arith, first_is_digit n 45 text (omega (arith, ints, amount.valid.most)) amount.text_is))
signed_count text (negsuc n, amount) = (suc n, record { least_is = omega arith; most_is = omega (arith, ints, amount.valid.least); text_is = cc })

not_empty : IsAmountText [] → ⊥
not_empty (pos n, amount) = absurd (omega (arith, decimal_nonempty n (omega (arith, ints, amount.valid.most)), ap length amount.text_is))
not_empty (negsuc n, amount) = cc (amount.text_is)

-- a text without a sign stops to be a number where it stops to be one of digits
pub StopsAt-plain : (text : List ℕ) (len : ℕ) → (0 < length text → get_or text 0 0 ≢ 45) → StopsAt (IsCountText 0) text len → StopsAt IsAmountText text len
StopsAt-plain [] len plain stops =
    StopsAt-wider (IsCountText 0) IsAmountText [] 0 len (omega arith) (λ t count. (pos count.0, IsAmountOf-pos t count.0 count.1)) (λ is. absurd (not_empty is)) (λ n more some within _. absurd (omega arith)) stops
StopsAt-plain (b ∷ text) len plain stops =
    StopsAt-wider (IsCountText 0) IsAmountText (b ∷ text) 0 len (omega arith) (λ t count. (pos count.0, IsAmountOf-pos t count.0 count.1)) (plain_count b text (plain (omega arith))) front stops
  where
    front : (n : ℕ) (more : List ℕ) → 0 < n → n ≤ length (b ∷ text) → IsAmountText (take n (b ∷ text) ++ more) → IsCountText 0 (take n (b ∷ text) ++ more)
    front zero more some within is = absurd (omega arith)
    front (suc n) more some within is = plain_count b (take n text ++ more) (plain (omega arith)) is

-- one with a sign stops where what is behind the sign stops
pub StopsAt-signed : (digits : List ℕ) (len : ℕ) → StopsAt (IsCountText 1) digits len → StopsAt IsAmountText (45 ∷ digits) (1 + len)
StopsAt-signed digits len stops =
    StopsAt-behind (IsCountText 1) IsAmountText [] 45 digits len (λ t count. (neg_ℤ (pos count.0), IsAmountOf-neg t count.0 count.1)) signed_count stops
