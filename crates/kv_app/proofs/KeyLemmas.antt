-- The texts of keys, and of a key and a number.
use Rattle.std.proofs.Common.{◌≡◌, ◌≢◌, ◌⊎◌, ℕ, ℤ, zero, suc, pos, ◌+◌, ◌<◌, ◌≤◌, Bool, true, false, ◌&&◌, List, [], ◌∷◌, ◌++◌, length, take, get_or, arith, refl, sym, ◌∙◌, ap, subst, length-append, length-take, inl, inr}
use Rattle.std.specs.Fmt.{signed_decimal}
use Rattle.std.proofs.lemmas.Bool.{cases_lt}
use mathlib.Core.Bool.{true≢false}
use Rattle.std.proofs.lemmas.Int.{ints}
use Rattle.std.proofs.lemmas.List.{append-nil, get_or-take}
use Rattle.std.proofs.Math.Seq.{take-length}
use Rattle.std.proofs.Math.ListN.{get_or-append}
use Rattle.tx_model.specs.Applications.{IsKey, IsAmount, is_key_byte, are_key_bytes}
use Rattle.kv_app.specs.Places.{Begins, StopsAt}
use Rattle.kv_app.specs.Parts.{IsPair, IsPairText, IsAmountText}
use Rattle.kv_app.proofs.PlaceLemmas.{StopsAt-behind}
use Rattle.kv_app.proofs.Separators.{HasNoByte, parts_unique}

and_parts : (a b : Bool) → (a && b) ≡ true → (a ≡ true) × (b ≡ true)
and_parts true b h = (refl, h)
and_parts false b h = absurd cc

pub key_byte_at : (xs more : List ℕ) (k : ℕ) → k < length xs → are_key_bytes (xs ++ more) ≡ true → is_key_byte (get_or xs k 0) ≡ true
key_byte_at [] more k inside h = absurd (omega arith)
key_byte_at (x ∷ xs) more zero inside h = (and_parts (is_key_byte x) (are_key_bytes (xs ++ more)) h).0
key_byte_at (x ∷ xs) more (suc k) inside h = key_byte_at xs more k (omega arith) (and_parts (is_key_byte x) (are_key_bytes (xs ++ more)) h).1

pub more_key_bytes : (xs : List ℕ) (b : ℕ) → are_key_bytes xs ≡ true → is_key_byte b ≡ true → are_key_bytes (xs ++ b ∷ []) ≡ true
more_key_bytes [] b h is = rw is refl
more_key_bytes (x ∷ xs) b h is = let parts = and_parts (is_key_byte x) (are_key_bytes xs) h in rw (parts.0, more_key_bytes xs b parts.1 is) refl

-- how far a text may go on as a key
pub record IsKeyFront (text : List ℕ) (len : ℕ) : Type 0 where
  pub within : len ≤ length text
  pub short : len ≤ 64
  pub bytes : are_key_bytes (take len text) ≡ true
  pub ends : len < length text → len < 64 → is_key_byte (get_or text len 0) ≡ false

-- a front that some key begins with, or some key and more, has the bytes of one
front_bound : (text more : List ℕ) (len n : ℕ) → IsKeyFront text len → n ≤ length text → n ≤ 64 → are_key_bytes (take n text ++ more) ≡ true → n ≤ len
front_bound text more len n front within short bytes = elim (cases_lt len n) [
  | inl lt ↦
      let key : is_key_byte (get_or (take n text) len 0) ≡ true = key_byte_at (take n text) more len (simp length-take (omega arith)) bytes in
      let same = get_or-take n text len 0 lt in
      let other : is_key_byte (get_or text len 0) ≡ false = front.ends (omega arith) (omega arith) in
      absurd (true≢false (sym (rw same at key) ∙ other))
  | inr le ↦ le
]

pub are_key_bytes-front : (xs more : List ℕ) → are_key_bytes (xs ++ more) ≡ true → are_key_bytes xs ≡ true
are_key_bytes-front [] more h = refl
are_key_bytes-front (x ∷ xs) more h =
    let parts = and_parts (is_key_byte x) (are_key_bytes (xs ++ more)) h in
    rw (parts.0, are_key_bytes-front xs more parts.1) refl

pub some_key : IsKey (97 ∷ [])
some_key = record { some = omega arith; short = omega arith; bytes = refl }

pub key_of_front : (text : List ℕ) (len : ℕ) → IsKeyFront text len → 0 < len → IsKey (take len text)
key_of_front text len front some = record {
  some = simp length-take (omega (arith, front.within));
  short = simp length-take (omega (arith, front.short));
  bytes = front.bytes;
}

begins_key : (text : List ℕ) (len : ℕ) → IsKeyFront text len → Begins IsKey (take len text)
begins_key text len front = elim (cases_lt 0 len) [
  | inl lt ↦ ([], rw append-nil (key_of_front text len front lt))
  | inr le ↦
      let P : ℕ → Type 0 = λ k. Begins IsKey (take k text) in
      let start : 0 ≡ len = omega arith in
      subst P start (97 ∷ [], some_key)
]

-- a text stops to be a key at the end of its bytes of a key
pub StopsAt-key : (text : List ℕ) (len : ℕ) → IsKeyFront text len → (len ≡ 0) ⊎ (len < length text) → StopsAt IsKey text len
StopsAt-key text len front why = record {
  refused = λ key. none why key.some (front_bound text [] len (length text) front (omega arith) key.short (rw (take-length, append-nil) key.bytes));
  longest = record {
    within = front.within;
    begins = begins_key text len front;
    most = λ n le longer. front_bound text longer.0 len n front le (omega (arith, longer.1.short, length-append (take n text) longer.0, length-take n text)) longer.1.bytes;
  };
}
  where
    none : (len ≡ 0) ⊎ (len < length text) → 1 ≤ length text → length text ≤ len → ⊥
    none (inl e) some le = absurd (omega arith)
    none (inr lt) some le = absurd (omega arith)

pub whole_key : (text : List ℕ) (len : ℕ) → IsKeyFront text len → 0 < len → length text ≤ len → IsKey text
whole_key text len front some over =
    let e : len ≡ length text = omega (arith, front.within) in
    let P : ℕ → Type 0 = λ k. IsKey (take k text) in
    rw take-length at (subst P e (key_of_front text len front some))

-- ---- a key and a number

-- a byte that no key has
pub HasNoByte-key : (byte : ℕ) (key : List ℕ) → is_key_byte byte ≡ false → are_key_bytes key ≡ true → HasNoByte byte key
HasNoByte-key byte [] other h = tt
HasNoByte-key byte (b ∷ key) other h =
    let parts = and_parts (is_key_byte b) (are_key_bytes key) h in
    (λ e. absurd (true≢false (sym parts.0 ∙ (ap is_key_byte e ∙ other))), HasNoByte-key byte key other parts.1)

pub read_front : (text more : List ℕ) (n i : ℕ) → n ≤ length text → i < n → get_or (take n text ++ more) i 0 ≡ get_or text i 0
read_front text more n i within lt = get_or-append (take n text) more 0 i (simp length-take (omega arith)) ∙ get_or-take n text i 0 lt

read_separator : (key rest : List ℕ) (b : ℕ) → get_or (key ++ b ∷ rest) (length key) 0 ≡ b
read_separator [] rest b = refl
read_separator (x ∷ key) rest b = read_separator key rest b

-- a text that agrees with a key and a space for longer than it may
clash : (text key rest : List ℕ) (len n : ℕ) → IsKeyFront text len → (0 < len → len < length text → get_or text len 0 ≢ 32) → IsKey key → n ≤ length text → ((i : ℕ) → i < n → get_or text i 0 ≡ get_or (key ++ 32 ∷ rest) i 0) → (length key < n) ⊎ (len < n) → ⊥
clash text key rest len n front plain is within same far = elim (cases_lt (length key) len) [
  | inl lt ↦
      let space : get_or text (length key) 0 ≡ 32 = same (length key) (near lt far) ∙ read_separator key rest 32 in
      let key_byte : is_key_byte (get_or (take len text) (length key) 0) ≡ true = key_byte_at (take len text) [] (length key) (simp length-take (omega arith)) (rw append-nil front.bytes) in
      let read = get_or-take len text (length key) 0 lt in
      absurd (true≢false (sym (rw (read, space) at key_byte)))
  | inr le ↦ elim (cases_lt len (length key)) [
    | inl more ↦
        let read : get_or text len 0 ≡ get_or key len 0 = same len (past le far) ∙ get_or-append key (32 ∷ rest) 0 len more in
        let key_byte : is_key_byte (get_or key len 0) ≡ true = key_byte_at key [] len more (rw append-nil is.bytes) in
        let other : is_key_byte (get_or text len 0) ≡ false = front.ends (omega (arith, past le far)) (omega (arith, is.short)) in
        absurd (true≢false (sym key_byte ∙ (ap is_key_byte (sym read) ∙ other)))
    | inr equal ↦
        let e : length key ≡ len = omega arith in
        let P : ℕ → Type 0 = λ i. get_or (key ++ 32 ∷ rest) i 0 ≡ 32 in
        plain (omega (arith, is.some)) (omega (arith, past le far)) (same len (past le far) ∙ subst P e (read_separator key rest 32))
  ]
]
  where
    near : length key < len → (length key < n) ⊎ (len < n) → length key < n
    near lt (inl h) = h
    near lt (inr h) = omega arith

    past : len ≤ length key → (length key < n) ⊎ (len < n) → len < n
    past le (inl h) = omega arith
    past le (inr h) = h

pub amount_zero : IsAmount (pos 0)
amount_zero = record { least = omega (arith, ints); most = omega (arith, ints) }

begins_pair : (text : List ℕ) (len : ℕ) → IsKeyFront text len → Begins IsPairText (take len text)
begins_pair text len front = elim (cases_lt 0 len) [
  | inl lt ↦ (32 ∷ signed_decimal (pos 0), (take len text, pos 0, record { key_is = key_of_front text len front lt; amount_is = amount_zero; text_is = refl }))
  | inr le ↦
      let P : ℕ → Type 0 = λ k. Begins IsPairText (take k text) in
      let start : 0 ≡ len = omega arith in
      subst P start (97 ∷ 32 ∷ signed_decimal (pos 0), (97 ∷ [], pos 0, record { key_is = some_key; amount_is = amount_zero; text_is = refl }))
]

-- no space follows the bytes of a key
pub StopsAt-no_space : (text : List ℕ) (len : ℕ) → IsKeyFront text len → (0 < len → len < length text → get_or text len 0 ≢ 32) → StopsAt IsPairText text len
StopsAt-no_space text len front plain = record {
  refused = λ is. whole is.0 is.1 is.2;
  longest = record {
    within = front.within;
    begins = begins_pair text len front;
    most = λ n le longer. elim (cases_lt len n) [
      | inl lt ↦ absurd (over n longer.0 longer.1.0 longer.1.1 longer.1.2 le lt)
      | inr fits ↦ fits
    ];
  };
}
  where
    over : (n : ℕ) (more key : List ℕ) (z : ℤ) → IsPair (take n text ++ more) key z → n ≤ length text → len < n → ⊥
    over n more key z pair within lt =
        clash text key (signed_decimal z) len n front plain pair.key_is within (λ i inside. sym (read_front text more n i within inside) ∙ ap (λ xs. get_or xs i 0) pair.text_is) (inr lt)

    whole : (key : List ℕ) (z : ℤ) → IsPair text key z → ⊥
    whole key z pair =
        clash text key (signed_decimal z) len (length text) front plain pair.key_is (omega arith) (λ i inside. ap (λ xs. get_or xs i 0) pair.text_is) (inl (omega (arith, simp length-append at (ap length pair.text_is))))

-- a key and a space in front, and behind them what is no number
pub StopsAt-pair : (key number : List ℕ) (at : ℕ) → IsKey key → StopsAt IsAmountText number at → StopsAt IsPairText (key ++ 32 ∷ number) (length key + 1 + at)
StopsAt-pair key number at is stops = StopsAt-behind IsAmountText IsPairText key 32 number at wider narrow stops
  where
    wider : (t : List ℕ) → IsAmountText t → IsPairText (key ++ 32 ∷ t)
    wider t amount = (key, amount.0, record { key_is = is; amount_is = amount.1.valid; text_is = ap (λ (xs : List ℕ). key ++ 32 ∷ xs) amount.1.text_is })

    narrow : (t : List ℕ) → IsPairText (key ++ 32 ∷ t) → IsAmountText t
    narrow t (other, z, pair) =
        let parts = parts_unique 32 key t other (signed_decimal z) (HasNoByte-key 32 key refl is.bytes) (HasNoByte-key 32 other refl pair.key_is.bytes) pair.text_is in
        (z, record { valid = pair.amount_is; text_is = parts.1 })
