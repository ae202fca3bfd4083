-- Texts of one op and more, piece by piece.
use Rattle.std.proofs.Common.{◌≡◌, ◌≢◌, ◌⊎◌, ℕ, ℤ, zero, suc, pos, negsuc, ◌+◌, ◌-◌, ◌<◌, ◌≤◌, ◌^◌, List, [], ◌∷◌, ◌++◌, length, take, decimal, flat_map, arith, refl, sym, ◌∙◌, ap, subst, append_assoc, length-append, inl, inr}
use Rattle.std.specs.Fmt.{signed_decimal}
use Rattle.std.specs.List.{AllByRecursion}
use Rattle.std.specs.Str.Parse.{AllDigits}
use Rattle.std.proofs.lemmas.Bool.{cases_lt}
use Rattle.std.proofs.lemmas.Int.{ints}
use Rattle.std.proofs.lemmas.Str.Parse.{numerals_by_value, tells_digits, digit_from_value}
use Rattle.std.proofs.lemmas.Fmt.{digits_decimal}
use Rattle.std.proofs.lemmas.List.{append-nil, take-append-le}
use Rattle.tx_model.specs.declared.op.Op.{Op}
use Rattle.tx_model.specs.declared.op.Op.TheVariants.{Set, Add, Del}
use Rattle.tx_model.specs.Applications.{IsKey, IsAmount, IsOp, op_spelling, next_op, ops_spelling}
use Rattle.kv_app.specs.Places.{Begins, StopsAt, IsOpText}
use Rattle.kv_app.specs.Parts.{IsPieceOf, IsPiece}
use Rattle.kv_app.proofs.Separators.{HasNoByte, HasNoByte-append, HasNoByte-take, parts_unique, has_byte, take_past}
use Rattle.kv_app.proofs.PlaceLemmas.{StopsAt-wider, StopsAt-behind}
use Rattle.kv_app.proofs.KeyLemmas.{HasNoByte-key}

-- ---- no text of an op has a semicolon

HasNoByte-digits : (byte : ℕ) (ds : List ℕ) → (48 ≤ byte → 57 < byte) → AllDigits 10 ds → HasNoByte byte ds
HasNoByte-digits byte [] other digits = tt
HasNoByte-digits byte (d ∷ ds) other digits =
    let range = digit_from_value d digits.0 in
    (λ e. absurd (omega (arith, range, e, other)), HasNoByte-digits byte ds other digits.1)

decimal_free : (byte n : ℕ) → (48 ≤ byte → 57 < byte) → n < 2 ^ 64 → HasNoByte byte (decimal n)
decimal_free byte n other small = HasNoByte-digits byte (decimal n) other (digits_decimal (numerals_by_value (AllDigits 10) tells_digits) n small)

-- a byte that no number of an op has
pub HasNoByte-amount : (byte : ℕ) (z : ℤ) → (48 ≤ byte → 57 < byte) → byte ≢ 45 → IsAmount z → HasNoByte byte (signed_decimal z)
HasNoByte-amount byte (pos n) other sign amount = decimal_free byte n other (omega (arith, ints, amount.most))
HasNoByte-amount byte (negsuc n) other sign amount = (λ e. sign (sym e), decimal_free byte (suc n) other (omega (arith, ints, amount.least)))

pair_free : (key : List ℕ) (z : ℤ) → IsKey key → IsAmount z → HasNoByte 59 (key ++ 32 ∷ signed_decimal z)
pair_free key z is amount =
    HasNoByte-append 59 key (32 ∷ signed_decimal z) (HasNoByte-key 59 key refl is.bytes) (λ e. absurd (omega (arith, e)), HasNoByte-amount 59 z (λ _. omega arith) (λ e. absurd (omega (arith, e))) amount)

word_free : (a b c : ℕ) (t : List ℕ) → a ≢ 59 → b ≢ 59 → c ≢ 59 → HasNoByte 59 t → HasNoByte 59 (a ∷ b ∷ c ∷ 32 ∷ t)
word_free a b c t p q r rest = (p, (q, (r, (λ e. absurd (omega (arith, e)), rest))))

pub HasNoByte-op : (op : Op) → IsOp op → HasNoByte 59 (op_spelling op)
HasNoByte-op (Set key z) is = word_free 115 101 116 _ (λ e. absurd (omega (arith, e))) (λ e. absurd (omega (arith, e))) (λ e. absurd (omega (arith, e))) (pair_free key z is.0 is.1)
HasNoByte-op (Add key z) is = word_free 97 100 100 _ (λ e. absurd (omega (arith, e))) (λ e. absurd (omega (arith, e))) (λ e. absurd (omega (arith, e))) (pair_free key z is.0 is.1)
HasNoByte-op (Del key) is = word_free 100 101 108 _ (λ e. absurd (omega (arith, e))) (λ e. absurd (omega (arith, e))) (λ e. absurd (omega (arith, e))) (HasNoByte-key 59 key refl is.bytes)

-- ---- the first piece

-- nothing, or a semicolon and more
abbrev pub IsTail : List ℕ → Type 0
IsTail tail = (tail ≡ []) ⊎ ((more : List ℕ) × (tail ≡ 59 ∷ more))

pub IsTail-ops : (ops : List Op) → IsTail (flat_map next_op ops)
IsTail-ops [] = inl refl
IsTail-ops (op ∷ ops) = inr (op_spelling op ++ flat_map next_op ops, refl)

not_tail : (b : ℕ) (xs tail : List ℕ) → b ≢ 59 → IsTail tail → b ∷ xs ≡ tail → ⊥
not_tail b xs tail other (inl none) e = absurd cc
not_tail b xs tail other (inr more) e = other cc

pub same_piece : (p s tail rest : List ℕ) → HasNoByte 59 p → HasNoByte 59 s → IsTail tail → IsTail rest → p ++ tail ≡ s ++ rest → p ≡ s
same_piece [] [] tail rest a b t r e = refl
same_piece [] (y ∷ s) tail rest a b t r e = absurd (not_tail y (s ++ rest) tail b.0 t (sym e))
same_piece (x ∷ p) [] tail rest a b t r e = absurd (not_tail x (p ++ tail) rest a.0 r e)
same_piece (x ∷ p) (y ∷ s) tail rest a b t r e = let same = same_piece p s tail rest a.1 b.1 t r cc in cc

-- what has no semicolon stands in front of the first piece
front_of_piece : (f more s rest : List ℕ) → HasNoByte 59 f → IsTail rest → f ++ more ≡ s ++ rest → (after : List ℕ) × (s ≡ f ++ after)
front_of_piece [] more s rest a r e = (s, refl)
front_of_piece (x ∷ f) more [] rest a r e = absurd (not_tail x (f ++ more) rest a.0 r e)
front_of_piece (x ∷ f) more (y ∷ s) rest a r e = let after = front_of_piece f more s rest a.1 r cc in (after.0, cc (after.1))

-- ---- texts of one op and more

pub record IsSomeOps (text : List ℕ) (op : Op) (ops : List Op) : Type 0 where
  pub valid : AllByRecursion IsOp (op ∷ ops)
  pub text_is : text ≡ ops_spelling (op ∷ ops)

abbrev pub IsSomeText : List ℕ → Type 0
IsSomeText text = (op : Op) × (ops : List Op) × IsSomeOps text op ops

pub one_piece : (p : List ℕ) → IsPiece p → IsSomeText p
one_piece p (op, is) = (op, [], record { valid = (is.valid, tt); text_is = is.text_is ∙ sym (append-nil (op_spelling op)) })

pub more_pieces : (p : List ℕ) (op : Op) (t : List ℕ) → IsPieceOf p op → IsSomeText t → IsSomeText (p ++ 59 ∷ t)
more_pieces p op t is (next, ops, some) = (
  op,
  next ∷ ops,
  record {
    valid = (is.valid, some.valid);
    text_is = ap (λ xs. xs ++ 59 ∷ t) is.text_is ∙ ap (λ (xs : List ℕ). op_spelling op ++ 59 ∷ xs) some.text_is;
  },
)

-- a piece in front of a text of ops is one of theirs
pub first_is_piece : (p tail : List ℕ) → HasNoByte 59 p → IsTail tail → IsSomeText (p ++ tail) → IsPiece p
first_is_piece p tail free t (op, ops, some) =
    (op, record { valid = some.valid.0; text_is = same_piece p (op_spelling op) tail (flat_map next_op ops) free (HasNoByte-op op some.valid.0) t (IsTail-ops ops) some.text_is })

pub behind_piece : (p t : List ℕ) → HasNoByte 59 p → IsSomeText (p ++ 59 ∷ t) → IsSomeText t
behind_piece p t free (op, [], some) = absurd (has_byte 59 p t (op_spelling op) (HasNoByte-op op some.valid.0) (sym (some.text_is ∙ append-nil (op_spelling op))))
behind_piece p t free (op, next ∷ ops, some) =
    let parts = parts_unique 59 p t (op_spelling op) (ops_spelling (next ∷ ops)) free (HasNoByte-op op some.valid.0) some.text_is in
    (next, ops, record { valid = some.valid.1; text_is = parts.1 })

-- the first piece is none
pub StopsAt-piece : (p tail : List ℕ) (len : ℕ) → HasNoByte 59 p → IsTail tail → StopsAt IsPiece p len → StopsAt IsSomeText (p ++ tail) len
StopsAt-piece p tail len free t stops = record {
  refused = λ some. stops.refused (first_is_piece p tail free t some);
  longest = record {
    within = simp length-append (omega (arith, stops.longest.within));
    begins = (stops.longest.begins.0, subst IsSomeText (ap (λ xs. xs ++ stops.longest.begins.0) (sym (take-append-le len p tail stops.longest.within))) (one_piece _ stops.longest.begins.1));
    most = λ n le longer. elim (cases_lt (length p) n) [
      | inl more ↦ absurd (over n longer.0 t le more longer.1)
      | inr fits ↦ stops.longest.most n fits (front n longer.0 fits longer.1)
    ];
  };
}
  where
    over : (n : ℕ) (more : List ℕ) → IsTail tail → n ≤ length (p ++ tail) → length p < n → IsSomeText (take n (p ++ tail) ++ more) → ⊥
    over n more (inl none) le lt some = absurd (omega (arith, simp length-append at le, ap length none))
    over n more (inr rest) le lt some =
        let cut : take n (p ++ tail) ≡ p ++ 59 ∷ take (n - (length p + 1)) rest.0 = ap (λ xs. take n (p ++ xs)) rest.1 ∙ take_past p rest.0 59 n (n - (length p + 1)) (omega arith) in
        let same : take n (p ++ tail) ++ more ≡ p ++ 59 ∷ (take (n - (length p + 1)) rest.0 ++ more) = ap (λ xs. xs ++ more) cut ∙ append_assoc p (59 ∷ take (n - (length p + 1)) rest.0) more in
        stops.refused (first_is_piece p (59 ∷ (take (n - (length p + 1)) rest.0 ++ more)) free (inr (_, refl)) (subst IsSomeText same some))

    front : (n : ℕ) (more : List ℕ) → n ≤ length p → IsSomeText (take n (p ++ tail) ++ more) → Begins IsPiece (take n p)
    front n more fits (op, ops, some) =
        let cut : take n (p ++ tail) ≡ take n p = take-append-le n p tail fits in
        let found = front_of_piece (take n p) more (op_spelling op) (flat_map next_op ops) (HasNoByte-take 59 n p free) (IsTail-ops ops) (ap (λ xs. xs ++ more) (sym cut) ∙ some.text_is) in
        (found.0, (op, record { valid = some.valid.0; text_is = sym found.1 }))

-- the first piece is one, and what is behind it stops
pub StopsAt-next : (p : List ℕ) (op : Op) (t : List ℕ) (len : ℕ) → HasNoByte 59 p → IsPieceOf p op → StopsAt IsSomeText t len → StopsAt IsSomeText (p ++ 59 ∷ t) (length p + 1 + len)
StopsAt-next p op t len free is stops = StopsAt-behind IsSomeText IsSomeText p 59 t len (λ t some. more_pieces p op t is some) (λ t some. behind_piece p t free some) stops

-- ---- texts that may be empty

pub op_text_of_some : (t : List ℕ) → IsSomeText t → IsOpText t
op_text_of_some t (op, ops, some) = (op ∷ ops, record { valid = some.valid; text_is = some.text_is })

some_of_op_text : (b : ℕ) (t : List ℕ) → IsOpText (b ∷ t) → IsSomeText (b ∷ t)
some_of_op_text b t ([], spells) = absurd (cc (spells.text_is))
some_of_op_text b t (op ∷ ops, spells) = (op, ops, record { valid = spells.valid; text_is = spells.text_is })

pub StopsAt-op_text : (t : List ℕ) (len : ℕ) → 0 < length t → StopsAt IsSomeText t len → StopsAt IsOpText t len
StopsAt-op_text [] len some stops = absurd (omega arith)
StopsAt-op_text (b ∷ t) len some stops = StopsAt-wider IsSomeText IsOpText (b ∷ t) 0 len (omega arith) op_text_of_some (some_of_op_text b t) front stops
  where
    front : (n : ℕ) (more : List ℕ) → 0 < n → n ≤ length (b ∷ t) → IsOpText (take n (b ∷ t) ++ more) → IsSomeText (take n (b ∷ t) ++ more)
    front zero more lt within is = absurd (omega arith)
    front (suc n) more lt within is = some_of_op_text b (take n t ++ more) is
