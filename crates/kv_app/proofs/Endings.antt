-- Whatever begins some op text is made one by one of a few endings. So its place is found by trying them.
use Rattle.std.proofs.Common.{◌≡◌, ℕ, zero, suc, pos, negsuc, ◌<◌, ◌≤◌, Bool, true, false, cond, ◌||◌, if◌then◌else◌, is_some, List, [], ◌∷◌, ◌++◌, length, take, get_or, codes, Option, Some, None, arith, refl, sym, ◌∙◌, ap, subst, append_assoc, length-append, inl, inr, ◌⊎◌}
use Rattle.std.specs.Fmt.{signed_decimal}
use Rattle.std.specs.List.{AllByRecursion, list_any}
use Rattle.std.proofs.lemmas.List.{append-nil}
use Rattle.std.proofs.lemmas.Bool.{cases_lt}
use Rattle.std.proofs.lemmas.Fmt.{decimal_digit}
use Rattle.tx_model.specs.declared.op.Op.{Op}
use Rattle.tx_model.specs.declared.op.Op.TheVariants.{Set, Add, Del}
use Rattle.tx_model.specs.Applications.{IsKey, IsOp, op_spelling, ops_spelling, ops_of}
use Rattle.kv_app.specs.Places.{Begins, IsOpText, IsBadAt, is_op_text, endings, begins_op_text, longest_front, bad_place}
use Rattle.kv_app.specs.Parts.{IsCountText, IsAmountText, IsPairText, IsPiece}
use Rattle.kv_app.proofs.AmountLemmas.{IsCount-front}
use Rattle.kv_app.proofs.AmountTexts.{IsAmountOf-pos, IsAmountOf-neg, plain_count, signed_count}
use Rattle.kv_app.proofs.KeyLemmas.{are_key_bytes-front, some_key, amount_zero}
use Rattle.kv_app.proofs.OpTexts.{IsSomeText, one_piece, more_pieces, op_text_of_some}
use Rattle.kv_app.proofs.PlaceLemmas.{StopsAt-unique}
use Rattle.kv_app.proofs.WordTexts.{ops_of-SpellsOps, SpellsOps-ops_of}

-- one of the endings makes it such a text
abbrev HasEnding : (List ℕ → Type 0) → List ℕ → Type 0
HasEnding IsText front = (k : ℕ) × (k < length endings) × IsText (front ++ get_or endings k [])

ended_as : (IsText : List ℕ → Type 0) (front : List ℕ) → IsText front → HasEnding IsText front
ended_as IsText front is = (0, omega arith, subst IsText (sym (append-nil front)) is)

-- a front of two parts ends in the first one, or goes on into the second
abbrev IsCut : List ℕ → List ℕ → List ℕ → List ℕ → Type 0
IsCut front more a b =
    ((after : List ℕ) × (a ≡ front ++ after)) ⊎ ((later : List ℕ) × (front ≡ a ++ later) × (later ++ more ≡ b))

cut_front : (front more a b : List ℕ) → front ++ more ≡ a ++ b → IsCut front more a b
cut_front [] more a b e = inl (a, refl)
cut_front (x ∷ front) more [] b e = inr (x ∷ front, refl, e)
cut_front (x ∷ front) more (y ∷ a) b e =
    let same : x ≡ y = cc in
    go same (cut_front front more a b cc)
  where
    go : x ≡ y → IsCut front more a b → IsCut (x ∷ front) more (y ∷ a) b
    go same (inl (after, is)) = inl (after, ap (λ (xs : List ℕ). y ∷ xs) is ∙ ap (λ (c : ℕ). c ∷ (front ++ after)) (sym same))
    go same (inr (later, is, rest)) = inr (later, ap (λ (xs : List ℕ). x ∷ xs) is ∙ ap (λ (c : ℕ). c ∷ (a ++ later)) same, rest)

-- ---- numbers

is_or_not : (m n : ℕ) → (m ≡ n) ⊎ (m ≡ n → ⊥)
is_or_not zero zero = inl refl
is_or_not zero (suc n) = inr (λ e. omega (arith, e))
is_or_not (suc m) zero = inr (λ e. omega (arith, e))
is_or_not (suc m) (suc n) = elim (is_or_not m n) [
  | inl same ↦ inl (ap suc same)
  | inr other ↦ inr (λ e. other (omega (arith, e)))
]

zero_text : signed_decimal (pos 0) ≡ 48 ∷ []
zero_text = decimal_digit 0 (omega arith)

amount_ends : (front more : List ℕ) → IsAmountText (front ++ more) → HasEnding IsAmountText front
amount_ends [] more is = (1, omega arith, (pos 0, record { valid = amount_zero; text_is = sym zero_text }))
amount_ends (b ∷ front) more is = go b front is
  where
    plain : (b : ℕ) (front : List ℕ) → IsCountText 0 (b ∷ front ++ more) → HasEnding IsAmountText (b ∷ front)
    plain b front (n, count) =
        let value = IsCount-front 0 n (b ∷ front) more (omega arith) count (omega arith) in
        ended_as IsAmountText (b ∷ front) (pos value.0, IsAmountOf-pos (b ∷ front) value.0 value.1)

    signed : (front : List ℕ) → IsCountText 1 (front ++ more) → HasEnding IsAmountText (45 ∷ front)
    signed [] count = (2, omega arith, (negsuc 0, IsAmountOf-neg (49 ∷ []) 1 (record { least_is = omega arith; most_is = omega arith; text_is = sym (decimal_digit 1 (omega arith)) })))
    signed (d ∷ front) (n, count) =
        let value = IsCount-front 1 n (d ∷ front) more (omega arith) count (omega arith) in
        ended_as IsAmountText (45 ∷ d ∷ front) (_, IsAmountOf-neg (d ∷ front) value.0 value.1)

    by_sign : (b : ℕ) (front : List ℕ) → (b ≡ 45) ⊎ (b ≡ 45 → ⊥) → IsAmountText (b ∷ front ++ more) → HasEnding IsAmountText (b ∷ front)
    by_sign b front (inl sign) is =
        let P : ℕ → Type 0 = λ c. IsAmountText (c ∷ front ++ more) in
        let Q : ℕ → Type 0 = λ c. HasEnding IsAmountText (c ∷ front) in
        subst Q (sym sign) (signed front (signed_count (front ++ more) (subst P sign is)))
    by_sign b front (inr other) is = plain b front (plain_count b (front ++ more) other is)

    go : (b : ℕ) (front : List ℕ) → IsAmountText (b ∷ front ++ more) → HasEnding IsAmountText (b ∷ front)
    go b front is = by_sign b front (is_or_not b 45) is

-- ---- keys

key_front : (b : ℕ) (front more : List ℕ) → IsKey (b ∷ front ++ more) → IsKey (b ∷ front)
key_front b front more is = record {
  some = omega arith;
  short = omega (arith, is.short, length-append (b ∷ front) more);
  bytes = are_key_bytes-front (b ∷ front) more is.bytes;
}

key_ends : (front more : List ℕ) → IsKey (front ++ more) → HasEnding IsKey front
key_ends [] more is = (4, omega arith, some_key)
key_ends (b ∷ front) more is = ended_as IsKey (b ∷ front) (key_front b front more is)

-- ---- a key and a number

a_pair : (key : List ℕ) → IsKey key → IsPairText (key ++ codes " 0")
a_pair key is = (key, pos 0, record { key_is = is; amount_is = amount_zero; text_is = ap (λ (xs : List ℕ). key ++ 32 ∷ xs) (sym zero_text) })

in_key : (front after : List ℕ) → IsKey (front ++ after) → HasEnding IsPairText front
in_key [] after is = (6, omega arith, a_pair (97 ∷ []) some_key)
in_key (b ∷ front) after is = (3, omega arith, a_pair (b ∷ front) (key_front b front after is))

in_amount : (key later : List ℕ) → IsKey key → HasEnding IsAmountText later → HasEnding IsPairText (key ++ 32 ∷ later)
in_amount key later is (k, within, (n, amount)) = (
  k,
  within,
  (key, n, record { key_is = is; amount_is = amount.valid; text_is = append_assoc key (32 ∷ later) (get_or endings k []) ∙ ap (λ (xs : List ℕ). key ++ 32 ∷ xs) amount.text_is }),
)

pair_ends : (front more : List ℕ) → IsPairText (front ++ more) → HasEnding IsPairText front
pair_ends front more (key, z, pair) = go (cut_front front more key (32 ∷ signed_decimal z) pair.text_is)
  where
    behind : (later : List ℕ) → front ≡ key ++ later → later ++ more ≡ 32 ∷ signed_decimal z → HasEnding IsPairText front
    behind [] is rest = in_key front [] (subst IsKey (sym (append-nil front ∙ (is ∙ append-nil key))) pair.key_is)
    behind (b ∷ later) is rest =
        let space : b ≡ 32 = cc in
        let number : later ++ more ≡ signed_decimal z = cc in
        let amount : IsAmountText (later ++ more) = (z, record { valid = pair.amount_is; text_is = number }) in
        let P : List ℕ → Type 0 = HasEnding IsPairText in
        subst P (sym (is ∙ ap (λ (c : ℕ). key ++ c ∷ later) space)) (in_amount key later pair.key_is (amount_ends later more amount))

    go : IsCut front more key (32 ∷ signed_decimal z) → HasEnding IsPairText front
    go (inl (after, is)) = in_key front after (subst IsKey is pair.key_is)
    go (inr (later, is, rest)) = behind later is rest

-- ---- an op

set_piece : (t : List ℕ) → IsPairText t → IsPiece (codes "set " ++ t)
set_piece t (key, z, pair) = (Set key z, record { valid = (pair.key_is, pair.amount_is); text_is = ap (λ xs. codes "set " ++ xs) pair.text_is })

add_piece : (t : List ℕ) → IsPairText t → IsPiece (codes "add " ++ t)
add_piece t (key, z, pair) = (Add key z, record { valid = (pair.key_is, pair.amount_is); text_is = ap (λ xs. codes "add " ++ xs) pair.text_is })

del_piece : (t : List ℕ) → IsKey t → IsPiece (codes "del " ++ t)
del_piece t key = (Del t, record { valid = key; text_is = refl })

set_a : IsPiece (codes "set a 0")
set_a = set_piece (codes "a 0") (a_pair (97 ∷ []) some_key)

add_a : IsPiece (codes "add a 0")
add_a = add_piece (codes "a 0") (a_pair (97 ∷ []) some_key)

del_a : IsPiece (codes "del a")
del_a = del_piece (97 ∷ []) some_key

-- a front of a word and more, that this ending makes a piece, is in the word or goes on behind it
set_ends : (front more rest : List ℕ) → IsPairText rest → front ++ more ≡ codes "set " ++ rest → HasEnding IsPiece front
set_ends [] more rest is e = (10, omega arith, set_a)
set_ends (a ∷ []) more rest is e = let P : ℕ → Type 0 = λ a. HasEnding IsPiece (a ∷ []) in subst P (the_first e) (9, omega arith, set_a)
  where
    the_first : a ∷ more ≡ codes "set " ++ rest → 115 ≡ a
    the_first e = cc
set_ends (a ∷ (b ∷ [])) more rest is e = let P : List ℕ → Type 0 = HasEnding IsPiece in subst P (the_first e) (8, omega arith, set_a)
  where
    the_first : a ∷ b ∷ more ≡ codes "set " ++ rest → 115 ∷ 101 ∷ [] ≡ a ∷ b ∷ []
    the_first e = cc
set_ends (a ∷ (b ∷ (c ∷ []))) more rest is e = let P : List ℕ → Type 0 = HasEnding IsPiece in subst P (the_first e) (7, omega arith, set_a)
  where
    the_first : a ∷ b ∷ c ∷ more ≡ codes "set " ++ rest → 115 ∷ 101 ∷ 116 ∷ [] ≡ a ∷ b ∷ c ∷ []
    the_first e = cc
set_ends (a ∷ (b ∷ (c ∷ (d ∷ front)))) more rest is e =
    let found = pair_ends front more (subst IsPairText (sym (the_rest e)) is) in
    let P : List ℕ → Type 0 = HasEnding IsPiece in
    subst P (the_first e) (found.0, found.1, set_piece (front ++ get_or endings found.0 []) found.2)
  where
    the_rest : a ∷ b ∷ c ∷ d ∷ (front ++ more) ≡ codes "set " ++ rest → front ++ more ≡ rest
    the_rest e = cc

    the_first : a ∷ b ∷ c ∷ d ∷ (front ++ more) ≡ codes "set " ++ rest → codes "set " ++ front ≡ a ∷ b ∷ c ∷ d ∷ front
    the_first e = cc

add_ends : (front more rest : List ℕ) → IsPairText rest → front ++ more ≡ codes "add " ++ rest → HasEnding IsPiece front
add_ends [] more rest is e = (10, omega arith, set_a)
add_ends (a ∷ []) more rest is e = let P : ℕ → Type 0 = λ a. HasEnding IsPiece (a ∷ []) in subst P (the_first e) (12, omega arith, add_a)
  where
    the_first : a ∷ more ≡ codes "add " ++ rest → 97 ≡ a
    the_first e = cc
add_ends (a ∷ (b ∷ [])) more rest is e = let P : List ℕ → Type 0 = HasEnding IsPiece in subst P (the_first e) (11, omega arith, add_a)
  where
    the_first : a ∷ b ∷ more ≡ codes "add " ++ rest → 97 ∷ 100 ∷ [] ≡ a ∷ b ∷ []
    the_first e = cc
add_ends (a ∷ (b ∷ (c ∷ []))) more rest is e = let P : List ℕ → Type 0 = HasEnding IsPiece in subst P (the_first e) (7, omega arith, add_a)
  where
    the_first : a ∷ b ∷ c ∷ more ≡ codes "add " ++ rest → 97 ∷ 100 ∷ 100 ∷ [] ≡ a ∷ b ∷ c ∷ []
    the_first e = cc
add_ends (a ∷ (b ∷ (c ∷ (d ∷ front)))) more rest is e =
    let found = pair_ends front more (subst IsPairText (sym (the_rest e)) is) in
    let P : List ℕ → Type 0 = HasEnding IsPiece in
    subst P (the_first e) (found.0, found.1, add_piece (front ++ get_or endings found.0 []) found.2)
  where
    the_rest : a ∷ b ∷ c ∷ d ∷ (front ++ more) ≡ codes "add " ++ rest → front ++ more ≡ rest
    the_rest e = cc

    the_first : a ∷ b ∷ c ∷ d ∷ (front ++ more) ≡ codes "add " ++ rest → codes "add " ++ front ≡ a ∷ b ∷ c ∷ d ∷ front
    the_first e = cc

del_ends : (front more rest : List ℕ) → IsKey rest → front ++ more ≡ codes "del " ++ rest → HasEnding IsPiece front
del_ends [] more rest is e = (10, omega arith, set_a)
del_ends (a ∷ []) more rest is e = let P : ℕ → Type 0 = λ a. HasEnding IsPiece (a ∷ []) in subst P (the_first e) (14, omega arith, del_a)
  where
    the_first : a ∷ more ≡ codes "del " ++ rest → 100 ≡ a
    the_first e = cc
del_ends (a ∷ (b ∷ [])) more rest is e = let P : List ℕ → Type 0 = HasEnding IsPiece in subst P (the_first e) (13, omega arith, del_a)
  where
    the_first : a ∷ b ∷ more ≡ codes "del " ++ rest → 100 ∷ 101 ∷ [] ≡ a ∷ b ∷ []
    the_first e = cc
del_ends (a ∷ (b ∷ (c ∷ []))) more rest is e = let P : List ℕ → Type 0 = HasEnding IsPiece in subst P (the_first e) (5, omega arith, del_a)
  where
    the_first : a ∷ b ∷ c ∷ more ≡ codes "del " ++ rest → 100 ∷ 101 ∷ 108 ∷ [] ≡ a ∷ b ∷ c ∷ []
    the_first e = cc
del_ends (a ∷ (b ∷ (c ∷ (d ∷ front)))) more rest is e =
    let found = key_ends front more (subst IsKey (sym (the_rest e)) is) in
    let P : List ℕ → Type 0 = HasEnding IsPiece in
    subst P (the_first e) (found.0, found.1, del_piece (front ++ get_or endings found.0 []) found.2)
  where
    the_rest : a ∷ b ∷ c ∷ d ∷ (front ++ more) ≡ codes "del " ++ rest → front ++ more ≡ rest
    the_rest e = cc

    the_first : a ∷ b ∷ c ∷ d ∷ (front ++ more) ≡ codes "del " ++ rest → codes "del " ++ front ≡ a ∷ b ∷ c ∷ d ∷ front
    the_first e = cc

piece_ends : (op : Op) (front more : List ℕ) → IsOp op → front ++ more ≡ op_spelling op → HasEnding IsPiece front
piece_ends (Set key z) front more is e = set_ends front more _ (key, z, record { key_is = is.0; amount_is = is.1; text_is = refl }) e
piece_ends (Add key z) front more is e = add_ends front more _ (key, z, record { key_is = is.0; amount_is = is.1; text_is = refl }) e
piece_ends (Del key) front more is e = del_ends front more key is e

-- ---- one op and more

in_first : (front : List ℕ) → HasEnding IsPiece front → HasEnding IsSomeText front
in_first front (k, within, is) = (k, within, one_piece _ is)

in_later : (op : Op) (later : List ℕ) → IsOp op → HasEnding IsSomeText later → HasEnding IsSomeText (op_spelling op ++ 59 ∷ later)
in_later op later is (k, within, some) =
    let P : List ℕ → Type 0 = IsSomeText in
    (k, within, subst P (sym (append_assoc (op_spelling op) (59 ∷ later) (get_or endings k []))) (more_pieces (op_spelling op) op (later ++ get_or endings k []) (record { valid = is; text_is = refl }) some))

whole_op : (op : Op) (front : List ℕ) → IsOp op → front ≡ op_spelling op ++ [] → HasEnding IsSomeText front
whole_op op front is e =
    let whole : front ≡ op_spelling op = e ∙ append-nil (op_spelling op) in
    in_first front (ended_as IsPiece front (op, record { valid = is; text_is = whole }))

some_ends : (op : Op) (ops : List Op) (front more : List ℕ) → AllByRecursion IsOp (op ∷ ops) → front ++ more ≡ ops_spelling (op ∷ ops) → HasEnding IsSomeText front
some_ends op [] front more valid e =
    in_first front (piece_ends op front more valid.0 (e ∙ append-nil (op_spelling op)))
some_ends op (next ∷ ops) front more valid e =
    go (cut_front front more (op_spelling op) (59 ∷ ops_spelling (next ∷ ops)) e) (λ later rest. some_ends next ops later more valid.1 rest)
  where
    behind : (later : List ℕ) → front ≡ op_spelling op ++ later → later ++ more ≡ 59 ∷ ops_spelling (next ∷ ops) → ((later : List ℕ) → later ++ more ≡ ops_spelling (next ∷ ops) → HasEnding IsSomeText later) → HasEnding IsSomeText front
    behind [] is rest ends = whole_op op front valid.0 is
    behind (b ∷ later) is rest ends =
        let mark : b ≡ 59 = cc in
        let others : later ++ more ≡ ops_spelling (next ∷ ops) = cc in
        let P : List ℕ → Type 0 = HasEnding IsSomeText in
        subst P (sym (is ∙ ap (λ (c : ℕ). op_spelling op ++ c ∷ later) mark)) (in_later op later valid.0 (ends later others))

    go : IsCut front more (op_spelling op) (59 ∷ ops_spelling (next ∷ ops)) → ((later : List ℕ) → later ++ more ≡ ops_spelling (next ∷ ops) → HasEnding IsSomeText later) → HasEnding IsSomeText front
    go (inl (after, is)) ends = in_first front (piece_ends op front after valid.0 (sym is))
    go (inr (later, is, rest)) ends = behind later is rest ends

text_ends : (front : List ℕ) → Begins IsOpText front → HasEnding IsOpText front
text_ends front (more, ([], spells)) = ended_as IsOpText front ([], record { valid = tt; text_is = nothing front spells.text_is })
  where
    nothing : (front : List ℕ) → front ++ more ≡ [] → front ≡ []
    nothing [] e = refl
    nothing (b ∷ front) e = absurd cc
text_ends front (more, (op ∷ ops, spells)) =
    let found = some_ends op ops front more spells.valid spells.text_is in
    (found.0, found.1, op_text_of_some _ found.2)

-- ---- the test

any_at : {A : Type 0} (test : A → Bool) (xs : List A) (k : ℕ) (x : A) → k < length xs → test (get_or xs k x) ≡ true → list_any test xs ≡ true
any_at test [] k x within is = absurd (omega arith)
any_at test (y ∷ xs) zero x within is = rw is refl
any_at test (y ∷ xs) (suc k) x within is = rw (any_at test xs k x (omega arith) is) (later (test y))
  where
    later : (b : Bool) → (b || true) ≡ true
    later true = refl
    later false = refl

some_of_any : {A : Type 0} (test : A → Bool) (xs : List A) → list_any test xs ≡ true → (x : A) × (test x ≡ true)
some_of_any test [] is = absurd cc
some_of_any test (y ∷ xs) is =
    elim (test y) as (λ b. test y ≡ b → (b || list_any test xs) ≡ true → (x : _) × (test x ≡ true)) [
      | true ↦ λ first _. (y, first)
      | false ↦ λ _ rest. some_of_any test xs rest
    ] refl is

pub op_text_tested : (text : List ℕ) → IsOpText text → is_op_text text ≡ true
op_text_tested text (ops, spells) = ap is_some (ops_of-SpellsOps text ops spells)

pub op_text_from_test : (text : List ℕ) → is_op_text text ≡ true → IsOpText text
op_text_from_test text is = go (ops_of text) refl is
  where
    go : (o : Option (List Op)) → ops_of text ≡ o → is_some o ≡ true → IsOpText text
    go None e is = absurd cc
    go (Some ops) e is = (ops, SpellsOps-ops_of text ops e)

begins_tested : (front : List ℕ) → Begins IsOpText front → begins_op_text front ≡ true
unfolding begins_op_text
begins_tested front begins =
    let found = text_ends front begins in
    any_at (λ ending. is_op_text (front ++ ending)) endings found.0 [] found.1 (op_text_tested _ found.2)

begins_from_test : (front : List ℕ) → begins_op_text front ≡ true → Begins IsOpText front
unfolding begins_op_text
begins_from_test front is =
    let found = some_of_any (λ ending. is_op_text (front ++ ending)) endings is in
    (found.0, op_text_from_test (front ++ found.0) found.1)

-- ---- the longest front

record IsLongestTo (n : ℕ) (text : List ℕ) (len : ℕ) : Type 0 where
  within : len ≤ n
  begins : Begins IsOpText (take len text)
  most : (m : ℕ) → m ≤ n → Begins IsOpText (take m text) → m ≤ len

longest : (n : ℕ) (text : List ℕ) → IsLongestTo n text (longest_front n text)
longest zero text = record {
  within = omega arith;
  begins = ([], ([], record { valid = tt; text_is = refl }));
  most = λ m le begins. omega arith;
}
longest (suc n) text =
    elim (begins_op_text (take (suc n) text)) as (λ b. begins_op_text (take (suc n) text) ≡ b → IsLongestTo n text (longest_front n text) → IsLongestTo (suc n) text (cond b (suc n) (longest_front n text))) [
      | true ↦ λ is _. record { within = omega arith; begins = begins_from_test (take (suc n) text) is; most = λ m le begins. le }
      | false ↦ λ other shorter. record {
        within = omega (arith, shorter.within);
        begins = shorter.begins;
        most = λ m le begins. elim (less_or_whole m n le) [
          | inl less ↦ shorter.most m less begins
          | inr whole ↦
              let P : ℕ → Type 0 = λ k. Begins IsOpText (take k text) in
              absurd (clash (begins_op_text (take (suc n) text)) other (begins_tested (take (suc n) text) (subst P whole begins)))
        ];
      }
    ] refl (longest n text)
  where
    less_or_whole : (m n : ℕ) → m ≤ suc n → (m ≤ n) ⊎ (m ≡ suc n)
    less_or_whole m n le = elim (cases_lt m (suc n)) [
      | inl less ↦ inl (omega (arith, less))
      | inr whole ↦ inr (omega (arith, le, whole))
    ]

    clash : (b : Bool) → b ≡ false → b ≡ true → ⊥
    clash b other is = cc

-- the place that is found by trying is the place
pub bad_place_is : (text : List ℕ) → (IsOpText text → ⊥) → IsBadAt text (bad_place text)
unfolding bad_place
bad_place_is text refused =
    let found = longest (length text) text in
    (longest_front (length text) text, record { refused = refused; longest = record { within = found.within; begins = found.begins; most = found.most } }, refl)

-- and there is no other
pub bad_place_of : (text : List ℕ) (at : ℕ) → IsBadAt text at → at ≡ bad_place text
bad_place_of text at (len, stops, is) =
    let found = bad_place_is text stops.refused in
    let same : len ≡ found.0 = StopsAt-unique IsOpText text len found.0 stops found.1 in
    omega (arith, is, same, found.2)

pub no_place : (text : List ℕ) → IsOpText text → None ≡ (if is_op_text text then None else Some (bad_place text))
no_place text is = rw (op_text_tested text is) refl

pub some_place : (text : List ℕ) (at : ℕ) → IsBadAt text at → Some at ≡ (if is_op_text text then None else Some (bad_place text))
some_place text at bad = go (is_op_text text) refl
  where
    go : (b : Bool) → is_op_text text ≡ b → Some at ≡ (if b then None else Some (bad_place text))
    go true is = absurd (bad.1.refused (op_text_from_test text is))
    go false is = ap (λ (n : ℕ). Some n) (bad_place_of text at bad)
