-- Ops by their words are ops by their spelling.
use Rattle.std.proofs.Common.{◌≡◌, ◌≢◌, ℕ, ℤ, suc, pos, negsuc, neg_ℤ, T, ◌<◌, ◌^◌, Bool, true, false, ◌&&◌, cond, eqb, bytes_eq, nat_le, int_le, List, [], ◌∷◌, ◌++◌, length, codes, decimal, Option, Some, None, if◌then◌else◌, arith, refl, sym, ◌∙◌, ap, subst}
use Rattle.std.specs.Fmt.{signed_decimal}
use Rattle.std.specs.List.{join_with_byte, slice_split}
use Rattle.std.specs.List as lists
use Rattle.std.specs.Str.Parse.{AllDigits}
use Rattle.std.proofs.lemmas.Bool.Decides.{nat_tests}
use Rattle.std.proofs.lemmas.Bool.{leb-true, le-leb}
use Rattle.std.proofs.Common.{rules}
use Rattle.kv_app.proofs.AmountTexts.{first_is_digit}
use Rattle.std.proofs.lemmas.Slice.Eq.{bytes_eq-Decides}
use Rattle.std.proofs.lemmas.List.Splits.{join_with_byte-slice_split}
use Rattle.std.proofs.lemmas.Int.{ints}
use Rattle.std.proofs.lemmas.Str.Parse.{numerals_by_fold, tells_digits, IsNumeralModel}
use Rattle.std.proofs.lemmas.Fmt.{digits_value-decimal}
use Rattle.tx_model.specs.declared.op.Op.{Op}
use Rattle.tx_model.specs.declared.op.Op.TheVariants.{Set, Add, Del}
use Rattle.tx_model.specs.Applications.{IsKey, IsAmount, IsOp, are_key_bytes, op_spelling, ops_spelling, SpellsOps, pieces, onto_first, is_key, is_amount, amount_value, digits_value, op_of_words, op_of, onto_ops, ops_of_pieces, ops_of}
use Rattle.kv_app.specs.Parts.{IsPieceOf}
use Rattle.kv_app.proofs.Separators.{HasNoByte}
use Rattle.kv_app.proofs.KeyLemmas.{HasNoByte-key}
use Rattle.kv_app.proofs.OpTexts.{HasNoByte-amount}
use Rattle.kv_app.proofs.PieceRuns.{pieces_of, pieces_free, pieces_some}
use Rattle.kv_app.proofs.Makings.{AreOps, AreOps-valid, AreOps-spell, AreOps-from_spelling}

-- ---- pieces

onto_first_same : (b : ℕ) (ps : List (List ℕ)) → onto_first b ps ≡ lists.onto_first b ps
onto_first_same b [] = refl
onto_first_same b (p ∷ ps) = refl

pieces-slice_split : (byte : ℕ) (text : List ℕ) → pieces byte text ≡ slice_split (λ b. eqb b byte) text
pieces-slice_split byte [] = refl
pieces-slice_split byte (b ∷ text) = go (eqb b byte) (pieces-slice_split byte text)
  where
    go : (test : Bool) → pieces byte text ≡ slice_split (λ b. eqb b byte) text → cond test ([] ∷ pieces byte text) (onto_first b (pieces byte text)) ≡ cond test ([] ∷ slice_split (λ b. eqb b byte) text) (lists.onto_first b (slice_split (λ b. eqb b byte) text))
    go true e = ap (λ (ps : List (List ℕ)). [] ∷ ps) e
    go false e = ap (onto_first b) e ∙ onto_first_same b _

not_eqb : (b byte : ℕ) → b ≢ byte → eqb b byte ≡ false
not_eqb b byte other = grind (arith, nat_tests)

same_eqb : (byte : ℕ) → eqb byte byte ≡ true
same_eqb byte = grind (arith, nat_tests)

pub pieces-one : (byte : ℕ) (a : List ℕ) → HasNoByte byte a → pieces byte a ≡ a ∷ []
pieces-one byte [] free = refl
pieces-one byte (b ∷ a) free = rw (not_eqb b byte free.0, pieces-one byte a free.1) refl

pub pieces-cut : (byte : ℕ) (a rest : List ℕ) → HasNoByte byte a → pieces byte (a ++ byte ∷ rest) ≡ a ∷ pieces byte rest
pieces-cut byte [] rest free = rw (same_eqb byte) refl
pieces-cut byte (b ∷ a) rest free = rw (not_eqb b byte free.0, pieces-cut byte a rest free.1) refl

-- ---- words

and_parts : (a b : Bool) → (a && b) ≡ true → (a ≡ true) × (b ≡ true)
and_parts true b h = (refl, h)
and_parts false b h = absurd cc

is_key-true : (key : List ℕ) → IsKey key → is_key key ≡ true
is_key-true key is = rw (le-leb 1 (length key) is.some, le-leb (length key) 64 is.short, is.bytes) refl

IsKey-from_test : (key : List ℕ) → is_key key ≡ true → IsKey key
IsKey-from_test key h =
    let first = and_parts (nat_le 1 (length key)) (nat_le (length key) 64 && are_key_bytes key) h in
    let second = and_parts (nat_le (length key) 64) (are_key_bytes key) first.1 in
    record { some = leb-true 1 (length key) first.0; short = leb-true (length key) 64 second.0; bytes = second.1 }

own : IsNumeralModel (AllDigits 10) (digits_value 0)
own = numerals_by_fold (AllDigits 10) tells_digits digits_value (search rules)

not_sign : (n : ℕ) → n < 2 ^ 64 → (text : List ℕ) → text ≡ decimal n → amount_value text ≡ pos (digits_value 0 text)
not_sign n small [] e = refl
not_sign n small (b ∷ text) e = rw (not_eqb b 45 (λ same. absurd (omega (arith, first_is_digit n b text small e, same)))) refl

amount_value-signed : (z : ℤ) → IsAmount z → amount_value (signed_decimal z) ≡ z
amount_value-signed (pos n) amount =
    let small : n < 2 ^ 64 = omega (arith, ints, amount.most) in
    not_sign n small (decimal n) refl ∙ ap pos (digits_value-decimal own n small)
amount_value-signed (negsuc n) amount =
    let small : suc n < 2 ^ 64 = omega (arith, ints, amount.least) in
    ap (λ (k : ℕ). neg_ℤ (pos k)) (digits_value-decimal own (suc n) small)

T-true : (b : Bool) → T b → b ≡ true
T-true true t = refl
T-true false t = absurd t

true-T : (b : Bool) → b ≡ true → T b
true-T true e = tt
true-T false e = absurd cc

is_amount-true : (z : ℤ) → IsAmount z → is_amount (signed_decimal z) ≡ true
is_amount-true z amount =
    let spelled : bytes_eq (signed_decimal z) (signed_decimal z) ≡ true = (bytes_eq-Decides (signed_decimal z) (signed_decimal z)).1 refl in
    rw (amount_value-signed z amount, spelled, T-true (int_le (neg_ℤ (pos 1000000000)) z) amount.least.le, T-true (int_le z (pos 1000000000)) amount.most.le) refl

IsAmount-from_test : (text : List ℕ) → is_amount text ≡ true → IsAmount (amount_value text) × (text ≡ signed_decimal (amount_value text))
IsAmount-from_test text h =
    let value = amount_value text in
    let first = and_parts (bytes_eq (signed_decimal value) text) (int_le (neg_ℤ (pos 1000000000)) value && int_le value (pos 1000000000)) h in
    let second = and_parts (int_le (neg_ℤ (pos 1000000000)) value) (int_le value (pos 1000000000)) first.1 in (
      record { least = record { le = true-T _ second.0 }; most = record { le = true-T _ second.1 } },
      sym ((bytes_eq-Decides (signed_decimal value) text).0 first.0),
    )

letters_free : (a b c : ℕ) → a ≢ 32 → b ≢ 32 → c ≢ 32 → HasNoByte 32 (a ∷ b ∷ c ∷ [])
letters_free a b c p q r = (p, (q, (r, tt)))

pair_words : (a b c : ℕ) (key : List ℕ) (z : ℤ) → HasNoByte 32 (a ∷ b ∷ c ∷ []) → IsKey key → IsAmount z → pieces 32 (a ∷ b ∷ c ∷ 32 ∷ (key ++ 32 ∷ signed_decimal z)) ≡ (a ∷ b ∷ c ∷ []) ∷ key ∷ signed_decimal z ∷ []
pair_words a b c key z free is amount =
    pieces-cut 32 (a ∷ b ∷ c ∷ []) (key ++ 32 ∷ signed_decimal z) free
    ∙ ap (λ (ps : List (List ℕ)). (a ∷ b ∷ c ∷ []) ∷ ps)
    (pieces-cut 32 key (signed_decimal z) (HasNoByte-key 32 key refl is.bytes)
    ∙ ap (λ (ps : List (List ℕ)). key ∷ ps) (pieces-one 32 (signed_decimal z) (HasNoByte-amount 32 z (λ low. absurd (omega (arith, low))) (λ e. absurd (omega (arith, e))) amount)))

set_words : (key : List ℕ) (z : ℤ) → IsKey key → IsAmount z → op_of_words (codes "set" ∷ key ∷ signed_decimal z ∷ []) ≡ Some (Set key z)
set_words key z is amount = rw (is_key-true key is, is_amount-true z amount, amount_value-signed z amount) refl

add_words : (key : List ℕ) (z : ℤ) → IsKey key → IsAmount z → op_of_words (codes "add" ∷ key ∷ signed_decimal z ∷ []) ≡ Some (Add key z)
add_words key z is amount = rw (is_key-true key is, is_amount-true z amount, amount_value-signed z amount) refl

del_words : (key : List ℕ) → IsKey key → op_of_words (codes "del" ∷ key ∷ []) ≡ Some (Del key)
del_words key is = rw (is_key-true key is) refl

op_of-spelling : (op : Op) → IsOp op → op_of (op_spelling op) ≡ Some op
op_of-spelling (Set key z) is =
    ap op_of_words (pair_words 115 101 116 key z (letters_free 115 101 116 (λ e. absurd (omega (arith, e))) (λ e. absurd (omega (arith, e))) (λ e. absurd (omega (arith, e)))) is.0 is.1) ∙ set_words key z is.0 is.1
op_of-spelling (Add key z) is =
    ap op_of_words (pair_words 97 100 100 key z (letters_free 97 100 100 (λ e. absurd (omega (arith, e))) (λ e. absurd (omega (arith, e))) (λ e. absurd (omega (arith, e)))) is.0 is.1) ∙ add_words key z is.0 is.1
op_of-spelling (Del key) is =
    ap op_of_words (pieces-cut 32 (codes "del") key (letters_free 100 101 108 (λ e. absurd (omega (arith, e))) (λ e. absurd (omega (arith, e))) (λ e. absurd (omega (arith, e))))
    ∙ ap (λ (ps : List (List ℕ)). codes "del" ∷ ps) (pieces-one 32 key (HasNoByte-key 32 key refl is.bytes)))
    ∙ del_words key is

word_is : (word letters : List ℕ) → bytes_eq word letters ≡ true → word ≡ letters
word_is word letters h = (bytes_eq-Decides word letters).0 h

pair_spelled : (word letters key amount : List ℕ) → bytes_eq word letters ≡ true → is_amount amount ≡ true → word ++ 32 ∷ (key ++ 32 ∷ amount) ≡ letters ++ 32 ∷ (key ++ 32 ∷ signed_decimal (amount_value amount))
pair_spelled word letters key amount w a =
    ap (λ xs. xs ++ 32 ∷ (key ++ 32 ∷ amount)) (word_is word letters w)
    ∙ ap (λ (xs : List ℕ). letters ++ 32 ∷ (key ++ 32 ∷ xs)) (IsAmount-from_test amount a).1

IsPieceOf-words : (words : List (List ℕ)) (op : Op) → op_of_words words ≡ Some op → IsPieceOf (join_with_byte 32 words) op
IsPieceOf-words [] op e = absurd cc
IsPieceOf-words (word ∷ []) op e = absurd cc
IsPieceOf-words (word ∷ (key ∷ [])) op e = go (bytes_eq word (codes "del") && is_key key) refl e
  where
    go : (test : Bool) → (bytes_eq word (codes "del") && is_key key) ≡ test → (if test then Some (Del key) else None) ≡ Some op → IsPieceOf (word ++ 32 ∷ key) op
    go true h e =
        let parts = and_parts (bytes_eq word (codes "del")) (is_key key) h in
        let same : Del key ≡ op = cc in
        subst (IsPieceOf (word ++ 32 ∷ key)) same (record { valid = IsKey-from_test key parts.1; text_is = ap (λ xs. xs ++ 32 ∷ key) (word_is word (codes "del") parts.0) })
    go false h e = absurd cc
IsPieceOf-words (word ∷ (key ∷ (amount ∷ []))) op e = go (is_key key && is_amount amount) refl e
  where
    named : (set add : Bool) → bytes_eq word (codes "set") ≡ set → bytes_eq word (codes "add") ≡ add → is_key key ≡ true → is_amount amount ≡ true → (if set then Some (Set key (amount_value amount)) else if add then Some (Add key (amount_value amount)) else None) ≡ Some op → IsPieceOf (word ++ 32 ∷ (key ++ 32 ∷ amount)) op
    named true add s a k n e =
        let same : Set key (amount_value amount) ≡ op = cc in
        subst (IsPieceOf (word ++ 32 ∷ (key ++ 32 ∷ amount))) same (record { valid = (IsKey-from_test key k, (IsAmount-from_test amount n).0); text_is = pair_spelled word (codes "set") key amount s n })
    named false true s a k n e =
        let same : Add key (amount_value amount) ≡ op = cc in
        subst (IsPieceOf (word ++ 32 ∷ (key ++ 32 ∷ amount))) same (record { valid = (IsKey-from_test key k, (IsAmount-from_test amount n).0); text_is = pair_spelled word (codes "add") key amount a n })
    named false false s a k n e = absurd cc

    go : (test : Bool) → (is_key key && is_amount amount) ≡ test → (if test then (if bytes_eq word (codes "set") then Some (Set key (amount_value amount)) else if bytes_eq word (codes "add") then Some (Add key (amount_value amount)) else None) else None) ≡ Some op → IsPieceOf (word ++ 32 ∷ (key ++ 32 ∷ amount)) op
    go true h e =
        let parts = and_parts (is_key key) (is_amount amount) h in
        named (bytes_eq word (codes "set")) (bytes_eq word (codes "add")) refl refl parts.0 parts.1 e
    go false h e = absurd cc
IsPieceOf-words (word ∷ (key ∷ (amount ∷ (more ∷ words)))) op e = absurd cc

pieces-join : (byte : ℕ) (text : List ℕ) → join_with_byte byte (pieces byte text) ≡ text
pieces-join byte text = ap (join_with_byte byte) (pieces-slice_split byte text) ∙ join_with_byte-slice_split byte text

IsPieceOf-op_of : (p : List ℕ) (op : Op) → op_of p ≡ Some op → IsPieceOf p op
IsPieceOf-op_of p op e =
    let P : List ℕ → Type 0 = λ t. IsPieceOf t op in
    subst P (pieces-join 32 p) (IsPieceOf-words (pieces 32 p) op e)

-- ---- texts

AreOps-ops_of_pieces : (ps : List (List ℕ)) (ops : List Op) → ops_of_pieces ps ≡ Some ops → AreOps ps ops
AreOps-ops_of_pieces [] [] e = tt
AreOps-ops_of_pieces [] (op ∷ ops) e = absurd cc
AreOps-ops_of_pieces (p ∷ ps) ops e = go (op_of p) (ops_of_pieces ps) refl refl e (AreOps-ops_of_pieces ps)
  where
    go : (first : Option Op) (rest : Option (List Op)) → op_of p ≡ first → ops_of_pieces ps ≡ rest → onto_ops first rest ≡ Some ops → ((later : List Op) → ops_of_pieces ps ≡ Some later → AreOps ps later) → AreOps (p ∷ ps) ops
    go None None a b e later = absurd cc
    go None (Some ops') a b e later = absurd cc
    go (Some op) None a b e later = absurd cc
    go (Some op) (Some ops') a b e later =
        let same : op ∷ ops' ≡ ops = cc in
        subst (AreOps (p ∷ ps)) same (IsPieceOf-op_of p op a, later ops' b)

ops_of_pieces-AreOps : (ps : List (List ℕ)) (ops : List Op) → AreOps ps ops → ops_of_pieces ps ≡ Some ops
ops_of_pieces-AreOps [] [] are = refl
ops_of_pieces-AreOps [] (op ∷ ops) are = absurd are
ops_of_pieces-AreOps (p ∷ ps) [] are = absurd are
ops_of_pieces-AreOps (p ∷ ps) (op ∷ ops) are =
    let first : op_of p ≡ Some op = ap op_of are.0.text_is ∙ op_of-spelling op are.0.valid in
    rw (first, ops_of_pieces-AreOps ps ops are.1) refl

-- what is read is spelled so
pub SpellsOps-ops_of : (text : List ℕ) (ops : List Op) → ops_of text ≡ Some ops → SpellsOps text ops
unfolding ops_of
SpellsOps-ops_of [] ops e =
    let none : [] ≡ ops = cc in
    subst (SpellsOps []) none (record { valid = tt; text_is = refl })
SpellsOps-ops_of (b ∷ text) ops e =
    let are = AreOps-ops_of_pieces (pieces 59 (b ∷ text)) ops e in
    record {
      valid = AreOps-valid (pieces 59 (b ∷ text)) ops are;
      text_is = sym (pieces-join 59 (b ∷ text)) ∙ AreOps-spell (pieces 59 (b ∷ text)) ops are;
    }

-- what is spelled so is read
pub ops_of-SpellsOps : (text : List ℕ) (ops : List Op) → SpellsOps text ops → ops_of text ≡ Some ops
unfolding ops_of
ops_of-SpellsOps [] [] spells = refl
ops_of-SpellsOps [] (op ∷ ops) spells = absurd (not_empty op ops spells.text_is)
  where
    not_empty : (op : Op) (ops : List Op) → [] ≡ ops_spelling (op ∷ ops) → ⊥
    not_empty (Set key z) ops e = cc
    not_empty (Add key z) ops e = cc
    not_empty (Del key) ops e = cc
ops_of-SpellsOps (b ∷ text) [] spells = absurd (cc (spells.text_is))
ops_of-SpellsOps (b ∷ text) (op ∷ ops) spells =
    let are = AreOps-from_spelling (pieces_of (b ∷ text)) op ops (pieces_free (b ∷ text)) spells.valid (pieces_some (b ∷ text)) (join_with_byte-slice_split 59 (b ∷ text) ∙ spells.text_is) in
    let P : List (List ℕ) → Type 0 = λ ps. AreOps ps (op ∷ ops) in
    ops_of_pieces-AreOps (pieces 59 (b ∷ text)) (op ∷ ops) (subst P (sym (pieces-slice_split 59 (b ∷ text))) are)

-- what no ops spell is not read
pub ops_of-none : (text : List ℕ) → (((ops : List Op) × SpellsOps text ops) → ⊥) → ops_of text ≡ None
ops_of-none text none = go (ops_of text) refl
  where
    go : (o : Option (List Op)) → ops_of text ≡ o → o ≡ None
    go None e = refl
    go (Some ops) e = absurd (none (ops, SpellsOps-ops_of text ops e))
