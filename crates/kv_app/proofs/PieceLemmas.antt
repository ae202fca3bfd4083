-- The texts of single ops.
use Rattle.std.proofs.Common.{◌≡◌, ◌≢◌, ℕ, zero, suc, pos, ◌<◌, ◌≤◌, List, [], ◌∷◌, ◌++◌, length, take, drop, get_or, Some, None, codes, arith, refl, sym, ◌∙◌, ap, subst, append_assoc, length-append, inl, inr}
use Rattle.std.specs.List.{slice_get}
use Rattle.std.specs.Fmt.{signed_decimal}
use Rattle.std.proofs.lemmas.Bool.{cases_lt}
use Rattle.std.proofs.lemmas.List.{take-append-drop}
use Rattle.std.proofs.Math.ListN.{get_or-append}
use Rattle.tx_model.specs.declared.op.Op.TheVariants.{Set, Add, Del}
use Rattle.tx_model.specs.Applications.{IsKey}
use Rattle.kv_app.specs.Places.{StopsAt}
use Rattle.kv_app.specs.Parts.{IsPairText, IsAfter, IsPiece}
use Rattle.kv_app.proofs.PlaceLemmas.{StopsAt-wider}
use Rattle.kv_app.proofs.KeyLemmas.{some_key, amount_zero, read_front}

-- a text that parts from a word
pub StopsAt-word : (IsText : List ℕ → Type 0) (word text : List ℕ) (len : ℕ) (rest : List ℕ) → IsText rest → len < length word → len ≤ length text → take len text ≡ take len word → (len < length text → get_or text len 0 ≢ get_or word len 0) → StopsAt (IsAfter word IsText) text len
StopsAt-word IsText word text len rest some short within same apart = record {
  refused = λ is.
      let longer : len < length text = omega (arith, simp length-append at (ap length is.2)) in
      apart longer (ap (λ xs. get_or xs len 0) is.2 ∙ get_or-append word is.0 0 len short);
  longest = record {
    within = within;
    begins = (drop len word ++ rest, (rest, some, ap (λ xs. xs ++ (drop len word ++ rest)) same ∙ (sym (append_assoc (take len word) (drop len word) rest) ∙ ap (λ xs. xs ++ rest) (take-append-drop len word))));
    most = λ n le longer. elim (cases_lt len n) [
      | inl lt ↦ absurd (apart (omega arith) (sym (read_front text longer.0 n len le lt) ∙ (ap (λ xs. get_or xs len 0) longer.1.2 ∙ get_or-append word longer.1.0 0 len short)))
      | inr fits ↦ fits
    ];
  };
}

pub pair_text : IsPairText (97 ∷ 32 ∷ signed_decimal (pos 0))
pair_text = (97 ∷ [], pos 0, record { key_is = some_key; amount_is = amount_zero; text_is = refl })

-- ---- the word of an op

first_of : (a b : ℕ) (xs ys : List ℕ) → a ∷ xs ≡ b ∷ ys → a ≡ b
first_of a b xs ys e = cc

after_set : (t : List ℕ) → IsAfter (codes "set ") IsPairText t → IsPiece t
after_set t (rest, pair, e) = (Set pair.0 pair.1, record { valid = (pair.2.key_is, pair.2.amount_is); text_is = e ∙ ap (λ xs. codes "set " ++ xs) pair.2.text_is })

after_add : (t : List ℕ) → IsAfter (codes "add ") IsPairText t → IsPiece t
after_add t (rest, pair, e) = (Add pair.0 pair.1, record { valid = (pair.2.key_is, pair.2.amount_is); text_is = e ∙ ap (λ xs. codes "add " ++ xs) pair.2.text_is })

after_del : (t : List ℕ) → IsAfter (codes "del ") IsKey t → IsPiece t
after_del t (rest, key, e) = (Del rest, record { valid = key; text_is = e })

set_piece : (t : List ℕ) → IsPiece (115 ∷ t) → IsAfter (codes "set ") IsPairText (115 ∷ t)
set_piece t (Set key z, is) = (_, (key, z, record { key_is = is.valid.0; amount_is = is.valid.1; text_is = refl }), is.text_is)
set_piece t (Add key z, is) = absurd (omega (arith, first_of 115 97 _ _ is.text_is))
set_piece t (Del key, is) = absurd (omega (arith, first_of 115 100 _ _ is.text_is))

add_piece : (t : List ℕ) → IsPiece (97 ∷ t) → IsAfter (codes "add ") IsPairText (97 ∷ t)
add_piece t (Add key z, is) = (_, (key, z, record { key_is = is.valid.0; amount_is = is.valid.1; text_is = refl }), is.text_is)
add_piece t (Set key z, is) = absurd (omega (arith, first_of 97 115 _ _ is.text_is))
add_piece t (Del key, is) = absurd (omega (arith, first_of 97 100 _ _ is.text_is))

del_piece : (t : List ℕ) → IsPiece (100 ∷ t) → IsAfter (codes "del ") IsKey (100 ∷ t)
del_piece t (Del key, is) = (key, is.valid, is.text_is)
del_piece t (Set key z, is) = absurd (omega (arith, first_of 100 115 _ _ is.text_is))
del_piece t (Add key z, is) = absurd (omega (arith, first_of 100 97 _ _ is.text_is))

no_piece : IsPiece [] → ⊥
no_piece (Set key z, is) = absurd (omega (arith, ap length is.text_is))
no_piece (Add key z, is) = absurd (omega (arith, ap length is.text_is))
no_piece (Del key, is) = absurd (omega (arith, ap length is.text_is))

StopsAt-first : (IsText : List ℕ → Type 0) (b : ℕ) (t : List ℕ) (len : ℕ) → ((t : List ℕ) → IsText t → IsPiece t) → ((t : List ℕ) → IsPiece (b ∷ t) → IsText (b ∷ t)) → StopsAt IsText (b ∷ t) len → StopsAt IsPiece (b ∷ t) len
StopsAt-first IsText b t len wider narrow stops = StopsAt-wider IsText IsPiece (b ∷ t) 0 len (omega arith) wider (narrow t) front stops
  where
    front : (n : ℕ) (more : List ℕ) → 0 < n → n ≤ length (b ∷ t) → IsPiece (take n (b ∷ t) ++ more) → IsText (take n (b ∷ t) ++ more)
    front zero more some within is = absurd (omega arith)
    front (suc n) more some within is = narrow (take n t ++ more) is

pub StopsAt-set : (text : List ℕ) (first len : ℕ) → Some first ≡ slice_get text 0 → first ≡ 115 → StopsAt (IsAfter (codes "set ") IsPairText) text len → StopsAt IsPiece text len
StopsAt-set [] first len is named stops = absurd cc
StopsAt-set (b ∷ t) first len is named stops =
    let same : b ≡ 115 = cc in
    let P : ℕ → Type 0 = λ x. StopsAt (IsAfter (codes "set ") IsPairText) (x ∷ t) len in
    let Q : ℕ → Type 0 = λ x. StopsAt IsPiece (x ∷ t) len in
    subst Q (sym same) (StopsAt-first (IsAfter (codes "set ") IsPairText) 115 t len after_set set_piece (subst P same stops))

pub StopsAt-add : (text : List ℕ) (first len : ℕ) → Some first ≡ slice_get text 0 → first ≡ 97 → StopsAt (IsAfter (codes "add ") IsPairText) text len → StopsAt IsPiece text len
StopsAt-add [] first len is named stops = absurd cc
StopsAt-add (b ∷ t) first len is named stops =
    let same : b ≡ 97 = cc in
    let P : ℕ → Type 0 = λ x. StopsAt (IsAfter (codes "add ") IsPairText) (x ∷ t) len in
    let Q : ℕ → Type 0 = λ x. StopsAt IsPiece (x ∷ t) len in
    subst Q (sym same) (StopsAt-first (IsAfter (codes "add ") IsPairText) 97 t len after_add add_piece (subst P same stops))

pub StopsAt-del : (text : List ℕ) (first len : ℕ) → Some first ≡ slice_get text 0 → first ≡ 100 → StopsAt (IsAfter (codes "del ") IsKey) text len → StopsAt IsPiece text len
StopsAt-del [] first len is named stops = absurd cc
StopsAt-del (b ∷ t) first len is named stops =
    let same : b ≡ 100 = cc in
    let P : ℕ → Type 0 = λ x. StopsAt (IsAfter (codes "del ") IsKey) (x ∷ t) len in
    let Q : ℕ → Type 0 = λ x. StopsAt IsPiece (x ∷ t) len in
    subst Q (sym same) (StopsAt-first (IsAfter (codes "del ") IsKey) 100 t len after_del del_piece (subst P same stops))

-- no op begins with this byte, or there is none
StopsAt-other : (text : List ℕ) → ((b : ℕ) → Some b ≡ slice_get text 0 → (b ≢ 115) × (b ≢ 97) × (b ≢ 100)) → StopsAt IsPiece text 0
StopsAt-other text other = record {
  refused = λ is. whole text is other;
  longest = record {
    within = omega arith;
    begins = (codes "del a", (Del (97 ∷ []), record { valid = some_key; text_is = refl }));
    most = λ n le longer. front text n longer.0 longer.1 le other;
  };
}
  where
    one_of : (b : ℕ) (t : List ℕ) → IsPiece (b ∷ t) → (b ≢ 115) × (b ≢ 97) × (b ≢ 100) → ⊥
    one_of b t (Set key z, is) other = other.0 (first_of b 115 _ _ is.text_is)
    one_of b t (Add key z, is) other = other.1 (first_of b 97 _ _ is.text_is)
    one_of b t (Del key, is) other = other.2 (first_of b 100 _ _ is.text_is)

    whole : (t : List ℕ) → IsPiece t → ((b : ℕ) → Some b ≡ slice_get t 0 → (b ≢ 115) × (b ≢ 97) × (b ≢ 100)) → ⊥
    whole [] is other = no_piece is
    whole (b ∷ t) is other = one_of b t is (other b refl)

    front : (t : List ℕ) (n : ℕ) (more : List ℕ) → IsPiece (take n t ++ more) → n ≤ length t → ((b : ℕ) → Some b ≡ slice_get t 0 → (b ≢ 115) × (b ≢ 97) × (b ≢ 100)) → n ≤ 0
    front t zero more is le other = omega arith
    front [] (suc n) more is le other = absurd (omega arith)
    front (b ∷ t) (suc n) more is le other = absurd (one_of b (take n t ++ more) is (other b refl))

pub StopsAt-first_byte : (text : List ℕ) (first : ℕ) → Some first ≡ slice_get text 0 → first ≢ 115 → first ≢ 97 → first ≢ 100 → StopsAt IsPiece text 0
StopsAt-first_byte text first is set add del = StopsAt-other text (λ b at. let same : b ≡ first = cc in (λ e. set (sym same ∙ e), λ e. add (sym same ∙ e), λ e. del (sym same ∙ e)))

pub StopsAt-no_byte : (text : List ℕ) → None ≡ slice_get text 0 → StopsAt IsPiece text 0
StopsAt-no_byte text is = StopsAt-other text (λ b at. absurd cc)
