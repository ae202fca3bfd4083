-- The ops of a text, made piece by piece.
use Rattle.std.proofs.Common.{◌≡◌, ℕ, ◌+◌, ◌<◌, List, [], ◌∷◌, ◌++◌, length, drop, get_or, arith, refl, sym, ◌∙◌, ap, subst, append_assoc, inl, inr}
use Rattle.std.specs.List.{AllByRecursion, join_with_byte}
use Rattle.std.proofs.lemmas.List.Splits.{join_with_byte-slice_split}
use Rattle.std.proofs.lemmas.List.{append-nil}
use Rattle.std.proofs.Math.ListN.{drop_of_length-le}
use Rattle.tx_model.specs.declared.op.Op.{Op}
use Rattle.tx_model.specs.Applications.{IsOp, op_spelling, ops_spelling, SpellsOps}
use Rattle.kv_app.specs.Places.{IsOpText}
use Rattle.kv_app.specs.Parts.{IsPieceOf, IsPiece}
use Rattle.kv_app.proofs.Separators.{HasNoByte, parts_unique, has_byte}
use Rattle.kv_app.proofs.OpTexts.{IsSomeText, HasNoByte-op, first_is_piece, behind_piece}
use Rattle.kv_app.proofs.PieceRuns.{pieces_of, pieces_free, pieces_some, drop_next}

-- each piece is one of these ops, in order
abbrev pub AreOps : List (List ℕ) → List Op → Type 0
AreOps [] [] = Unit {0}
AreOps (p ∷ ps) (op ∷ ops) = IsPieceOf p op × AreOps ps ops
AreOps [] (op ∷ ops) = ⊥
AreOps (p ∷ ps) [] = ⊥

pub AreOps-valid : (ps : List (List ℕ)) (ops : List Op) → AreOps ps ops → AllByRecursion IsOp ops
AreOps-valid [] [] are = tt
AreOps-valid (p ∷ ps) (op ∷ ops) are = (are.0.valid, AreOps-valid ps ops are.1)
AreOps-valid [] (op ∷ ops) are = absurd are
AreOps-valid (p ∷ ps) [] are = absurd are

pub AreOps-spell : (ps : List (List ℕ)) (ops : List Op) → AreOps ps ops → join_with_byte 59 ps ≡ ops_spelling ops
AreOps-spell [] [] are = refl
AreOps-spell [] (op ∷ ops) are = absurd are
AreOps-spell (p ∷ ps) [] are = absurd are
AreOps-spell (p ∷ []) (op ∷ []) are = are.0.text_is ∙ sym (append-nil (op_spelling op))
AreOps-spell (p ∷ []) (op ∷ (next ∷ ops)) are = absurd are.1
AreOps-spell (p ∷ (q ∷ ps)) (op ∷ []) are = absurd are.1
AreOps-spell (p ∷ (q ∷ ps)) (op ∷ (next ∷ ops)) are =
    ap (λ xs. xs ++ 59 ∷ join_with_byte 59 (q ∷ ps)) are.0.text_is ∙ ap (λ (xs : List ℕ). op_spelling op ++ 59 ∷ xs) (AreOps-spell (q ∷ ps) (next ∷ ops) are.1)

pub AreOps-from_spelling : (ps : List (List ℕ)) (op : Op) (ops : List Op) → AllByRecursion (HasNoByte 59) ps → AllByRecursion IsOp (op ∷ ops) → 0 < length ps → join_with_byte 59 ps ≡ ops_spelling (op ∷ ops) → AreOps ps (op ∷ ops)
AreOps-from_spelling [] op ops free valid some e = absurd (omega arith)
AreOps-from_spelling (p ∷ []) op [] free valid some e = (record { valid = valid.0; text_is = e ∙ append-nil (op_spelling op) }, tt)
AreOps-from_spelling (p ∷ []) op (next ∷ ops) free valid some e = absurd (has_byte 59 (op_spelling op) (ops_spelling (next ∷ ops)) p free.0 e)
AreOps-from_spelling (p ∷ (q ∷ ps)) op [] free valid some e = absurd (has_byte 59 p (join_with_byte 59 (q ∷ ps)) (op_spelling op) (HasNoByte-op op valid.0) (sym (e ∙ append-nil (op_spelling op))))
AreOps-from_spelling (p ∷ (q ∷ ps)) op (next ∷ ops) free valid some e =
    let parts = parts_unique 59 p (join_with_byte 59 (q ∷ ps)) (op_spelling op) (ops_spelling (next ∷ ops)) free.0 (HasNoByte-op op valid.0) e in
    (record { valid = valid.0; text_is = parts.0 }, AreOps-from_spelling (q ∷ ps) next ops free.1 valid.1 (omega arith) parts.1)

-- each piece of a text of ops is an op
pub all_pieces : (ps : List (List ℕ)) → AllByRecursion (HasNoByte 59) ps → 0 < length ps → IsSomeText (join_with_byte 59 ps) → AllByRecursion IsPiece ps
all_pieces [] free some is = absurd (omega arith)
all_pieces (p ∷ []) free some is =
    (first_is_piece p [] free.0 (inl refl) (subst IsSomeText (sym (append-nil p)) is), tt)
all_pieces (p ∷ (q ∷ ps)) free some is =
    (first_is_piece p (59 ∷ join_with_byte 59 (q ∷ ps)) free.0 (inr (_, refl)) is, all_pieces (q ∷ ps) free.1 (omega arith) (behind_piece p (join_with_byte 59 (q ∷ ps)) free.0 is))

-- what is made, and the pieces that are left: with ops of theirs it is what the text spells
pub record Makes (text : List ℕ) (ops : List Op) (rest : List (List ℕ)) : Type 0 where
  pub pieces : AllByRecursion IsPiece rest
  pub whole : (later : List Op) → AreOps rest later → SpellsOps text (ops ++ later)

pub Makes-start : (text : List ℕ) → IsOpText text → 0 < length text → Makes text [] (pieces_of text)
Makes-start text (ops, spells) some = record {
  pieces = all_pieces (pieces_of text) (pieces_free text) (pieces_some text) (subst IsSomeText (sym (join_with_byte-slice_split 59 text)) (some_text ops spells));
  whole = λ later are. record { valid = AreOps-valid (pieces_of text) later are; text_is = sym (join_with_byte-slice_split 59 text) ∙ AreOps-spell (pieces_of text) later are };
}
  where
    some_text : (ops : List Op) → SpellsOps text ops → IsSomeText text
    some_text [] spells = absurd (omega (arith, ap length spells.text_is))
    some_text (op ∷ ops) spells = (op, ops, record { valid = spells.valid; text_is = spells.text_is })

pub Makes-here : (text : List ℕ) (ops : List Op) (k : ℕ) (p : List ℕ) → (k < length (pieces_of text)) × (p ≡ get_or (pieces_of text) k p) → Makes text ops (drop k (pieces_of text)) → Makes text ops (p ∷ drop (k + 1) (pieces_of text))
Makes-here text ops k p at makes =
    let P : List (List ℕ) → Type 0 = Makes text ops in
    subst P (drop_next (pieces_of text) k p at.0 at.1) makes

pub Makes-next : (text : List ℕ) (ops : List Op) (p : List ℕ) (rest : List (List ℕ)) (op : Op) → IsPieceOf p op → Makes text ops (p ∷ rest) → Makes text (ops ++ op ∷ []) rest
Makes-next text ops p rest op is makes = record {
  pieces = makes.pieces.1;
  whole = λ later are.
      let P : List Op → Type 0 = SpellsOps text in
      subst P (sym (append_assoc ops (op ∷ []) later)) (makes.whole (op ∷ later) (is, are));
}

pub Makes-end : (text : List ℕ) (ops : List Op) (k : ℕ) → k ≡ length (pieces_of text) → Makes text ops (drop k (pieces_of text)) → SpellsOps text ops
Makes-end text ops k over makes =
    let P : List (List ℕ) → Type 0 = Makes text ops in
    let Q : List Op → Type 0 = SpellsOps text in
    subst Q (append-nil ops) ((subst P (drop_of_length-le (pieces_of text) (omega arith)) makes).whole [] tt)
