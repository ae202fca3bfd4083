-- A text read piece by piece.
use Rattle.std.proofs.Common.{◌≡◌, ◌≢◌, ℕ, suc, ◌+◌, ◌<◌, ◌≤◌, Bool, true, false, cond, eqb, List, [], ◌∷◌, length, drop, get_or, arith, refl, sym, ◌∙◌, ap, subst, length-append, inl, inr, add-one, zero-add}
use Rattle.std.specs.List.{AllByRecursion, join_with_byte, slice_split}
use Rattle.std.specs.List as lists
use Rattle.std.proofs.lemmas.List.Splits.{join_with_byte-slice_split, length-slice_split}
use Rattle.std.proofs.lemmas.List.{append-nil}
use Rattle.std.proofs.Math.Seq.{drop-cons}
use Rattle.std.proofs.Math.ListN.{drop_of_length-le}
use Rattle.std.proofs.lemmas.Bool.Decides.{nat_tests}
use Rattle.tx_model.specs.declared.op.Op.{Op}
use Rattle.kv_app.specs.Places.{StopsAt, IsOpText}
use Rattle.kv_app.specs.Parts.{IsPieceOf, IsPiece}
use Rattle.kv_app.proofs.Separators.{HasNoByte}
use Rattle.kv_app.proofs.OpTexts.{IsSomeText, one_piece, more_pieces, StopsAt-piece, StopsAt-next, StopsAt-op_text, op_text_of_some}

abbrev pub pieces_of : List ℕ → List (List ℕ)
pieces_of text = slice_split (λ b. eqb b 59) text

onto_first_free : (b : ℕ) (ps : List (List ℕ)) → b ≢ 59 → AllByRecursion (HasNoByte 59) ps → AllByRecursion (HasNoByte 59) (lists.onto_first b ps)
onto_first_free b [] other free = ((other, tt), tt)
onto_first_free b (p ∷ ps) other free = ((other, free.0), free.1)

pub pieces_free : (text : List ℕ) → AllByRecursion (HasNoByte 59) (pieces_of text)
pieces_free [] = (tt, tt)
pieces_free (b ∷ text) = go (eqb b 59) refl (pieces_free text)
  where
    go : (test : Bool) → eqb b 59 ≡ test → AllByRecursion (HasNoByte 59) (pieces_of text) → AllByRecursion (HasNoByte 59) (cond test ([] ∷ pieces_of text) (lists.onto_first b (pieces_of text)))
    go true e free = (tt, free)
    go false e free = onto_first_free b (pieces_of text) (λ same. absurd (grind (arith, nat_tests))) free

pub pieces_some : (text : List ℕ) → 0 < length (pieces_of text)
pieces_some text = omega (arith, length-slice_split (λ b. eqb b 59) text)

-- the pieces that are left lead to what is said of the text
abbrev pub Leads : List ℕ → ℕ → List (List ℕ) → Type 0
Leads text from [] = IsOpText text
Leads text from (p ∷ ps) =
    ((len : ℕ) → StopsAt IsSomeText (join_with_byte 59 (p ∷ ps)) len → StopsAt IsOpText text (from + len))
    × (IsSomeText (join_with_byte 59 (p ∷ ps)) → IsOpText text)
    × AllByRecursion (HasNoByte 59) (p ∷ ps)
    × (from + length (join_with_byte 59 (p ∷ ps)) ≡ length text)

pub Leads-start : (text : List ℕ) → 0 < length text → Leads text 0 (pieces_of text)
Leads-start text some = go (pieces_of text) (join_with_byte-slice_split 59 text) (pieces_free text)
  where
    go : (ps : List (List ℕ)) → join_with_byte 59 ps ≡ text → AllByRecursion (HasNoByte 59) ps → Leads text 0 ps
    go [] e free = absurd (omega (arith, ap length e))
    go (p ∷ ps) e free =
        let P : List ℕ → Type 0 = IsSomeText in
        let Q : ℕ → List ℕ → Type 0 = λ len t. StopsAt IsSomeText t len in
        let R : ℕ → Type 0 = StopsAt IsOpText text in
        ((λ len stops. subst R (sym (zero-add len)) (StopsAt-op_text text len some (subst (Q len) e stops))), (λ is. op_text_of_some text (subst P e is)), free, omega (arith, ap length e))

pub Leads-stop : (text : List ℕ) (from : ℕ) (p : List ℕ) (ps : List (List ℕ)) (len : ℕ) → Leads text from (p ∷ ps) → StopsAt IsPiece p len → StopsAt IsOpText text (from + len)
Leads-stop text from p [] len leads stops =
    let P : List ℕ → Type 0 = λ t. StopsAt IsSomeText t len in
    leads.0 len (subst P (append-nil p) (StopsAt-piece p [] len leads.2.0 (inl refl) stops))
Leads-stop text from p (q ∷ ps) len leads stops = leads.0 len (StopsAt-piece p (59 ∷ join_with_byte 59 (q ∷ ps)) len leads.2.0 (inr (_, refl)) stops)

pub Leads-next : (text : List ℕ) (from : ℕ) (p : List ℕ) (ps : List (List ℕ)) (op : Op) → Leads text from (p ∷ ps) → IsPieceOf p op → Leads text (from + (length p + 1)) ps
Leads-next text from p [] op leads is = leads.1 (one_piece p (op, is))
Leads-next text from p (q ∷ ps) op leads is =
    let rest = join_with_byte 59 (q ∷ ps) in
    let P : ℕ → Type 0 = StopsAt IsOpText text in (
      (λ len stops.
          let same : from + (length p + 1 + len) ≡ from + (length p + 1) + len = omega arith in
          subst P same (leads.0 (length p + 1 + len) (StopsAt-next p op (join_with_byte 59 (q ∷ ps)) len leads.2.0 is stops))),
      (λ some. leads.1 (more_pieces p op (join_with_byte 59 (q ∷ ps)) is some)),
      leads.2.1,
      omega (arith, simp length-append at leads.3),
    )

pub Leads-fits : (text : List ℕ) (from : ℕ) (p : List ℕ) (ps : List (List ℕ)) → Leads text from (p ∷ ps) → from + length p ≤ length text
Leads-fits text from p [] leads = omega (arith, leads.3)
Leads-fits text from p (q ∷ ps) leads = omega (arith, simp length-append at leads.3)

pub drop_next : {A : Type 0} (all : List A) (k : ℕ) (x : A) → k < length all → x ≡ get_or all k x → drop k all ≡ x ∷ drop (k + 1) all
drop_next all k x lt at = rw add-one (drop-cons all k x lt ∙ ap (λ y. y ∷ drop (suc k) all) (sym at))

pub Leads-here : (text : List ℕ) (from k : ℕ) (p : List ℕ) → (k < length (pieces_of text)) × (p ≡ get_or (pieces_of text) k p) → Leads text from (drop k (pieces_of text)) → Leads text from (p ∷ drop (k + 1) (pieces_of text))
Leads-here text from k p at leads =
    let P : List (List ℕ) → Type 0 = Leads text from in
    subst P (drop_next (pieces_of text) k p at.0 at.1) leads

pub Leads-end : (text : List ℕ) (from k : ℕ) → k ≡ length (pieces_of text) → Leads text from (drop k (pieces_of text)) → IsOpText text
Leads-end text from k over leads =
    let P : List (List ℕ) → Type 0 = Leads text from in
    subst P (drop_of_length-le (pieces_of text) (omega arith)) leads
