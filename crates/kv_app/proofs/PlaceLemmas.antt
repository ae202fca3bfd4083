-- Longest fronts that begin some text of a language.
use Rattle.std.proofs.Common.{◌≡◌, ℕ, suc, ◌+◌, ◌-◌, ◌<◌, ◌≤◌, List, [], ◌∷◌, ◌++◌, length, take, drop, arith, sym, ◌∙◌, ap, subst, append_assoc, length-append, inl, inr}
use Rattle.std.proofs.lemmas.Bool.{cases_lt}
use Rattle.std.proofs.lemmas.List.{take-append-drop, take-take}
use Rattle.std.proofs.Math.Seq.{take-append-add, take-length}
use Rattle.kv_app.specs.Places.{Begins, StopsAt}
use Rattle.kv_app.specs.Parts.{IsAfter}
use Rattle.kv_app.proofs.Separators.{take_past}

-- a front of what begins a text begins it too
Begins-shorter : (IsText : List ℕ → Type 0) (text : List ℕ) (m n : ℕ) → m ≤ n → Begins IsText (take n text) → Begins IsText (take m text)
Begins-shorter IsText text m n le (more, is) =
    let whole : take n text ≡ take m text ++ drop m (take n text) = sym (take-append-drop m (take n text)) ∙ ap (λ xs. xs ++ drop m (take n text)) (take-take m n text le) in
    let same : take n text ++ more ≡ take m text ++ (drop m (take n text) ++ more) = ap (λ xs. xs ++ more) whole ∙ append_assoc (take m text) (drop m (take n text)) more in
    (drop m (take n text) ++ more, subst IsText same is)

-- one more byte begins nothing
pub StopsAt-inside : (IsText : List ℕ → Type 0) (text : List ℕ) (len : ℕ) → len < length text → Begins IsText (take len text) → (Begins IsText (take (len + 1) text) → ⊥) → StopsAt IsText text len
StopsAt-inside IsText text len inside begins over = record {
  refused = λ is. over (drop (len + 1) text, subst IsText (sym (take-append-drop (len + 1) text)) is);
  longest = record {
    within = omega arith;
    begins = begins;
    most = λ n le longer. elim (cases_lt len n) [
      | inl more ↦ absurd (over (Begins-shorter IsText text (len + 1) n (omega arith) longer))
      | inr fits ↦ fits
    ];
  };
}

-- the text is over
pub StopsAt-end : (IsText : List ℕ → Type 0) (text : List ℕ) → Begins IsText text → (IsText text → ⊥) → StopsAt IsText text (length text)
StopsAt-end IsText text begins refused = record {
  refused = refused;
  longest = record { within = omega arith; begins = rw take-length begins; most = λ n le _. le };
}

-- a wider language, that has no more texts which begin as this one does
pub StopsAt-wider : (IsText IsWider : List ℕ → Type 0) (text : List ℕ) (k len : ℕ) → k ≤ len → ((t : List ℕ) → IsText t → IsWider t) → (IsWider text → IsText text) → ((n : ℕ) (more : List ℕ) → k < n → n ≤ length text → IsWider (take n text ++ more) → IsText (take n text ++ more)) → StopsAt IsText text len → StopsAt IsWider text len
StopsAt-wider IsText IsWider text k len low wider whole narrow stops = record {
  refused = λ is. stops.refused (whole is);
  longest = record {
    within = stops.longest.within;
    begins = (stops.longest.begins.0, wider _ stops.longest.begins.1);
    most = λ n le longer. elim (cases_lt k n) [
      | inl more ↦ stops.longest.most n le (longer.0, narrow n longer.0 more le longer.1)
      | inr fits ↦ omega arith
    ];
  };
}

pub cancel : (a b c : List ℕ) → a ++ b ≡ a ++ c → b ≡ c
cancel [] b c e = e
cancel (x ∷ a) b c e = cancel a b c cc

-- behind a word that stands in front
pub StopsAt-after : (IsText : List ℕ → Type 0) (word rest : List ℕ) (len : ℕ) → StopsAt IsText rest len → StopsAt (IsAfter word IsText) (word ++ rest) (length word + len)
StopsAt-after IsText word rest len stops = record {
  refused = λ is. stops.refused (subst IsText (sym (cancel word rest is.0 is.2)) is.1);
  longest = record {
    within = simp length-append (omega (arith, stops.longest.within));
    begins = (stops.longest.begins.0, (take len rest ++ stops.longest.begins.0, stops.longest.begins.1, rw (take-append-add word rest len) (append_assoc word (take len rest) stops.longest.begins.0)));
    most = λ n le longer. elim (cases_lt (length word) n) [
      | inl more ↦ further n (n - length word) (omega arith) le longer
      | inr fits ↦ omega arith
    ];
  };
}
  where
    further : (n k : ℕ) → n ≡ length word + k → n ≤ length (word ++ rest) → Begins (IsAfter word IsText) (take n (word ++ rest)) → n ≤ length word + len
    further n k at le (more, (after, is, e)) =
        let front : take n (word ++ rest) ≡ word ++ take k rest = rw at (take-append-add word rest k) in
        let tail : take k rest ++ more ≡ after = cancel word (take k rest ++ more) after (sym (append_assoc word (take k rest) more) ∙ ap (λ xs. xs ++ more) (sym front) ∙ e) in
        let short : k ≤ length rest = omega (arith, simp length-append at le) in
        let least : k ≤ len = stops.longest.most k short (more, subst IsText (sym tail) is) in
        omega arith

-- behind a word and a byte that every text with them in front is cut at
pub StopsAt-behind : (IsText IsWhole : List ℕ → Type 0) (word : List ℕ) (byte : ℕ) (rest : List ℕ) (len : ℕ) → ((t : List ℕ) → IsText t → IsWhole (word ++ byte ∷ t)) → ((t : List ℕ) → IsWhole (word ++ byte ∷ t) → IsText t) → StopsAt IsText rest len → StopsAt IsWhole (word ++ byte ∷ rest) (length word + 1 + len)
StopsAt-behind IsText IsWhole word byte rest len wider narrow stops = record {
  refused = λ is. stops.refused (narrow rest is);
  longest = record {
    within = simp length-append (omega (arith, stops.longest.within));
    begins = (stops.longest.begins.0, subst IsWhole (sym (cut (length word + 1 + len) len stops.longest.begins.0 (omega arith))) (wider _ stops.longest.begins.1));
    most = λ n le longer. elim (cases_lt (length word) n) [
      | inl more ↦ further n (n - (length word + 1)) (omega arith) le longer
      | inr fits ↦ omega arith
    ];
  };
}
  where
    cut : (n k : ℕ) (more : List ℕ) → n ≡ length word + suc k → take n (word ++ byte ∷ rest) ++ more ≡ word ++ byte ∷ (take k rest ++ more)
    cut n k more at = ap (λ xs. xs ++ more) (take_past word rest byte n k at) ∙ append_assoc word (byte ∷ take k rest) more

    further : (n k : ℕ) → n ≡ length word + suc k → n ≤ length (word ++ byte ∷ rest) → Begins IsWhole (take n (word ++ byte ∷ rest)) → n ≤ length word + 1 + len
    further n k at le (more, is) =
        let short : k ≤ length rest = omega (arith, simp length-append at le) in
        let least : k ≤ len = stops.longest.most k short (more, narrow (take k rest ++ more) (subst IsWhole (cut n k more at) is)) in
        omega arith

pub StopsAt-unique : (IsText : List ℕ → Type 0) (text : List ℕ) (m n : ℕ) → StopsAt IsText text m → StopsAt IsText text n → m ≡ n
StopsAt-unique IsText text m n first second =
    omega (arith, first.longest.most n second.longest.within second.longest.begins, second.longest.most m first.longest.within first.longest.begins)
