-- Entries in the journal, one after the other, and where each stands.
use Rattle.std.proofs.Common.{◌≡◌, ℕ, ◌+◌, ◌<◌, ◌≤◌, List, [], ◌∷◌, ◌++◌, length, take, drop, get_or, sym, ◌∙◌, ap, arith, length-append, take-append-drop, append_assoc, add-one}
use Rattle.std.proofs.Math.Seq.{drop-cons}
use Rattle.std.specs.List.{flat_map}
use Rattle.std.proofs.lemmas.List.{append-nil}
use Rattle.std.proofs.lemmas.Grind.{flat_map-append}
use Rattle.tx_model.specs.declared.meta.Meta.{Meta}
use Rattle.tx_model.specs.Spelling.{meta_frame}

at_most : (a b ab c all : ℕ) → ab ≡ a + b → all ≡ ab + c → a + b ≤ all
at_most a b ab c all first whole = omega arith

module _ (es : List Meta) (i : ℕ) (other : Meta) (below : i < length es) where
  -- the next one, and those behind it
  pub next-entry : es ≡ take i es ++ get_or es i other ∷ drop (i + 1) es
  next-entry = sym (take-append-drop i es) ∙ ap (λ (l : List Meta). take i es ++ l) (rw (add-one, drop-cons es i other))

  pub frames-more : length (flat_map meta_frame (take i es ++ get_or es i other ∷ [])) ≡ length (flat_map meta_frame (take i es)) + length (meta_frame (get_or es i other))
  frames-more =
      ap length (flat_map-append meta_frame (take i es) (get_or es i other ∷ []))
      ∙ length-append (flat_map meta_frame (take i es)) (meta_frame (get_or es i other) ++ [])
      ∙ ap (λ (l : List ℕ). length (flat_map meta_frame (take i es)) + length l) (append-nil (meta_frame (get_or es i other)))

  -- it ends within the journal
  pub place-within : length (flat_map meta_frame (take i es)) + length (meta_frame (get_or es i other)) ≤ length (flat_map meta_frame es)
  place-within =
      let e = get_or es i other in
      let rest = drop (i + 1) es in
      let whole : es ≡ (take i es ++ e ∷ []) ++ rest = next-entry ∙ sym (append_assoc (take i es) (e ∷ []) rest) in
      let long : length (flat_map meta_frame es) ≡ length (flat_map meta_frame (take i es ++ e ∷ [])) + length (flat_map meta_frame rest) =
      ap (λ (l : List Meta). length (flat_map meta_frame l)) whole ∙ ap length (flat_map-append meta_frame (take i es ++ e ∷ []) rest)
      ∙ length-append (flat_map meta_frame (take i es ++ e ∷ [])) (flat_map meta_frame rest) in
      at_most (length (flat_map meta_frame (take i es))) (length (meta_frame e)) _ (length (flat_map meta_frame rest)) (length (flat_map meta_frame es)) frames-more long
