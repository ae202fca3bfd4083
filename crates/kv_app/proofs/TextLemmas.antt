-- The text of an application, entry by entry.
use Rattle.std.proofs.Common.{◌≡◌, ℕ, ℤ, List, [], ◌∷◌, ◌++◌, Option, Some, None, flat_map, length, arith, append_assoc, refl, sym, ◌∙◌, ap}
use Rattle.std.specs.FinMap as finite
use Rattle.std.specs.FinMap.{put, entries-insert, len-entries, len-empty}
use Rattle.std.specs.Map.{keys_of}
use Rattle.std.specs.List.{AllByRecursion}
use Rattle.std.specs.List.Sorted.{IsStrictlySortedBy}
use Rattle.std.specs.declared.cmp.Ordering.TheVariants.{Less}
use Rattle.std.proofs.lemmas.Cmp.{nat_list_cmp_total}
use Rattle.tx_model.specs.Applications.{empty_application, name_cmp, pair_text, application_text}
use Rattle.kv_app.specs.Numbers.{application_of, entry_at, entry_text}
use Rattle.kv_app.proofs.NumberLemmas.{with_none, get-absent}

nil_of_length : {A : Type 0} (xs : List A) → length xs ≡ 0 → xs ≡ []
nil_of_length [] e = refl
nil_of_length (x ∷ xs) e = absurd (omega arith)

module _ {K : Type 0} (bytes : K → List ℕ) where
  abbrev pub text_at : K × Option ℤ → List ℕ
  text_at entry = entry_text (bytes entry.0) entry.1

  abbrev numbers_of : List (K × Option ℤ) → List (List ℕ × ℤ)
  numbers_of [] = []
  numbers_of ((key, None) ∷ entries) = numbers_of entries
  numbers_of ((key, Some n) ∷ entries) = (bytes key, n) ∷ numbers_of entries

  flat_map-numbers_of : (entries : List (K × Option ℤ)) → flat_map pair_text (numbers_of entries) ≡ flat_map text_at entries
  flat_map-numbers_of [] = refl
  flat_map-numbers_of ((key, None) ∷ entries) = flat_map-numbers_of entries
  flat_map-numbers_of ((key, Some n) ∷ entries) = ap (λ xs. pair_text (bytes key, n) ++ xs) (flat_map-numbers_of entries)

  abbrev IsBelow : List ℕ → List K → Type 0
  IsBelow key keys = AllByRecursion (λ k. name_cmp key (bytes k) ≡ Less) keys

  entry_below : (key : List ℕ) (entries : List (K × Option ℤ)) → IsBelow key (keys_of entries) → entry_at bytes entries key ≡ None
  entry_below key [] below = refl
  entry_below key (entry ∷ entries) below = rw below.0 (entry_below key entries below.1)

  put_below : (key : List ℕ) (n : ℤ) (entries : List (K × Option ℤ)) → IsBelow key (keys_of entries) → put name_cmp key n (numbers_of entries) ≡ (key, n) ∷ numbers_of entries
  put_below key n [] below = refl
  put_below key n ((k, None) ∷ entries) below = put_below key n entries below.1
  put_below key n ((k, Some m) ∷ entries) below = rw below.0 refl

  entries-application_of : (entries : List (K × Option ℤ)) → IsStrictlySortedBy (λ a b. name_cmp (bytes a) (bytes b)) (keys_of entries) → finite.entries (application_of bytes entries) ≡ numbers_of entries
  unfolding IsStrictlySortedBy
  entries-application_of [] sorted = nil_of_length (finite.entries empty_application) (sym (len-entries empty_application) ∙ len-empty name_cmp ℤ)
  entries-application_of ((key, None) ∷ entries) sorted =
      ap finite.entries (with_none (application_of bytes entries) (bytes key) (sym (get-absent bytes entries (bytes key) (entry_below (bytes key) entries sorted.0))))
      ∙ entries-application_of entries sorted.1
  entries-application_of ((key, Some n) ∷ entries) sorted =
      entries-insert nat_list_cmp_total (application_of bytes entries) (bytes key) n
      ∙ (ap (put name_cmp (bytes key) n) (entries-application_of entries sorted.1)
      ∙ put_below (bytes key) n entries sorted.0)

  pub text_of_entries : (entries : List (K × Option ℤ)) → IsStrictlySortedBy (λ a b. name_cmp (bytes a) (bytes b)) (keys_of entries) → flat_map text_at entries ≡ application_text (application_of bytes entries)
  text_of_entries entries sorted = sym (ap (flat_map pair_text) (entries-application_of entries sorted) ∙ flat_map-numbers_of entries)

  -- one more entry is written
  pub written_more : (text new all : List ℕ) (entry : K × Option ℤ) (rest left : List (K × Option ℤ)) → left ≡ entry ∷ rest → text ++ flat_map text_at left ≡ all → new ≡ text ++ text_at entry → new ++ flat_map text_at rest ≡ all
  written_more text new all entry rest left is so_far more =
      ap (λ xs. xs ++ flat_map text_at rest) more
      ∙ (append_assoc text (text_at entry) (flat_map text_at rest)
      ∙ (ap (λ (es : List (K × Option ℤ)). text ++ flat_map text_at es) (sym is) ∙ so_far))
