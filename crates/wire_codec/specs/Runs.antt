-- Items one after another, each under an id that rises by one.
use Rattle.std.specs.Prelude.{ℕ, zero, suc, ◌+◌, Bool, true, ◌&&◌, List, [], ◌∷◌}

-- whether each of so many items passes the test at its id, the first of them at this one
unfoldable pub are_items : (ℕ → List ℕ → Bool) → (List ℕ → List ℕ) → ℕ → ℕ → List ℕ → Bool
are_items test after id zero bytes = true
are_items test after id (suc n) bytes =
    test id bytes && are_items test after (id + 1) n (after bytes)

-- the values of so many items
unfoldable pub items_of : {V : Type 0} → (List ℕ → V) → (List ℕ → List ℕ) → ℕ → List ℕ → List V
items_of value after zero bytes = []
items_of value after (suc n) bytes = value bytes ∷ items_of value after n (after bytes)

-- what stands behind so many items
unfoldable pub past_items : (List ℕ → List ℕ) → ℕ → List ℕ → List ℕ
past_items after zero bytes = bytes
past_items after (suc n) bytes = past_items after n (after bytes)
