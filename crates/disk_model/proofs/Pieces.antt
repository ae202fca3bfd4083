-- What was read of a file, a piece at a time.
use Rattle.std.proofs.Common.{◌≡◌, ℕ, ◌≤◌, List, ◌++◌, length, take, drop, sym, ◌∙◌, ap}
use Rattle.std.proofs.lemmas.List.{take-take, take_at}

-- the front of what was read, seen through the room that it was read into
pub front_of_piece : (view into items rest : List ℕ) (len n m : ℕ) → view ≡ take len (into ++ drop (length into) items) → length into ≡ len → take n into ≡ take n rest → m ≤ n → take m view ≡ take m rest
front_of_piece view into items rest len n m view_is size read le =
    ap (λ (l : List ℕ). take m l) (view_is ∙ take_at into (drop (length into) items) len size)
    ∙ sym (take-take m n into le) ∙ ap (λ (l : List ℕ). take m l) read ∙ take-take m n rest le
