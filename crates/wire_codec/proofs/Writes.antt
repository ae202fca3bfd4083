-- What valid heads give the code that writes them, and one piece after another.
use Rattle.std.proofs.Common.{◌≡◌, ℕ, ◌+◌, ◌≤◌, List, [], ◌∷◌, ◌++◌, append_assoc, length}
use Rattle.std.specs.Prelude.{All}
use Rattle.std.specs.List.{AllByRecursion}
use Rattle.std.proofs.lemmas.List.Elements.{All-from_recursion}
use Rattle.tx_model.specs.declared.record.Head.{Head}
use Rattle.proto_model.specs.Validity.{HeadsRise}

few_locks : (id : ℕ) (heads : List Head) → HeadsRise id heads → AllByRecursion (λ h. length h.reads + length h.writes ≤ 64) heads
unfolding HeadsRise
few_locks id [] rise = tt
few_locks id (head ∷ heads) rise = (rise.0.count, few_locks (id + 1) heads rise.2)

pub heads_fit : (from : ℕ) (heads : List Head) → HeadsRise from heads → All (λ h. length h.reads + length h.writes ≤ 64) heads
heads_fit from heads rise = All-from_recursion (λ h. length h.reads + length h.writes ≤ 64) heads (few_locks from heads rise)

pub put_2 : (old a b x y : List ℕ) → x ≡ old ++ a → y ≡ x ++ b → y ≡ old ++ (a ++ b)
put_2 old a b x y p q = rw (q, p) (append_assoc old a b)
