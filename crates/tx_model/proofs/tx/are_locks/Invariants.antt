use Rattle.std.proofs.Common.{◌≡◌, [], ◌∷◌, drop, get_or}
use Rattle.tx_model.specs.Transactions.{RiseFrom, AreLocks}
use Rattle.tx_model.proofs.tx.are_locks.Given as goal

-- the last name is the one before this place, and what is left rises from it only if all rise
abbrev pub invariant-loop-lock : goal.invariant-loop-lock
invariant-loop-lock l = record {
  last : l.last ≡ get_or ([] ∷ l.locks) l.lock-index [];
  rise : RiseFrom l.last (drop l.lock-index l.locks) → AreLocks l.locks;
}
