use Rattle.std.proofs.Common.{◌≡◌, ◌⊎◌, ℕ, List, All, drop}
use Rattle.tx_model.specs.Applications.{after_ops}
use Rattle.kv_app.specs.Numbers.{application_of, HasRoom, IsEmptyAt, Gives, Deletes, SomeFrom}
use Rattle.kv_app.proofs.numbers.change_each.Given as goal

-- what is left leads to the same
abbrev pub invariant-loop-op : goal.invariant-loop-op
invariant-loop-op l = record {
  room : All (HasRoom (λ k. k.items) l.numbers.entries) l.ops;
  same : after_ops (application_of (λ k. k.items) l.numbers.entries) (drop l.op-index l.ops) ≡ after_ops (application_of (λ k. k.items) l.fn.numbers.entries) l.ops;
  empty : (q : List ℕ) → IsEmptyAt (λ k. k.items) l.numbers.entries q → SomeFrom 0 (Deletes q) l.ops ⊎ (IsEmptyAt (λ k. k.items) l.fn.numbers.entries q × (SomeFrom 0 (Gives q) l.ops → SomeFrom l.op-index (Gives q) l.ops));
}
