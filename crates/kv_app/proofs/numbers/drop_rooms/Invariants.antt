use Rattle.std.proofs.Common.{◌≡◌, ℕ, List}
use Rattle.kv_app.specs.Numbers.{application_of, IsEmptyAt, Gives, SomeFrom}
use Rattle.kv_app.proofs.numbers.drop_rooms.Given as goal

abbrev pub invariant-loop-op : goal.invariant-loop-op
invariant-loop-op l = record {
  same : application_of (λ k. k.items) l.numbers.entries ≡ application_of (λ k. k.items) l.fn.numbers.entries;
  empty : (q : List ℕ) → IsEmptyAt (λ k. k.items) l.numbers.entries q → IsEmptyAt (λ k. k.items) l.fn.numbers.entries q × (SomeFrom 0 (Gives q) l.ops → SomeFrom l.op-index (Gives q) l.ops);
}
