use Rattle.std.proofs.Common.{◌≡◌, ◌⊎◌, ℕ, ◌<◌, List, get_or}
use Rattle.tx_model.specs.declared.op.Op.{Op}
use Rattle.kv_app.specs.Numbers.{application_of, HasRoom, IsEmptyAt, Gives, SomeFrom}
use Rattle.kv_app.proofs.numbers.make_room.Given as goal

abbrev pub invariant-loop-op : goal.invariant-loop-op
invariant-loop-op l = record {
  same : application_of (λ k. k.items) l.numbers.entries ≡ application_of (λ k. k.items) l.fn.numbers.entries;
  made : (i : ℕ) (d : Op) → i < l.op-index → HasRoom (λ k. k.items) l.numbers.entries (get_or l.ops i d);
  empty : (q : List ℕ) → IsEmptyAt (λ k. k.items) l.numbers.entries q → IsEmptyAt (λ k. k.items) l.fn.numbers.entries q ⊎ SomeFrom 0 (Gives q) l.ops;
}
