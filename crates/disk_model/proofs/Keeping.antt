-- What a run of calls keeps of a disk, and that it didn't fail.
use Rattle.disk_model.specs.History.{KeepsWorking}

module _ {D : Type 0} {R U : D → Type 0} where
  -- before the first call
  pub kept_so_far : (a : D) → KeepsWorking R U a a ⊥
  kept_so_far a = record { reliable = λ r. r; unfailing = λ u. (u, λ no. no) }

  -- a run, and then one call more, of whose failing alone the whole fails
  pub keeps_then : {a b c : D} {F G H : Type 0} → KeepsWorking R U a b F → KeepsWorking R U b c G → (H → G) → KeepsWorking R U a c H
  keeps_then so_far call only = record {
    reliable = λ r. call.reliable (so_far.reliable r);
    unfailing = λ u. ((call.unfailing (so_far.unfailing u).0).0, λ h. (call.unfailing (so_far.unfailing u).0).1 (only h));
  }
