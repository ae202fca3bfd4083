-- How calls answer.
use Rattle.std.proofs.Common.{◌≡◌, ◌≢◌, true, false, Bool, ap, Err}
use Rattle.std.specs.Prelude.{IsErrOf}
use Rattle.disk_model.specs.History.{History}
use Rattle.proto_model.specs.declared.replica.NodeFault.{NodeFault}
use Rattle.proto_model.specs.declared.replica.NodeFault.TheVariants.{Shut}
use Rattle.proto_model.specs.Nodes.{Shuts}
use Rattle.partition_store.specs.Stores.{Kept, state_by, IsAnswer}

on_off : (b : Bool) → b ≡ false → b ≡ true → ⊥
on_off b off on = cc

err_same : {T : Type 0} (a b : NodeFault) → IsErrOf {T = T} (Err a) b → a ≡ b
err_same a b e = cc

module _ {T D : Type 0} (tells : Type 0) (history : D → History) (old new : Kept D) where
  -- a refusal that leaves the store as it was
  pub answer_kept : (fault : NodeFault) → fault ≢ Shut → (Shuts {T = T} (Err fault) → ⊥) → old.shut ≡ false → new ≡ record old { disk = new.disk } → (tells → state_by history new ≡ state_by history old) → IsAnswer {T = T} tells history old new (Err fault)
  answer_kept fault other kept on same state = record {
    only_shut = λ is. absurd (other (err_same {T = T} fault Shut is));
    was_shut = λ off. absurd (on_off old.shut on off);
    on = tt;
    shuts = λ is. absurd (kept is);
    shows = (ap (λ (k : Kept D). k.status) same, ap (λ (k : Kept D). k.staged) same);
    kept = λ not. (same, state);
  }
