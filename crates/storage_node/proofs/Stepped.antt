-- How a call of the store answers a step.
use Rattle.std.proofs.Common.{◌≡◌, inl, inr, ℕ, ◌+◌, ◌-◌, ◌^◌, ◌≤◌, Bool, true, false, sym, ◌∙◌, ap, subst, Err}
use Rattle.std.specs.Prelude.{List, Result, IsErrOf, length}
use Rattle.tx_model.specs.declared.record.Record.{Record}
use Rattle.tx_model.specs.Records.{first_id}
use Rattle.disk_model.specs.History.{History}
use Rattle.proto_model.specs.Replicas.{ReplicaState, replica_after}
use Rattle.proto_model.specs.Crashes.{unstaged, IsCrashOf}
use Rattle.proto_model.specs.Nodes.{Shuts, IsUndamaged}
use Rattle.proto_model.specs.Parts.{needs_file}
use Rattle.proto_model.specs.declared.message.Status.{Status}
use Rattle.proto_model.specs.declared.message.ToNode.{ToNode}
use Rattle.proto_model.specs.declared.message.ToNode.TheVariants.{Append}
use Rattle.proto_model.specs.declared.message.FromNode.{FromNode}
use Rattle.proto_model.specs.declared.replica.NodeFault.{NodeFault}
use Rattle.proto_model.specs.declared.replica.NodeFault.TheVariants.{Disk, Damaged, Shut, Full, Memory}
use Rattle.partition_store.specs.Stands.{IsNext, held_now, IsOldOrNew, HasSome, LeavesNear, LeavesAtEach}
use Rattle.partition_store.specs.Stores.{Kept, state_by, lacking, IsDurable, IsAnswer}
use Rattle.partition_store.proofs.Left.{leaves_weaker, next_same}
use Rattle.storage_node.specs.Steps.{IsSettled, IsSteady, IsStep}

on_off : (b : Bool) → b ≡ false → b ≡ true → ⊥
on_off b off on = cc

-- ---- a fault, whatever the call would have given

err_fault : (T : Type 0) (a b : NodeFault) → IsErrOf {T = T} (Err a) b → a ≡ b
err_fault T a b e = cc

err_at : (T U : Type 0) (a b : NodeFault) → IsErrOf {T = T} (Err a) b → IsErrOf {T = U} (Err a) b
err_at T U a b e = ap Err (err_fault T a b e)

shuts_at : (T U : Type 0) (fault : NodeFault) → Shuts {T = T} (Err fault) → Shuts {T = U} (Err fault)
shuts_at T U Disk it = tt
shuts_at T U (Damaged file at) it = tt
shuts_at T U Shut it = it
shuts_at T U Full it = it
shuts_at T U Memory it = it

undamaged_at : (T U : Type 0) (fault : NodeFault) → IsUndamaged {T = T} (Err fault) → IsUndamaged {T = U} (Err fault)
undamaged_at T U Disk it = tt
undamaged_at T U (Damaged file at) it = it
undamaged_at T U Shut it = tt
undamaged_at T U Full it = tt
undamaged_at T U Memory it = tt

-- ---- what a crash leaves

pub crash-either : (old then : ReplicaState) (m : ToNode) → replica_after old m ≡ then → (r : ReplicaState) → IsOldOrNew old then r → IsCrashOf old m r
crash-either old then m is r either = elim either [
  | inl same ↦ inl same
  | inr new ↦ inr (inl (new ∙ ap unstaged (sym is)))
]

pub crash-some : (old : ReplicaState) (s : ℕ) (batch : List Record) → s ≡ old.promised → old.adopted ≡ s → first_id batch ≤ length old.log + 1 → (r : ReplicaState) → HasSome old (lacking old.log batch) r → IsCrashOf old (Append s batch) r
crash-some old s batch promised adopted on r some = inr (inr (record { promised = promised; adopted = adopted; goes_on = on; kept = some.0; new_is = some.2 }))

module _ {D : Type 0} (tells plain : Type 0) (history : D → History) (m : ToNode) (old : Kept D) where
  settled_too : (new : Kept D) → new.status ≡ old.status → new.staged ≡ old.staged → IsSettled old → IsSettled new
  settled_too new status staged was same = staged ∙ was (sym (ap (λ (s : Status). s.adopted) status) ∙ same ∙ ap (λ (s : Status). s.promised) status)

  -- a refusal of the call
  module _ {T : Type 0} (new : Kept D) (was : old.shut ≡ false) (steady : IsSteady tells history old) (P : ReplicaState → Type 0) (run : tells → old.shut ≡ false → LeavesAtEach plain P (history old.disk) (history new.disk))
      (crash : tells → (r : ReplicaState) → P r → IsCrashOf (state_by history old) m r) (durable : tells → new.shut ≡ false → IsDurable plain (history new.disk).now new) where
    by_fault : (fault : NodeFault) → IsAnswer {T = T} tells history old new (Err fault) → (tells → IsUndamaged {T = T} (Err fault))
        → (IsErrOf {T = T} (Err fault) Full → (tells → needs_file (state_by history old) m ≡ true) × (old.status.file ≡ 2 ^ 32 - 1))
        → (tells → needs_file (state_by history old) m ≡ true → old.status.file ≡ 2 ^ 32 - 1 → IsErrOf {T = T} (Err fault) Full)
        → IsStep tells plain history m old new (Err fault)
    by_fault fault answer undamaged full no_file = record {
      state = tt;
      reply = tt;
      valid = tt;
      steady = record { standing = λ t on. (durable t on).standing; settled = settled_too new answer.shows.0 answer.shows.1 steady.settled };
      answer = record {
        only_shut = λ e. answer.only_shut (err_at FromNode T fault Shut e);
        was_shut = λ off. absurd (on_off old.shut was off);
        on = tt;
        shuts = λ it. answer.shuts (shuts_at FromNode T fault it);
        shows = answer.shows;
        kept = λ not. answer.kept (λ it. not (shuts_at T FromNode fault it));
      };
      full = λ e t. let is = full (err_at FromNode T fault Full e) in (is.0 t, is.1);
      no_file = λ t was_on needs max. err_at T FromNode fault Full (no_file t needs max);
      undamaged = λ t. undamaged_at T FromNode fault (undamaged t);
      broken = λ it t.
          let file : (held_now (history old.disk).now).file ≡ old.status.file = sym (steady.standing t was).file in
          leaves_weaker plain P (IsCrashOf (state_by history old) m) old.status.file (history new.disk).now (crash t)
          (subst (λ (n : ℕ). LeavesNear plain P n (history new.disk).now) file (run t was).now);
      file = subst (λ (s : Status). IsNext old.status.file s.file) (sym answer.shows.0) (next_same old.status.file);
    }

    pub step-err : (result : Result T NodeFault) (fault : NodeFault) → result ≡ Err fault → IsAnswer tells history old new result → (tells → IsUndamaged result)
        → (IsErrOf result Full → (tells → needs_file (state_by history old) m ≡ true) × (old.status.file ≡ 2 ^ 32 - 1))
        → (tells → needs_file (state_by history old) m ≡ true → old.status.file ≡ 2 ^ 32 - 1 → IsErrOf result Full)
        → IsStep tells plain history m old new (Err fault)
    step-err result fault is answer undamaged full no_file =
        by_fault fault (subst (λ (x : Result T NodeFault). IsAnswer tells history old new x) is answer) (λ t. subst (λ (x : Result T NodeFault). IsUndamaged x) is (undamaged t))
        (λ e. full (is ∙ e)) (λ t needs max. sym is ∙ no_file t needs max)
