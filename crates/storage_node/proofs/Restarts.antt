-- A store that is stopped within a step and loaded again, over a disk in memory.
use Rattle.std.proofs.Common.{◌≡◌, ◌≤◌, inl, ℕ, false, refl, ◌∙◌, ap, subst, arith, Ok, Err, Some}
use Rattle.std.specs.Prelude.{Result, OnOk}
use Rattle.io_core.specs.Causes.{Rose}
use Rattle.disk_model.specs.MemDisk.{MemState, mem_history, IsUnfailing}
use Rattle.proto_model.specs.Crashes.{unstaged, IsCrashOf}
use Rattle.proto_model.specs.Held.{Held, held_in, replica_of}
use Rattle.proto_model.specs.declared.message.ToNode.{ToNode}
use Rattle.proto_model.specs.declared.replica.NodeFault.{NodeFault}
use Rattle.partition_store.specs.Stands.{reads_of, held_or, held_now, IsNext}
use Rattle.partition_store.specs.Stores.{Kept, state_by}
use Rattle.partition_store.proofs.Left.{near_of, next_same}
use Rattle.storage_node.specs.Steps.{IsSteady}
use Rattle.storage_node.specs.Tears.{IsReloaded, IsRestart, IsStop, IsTear}

-- ---- a stop within a step

rose_late : (a b c : ℕ) → a ≤ b → Rose b c → Rose a c
rose_late a b c below rose = grind (arith, below, rose)

on_ok : {A : Type 0} (result : Result Unit A) (X : Type 0) → X → OnOk result X
on_ok (Ok x) X it = it
on_ok (Err e) X it = tt

-- after a stop within it
pub torn : (m : ToNode) (keep : ℕ) (old mid new : Kept MemState) (result : Result Unit NodeFault) → (keep ≡ 0 → ⊥) → IsStop m old mid → IsRestart mid new result → IsTear m keep old new result
torn m keep old mid new result some stop restart = record {
  reloaded = restart.reloaded;
  left = near_of (IsCrashOf (state_by mem_history old) m) old.status.file (reads_of (mem_history new.disk).now) stop.left.stands.held (restart.held stop.left.stands.held stop.left.stands.is) stop.left.stands.has stop.left.near;
  unbegun = λ none. absurd (some none);
  undamaged = restart.undamaged stop.left.stands.held stop.left.stands.is;
  later = omega (arith, stop.later, restart.cause.later);
  cause = λ it. rose_late old.disk.faults mid.disk.faults new.disk.faults stop.later (restart.cause.failed it);
  works = λ reliable. let is = restart.works (stop.reliable reliable) in (on_ok result (IsUnfailing new.disk) is.0, is.1);
}

some_same : (x y : Held) → Some x ≡ Some y → x ≡ y
some_same x y e = cc

unbegun_on : (old new : Kept MemState) (result : Result Unit NodeFault) → IsReloaded new result → held_now (mem_history new.disk).now ≡ held_now (mem_history old.disk).now → OnOk result (state_by mem_history new ≡ unstaged (state_by mem_history old))
unbegun_on old new (Ok x) reloaded same = reloaded.state ∙ ap replica_of same
unbegun_on old new (Err e) reloaded same = tt

-- before it began
pub untorn : (m : ToNode) (keep : ℕ) (old new : Kept MemState) (result : Result Unit NodeFault) → old.shut ≡ false → IsSteady (Unit {0}) mem_history old → IsRestart old new result → IsTear m keep old new result
untorn m keep old new result was steady restart =
    let is = steady.standing tt was in
    let h = held_now (mem_history old.disk).now in
    let there : held_in (reads_of (mem_history new.disk).now) ≡ Some h = restart.held h is.held in
    record {
      reloaded = restart.reloaded;
      left = near_of (IsCrashOf (state_by mem_history old) m) old.status.file (reads_of (mem_history new.disk).now) h there (inl refl) (subst (λ (n : ℕ). IsNext old.status.file n) is.file (next_same old.status.file));
      unbegun = λ none. unbegun_on old new result restart.reloaded (ap held_or there);
      undamaged = restart.undamaged h is.held;
      later = restart.cause.later;
      cause = restart.cause.failed;
      works = λ reliable. let it = restart.works reliable in (on_ok result (IsUnfailing new.disk) it.0, it.1);
    }
