-- What a step leaves of a node's files.
use Rattle.std.proofs.Common.{◌≡◌, ◌⊎◌, inl, inr, ℕ, Bool, true, false, refl, sym, ◌∙◌, ap, subst, Ok, Err, Some}
use Rattle.std.specs.Prelude.{List, Result}
use Rattle.disk_model.specs.File.{IsSound}
use Rattle.disk_model.specs.Chance.{PassesByChance}
use Rattle.disk_model.specs.History.{Files, History}
use Rattle.proto_model.specs.Replicas.{ReplicaState}
use Rattle.proto_model.specs.Crashes.{unstaged, IsCrashOf}
use Rattle.proto_model.specs.Held.{Held}
use Rattle.proto_model.specs.Nodes.{Shuts}
use Rattle.proto_model.specs.declared.message.ToNode.{ToNode}
use Rattle.proto_model.specs.declared.message.FromNode.{FromNode}
use Rattle.proto_model.specs.declared.replica.NodeFault.{NodeFault}
use Rattle.proto_model.specs.declared.replica.NodeFault.TheVariants.{Disk, Damaged, Shut, Full, Memory}
use Rattle.partition_store.specs.Stands.{reads_of, framing_of, held_or, held_now, AreLeft, IsNext, StandsNear}
use Rattle.partition_store.specs.Stores.{Kept, state_by}
use Rattle.partition_store.proofs.Left.{near_of}
use Rattle.storage_node.specs.Steps.{IsSteady, IsStep, IsHeldNear}

on_off : (b : Bool) → b ≡ false → b ≡ true → ⊥
on_off b off on = cc

-- where nothing that is read passes by chance, a crash may leave it
pub reads-left : (plain : Type 0) (s : Files) → ((q : ℕ) → IsSound (s q)) → ((q : ℕ) → plain ⊎ (PassesByChance (framing_of q) (s q) (s q).reads → ⊥)) → AreLeft plain s (reads_of s)
reads-left plain s sound sure q = record { image = (sound q).reads_image; no_chance = sure q }

pub held-near : (P : ReplicaState → Type 0) (file : ℕ) (s : Files) → StandsNear P file (reads_of s) → IsHeldNear file s
held-near P file s left =
    let same : held_now s ≡ left.stands.held = ap held_or left.stands.is in
    record { held = left.stands.is ∙ ap Some (sym same); near = subst (λ (h : Held). IsNext file h.file) (sym same) left.near }

module _ {D : Type 0} (tells plain : Type 0) (history : D → History) (m : ToNode) (old new : Kept D) (t : tells) (was : old.shut ≡ false) where
  abbrev P : ReplicaState → Type 0
  P = IsCrashOf (state_by history old) m

  abbrev c : ℕ → List ℕ
  c = reads_of (history new.disk).now

  still : new.shut ≡ false → IsNext old.status.file new.status.file → P (unstaged (state_by history new)) → IsSteady tells history new → StandsNear P old.status.file (reads_of (history new.disk).now)
  still on next has then =
      let is = then.standing t on in
      near_of P old.status.file c (held_now (history new.disk).now) is.held has (subst (λ (n : ℕ). IsNext old.status.file n) is.file next)

  unmoved : (fault : NodeFault) → IsStep tells plain history m old new (Err fault) → (Shuts {T = FromNode} (Err fault) → ⊥) → StandsNear P old.status.file (reads_of (history new.disk).now)
  unmoved fault step not =
      let kept = step.answer.kept not in
      still (ap (λ (k : Kept D). k.shut) kept.0 ∙ was) step.file (inl (ap unstaged (kept.1 t))) step.steady

  by_fault : (fault : NodeFault) → IsStep tells plain history m old new (Err fault) → AreLeft plain (history new.disk).now (reads_of (history new.disk).now) → StandsNear P old.status.file (reads_of (history new.disk).now)
  by_fault Disk step left = step.broken tt t c left
  by_fault (Damaged file at) step left = step.broken tt t c left
  by_fault Shut step left = absurd (on_off old.shut was (step.answer.only_shut refl))
  by_fault Full step left = unmoved Full step (λ no. no)
  by_fault Memory step left = unmoved Memory step (λ no. no)

  -- whatever its answer is
  pub step-left : (result : Result FromNode NodeFault) → IsStep tells plain history m old new result → AreLeft plain (history new.disk).now (reads_of (history new.disk).now)
      → StandsNear (IsCrashOf (state_by history old) m) old.status.file (reads_of (history new.disk).now)
  step-left (Ok reply) step left = still step.answer.on step.file (inr (inl (ap unstaged (step.state t)))) step.steady
  step-left (Err fault) step left = by_fault fault step left
