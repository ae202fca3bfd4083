-- The file of the staged records is put on the disk.
use Rattle.std.proofs.Common.{◌≡◌, ◌≢◌, ℕ, ◌+◌, List, [], length, refl, sym, ◌∙◌, ap, subst, Option, Some, None}
use Rattle.tx_model.specs.declared.record.Record.{Record}
use Rattle.tx_model.specs.Contents.{records_in}
use Rattle.disk_model.specs.File.{File, settled}
use Rattle.disk_model.specs.History.{Files, History}
use Rattle.segment_store.specs.Index.{Index, IsIndexOfAll}
use Rattle.proto_model.specs.Held.{Held, replica_of}
use Rattle.partition_store.specs.Stands.{held_now}
use Rattle.partition_store.specs.Stores.{Kept, state_by, state_of, records_at, IsReady, IsStagedOf, IsSound}
use Rattle.partition_store.proofs.Aside.{aside_sound, aside_now, next_is}

staged_as : (s t : Files) (h : Held) (file : ℕ) → file ≡ h.file + 1 → (t file).reads ≡ (s file).reads → (o : Option Index) → IsStagedOf s h o → IsStagedOf t h o × (records_at t o ≡ records_at s o)
staged_as s t h file next reads None it = (tt, refl)
staged_as s t h file next reads (Some i) it =
    let place : i.file ≡ file = it.file ∙ sym next in
    let same : (t i.file).reads ≡ (s i.file).reads = subst (λ (q : ℕ). (t q).reads ≡ (s q).reads) (sym place) reads in
    (record { file = it.file; all = subst (λ (l : List ℕ). IsIndexOfAll i l) (sym same) it.all }, ap records_in same)

module _ {D : Type 0} (plain : Type 0) (history : D → History) (k : Kept D) (sound : IsSound (history k.disk).now k) (file : ℕ) (next : file ≡ k.status.file + 1)
    (new : Files) (others : (q : ℕ) → q ≢ file → new q ≡ (history k.disk).now q) (synced : new file ≡ settled ((history k.disk).now file).reads) where
  same_staged : IsStagedOf new (held_now (history k.disk).now) k.staged × (records_at new k.staged ≡ records_at (history k.disk).now k.staged)
  same_staged = staged_as (history k.disk).now new (held_now (history k.disk).now) file (next_is plain history k sound file next) (ap (λ (f : File). f.reads) synced) k.staged sound.staged

  pub settled_sound : (disk : D) → IsSound new (record k { disk = disk })
  settled_sound disk = aside_sound plain history k sound file next new others disk k.staged (sound.standing.staged ∙ sym (ap length same_staged.1)) same_staged.0

  pub settled_state : (disk : D) → state_of new (record k { disk = disk }) ≡ state_by history k
  settled_state disk =
      ap (λ (g : Held). record (replica_of g) { staged = records_at new k.staged }) (aside_now plain history k sound file next new others)
      ∙ ap (λ (l : List Record). record (replica_of (held_now (history k.disk).now)) { staged = l }) same_staged.1

  pub settled_ready : (k.staged ≡ None → ⊥) → IsReady new file k.staged
  settled_ready some = record {
    plain = synced ∙ ap settled (sym (ap (λ (f : File). f.reads) synced));
    none = λ none. absurd (some none);
  }

-- an empty file
pub empty_ready : (s : Files) (file : ℕ) (o : Option Index) → s file ≡ settled [] → IsReady s file o
empty_ready s file o empty = record {
  plain = empty ∙ ap settled (sym (ap (λ (f : File). f.reads) empty));
  none = λ none. ap (λ (f : File). f.reads) empty;
}
