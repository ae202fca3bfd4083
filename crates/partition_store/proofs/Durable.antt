-- What is true of a store, to those who use it.
use Rattle.std.proofs.Common.{◌≡◌, ℕ, ◌<◌, refl, sym, ◌∙◌, ap, subst, arith, Option, Some, None}
use Rattle.tx_model.specs.Framing.{record_len}
use Rattle.disk_model.specs.File.{File}
use Rattle.disk_model.specs.History.{Files, History}
use Rattle.disk_model.proofs.Moments.{begins}
use Rattle.proto_model.specs.Replicas.{ReplicaState}
use Rattle.segment_store.specs.Index.{Index}
use Rattle.proto_model.specs.Crashes.{unstaged}
use Rattle.proto_model.specs.Held.{Held, HasNoTail}
use Rattle.partition_store.specs.Stands.{reads_of, held_now, LeavesNear, LeavesAtEach}
use Rattle.partition_store.specs.Stores.{Kept, state_by, IsDurable, IsLastOf, IsFit, IsSound}
use Rattle.partition_store.proofs.Left.{tidy-plain, leaves_same, near_same, leaves_weaker}

some_same : {A : Type 0} (x y : A) → Some x ≡ Some y → x ≡ y
some_same x y e = cc

last_tail : (s : Files) (h : Held) (o : Option Index) → IsLastOf s h o → 1 < h.file → HasNoTail record_len (reads_of s h.file)
last_tail s h None it above = absurd (omega (arith, it, above))
last_tail s h (Some i) it above = subst (λ (q : ℕ). HasNoTail record_len (reads_of s q)) it.file (ap (λ (f : File). f.reads) it.tidy.at_rest.is)

pub durable : {D : Type 0} (plain : Type 0) (s : Files) (k : Kept D) → IsSound s k → IsDurable plain s k
durable plain s k sound = record {
  standing = sound.standing;
  tidy = record {
    journal = ap (λ (f : File). f.reads) sound.journal.is;
    last = λ h is above.
        let same : held_now s ≡ h = some_same (held_now s) h (sym sound.standing.held ∙ is) in
        subst (λ (g : Held). HasNoTail record_len (reads_of s g.file)) same (last_tail s (held_now s) k.last sound.last (omega (arith, above, ap (λ (g : Held). g.file) same)));
  };
  synced = record { journal = tidy-plain k.journal (s 0) sound.journal; named = sound.plain };
  left = leaves_same s (held_now s) sound.standing.held sound.plain plain k.journal sound.journal s refl (λ q above below. refl);
}

pub fit_disk : {D : Type 0} (k : Kept D) (d : D) → IsFit k → IsFit (record k { disk = d })
fit_disk k d fit = record { range = fit.range; none = fit.none; order = fit.order; staged = fit.staged }

-- what the store keeps of its files doesn't rest on which disk has them
pub sound_disk : {D : Type 0} (s : Files) (k : Kept D) (d : D) → IsSound s k → IsSound s (record k { disk = d })
sound_disk s k d sound = record {
  standing = record {
    held = sound.standing.held;
    promised = sound.standing.promised;
    adopted = sound.standing.adopted;
    low = sound.standing.low;
    file = sound.standing.file;
    staged = sound.standing.staged;
    length = sound.standing.length;
  };
  journal = sound.journal;
  plain = sound.plain;
  closed = sound.closed;
  last = sound.last;
  log = sound.log;
  staged = sound.staged;
}

-- a refusal that changed nothing
pub sound_kept : {D : Type 0} (s t : Files) (k : Kept D) (d : D) → t ≡ s → IsSound s k → IsSound t (record k { disk = d })
sound_kept {D} s t k d files sound = subst (λ (f : Files). IsSound f (record k { disk = d })) (sym files) (sound_disk s k d sound)

-- the same, of the journal's part
pub entry_kept : {D : Type 0} (s t : Files) (k : Kept D) (d : D) (journal : ℕ) → journal ≡ k.journal → t ≡ s → IsSound s k → IsSound t (record k { disk = d; journal = journal })
entry_kept {D} s t k d journal same files sound = subst (λ (n : ℕ). IsSound t (record k { disk = d; journal = n })) (sym same) (sound_kept s t k d files sound)

-- a call that changed nothing on the disk
pub stays : {D : Type 0} (plain : Type 0) (history : D → History) (k : Kept D) → IsSound (history k.disk).now k → (P : ReplicaState → Type 0) → ((r : ReplicaState) → r ≡ unstaged (state_by history k) → P r) → (new : History) → new ≡ history k.disk → LeavesAtEach plain P (history k.disk) new
stays plain history k sound P to new same =
    let files = (history k.disk).now in
    let file = (held_now files).file in
    let near = near_same files (held_now files) sound.standing.held sound.plain plain k.journal sound.journal files refl (λ q above below. refl) in
    let now : LeavesNear plain P file files = leaves_weaker plain (λ r. r ≡ unstaged (state_by history k)) P file files to near in
    subst (λ (h : History). LeavesAtEach plain P (history k.disk) h) (sym same) (record { each = begins (LeavesNear plain P file) (history k.disk); now = now })
