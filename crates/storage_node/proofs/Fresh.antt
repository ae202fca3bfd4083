-- An empty disk in memory.
use Rattle.std.proofs.Common.{◌≡◌, ℕ, List, [], refl, sym, ◌∙◌, ap, Some, inl, inr}
use Rattle.tx_model.specs.Frames.{frames_in, joined, walk}
use Rattle.tx_model.specs.Contents.{entries_in}
use Rattle.disk_model.specs.History.{Files}
use Rattle.disk_model.specs.LoadFaults.{IsOfDamage}
use Rattle.disk_model.specs.declared.unloaded.LoadFault.{LoadFault}
use Rattle.disk_model.specs.declared.unloaded.LoadFault.TheVariants.{Disk, Damaged, Memory}
use Rattle.disk_model.specs.Replay.{history_of, replay}
use Rattle.proto_model.specs.Held.{Held, Contents, folded, table_of, none_held, held_in}
use Rattle.partition_store.specs.Stands.{reads_of, framing_of}
use Rattle.partition_store.specs.Loading.{AreTrimmedOf}

empty_frames : (len : List ℕ → ℕ) → frames_in len [] ≡ []
unfolding walk
empty_frames len = refl

none_folded : (c : Contents) → folded (table_of c) (entries_in []) none_held ≡ Some none_held
unfolding walk folded
none_folded c = refl

empty_held : (c : Contents) → c 0 ≡ [] → held_in c ≡ Some none_held
empty_held c is = ap (λ (bytes : List ℕ). folded (table_of c) (entries_in bytes) none_held) is ∙ none_folded c

pub first-files : (q : ℕ) → ((history_of []).now q).reads ≡ []
unfolding replay
first-files q = refl

some_same : (x y : Held) → Some x ≡ Some y → x ≡ y
some_same x y e = cc

-- what the files of an empty disk stand for
pub first-held : (h : Held) → held_in (reads_of (history_of []).now) ≡ Some h → h ≡ none_held
first-held h is = some_same h none_held (sym is ∙ empty_held (reads_of (history_of []).now) (first-files 0))

pub first-some : held_in (reads_of (history_of []).now) ≡ Some none_held
first-some = empty_held (reads_of (history_of []).now) (first-files 0)

-- nothing is left to cut
pub first-trimmed : (new : Files) → AreTrimmedOf (history_of []).now new → (q : ℕ) → reads_of new q ≡ []
first-trimmed new trimmed q = elim (trimmed q) [
  | inl same ↦ same ∙ first-files q
  | inr cut ↦ cut ∙ ap (λ (bytes : List ℕ). joined (frames_in (framing_of q) bytes)) (first-files q) ∙ ap joined (empty_frames (framing_of q))
]

-- and only memory may be short
pub only-memory : (fault : LoadFault) → (fault ≡ Disk → ⊥) → IsOfDamage fault (λ file at. ⊥) → fault ≡ Memory
only-memory Disk works sound = absurd (works refl)
only-memory (Damaged file at) works sound = absurd sound
only-memory Memory works sound = refl
