-- At each moment a disk in memory is on the disk as it reads.
use Rattle.std.specs.Prelude.{ℕ, zero, suc, Bool, if◌then◌else◌, ◌==◌, List, [], ◌∷◌, ◌++◌, length, refl}
use Rattle.std.specs.List.{AllByRecursion}
use Rattle.std.proofs.Common.{sym, subst, inl, inr}
use Rattle.std.proofs.Math.Nat.{le_refl, not-le_of_lt}
use Rattle.std.proofs.lemmas.Bool.{cases_Bool}
use Rattle.disk_model.specs.declared.change.Change.{Change}
use Rattle.disk_model.specs.declared.change.Change.TheVariants.{Write, Cut}
use Rattle.disk_model.specs.File.{File, IsSound, IsPlain, settled}
use Rattle.disk_model.specs.History.{Files, History, moments, at_file, Always}
use Rattle.disk_model.specs.Replay.{half_written, cut_to, progress, after, replay, start, history_of}

-- all that is read is on the disk
record IsStill (f : File) : Type 0 where
  is : IsPlain f

still_at : (file : ℕ) (g : File → File) (s : Files) (q : ℕ) → ((f : File) → IsStill (g f)) → IsStill (s q) → IsStill (at_file file g s q)
still_at file g s q makes was = elim (cases_Bool (q == file)) [
  | inl is ↦ subst (λ (b : Bool). IsStill (if b then g (s q) else s q)) (sym is) (makes (s q))
  | inr not ↦ subst (λ (b : Bool). IsStill (if b then g (s q) else s q)) (sym not) was
]

abbrev AllStill : List Files → Type 0
AllStill ss = AllByRecursion (λ s. (q : ℕ) → IsStill (s q)) ss

still_more : (xs ys : List Files) → AllStill xs → AllStill ys → AllStill (xs ++ ys)
still_more [] ys p q = q
still_more (x ∷ xs) ys p q = (p.0, still_more xs ys p.1 q)

still_write : (file at : ℕ) (bytes : List ℕ) (k : ℕ) (s : Files) → ((q : ℕ) → IsStill (s q)) → (q : ℕ) → IsStill (at_file file (half_written at bytes k) s q)
still_write file at bytes k s was q = still_at file (half_written at bytes k) s q (λ f. record { is = refl }) (was q)

still_progress : (file at : ℕ) (bytes : List ℕ) (k : ℕ) (s : Files) → ((q : ℕ) → IsStill (s q)) → AllStill (progress file at bytes k s)
unfolding progress
still_progress file at bytes zero s was = (still_write file at bytes zero s was, tt)
still_progress file at bytes (suc k) s was = (still_write file at bytes (suc k) s was, still_progress file at bytes k s was)

still_after : (c : Change) (h : History) → AllStill (moments h) → AllStill (moments (after c h))
unfolding after
still_after (Write file at bytes) h was = (still_write file at bytes (length bytes) h.now was.0, still_more (progress file at bytes (length bytes) h.now) (moments h) (still_progress file at bytes (length bytes) h.now was.0) was)
still_after (Cut file len) h was = (λ q. still_at file (cut_to len) h.now q (λ f. record { is = refl }) (was.0 q), was)

still_replay : (cs : List Change) (h : History) → AllStill (moments h) → AllStill (moments (replay h cs))
unfolding replay
still_replay [] h was = was
still_replay (c ∷ cs) h was = still_replay cs (after c h) (still_after c h was)

each_of : (P : File → Type 0) (ss : List Files) → ((f : File) → IsPlain f → P f) → AllStill ss → AllByRecursion (λ s. (q : ℕ) → P (s q)) ss
each_of P [] to all = tt
each_of P (s ∷ ss) to all = (λ q. to (s q) (all.0 q).is, each_of P ss to all.1)

pub sound_settled : (r : List ℕ) → IsSound (settled r)
sound_settled r = record {
  reads_image = record {
    within = λ i below firm. below;
    bytes = λ i below firm. refl;
    ends = λ i past below. absurd (not-le_of_lt below past);
  };
  as_put = record { within = λ i firm below. below; same = λ i firm below. refl };
  reads_put = le_refl (length r);
}

pub mem_plain : (cs : List Change) → Always IsPlain (history_of cs)
mem_plain cs = each_of IsPlain (moments (history_of cs)) (λ f is. is) (still_replay cs start (λ q. record { is = refl }, tt))

pub mem_sound : (cs : List Change) → Always IsSound (history_of cs)
mem_sound cs = each_of IsSound (moments (history_of cs)) (λ f is. subst IsSound (sym is) (sound_settled f.reads)) (still_replay cs start (λ q. record { is = refl }, tt))
