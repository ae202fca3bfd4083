-- A disk that makes each change at once in a cache, of which a crash may lose any part up to the sync.
use Rattle.std.proofs.Common.{◌≡◌, inl, inr, ℕ, ◌≤◌, List, ◌∷◌, [], length, take, refl, sym, ap, subst}
use Rattle.std.proofs.lemmas.Bool.{cases_eq}
use Rattle.disk_model.specs.File.{File, IsSound, IsDuring, written, shortened, settled, overlaid}
use Rattle.disk_model.specs.History.{History, at_file, changed_at, EachMoment, Always}
use Rattle.disk_model.proofs.Replayed.{at_same, at_other}
use Rattle.disk_model.proofs.Sound.{sound_written, sound_shortened, sound_synced, is_done}

module _ (file : ℕ) (f : File → File) (h : History) where
  -- its one moment
  pub changed_moments : (P : File → Type 0) → P (f (h.now file)) → EachMoment file P h (changed_at file f h)
  changed_moments P here = record {
    during = at_file file f h.now ∷ [];
    joined = refl;
    each = (subst P (sym (at_same file f h.now)) here, tt);
    others = (λ q not. at_other file f h.now q not, tt);
    others_now = λ q not. at_other file f h.now q not;
  }

  -- its files are sound, where the changed one is
  pub changed_sound : Always IsSound h → IsSound (f (h.now file)) → Always IsSound (changed_at file f h)
  changed_sound sound here = (
    λ q. elim (cases_eq q file) [
      | inl is ↦ subst (λ (p : ℕ). IsSound (at_file file f h.now p)) (sym is) (subst IsSound (sym (at_same file f h.now)) here)
      | inr not ↦ subst IsSound (sym (at_other file f h.now q not)) (sound.0 q)
    ],
    sound,
  )

module _ (h : History) (file : ℕ) (sound : Always IsSound h) where
  pub cached_write : (at : ℕ) (bytes : List ℕ) → at ≤ length (h.now file).reads → Always IsSound (changed_at file (written at bytes) h)
      × EachMoment file (IsDuring (at ≡ length (h.now file).reads) (written at bytes (h.now file))) h (changed_at file (written at bytes) h)
      × (((changed_at file (written at bytes) h).now file).reads ≡ overlaid (h.now file).reads at bytes)
  cached_write at bytes le = (
    changed_sound file (written at bytes) h sound (sound_written (h.now file) (sound.0 file) at bytes le),
    changed_moments file (written at bytes) h (IsDuring (at ≡ length (h.now file).reads) (written at bytes (h.now file))) (is_done (at ≡ length (h.now file).reads) (written at bytes (h.now file))),
    ap (λ (g : File). g.reads) (at_same file (written at bytes) h.now),
  )

  pub cached_cut : (len : ℕ) → Always IsSound (changed_at file (shortened len) h)
      × EachMoment file (IsDuring (Unit {0}) (shortened len (h.now file))) h (changed_at file (shortened len) h)
      × (((changed_at file (shortened len) h).now file).reads ≡ take len (h.now file).reads)
  cached_cut len = (
    changed_sound file (shortened len) h sound (sound_shortened (h.now file) (sound.0 file) len),
    changed_moments file (shortened len) h (IsDuring (Unit {0}) (shortened len (h.now file))) (is_done (Unit {0}) (shortened len (h.now file))),
    ap (λ (g : File). g.reads) (at_same file (shortened len) h.now),
  )

  pub cached_sync : Always IsSound (changed_at file (λ f. settled f.reads) h)
      × EachMoment file (λ f. f ≡ settled (h.now file).reads) h (changed_at file (λ f. settled f.reads) h)
      × ((changed_at file (λ f. settled f.reads) h).now file ≡ settled (h.now file).reads)
  cached_sync = (
    changed_sound file (λ f. settled f.reads) h sound (sound_synced (h.now file).reads),
    changed_moments file (λ f. settled f.reads) h (λ f. f ≡ settled (h.now file).reads) refl,
    at_same file (λ f. settled f.reads) h.now,
  )
