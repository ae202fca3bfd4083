-- All files of a disk over time.
use Rattle.std.specs.Prelude.{◌≡◌, ◌≢◌, ℕ, ◌+◌, ◌<◌, ◌≤◌, ◌==◌, if◌then◌else◌, List, ◌∷◌, ◌++◌, length, take, drop}
use Rattle.std.specs.List.{AllByRecursion}
use Rattle.disk_model.specs.File.{File}

-- the files by number
abbrev pub Files : Type 0
Files = ℕ → File

-- the files at this moment, and at each one before it, the latest first
pub record History : Type 0 where
  pub now : Files
  pub past : List Files

-- these files, one of them changed by f
abbrev pub at_file : ℕ → (File → File) → Files → Files
at_file file f s q = if q == file then f (s q) else s q

abbrev pub moments : History → List Files
moments h = h.now ∷ h.past

-- one file is changed at once
abbrev pub changed_at : ℕ → (File → File) → History → History
changed_at file f h = record { now = at_file file f h.now; past = moments h }

-- At each moment since old, up to and with new, this file has P and the others are as they were.
pub record EachMoment (file : ℕ) (P : File → Type 0) (old new : History) : Type 0 where
  pub during : List Files
  pub joined : moments new ≡ during ++ moments old
  pub each : AllByRecursion (λ s. P (s file)) during
  pub others : AllByRecursion (λ s. (q : ℕ) → q ≢ file → s q ≡ old.now q) during
  pub others_now : (q : ℕ) → q ≢ file → new.now q ≡ old.now q

-- At each moment since old, up to and with new, the files have P.
pub record AtEach (P : Files → Type 0) (old new : History) : Type 0 where
  pub during : List Files
  pub joined : moments new ≡ during ++ moments old
  pub each : AllByRecursion P during

-- at each moment each file has P
abbrev pub Always : (File → Type 0) → History → Type 0
Always P h = AllByRecursion (λ s. (q : ℕ) → P (s q)) (moments h)

-- these n bytes stand at this place, and less than asked for only at the end
pub record IsRead (file : List ℕ) (at : ℕ) (into : List ℕ) (n : ℕ) : Type 0 where
  pub bytes : take n into ≡ take n (drop at file)
  pub within : at < length file → at + n ≤ length file
  pub ends : n ≡ 0 → 0 < length into → length file ≤ at
  pub past : length file ≤ at → n ≡ 0

-- What a call keeps of a disk, and whether it failed: where no call was chosen to fail, none is; and where none fails,
-- this one didn't and none will.
pub record KeepsWorking {D : Type 0} (Reliable Unfailing : D → Type 0) (old new : D) (failed : Type 0) : Type 0 where
  pub reliable : Reliable old → Reliable new
  pub unfailing : Unfailing old → Unfailing new × (failed → ⊥)
