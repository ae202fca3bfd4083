-- Memory ran out in a call of a disk in memory: nothing changed, and it was counted.
use Rattle.std.proofs.Common.{◌≡◌, ◌∙◌, ℕ, ◌≤◌, List, refl, sym, ap, subst, arith, Err}
use Rattle.io_core.specs.Causes.{counted, HasWant}
use Rattle.io_core.specs.declared.fault.Fault.{Fault}
use Rattle.io_core.specs.declared.fault.Fault.TheVariants.{Memory}
use Rattle.disk_model.specs.MemDisk.{MemState, write_after, cut_after}

abbrev after_want : MemState → MemState
after_want s = record s { wants = counted s.wants }

want_of : (before now : ℕ) → before ≤ now → now ≡ counted before → HasWant {T = Unit {0}} before now (Err Memory)
want_of before now later is = record { later = later; met = λ _. subst (λ (n : ℕ). n ≤ now) is (omega arith); none = λ not. absurd (not refl) }

module _ (old between new : MemState) (fault : Fault) (memory : fault ≡ Memory) (same : between ≡ old) (is : new ≡ after_want between) where
  now : new ≡ after_want old
  now = is ∙ ap after_want same

  pub want_counted : between.wants ≤ new.wants → HasWant {T = Unit {0}} old.wants new.wants (Err fault)
  want_counted later =
      subst (λ (f : Fault). HasWant {T = Unit {0}} old.wants new.wants (Err f)) (sym memory)
      (want_of old.wants new.wants (subst (λ (s : MemState). s.wants ≤ new.wants) same later) (ap (λ (s : MemState). s.wants) now))

  pub write_wants : (file at : ℕ) (bytes : List ℕ) → new ≡ write_after old file at bytes (Err fault)
  write_wants file at bytes = subst (λ (f : Fault). new ≡ write_after old file at bytes (Err f)) (sym memory) now

  pub cut_wants : (file len : ℕ) → new ≡ cut_after old file len (Err fault)
  cut_wants file len = subst (λ (f : Fault). new ≡ cut_after old file len (Err f)) (sym memory) now
