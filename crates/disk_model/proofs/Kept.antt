-- A write or a cut that a disk in memory kept, in the terms of its code.
use Rattle.std.proofs.Common.{◌≡◌, inl, inr, ℕ, ◌≤◌, List, [], ◌∷◌, ◌++◌, length, take, sym, ◌∙◌, ap, subst, Vec, ◌==◌, rules, arith}
use Rattle.std.specs.Prelude.{if◌then◌else◌}
use Rattle.std.specs.BTreeMap.{BTreeMap, IsEmpty}
use Rattle.std.specs.declared.alloc.Global.{Global}
use Rattle.std.proofs.lemmas.Bool.{cases_eq}
use Rattle.std.proofs.lemmas.Bool.Decides.{nat_tests}
use Rattle.std.proofs.lemmas.List.{take_all}
use Rattle.disk_model.specs.declared.change.Change.{Change}
use Rattle.disk_model.specs.declared.change.Change.TheVariants.{Write, Cut}
use Rattle.disk_model.specs.File.{File, IsDuring, settled, written, shortened, overlaid}
use Rattle.disk_model.specs.History.{Files, History, at_file, EachMoment}
use Rattle.disk_model.specs.Laws.{mem_plain}
use Rattle.disk_model.specs.Replay.{bytes_of, half_written, IsFrontWritten, cut_to, history_of, replay, start}
use Rattle.disk_model.proofs.Replayed.{at_same, at_other, replay-push, write_moments, write_fronts, cut_moments, now_after_write, now_after_cut}

-- no file, and no change
pub fresh_agrees : (files : BTreeMap ℕ (Vec ℕ Global)) (changes : List Change) → IsEmpty files → changes ≡ [] → (q : ℕ) → bytes_of files q ≡ ((history_of changes).now q).reads
unfolding replay
fresh_agrees files changes empty none q = rw none (search rules)

-- each file is on the disk as it reads
pub plain_now : (changes : List Change) (q : ℕ) → (history_of changes).now q ≡ settled ((history_of changes).now q).reads
plain_now changes q = (mem_plain changes).0 q

module _ (changes : List Change) (files files' : BTreeMap ℕ (Vec ℕ Global)) (file : ℕ) (next : List ℕ) (f : File → File) (now' : Files)
    (now_is : (q : ℕ) → now' q ≡ at_file file f (history_of changes).now q)
    (bytes : (q : ℕ) → bytes_of files' q ≡ (if q == file then next else bytes_of files q))
    (agree : (q : ℕ) → bytes_of files q ≡ ((history_of changes).now q).reads)
    (next_is : next ≡ (f ((history_of changes).now file)).reads) where
  agree_after : (q : ℕ) → bytes_of files' q ≡ (now' q).reads
  agree_after q = bytes q ∙ by_file ∙ ap (λ (g : File). g.reads) (sym (now_is q))
    where
      by_file : (if q == file then next else bytes_of files q) ≡ (at_file file f (history_of changes).now q).reads
      by_file = elim (cases_eq q file) [
        | inl is ↦ subst (λ (p : ℕ). (if p == file then next else bytes_of files p) ≡ (at_file file f (history_of changes).now p).reads) (sym is)
            (let same = at_same file f (history_of changes).now in let here : (if file == file then next else bytes_of files file) ≡ next = grind (arith, nat_tests) in
            here ∙ next_is ∙ ap (λ (g : File). g.reads) (sym same))
        | inr not ↦ (let same = at_other file f (history_of changes).now q not in let here : (if q == file then next else bytes_of files q) ≡ bytes_of files q = grind (arith, nat_tests) in
            here ∙ agree q ∙ ap (λ (g : File). g.reads) (sym same))
      ]

-- A write that kept `front`, a part of the bytes b. `items` are the changes as the code has them before the call,
-- and `changes` as its contract has them.
module _ (changes items items' : List Change) (files files' : BTreeMap ℕ (Vec ℕ Global)) (file at : ℕ) (b kept front : List ℕ)
    (was : items ≡ changes) (pushed : items' ≡ items ++ Write file at kept ∷ []) (kept_is : kept ≡ front)
    (bytes : (q : ℕ) → bytes_of files' q ≡ (if q == file then overlaid (bytes_of files file) at front else bytes_of files q))
    (agree : (q : ℕ) → bytes_of files q ≡ ((history_of items).now q).reads) where
  history_is : history_of items' ≡ history_of (changes ++ Write file at front ∷ [])
  history_is = ap history_of pushed ∙ ap (λ (l : List Change). history_of (l ++ Write file at kept ∷ [])) was ∙ ap (λ (l : List ℕ). history_of (changes ++ Write file at l ∷ [])) kept_is

  now_is : (q : ℕ) → (history_of items').now q ≡ at_file file (half_written at front (length front)) (history_of changes).now q
  now_is q = ap (λ (h : History). h.now q) history_is ∙ now_after_write changes file at front q

  agreed : (q : ℕ) → bytes_of files q ≡ ((history_of changes).now q).reads
  agreed q = agree q ∙ ap (λ (l : List Change). ((history_of l).now q).reads) was

  pub write_agrees : (q : ℕ) → bytes_of files' q ≡ ((history_of items').now q).reads
  write_agrees = agree_after changes files files' file (overlaid (bytes_of files file) at front) (half_written at front (length front)) (history_of items').now now_is bytes agreed
      (ap (λ (l : List ℕ). overlaid l at front) (agreed file) ∙ ap (λ (l : List ℕ). overlaid ((history_of changes).now file).reads at l) (sym (take_all (length front) front (omega arith))))

  pub write_reads : front ≡ b → ((history_of items').now file).reads ≡ overlaid ((history_of changes).now file).reads at b
  write_reads all =
      ap (λ (g : File). g.reads) (now_is file) ∙ ap (λ (g : File). g.reads) (at_same file (half_written at front (length front)) (history_of changes).now)
      ∙ ap (λ (l : List ℕ). overlaid ((history_of changes).now file).reads at l) (take_all (length front) front (omega arith) ∙ all)

  pub write_goes : (m : ℕ) → front ≡ take m b → at ≤ length ((history_of changes).now file).reads
      → EachMoment file (IsDuring (at ≡ length ((history_of changes).now file).reads) (written at b ((history_of changes).now file))) (history_of changes) (history_of items')
  write_goes m part le =
      subst (λ (h : History). EachMoment file (IsDuring (at ≡ length ((history_of changes).now file).reads) (written at b ((history_of changes).now file))) (history_of changes) h)
      (sym (history_is ∙ ap (λ (l : List ℕ). history_of (changes ++ Write file at l ∷ [])) part ∙ replay-push start changes (Write file at (take m b))))
      (write_moments file at b m (history_of changes).now ((history_of changes).now file).reads (history_of changes).past (plain_now changes file) le)

  pub write_is_front : (m : ℕ) → front ≡ take m b → EachMoment file (IsFrontWritten at m b ((history_of changes).now file).reads) (history_of changes) (history_of items')
  write_is_front m part =
      subst (λ (h : History). EachMoment file (IsFrontWritten at m b ((history_of changes).now file).reads) (history_of changes) h)
      (sym (history_is ∙ ap (λ (l : List ℕ). history_of (changes ++ Write file at l ∷ [])) part ∙ replay-push start changes (Write file at (take m b))))
      (write_fronts file at b m (history_of changes).now ((history_of changes).now file).reads (history_of changes).past)

module _ (changes items items' : List Change) (files files' : BTreeMap ℕ (Vec ℕ Global)) (file len : ℕ)
    (was : items ≡ changes) (pushed : items' ≡ items ++ Cut file len ∷ [])
    (bytes : (q : ℕ) → bytes_of files' q ≡ (if q == file then take len (bytes_of files file) else bytes_of files q))
    (agree : (q : ℕ) → bytes_of files q ≡ ((history_of items).now q).reads) where
  cut_history : history_of items' ≡ history_of (changes ++ Cut file len ∷ [])
  cut_history = ap history_of pushed ∙ ap (λ (l : List Change). history_of (l ++ Cut file len ∷ [])) was

  now_cut : (q : ℕ) → (history_of items').now q ≡ at_file file (cut_to len) (history_of changes).now q
  now_cut q = ap (λ (h : History). h.now q) cut_history ∙ now_after_cut changes file len q

  before : (q : ℕ) → bytes_of files q ≡ ((history_of changes).now q).reads
  before q = agree q ∙ ap (λ (l : List Change). ((history_of l).now q).reads) was

  pub cut_agrees : (q : ℕ) → bytes_of files' q ≡ ((history_of items').now q).reads
  cut_agrees = agree_after changes files files' file (take len (bytes_of files file)) (cut_to len) (history_of items').now now_cut bytes before
      (ap (λ (l : List ℕ). take len l) (before file))

  pub cut_reads : ((history_of items').now file).reads ≡ take len ((history_of changes).now file).reads
  cut_reads = ap (λ (g : File). g.reads) (now_cut file) ∙ ap (λ (g : File). g.reads) (at_same file (cut_to len) (history_of changes).now)

  pub cut_goes : EachMoment file (IsDuring (Unit {0}) (shortened len ((history_of changes).now file))) (history_of changes) (history_of items')
  cut_goes =
      subst (λ (h : History). EachMoment file (IsDuring (Unit {0}) (shortened len ((history_of changes).now file))) (history_of changes) h)
      (sym (cut_history ∙ replay-push start changes (Cut file len)))
      (cut_moments file len (history_of changes).now ((history_of changes).now file).reads (history_of changes).past (plain_now changes file))
