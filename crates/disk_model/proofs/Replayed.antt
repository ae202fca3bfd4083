-- The changes of a disk in memory are those of a disk.
use Rattle.std.proofs.Common.{append_assoc, ◌≡◌, ◌≢◌, ◌⊎◌, inl, inr, ℕ, zero, suc, ◌+◌, ◌<◌, ◌≤◌, List, [], ◌∷◌, ◌++◌, length, take, drop, get_or, refl, sym, ◌∙◌, ap, subst, arith}
use Rattle.std.specs.List.{AllByRecursion}
use Rattle.std.proofs.lemmas.Bool.Decides.{nat_tests}
use Rattle.std.proofs.lemmas.List.{append-nil, length-take, take-take, get_or-take, get_or_past, take-append-drop, take_all, drop_all}
use Rattle.disk_model.specs.declared.change.Change.{Change}
use Rattle.disk_model.specs.declared.change.Change.TheVariants.{Write, Cut}
use Rattle.disk_model.specs.File.{File, IsFirmer, Begins, IsDuring, settled, written, shortened, overlaid}
use Rattle.disk_model.specs.History.{Files, History, at_file, EachMoment}
use Rattle.disk_model.specs.Replay.{half_written, IsFrontWritten, cut_to, progress, after, replay, start, history_of}
use Rattle.disk_model.proofs.Sound.{outside, outside_cut, overlaid_long, overlaid_outside}

-- one change more
pub replay-push : (h : History) (cs : List Change) (c : Change) → replay h (cs ++ c ∷ []) ≡ after c (replay h cs)
unfolding replay
replay-push h [] c = refl
replay-push h (d ∷ cs) c = replay-push (after d h) cs c

-- a change makes of its file what it does, and of no other file
pub at_same : (file : ℕ) (f : File → File) (s : Files) → at_file file f s file ≡ f (s file)
at_same file f s = grind (arith, nat_tests)

pub at_other : (file : ℕ) (f : File → File) (s : Files) (q : ℕ) → q ≢ file → at_file file f s q ≡ s q
at_other file f s q not = grind (arith, nat_tests)

-- bytes behind the end
added : (r b : List ℕ) (at : ℕ) → at ≡ length r → overlaid r at b ≡ r ++ b
added r b at is =
    ap (λ (l : List ℕ). l ++ b ++ drop (at + length b) r) (take_all at r (omega arith))
    ∙ ap (λ (l : List ℕ). r ++ b ++ l) (drop_all (at + length b) r (omega arith)) ∙ append-nil (r ++ b)

-- of these bytes so many were kept, and of these so many stand
module _ (at : ℕ) (b : List ℕ) (m k : ℕ) (r : List ℕ) where
  abbrev part : List ℕ
  part = take k (take m b)

  short : length part ≤ length b
  short = omega (arith, length-take k (take m b), length-take m b)

  part_firmer : at ≤ length r → IsFirmer (settled (overlaid r at part)) (written at b (settled r))
  part_firmer le =
      let long = overlaid_long r part at le in
      record {
        firm = λ i out. refl;
        bytes = λ i out. overlaid_outside r part at (length b) i le short (outside at (length b) i out);
        no_longer = λ i out below. elim (outside at (length b) i out) [ inl low ↦ omega arith | inr high ↦ let le2 = short in omega arith ];
        no_shorter = λ i out below. elim (outside at (length b) i out) [ inl low ↦ omega arith | inr high ↦ let le2 = short in omega arith ];
      }

  part_begins : at ≡ length r → Begins (overlaid r at part) (overlaid r at b)
  part_begins end =
      let more = drop k (take m b) ++ drop m b in
      let split : b ≡ part ++ more = sym (take-append-drop m b) ∙ ap (λ (l : List ℕ). l ++ drop m b) (sym (take-append-drop k (take m b))) ∙ append_assoc part (drop k (take m b)) (drop m b) in
      (more, added r b at end ∙ ap (λ (l : List ℕ). r ++ l) split ∙ sym (append_assoc r part more) ∙ ap (λ (l : List ℕ). l ++ more) (sym (added r part at end)))

  -- a write behind the end has put no more than it will have put
  pub part_during : at ≤ length r → IsDuring (at ≡ length r) (written at b (settled r)) (half_written at (take m b) k (settled r))
  part_during le = record { firmer = part_firmer le; put = part_begins }

cut_firmer : (n : ℕ) (r : List ℕ) → IsFirmer (settled (take n r)) (shortened n (settled r))
cut_firmer n r =
    let long = length-take n r in
    record {
      firm = λ i out. refl;
      bytes = λ i out. kept i (outside_cut n (length r) i out);
      no_longer = λ i out below. omega arith;
      no_shorter = λ i out below. elim (outside_cut n (length r) i out) [ inl low ↦ omega arith | inr high ↦ omega arith ];
    }
  where
    kept : (i : ℕ) → (i < n) ⊎ (length r ≤ i) → get_or (take n r) i 0 ≡ get_or r i 0
    kept i (inl low) = get_or-take n r i 0 low
    kept i (inr high) = get_or_past (take n r) i 0 (omega (arith, length-take n r)) ∙ sym (get_or_past r i 0 high)

-- the moments of a write that kept these bytes
module _ (file at : ℕ) (kept : List ℕ) (s : Files) (Q : File → Type 0) (half : (k : ℕ) → k ≤ length kept → Q (half_written at kept k (s file))) where
  half_at : (k : ℕ) → k ≤ length kept → Q (at_file file (half_written at kept k) s file)
  half_at k le = subst Q (sym (at_same file (half_written at kept k) s)) (half k le)

  progress_each : (k : ℕ) → k ≤ length kept → AllByRecursion (λ t. Q (t file)) (progress file at kept k s)
  unfolding progress
  progress_each zero le = (half_at zero le, tt)
  progress_each (suc k) le = (half_at (suc k) le, progress_each k (omega (arith, le)))

  progress_others : (k : ℕ) → AllByRecursion (λ t. (q : ℕ) → q ≢ file → t q ≡ s q) (progress file at kept k s)
  unfolding progress
  progress_others zero = (λ q not. at_other file (half_written at kept zero) s q not, tt)
  progress_others (suc k) = (λ q not. at_other file (half_written at kept (suc k)) s q not, progress_others k)

  write_each : (past : List Files) → EachMoment file Q (record { now = s; past = past }) (after (Write file at kept) (record { now = s; past = past }))
  unfolding after
  write_each past =
      let n = length kept in
      record {
        during = at_file file (half_written at kept n) s ∷ progress file at kept n s;
        joined = refl;
        each = (half_at n (omega arith), progress_each n (omega arith));
        others = (λ q not. at_other file (half_written at kept n) s q not, progress_others n);
        others_now = λ q not. at_other file (half_written at kept n) s q not;
      }

-- of these bytes m were kept
module _ (file at : ℕ) (b : List ℕ) (m : ℕ) (s : Files) (r : List ℕ) (past : List Files) where
  -- its moments are those of a write
  pub write_moments : s file ≡ settled r → at ≤ length r
      → EachMoment file (IsDuring (at ≡ length (s file).reads) (written at b (s file))) (record { now = s; past = past }) (after (Write file at (take m b)) (record { now = s; past = past }))
  write_moments is le = write_each file at (take m b) s (IsDuring (at ≡ length (s file).reads) (written at b (s file))) half past
    where
      half : (k : ℕ) → k ≤ length (take m b) → IsDuring (at ≡ length (s file).reads) (written at b (s file)) (half_written at (take m b) k (s file))
      half k below = subst (λ (f : File). IsDuring (at ≡ length f.reads) (written at b f) (half_written at (take m b) k f)) (sym is) (part_during at b m k r le)

  -- and at each a front of the bytes stands
  pub write_fronts : EachMoment file (IsFrontWritten at m b (s file).reads) (record { now = s; past = past }) (after (Write file at (take m b)) (record { now = s; past = past }))
  write_fronts = write_each file at (take m b) s (IsFrontWritten at m b (s file).reads) half past
    where
      half : (k : ℕ) → k ≤ length (take m b) → IsFrontWritten at m b (s file).reads (half_written at (take m b) k (s file))
      half k le =
          let within : k ≤ m = omega (arith, le, length-take m b) in
          (k, within, ap (λ (l : List ℕ). settled (overlaid (s file).reads at l)) (take-take k m b within))

-- the moments of a cut
pub cut_moments : (file len : ℕ) (s : Files) (r : List ℕ) (past : List Files) → s file ≡ settled r
    → EachMoment file (IsDuring (Unit {0}) (shortened len (s file))) (record { now = s; past = past }) (after (Cut file len) (record { now = s; past = past }))
unfolding after
cut_moments file len s r past is = record {
  during = at_file file (cut_to len) s ∷ [];
  joined = refl;
  each = (here, tt);
  others = (λ q not. at_other file (cut_to len) s q not, tt);
  others_now = λ q not. at_other file (cut_to len) s q not;
}
  where
    here : IsDuring (Unit {0}) (shortened len (s file)) (at_file file (cut_to len) s file)
    here =
        subst (IsDuring (Unit {0}) (shortened len (s file))) (sym (at_same file (cut_to len) s))
        (subst (λ (f : File). IsDuring (Unit {0}) (shortened len f) (cut_to len f)) (sym is)
        (record { firmer = cut_firmer len r; put = λ _. (drop len r, sym (take-append-drop len r)) }))

-- what the files are after one change more
pub now_after_write : (changes : List Change) (file at : ℕ) (b : List ℕ) (q : ℕ) → (history_of (changes ++ Write file at b ∷ [])).now q ≡ at_file file (half_written at b (length b)) (history_of changes).now q
unfolding after
now_after_write changes file at b q = ap (λ (h : History). h.now q) (replay-push start changes (Write file at b))

pub now_after_cut : (changes : List Change) (file len q : ℕ) → (history_of (changes ++ Cut file len ∷ [])).now q ≡ at_file file (cut_to len) (history_of changes).now q
unfolding after
now_after_cut changes file len q = ap (λ (h : History). h.now q) (replay-push start changes (Cut file len))
