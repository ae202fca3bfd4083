-- How a run of calls on one file goes on.
use Rattle.std.proofs.Common.{◌≡◌, ◌≢◌, inl, inr, ℕ, List, [], ◌∷◌, ◌++◌, refl, sym, ◌∙◌, ap, subst, append_assoc}
use Rattle.std.specs.List.{AllByRecursion}
use Rattle.std.proofs.lemmas.Bool.{cases_Bool}
use Rattle.disk_model.specs.File.{File, IsImage, IsFirmer, Begins, IsPlain}
use Rattle.tx_model.specs.Frames.{joined}
use Rattle.disk_model.specs.Frames.{EachImage, IsAsPut}
use Rattle.disk_model.specs.History.{Files, History, moments, EachMoment, AtEach, Always}
use Rattle.tx_model.proofs.Walks.{all-append}

all_weaker : {A : Type 0} (P Q : A → Type 0) (xs : List A) → ((x : A) → P x → Q x) → AllByRecursion P xs → AllByRecursion Q xs
all_weaker P Q [] to all = tt
all_weaker P Q (x ∷ xs) to all = (to x all.0, all_weaker P Q xs to all.1)

-- before the first call
pub began : (file : ℕ) (P : File → Type 0) (h : History) → EachMoment file P h h
began file P h = record { during = []; joined = refl; each = tt; others = tt; others_now = λ q not. refl }

-- one call or run more, whose moments have P too
pub goes_on : (file : ℕ) (P Q : File → Type 0) (old mid new : History) → EachMoment file P old mid → EachMoment file Q mid new → ((f : File) → Q f → P f) → EachMoment file P old new
goes_on file P Q old mid new so_far step to =
    let others = λ (s : Files) (same : (q : ℕ) → q ≢ file → s q ≡ mid.now q) (q : ℕ) (not : q ≢ file). same q not ∙ so_far.others_now q not in
    record {
      during = step.during ++ so_far.during;
      joined = step.joined ∙ ap (λ (past : List Files). step.during ++ past) so_far.joined ∙ sym (append_assoc step.during so_far.during (moments old));
      each = all-append (λ (s : Files). P (s file)) step.during so_far.during (all_weaker (λ (s : Files). Q (s file)) (λ (s : Files). P (s file)) step.during (λ s. to (s file)) step.each) so_far.each;
      others = all-append (λ (s : Files). (q : ℕ) → q ≢ file → s q ≡ old.now q) step.during so_far.during (all_weaker (λ (s : Files). (q : ℕ) → q ≢ file → s q ≡ mid.now q) (λ (s : Files). (q : ℕ) → q ≢ file → s q ≡ old.now q) step.during others step.others) so_far.others;
      others_now = others new.now step.others_now;
    }

-- the first call
pub weaker : (file : ℕ) (P Q : File → Type 0) (old new : History) → EachMoment file Q old new → ((f : File) → Q f → P f) → EachMoment file P old new
weaker file P Q old new step to = goes_on file P Q old old new (began file P old) step to

-- a call that changed nothing
pub stayed : (file : ℕ) (P : File → Type 0) (old mid new : History) → EachMoment file P old mid → new ≡ mid → EachMoment file P old new
stayed file P old mid new so_far same = subst (λ (h : History). EachMoment file P old h) (sym same) so_far

-- a firmer file has no image more
pub firmer_image : (f g : File) (c : List ℕ) → IsFirmer f g → IsImage f c → IsImage g c
firmer_image f g c firmer image = record {
  within = λ i below firm. firmer.no_longer i firm (image.within i below (firmer.firm i firm));
  bytes = λ i below firm. image.bytes i below (firmer.firm i firm) ∙ firmer.bytes i firm;
  ends = λ i past below. elim (cases_Bool (g.unsynced i)) [
    | inl is ↦ is
    | inr firm ↦ let not = image.ends i past (firmer.no_shorter i firm below) in let is = firmer.firm i firm in absurd (cc (not, is))
  ];
}

-- where no more was put either, each image of it that is as put is an image as put of the other
pub firmer_images : (len : List ℕ → ℕ) (Q : List (List ℕ) → Type 0) (f g : File) → EachImage len Q g → IsFirmer f g → Begins f.put g.put → EachImage len Q f
firmer_images len Q f g each firmer begins c image as_put =
    each c (firmer_image f g c firmer image) (λ fs rest all is.
    let put = as_put fs rest all is in
    (put.0 ++ begins.0, begins.1 ∙ ap (λ (l : List ℕ). l ++ begins.0) put.1 ∙ append_assoc (joined fs) put.0 begins.0))

-- before the first call, of all files
pub begins : (P : Files → Type 0) (h : History) → AtEach P h h
begins P h = record { during = []; joined = refl; each = tt }

-- one run, and then another
pub and_then : (P : Files → Type 0) (old mid new : History) → AtEach P old mid → AtEach P mid new → AtEach P old new
and_then P old mid new so_far step = record {
  during = step.during ++ so_far.during;
  joined = step.joined ∙ ap (λ (past : List Files). step.during ++ past) so_far.joined ∙ sym (append_assoc step.during so_far.during (moments old));
  each = all-append P step.during so_far.during step.each so_far.each;
}

-- what has Q has P
pub each_weaker : (P Q : Files → Type 0) (old new : History) → AtEach Q old new → ((s : Files) → Q s → P s) → AtEach P old new
each_weaker P Q old new run to = record { during = run.during; joined = run.joined; each = all_weaker Q P run.during to run.each }

-- what the files have at each moment they have now
pub each_now : (P : Files → Type 0) (old new : History) → AtEach P old new → P old.now → P new.now
each_now P old new run first = by_case run.during run.joined run.each
  where
    by_case : (during : List Files) → moments new ≡ during ++ moments old → AllByRecursion P during → P new.now
    by_case [] joined each = let same : new.now ≡ old.now = cc joined in subst P (sym same) first
    by_case (s ∷ during) joined each = let same : new.now ≡ s = cc joined in subst P (sym same) each.0

-- a run on one file, among the others as they were
pub of_file : (file : ℕ) (Q : File → Type 0) (P : Files → Type 0) (old new : History) → EachMoment file Q old new
    → ((s : Files) → Q (s file) → ((q : ℕ) → q ≢ file → s q ≡ old.now q) → P s) → AtEach P old new
of_file file Q P old new run to = record { during = run.during; joined = run.joined; each = both run.during run.each run.others }
  where
    both : (during : List Files) → AllByRecursion (λ s. Q (s file)) during → AllByRecursion (λ s. (q : ℕ) → q ≢ file → s q ≡ old.now q) during → AllByRecursion P during
    both [] each others = tt
    both (s ∷ during) each others = (to s each.0 others.0, both during each.1 others.1)

-- what is read of a plain file was put
pub plain_as_put : (len : List ℕ → ℕ) (f : File) → IsPlain f → IsAsPut len f f.reads
plain_as_put len f plain fs rest all is = (rest, ap (λ (g : File). g.put) plain ∙ is)

-- what holds at each moment holds now
pub now_has : (file : ℕ) (P : File → Type 0) (old new : History) → EachMoment file P old new → P (old.now file) → P (new.now file)
now_has file P old new run first = by_case run.during run.joined run.each
  where
    by_case : (during : List Files) → moments new ≡ during ++ moments old → AllByRecursion (λ s. P (s file)) during → P (new.now file)
    by_case [] joined each = let same : new.now ≡ old.now = cc joined in subst (λ (s : Files). P (s file)) (sym same) first
    by_case (s ∷ during) joined each = let same : new.now ≡ s = cc joined in subst (λ (t : Files). P (t file)) (sym same) each.0

-- what holds of each file at each moment holds at those of a call too
pub always_too : (file : ℕ) (P Q : File → Type 0) (old new : History) → EachMoment file P old new → Always Q new → EachMoment file (λ f. P f × Q f) old new
always_too file P Q old new run always = record {
  during = run.during;
  joined = run.joined;
  each = both run.during run.each (subst (λ (ss : List Files). AllByRecursion (λ s. (q : ℕ) → Q (s q)) ss) run.joined always);
  others = run.others;
  others_now = run.others_now;
}
  where
    both : (during : List Files) → AllByRecursion (λ s. P (s file)) during → AllByRecursion (λ s. (q : ℕ) → Q (s q)) (during ++ moments old) → AllByRecursion (λ s. P (s file) × Q (s file)) during
    both [] each all = tt
    both (s ∷ during) each all = ((each.0, all.0 file), both during each.1 all.1)

-- and so it did before
pub always_before : (file : ℕ) (P Q : File → Type 0) (old new : History) → EachMoment file P old new → Always Q new → Always Q old
always_before file P Q old new run always = behind run.during (subst (λ (ss : List Files). AllByRecursion (λ s. (q : ℕ) → Q (s q)) ss) run.joined always)
  where
    behind : (during : List Files) → AllByRecursion (λ s. (q : ℕ) → Q (s q)) (during ++ moments old) → AllByRecursion (λ s. (q : ℕ) → Q (s q)) (moments old)
    behind [] all = all
    behind (s ∷ during) all = behind during all.1
