-- A tail that holds no frame cut away, over the history of a file.
use Rattle.std.proofs.Common.{◌≡◌, ℕ, List, [], length, take, refl, sym, ◌∙◌, ap, subst}
use Rattle.std.proofs.lemmas.List.{append-nil, take_at}
use Rattle.disk_model.specs.File.{File, IsDuring, IsSound, settled, shortened}
use Rattle.disk_model.specs.History.{History, EachMoment, Always}
use Rattle.tx_model.specs.Frames.{IsFraming, joined, frames_in}
use Rattle.disk_model.specs.Frames.{IsFirm, HasFirmFrames, IsAtRest}
use Rattle.tx_model.proofs.Walks.{Split, frames_in-joined, split}
use Rattle.disk_model.proofs.Images.{empty}
use Rattle.disk_model.proofs.Firm.{firm_firmer, firm_settled, firm_shortened}
use Rattle.disk_model.proofs.Moments.{weaker, goes_on, always_too}

module _ (len : List ℕ → ℕ) (framing : IsFraming len) (file : ℕ) (old : History) (end : ℕ) (end_is : end ≡ length (joined (frames_in len (old.now file).reads))) where
  abbrev fs : List (List ℕ)
  fs = frames_in len (old.now file).reads

  whole : Split len (old.now file).reads fs
  whole = split len framing (old.now file).reads

  abbrev pub Cutting : History → Type 0
  Cutting mid = EachMoment file (IsDuring (Unit {0}) (shortened end (old.now file))) old mid

  reads_are : (mid : History) → (mid.now file).reads ≡ take end (old.now file).reads → (mid.now file).reads ≡ joined fs
  reads_are mid reads =
      reads ∙ ap (λ (n : ℕ). take n (old.now file).reads) end_is ∙ ap (λ (l : List ℕ). take (length (joined fs)) l) whole.is
      ∙ take_at (joined fs) whole.rest (length (joined fs)) refl

  -- during the cut
  pub trim_cuts : (mid : History) → Cutting mid → Always IsSound mid → HasFirmFrames len (old.now file) → EachMoment file (IsFirm len fs) old mid
  trim_cuts mid step sound start =
      let cut : IsFirm len fs (shortened end (old.now file)) = subst (λ (n : ℕ). IsFirm len fs (shortened n (old.now file))) (sym end_is) (firm_shortened len framing fs (old.now file) start) in
      weaker file (IsFirm len fs) (λ f. IsDuring (Unit {0}) (shortened end (old.now file)) f × IsSound f) old mid
      (always_too file (IsDuring (Unit {0}) (shortened end (old.now file))) IsSound old mid step sound)
      (λ f both. firm_firmer len framing fs f (shortened end (old.now file)) cut both.0.firmer (both.0.put tt) both.1.as_put)

  -- and during the sync
  pub trim_syncs : (mid new : History) → Cutting mid → Always IsSound mid → (mid.now file).reads ≡ take end (old.now file).reads
      → EachMoment file (λ f. f ≡ settled (mid.now file).reads) mid new → HasFirmFrames len (old.now file) → EachMoment file (IsFirm len fs) old new
  trim_syncs mid new step sound reads sync start =
      let done : IsFirm len fs (settled (joined fs)) = subst (λ (l : List ℕ). IsFirm len fs (settled l)) (append-nil (joined fs)) (firm_settled len framing fs [] whole.frames (empty len framing)) in
      goes_on file (IsFirm len fs) (λ f. f ≡ settled (mid.now file).reads) old mid new (trim_cuts mid step sound start) sync
      (λ f is. subst (IsFirm len fs) (sym (is ∙ ap settled (reads_are mid reads))) done)

  module _ (mid new : History) (reads : (mid.now file).reads ≡ take end (old.now file).reads) (done : new.now file ≡ settled (mid.now file).reads) where
    is_now : new.now file ≡ settled (joined fs)
    is_now = done ∙ ap settled (reads_are mid reads)

    same : frames_in len (joined fs) ≡ fs
    same = ap (frames_in len) (sym (append-nil (joined fs))) ∙ frames_in-joined len framing fs [] whole.frames (empty len framing)

    -- then the frames alone are read
    pub trimmed : (new.now file).reads ≡ joined fs
    trimmed = ap (λ (f : File). f.reads) is_now

    pub trimmed_frames : frames_in len (new.now file).reads ≡ fs
    trimmed_frames = ap (frames_in len) trimmed ∙ same

    pub trimmed_rest : IsAtRest len (new.now file) end
    trimmed_rest = record {
      is = is_now ∙ ap (λ (gs : List (List ℕ)). settled (joined gs)) (sym trimmed_frames);
      end_is = end_is ∙ ap length (sym trimmed);
    }
