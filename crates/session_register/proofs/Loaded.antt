-- Loading, over the history of the file, and what is refused.
use Rattle.std.proofs.Common.{◌≡◌, ℕ, length, take, ◌∙◌, ap}
use Rattle.tx_model.specs.Framing.{meta_len}
use Rattle.disk_model.specs.File.{IsPlain, IsSound, settled}
use Rattle.disk_model.specs.History.{History, EachMoment, Always}
use Rattle.tx_model.specs.Frames.{joined, frames_in}
use Rattle.disk_model.specs.Frames.{EachImage}
use Rattle.disk_model.proofs.Firm.{firm_images}
use Rattle.disk_model.proofs.Left.{each_left}
use Rattle.disk_model.proofs.Moments.{weaker}
use Rattle.disk_model.proofs.Trimmed.{trimmed_frames, trimmed_rest}
use Rattle.session_register.specs.Values.{entries_of, HaveNumber, StandsFor, EachLeftStandsFor, IsTidy, KeepsFrames}
use Rattle.session_register.proofs.Framed.{framing}

-- while the frames stay firm, whatever a crash may leave stands for the same number
pub firm_numbers : (plain : Type 0) (number : ℕ) (old new : History) → Always IsSound new → (plain → Always IsPlain new) → StandsFor (old.now 0).reads number
    → EachMoment 0 (KeepsFrames (old.now 0).reads) old new → EachMoment 0 (EachLeftStandsFor plain number) old new
firm_numbers plain number old new sound settles stands run =
    let fs = frames_in meta_len (old.now 0).reads in
    each_left plain meta_len (λ gs. HaveNumber gs number) 0 old new sound settles
    (weaker 0 (EachImage meta_len (λ gs. HaveNumber gs number)) (KeepsFrames (old.now 0).reads) old new run
    (λ f firm c image put. ap entries_of (firm_images meta_len framing fs f firm c image put) ∙ stands))

-- cut and synced, the file is tidy
pub trimmed_tidy : (old mid new : History) (end : ℕ) → end ≡ length (joined (frames_in meta_len (old.now 0).reads)) → (mid.now 0).reads ≡ take end (old.now 0).reads → new.now 0 ≡ settled (mid.now 0).reads
    → (number : ℕ) → StandsFor (old.now 0).reads number → IsTidy number end (new.now 0)
trimmed_tidy old mid new end end_is reads done number stands = record {
  values = ap entries_of (trimmed_frames meta_len framing 0 old end end_is mid new reads done) ∙ stands;
  at_rest = trimmed_rest meta_len framing 0 old end end_is mid new reads done;
}
