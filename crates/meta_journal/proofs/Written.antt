-- An entry written behind the others and synced, over the history of the file.
use Rattle.std.proofs.Common.{◌≡◌, inl, inr, ℕ, zero, suc, ◌+◌, List, [], ◌∷◌, ◌++◌, length, sym, ◌∙◌, ap, subst, arith, length-append}
use Rattle.std.specs.List.{AllByRecursion}
use Rattle.std.proofs.lemmas.List.{append-nil}
use Rattle.tx_model.specs.declared.meta.Meta.{Meta}
use Rattle.tx_model.specs.Spelling.{meta_frame, IsMeta}
use Rattle.tx_model.specs.Framing.{meta_len}
use Rattle.disk_model.specs.File.{File, IsImage, IsDuring, IsPlain, IsSound, settled, written, overlaid}
use Rattle.disk_model.specs.History.{History, EachMoment, Always}
use Rattle.tx_model.specs.Frames.{IsFrame, joined, frames_in, IsPrefixOf}
use Rattle.disk_model.specs.Frames.{IsFirm, EachImage}
use Rattle.tx_model.proofs.Walks.{all-append, joined-append, frames_in-joined, split}
use Rattle.disk_model.proofs.Images.{empty, image_settled}
use Rattle.disk_model.proofs.Moments.{weaker}
use Rattle.disk_model.proofs.Firm.{firm_images}
use Rattle.disk_model.proofs.Left.{each_left}
use Rattle.disk_model.proofs.Appends.{append_writes, append_syncs, reads_mid}
use Rattle.tx_model.specs.Contents.{entries_of, entries_in}
use Rattle.meta_journal.specs.Entries.{HasEntry, EachLeftHas, IsTidy, IsEntered}
use Rattle.meta_journal.proofs.Framed.{framing, one_frame, entries_of-append}

prefix-entries : (fs gs : List (List ℕ)) (e : Meta) → IsMeta e → IsPrefixOf fs (meta_frame e ∷ []) gs → HasEntry (entries_of fs) e (entries_of gs)
prefix-entries fs gs e valid (zero, le, is) = inl (ap entries_of (is ∙ append-nil fs))
prefix-entries fs gs e valid (suc zero, le, is) = inr (ap entries_of is ∙ entries_of-append fs (meta_frame e ∷ []) ∙ ap (λ (d : Meta). entries_of fs ++ d ∷ []) (one_frame e valid).1)
prefix-entries fs gs e valid (suc (suc k), le, is) = absurd (omega arith)

-- the entries in each image as put have P
abbrev pub EachImageHas : (List Meta → Type 0) → File → Type 0
EachImageHas P file = EachImage meta_len (λ frames. P (entries_of frames)) file

module _ (old : History) (end : ℕ) (tidy : IsTidy end (old.now 0)) (e : Meta) (valid : IsMeta e) (bytes : List ℕ) (bytes_are : bytes ≡ meta_frame e) where
  abbrev fs : List (List ℕ)
  fs = frames_in meta_len (old.now 0).reads

  abbrev ns : List (List ℕ)
  ns = meta_frame e ∷ []

  all_f : AllByRecursion (IsFrame meta_len) fs
  all_f = (split meta_len framing (old.now 0).reads).frames

  all_n : AllByRecursion (IsFrame meta_len) ns
  all_n = ((one_frame e valid).0, tt)

  at : end ≡ length (joined fs)
  at = tidy.end_is ∙ ap (λ (f : File). length f.reads) tidy.is

  bytes_then : bytes ≡ joined ns
  bytes_then = bytes_are ∙ sym (append-nil (meta_frame e))

  abbrev pub Writing : History → Type 0
  Writing mid = EachMoment 0 (IsDuring (end ≡ length (old.now 0).reads) (written end bytes (old.now 0))) old mid

  placed : (mid : History) → Writing mid → EachMoment 0 (IsDuring (length (joined fs) ≡ length (old.now 0).reads) (written (length (joined fs)) (joined ns) (old.now 0))) old mid
  placed mid step = subst (λ (n : ℕ). EachMoment 0 (IsDuring (n ≡ length (old.now 0).reads) (written n (joined ns) (old.now 0))) old mid) at
      (subst (λ (l : List ℕ). EachMoment 0 (IsDuring (end ≡ length (old.now 0).reads) (written end l (old.now 0))) old mid) bytes_then step)

  placed_reads : (mid : History) → (mid.now 0).reads ≡ overlaid (old.now 0).reads end bytes → (mid.now 0).reads ≡ overlaid (old.now 0).reads (length (joined fs)) (joined ns)
  placed_reads mid reads = reads ∙ ap (λ (n : ℕ). overlaid (old.now 0).reads n bytes) at ∙ ap (λ (l : List ℕ). overlaid (old.now 0).reads (length (joined fs)) l) bytes_then

  in_entries : (new : History) → EachMoment 0 (EachImage meta_len (IsPrefixOf fs ns)) old new → EachMoment 0 (EachImageHas (HasEntry (entries_in (old.now 0).reads) e)) old new
  in_entries new run = weaker 0 _ (EachImage meta_len (IsPrefixOf fs ns)) old new run (λ f each c image put. prefix-entries fs (frames_in meta_len c) e valid (each c image put))

  -- during the write
  pub writes : (mid : History) → Writing mid → EachMoment 0 (EachImageHas (HasEntry (entries_in (old.now 0).reads) e)) old mid
  writes mid step = in_entries mid (append_writes meta_len framing 0 fs ns all_f all_n old mid tidy.is (placed mid step))

  -- and during the sync
  pub syncs : (mid new : History) → Writing mid → (mid.now 0).reads ≡ overlaid (old.now 0).reads end bytes → EachMoment 0 (λ f. f ≡ settled (mid.now 0).reads) mid new
      → EachMoment 0 (EachImageHas (HasEntry (entries_in (old.now 0).reads) e)) old new
  syncs mid new step reads sync = in_entries new (append_syncs meta_len framing 0 fs ns all_f all_n old mid new tidy.is (placed mid step) (placed_reads mid reads) sync)

  module _ (mid new : History) (reads : (mid.now 0).reads ≡ overlaid (old.now 0).reads end bytes) (done : new.now 0 ≡ settled (mid.now 0).reads) where
    is_now : new.now 0 ≡ settled (joined (fs ++ ns))
    is_now = done ∙ ap settled (reads_mid meta_len framing 0 fs ns all_f all_n old mid tidy.is (placed_reads mid reads))

    frames_now : frames_in meta_len (joined (fs ++ ns)) ≡ fs ++ ns
    frames_now = ap (frames_in meta_len) (sym (append-nil (joined (fs ++ ns)))) ∙ frames_in-joined meta_len framing (fs ++ ns) [] (all-append (IsFrame meta_len) fs ns all_f all_n) (empty meta_len framing)

    entries_then : entries_of (fs ++ ns) ≡ entries_in (old.now 0).reads ++ e ∷ []
    entries_then = entries_of-append fs ns ∙ ap (λ (d : Meta). entries_of fs ++ d ∷ []) (one_frame e valid).1

    pub added : entries_in (new.now 0).reads ≡ entries_in (old.now 0).reads ++ e ∷ []
    added = ap (λ (f : File). entries_in f.reads) is_now ∙ ap entries_of frames_now ∙ entries_then

    pub in_each : (image : List ℕ) → IsImage (new.now 0) image → entries_in image ≡ entries_in (old.now 0).reads ++ e ∷ []
    in_each image is = ap entries_in (image_settled image (joined (fs ++ ns)) (subst (λ (f : File). IsImage f image) is_now is)) ∙ ap entries_of frames_now ∙ entries_then

    pub tidy_then : (end_then : ℕ) → end_then ≡ end + length bytes → IsTidy end_then (new.now 0)
    tidy_then end_then is =
        let now = ap (λ (f : File). f.reads) is_now in
        record {
          is = is_now ∙ ap (λ (gs : List (List ℕ)). settled (joined gs)) (sym (ap (frames_in meta_len) now ∙ frames_now));
          end_is = omega (arith, is, at, ap length bytes_then, ap length now, ap length (joined-append fs ns), length-append (joined fs) (joined ns));
        }

    pub entered : (end_then : ℕ) → end_then ≡ end + length bytes → IsEntered e end_then old new
    entered end_then is = record { every_image = in_each; entries = added; tidy = tidy_then end_then is }

-- while the frames stay firm, whatever a crash may leave holds the same entries
pub firm_entries : (plain : Type 0) (old new : History) → Always IsSound new → (plain → Always IsPlain new)
    → EachMoment 0 (IsFirm meta_len (frames_in meta_len (old.now 0).reads)) old new → EachMoment 0 (EachLeftHas plain (λ es. es ≡ entries_in (old.now 0).reads)) old new
firm_entries plain old new sound settles run =
    each_left plain meta_len (λ gs. entries_of gs ≡ entries_in (old.now 0).reads) 0 old new sound settles
    (weaker 0 (EachImage meta_len (λ gs. entries_of gs ≡ entries_in (old.now 0).reads)) (IsFirm meta_len (frames_in meta_len (old.now 0).reads)) old new run
    (λ f firm c image put. ap entries_of (firm_images meta_len framing (frames_in meta_len (old.now 0).reads) f firm c image put)))
