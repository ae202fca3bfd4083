-- The next value written behind the others and synced, over the history of the file.
use Rattle.std.proofs.Common.{◌≡◌, inl, inr, ℕ, zero, suc, ◌+◌, List, [], ◌∷◌, ◌++◌, length, sym, ◌∙◌, ap, subst, arith, length-append}
use Rattle.std.specs.Prelude.{◌⊎◌}
use Rattle.std.specs.List.{AllByRecursion}
use Rattle.std.proofs.lemmas.List.{append-nil}
use Rattle.tx_model.specs.declared.meta.Meta.{Meta}
use Rattle.tx_model.specs.declared.meta.Meta.TheVariants.{Value}
use Rattle.tx_model.specs.Spelling.{meta_frame, IsCount}
use Rattle.tx_model.specs.Framing.{meta_len}
use Rattle.disk_model.specs.File.{File, IsImage, IsDuring, IsPlain, IsSound, settled, written, overlaid}
use Rattle.disk_model.specs.History.{History, EachMoment, Always}
use Rattle.tx_model.specs.Frames.{IsFrame, joined, frames_in, IsPrefixOf}
use Rattle.disk_model.specs.Frames.{EachImage}
use Rattle.tx_model.proofs.Walks.{all-append, joined-append, frames_in-joined, split}
use Rattle.disk_model.proofs.Images.{empty, image_settled}
use Rattle.disk_model.proofs.Left.{each_left}
use Rattle.disk_model.proofs.Moments.{weaker}
use Rattle.disk_model.proofs.Appends.{append_writes, append_syncs, reads_mid}
use Rattle.session_register.specs.Values.{entries_of, values_to, HaveNumber, StandsFor, EachLeftStandsForEither, IsTidy}
use Rattle.session_register.proofs.Framed.{framing, one_frame, entries_of-append, values_to-suc}

-- the one image of a tidy file
pub tidy_image : (number end : ℕ) (file : File) (image : List ℕ) → IsTidy number end file → IsImage file image → StandsFor image number
tidy_image number end file image tidy is =
    let at = tidy.at_rest in
    let same : image ≡ joined (frames_in meta_len file.reads) = image_settled image (joined (frames_in meta_len file.reads)) (subst (λ (f : File). IsImage f image) at.is is) in
    let reads : file.reads ≡ joined (frames_in meta_len file.reads) = ap (λ (f : File). f.reads) at.is in
    subst (λ (l : List ℕ). StandsFor l number) (reads ∙ sym same) tidy.values

-- the frames of before, and the next value's or not
either : (fs gs : List (List ℕ)) (number : ℕ) → IsCount (number + 1) → HaveNumber fs number → IsPrefixOf fs (meta_frame (Value (number + 1)) ∷ []) gs → HaveNumber gs number ⊎ HaveNumber gs (number + 1)
either fs gs number valid have (zero, le, is) = inl (ap entries_of (is ∙ append-nil fs) ∙ have)
either fs gs number valid have (suc zero, le, is) = inr (
    ap entries_of is ∙ entries_of-append fs (meta_frame (Value (number + 1)) ∷ []) ∙ ap (λ (l : List Meta). l ++ entries_of (meta_frame (Value (number + 1)) ∷ [])) have
    ∙ ap (λ (e : Meta). values_to number ++ e ∷ []) (one_frame (Value (number + 1)) valid).1 ∙ sym (values_to-suc number))
either fs gs number valid have (suc (suc k), le, is) = absurd (omega arith)

module _ (plain : Type 0) (old : History) (number end : ℕ) (tidy : IsTidy number end (old.now 0)) (valid : IsCount (number + 1)) (bytes : List ℕ) (bytes_are : bytes ≡ meta_frame (Value (number + 1))) where
  abbrev fs : List (List ℕ)
  fs = frames_in meta_len (old.now 0).reads

  abbrev ns : List (List ℕ)
  ns = meta_frame (Value (number + 1)) ∷ []

  all_f : AllByRecursion (IsFrame meta_len) fs
  all_f = (split meta_len framing (old.now 0).reads).frames

  all_n : AllByRecursion (IsFrame meta_len) ns
  all_n = ((one_frame (Value (number + 1)) valid).0, tt)

  at : end ≡ length (joined fs)
  at = tidy.at_rest.end_is ∙ ap (λ (f : File). length f.reads) tidy.at_rest.is

  bytes_then : bytes ≡ joined ns
  bytes_then = bytes_are ∙ sym (append-nil (meta_frame (Value (number + 1))))

  abbrev pub Writing : History → Type 0
  Writing mid = EachMoment 0 (IsDuring (end ≡ length (old.now 0).reads) (written end bytes (old.now 0))) old mid

  placed : (mid : History) → Writing mid → EachMoment 0 (IsDuring (length (joined fs) ≡ length (old.now 0).reads) (written (length (joined fs)) (joined ns) (old.now 0))) old mid
  placed mid step = subst (λ (n : ℕ). EachMoment 0 (IsDuring (n ≡ length (old.now 0).reads) (written n (joined ns) (old.now 0))) old mid) at
      (subst (λ (l : List ℕ). EachMoment 0 (IsDuring (end ≡ length (old.now 0).reads) (written end l (old.now 0))) old mid) bytes_then step)

  placed_reads : (mid : History) → (mid.now 0).reads ≡ overlaid (old.now 0).reads end bytes → (mid.now 0).reads ≡ overlaid (old.now 0).reads (length (joined fs)) (joined ns)
  placed_reads mid reads = reads ∙ ap (λ (n : ℕ). overlaid (old.now 0).reads n bytes) at ∙ ap (λ (l : List ℕ). overlaid (old.now 0).reads (length (joined fs)) l) bytes_then

  in_numbers : (new : History) → Always IsSound new → (plain → Always IsPlain new) → EachMoment 0 (EachImage meta_len (IsPrefixOf fs ns)) old new → EachMoment 0 (EachLeftStandsForEither plain number (number + 1)) old new
  in_numbers new sound settles run = each_left plain meta_len (λ gs. HaveNumber gs number ⊎ HaveNumber gs (number + 1)) 0 old new sound settles
      (weaker 0 (EachImage meta_len (λ gs. HaveNumber gs number ⊎ HaveNumber gs (number + 1))) (EachImage meta_len (IsPrefixOf fs ns)) old new run
      (λ f each c image put. either fs (frames_in meta_len c) number valid tidy.values (each c image put)))

  -- during the write
  pub writes : (mid : History) → Always IsSound mid → (plain → Always IsPlain mid) → Writing mid → EachMoment 0 (EachLeftStandsForEither plain number (number + 1)) old mid
  writes mid sound settles step = in_numbers mid sound settles (append_writes meta_len framing 0 fs ns all_f all_n old mid tidy.at_rest.is (placed mid step))

  -- and during the sync
  pub syncs : (mid new : History) → Always IsSound new → (plain → Always IsPlain new) → Writing mid → (mid.now 0).reads ≡ overlaid (old.now 0).reads end bytes
      → EachMoment 0 (λ f. f ≡ settled (mid.now 0).reads) mid new → EachMoment 0 (EachLeftStandsForEither plain number (number + 1)) old new
  syncs mid new sound settles step reads sync = in_numbers new sound settles (append_syncs meta_len framing 0 fs ns all_f all_n old mid new tidy.at_rest.is (placed mid step) (placed_reads mid reads) sync)

  -- then the file is tidy again
  module _ (mid new : History) (reads : (mid.now 0).reads ≡ overlaid (old.now 0).reads end bytes) (done : new.now 0 ≡ settled (mid.now 0).reads) where
    is_now : new.now 0 ≡ settled (joined (fs ++ ns))
    is_now = done ∙ ap settled (reads_mid meta_len framing 0 fs ns all_f all_n old mid tidy.at_rest.is (placed_reads mid reads))

    frames_now : frames_in meta_len (joined (fs ++ ns)) ≡ fs ++ ns
    frames_now = ap (frames_in meta_len) (sym (append-nil (joined (fs ++ ns)))) ∙ frames_in-joined meta_len framing (fs ++ ns) [] (all-append (IsFrame meta_len) fs ns all_f all_n) (empty meta_len framing)

    pub tidy_then : (then : ℕ) → then ≡ end + length bytes → IsTidy (number + 1) then (new.now 0)
    tidy_then then is =
        let now : (new.now 0).reads ≡ joined (fs ++ ns) = ap (λ (f : File). f.reads) is_now in
        let frames : frames_in meta_len (new.now 0).reads ≡ fs ++ ns = ap (frames_in meta_len) now ∙ frames_now in
        record {
          values =
              ap entries_of frames ∙ entries_of-append fs ns ∙ ap (λ (l : List Meta). l ++ entries_of ns) tidy.values
              ∙ ap (λ (e : Meta). values_to number ++ e ∷ []) (one_frame (Value (number + 1)) valid).1 ∙ sym (values_to-suc number);
          at_rest = record {
            is = is_now ∙ ap (λ (gs : List (List ℕ)). settled (joined gs)) (sym frames);
            end_is = omega (arith, is, at, ap length bytes_then, ap length now, ap length (joined-append fs ns), length-append (joined fs) (joined ns));
          };
        }
