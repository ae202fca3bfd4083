-- New frames written behind the old ones and synced, over one file's moments.
use Rattle.std.proofs.Common.{◌≡◌, ℕ, ◌+◌, List, [], ◌++◌, length, drop, sym, ◌∙◌, ap, subst, arith}
use Rattle.std.specs.List.{AllByRecursion}
use Rattle.std.proofs.lemmas.List.{append-nil, take_all, drop_all}
use Rattle.disk_model.specs.File.{File, IsDuring, settled, written, overlaid}
use Rattle.tx_model.specs.Frames.{IsFrame, IsFraming, joined, IsPrefixOf}
use Rattle.disk_model.specs.Frames.{EachImage}
use Rattle.disk_model.specs.History.{History, EachMoment}
use Rattle.tx_model.proofs.Walks.{joined-append, all-append}
use Rattle.disk_model.proofs.Images.{keeps_images, keeps_written, keeps_settled, empty, Keeps}
use Rattle.disk_model.proofs.Moments.{goes_on, weaker, firmer_images}

module _ (len : List ℕ → ℕ) (framing : IsFraming len) (file : ℕ) (fs ns : List (List ℕ)) (all_f : AllByRecursion (IsFrame len) fs) (all_n : AllByRecursion (IsFrame len) ns) where
  abbrev P : File → Type 0
  P = EachImage len (IsPrefixOf fs ns)

  abbrev write : File → File
  write = written (length (joined fs)) (joined ns)

  -- the moments of the write
  abbrev pub Writes : History → History → Type 0
  Writes old new = EachMoment file (IsDuring (length (joined fs) ≡ length (old.now file).reads) (written (length (joined fs)) (joined ns) (old.now file))) old new

  written_ok : (old : History) → old.now file ≡ settled (joined fs) → P (write (old.now file))
  written_ok old start = subst (λ (f : File). P (write f)) (sym start) (keeps_images len framing fs ns _ (keeps_written len framing fs ns all_f all_n))

  at_end : (old : History) → old.now file ≡ settled (joined fs) → length (joined fs) ≡ length (old.now file).reads
  at_end old start = sym (ap (λ (f : File). length f.reads) start)

  -- during the write
  pub append_writes : (old new : History) → old.now file ≡ settled (joined fs) → Writes old new → EachMoment file P old new
  append_writes old new start step =
      weaker file P _ old new step (λ f during. firmer_images len (IsPrefixOf fs ns) f (write (old.now file)) (written_ok old start) during.firmer (during.put (at_end old start)))

  -- what is read then
  pub reads_mid : (old mid : History) → old.now file ≡ settled (joined fs) → (mid.now file).reads ≡ overlaid (old.now file).reads (length (joined fs)) (joined ns) → (mid.now file).reads ≡ joined (fs ++ ns)
  reads_mid old mid start wrote =
      wrote
      ∙ ap (λ (f : File). overlaid f.reads (length (joined fs)) (joined ns)) start
      ∙ ap (λ (l : List ℕ). l ++ joined ns ++ drop (length (joined fs) + length (joined ns)) (joined fs)) (take_all (length (joined fs)) (joined fs) (omega arith))
      ∙ ap (λ (l : List ℕ). joined fs ++ joined ns ++ l) (drop_all (length (joined fs) + length (joined ns)) (joined fs) (omega arith))
      ∙ append-nil (joined fs ++ joined ns) ∙ sym (joined-append fs ns)

  -- all of them are in the images of a file that holds all
  settled_ok : P (settled (joined (fs ++ ns)))
  settled_ok c image as_put =
      let whole : IsPrefixOf fs ns (fs ++ ns) = (length ns, omega arith, ap (λ (l : List (List ℕ)). fs ++ l) (sym (take_all (length ns) ns (omega arith)))) in
      let all : AllByRecursion (IsFrame len) (fs ++ ns) = all-append (IsFrame len) fs ns all_f all_n in
      let found = keeps_images len framing (fs ++ ns) [] _ (subst (λ (l : List ℕ). Keeps len (fs ++ ns) [] (settled l)) (append-nil (joined (fs ++ ns))) (keeps_settled len framing (fs ++ ns) [] all (empty len framing))) c image as_put in
      subst (IsPrefixOf fs ns) (sym (found.2 ∙ ap (λ (l : List (List ℕ)). (fs ++ ns) ++ l) (take_all found.0 [] (omega arith)) ∙ append-nil (fs ++ ns))) whole

  -- and during the sync
  pub append_syncs : (old mid new : History) → old.now file ≡ settled (joined fs) → Writes old mid
      → (mid.now file).reads ≡ overlaid (old.now file).reads (length (joined fs)) (joined ns) → EachMoment file (λ f. f ≡ settled (mid.now file).reads) mid new → EachMoment file P old new
  append_syncs old mid new start wrote reads step =
      goes_on file P (λ f. f ≡ settled (mid.now file).reads) old mid new (append_writes old mid start wrote) step
      (λ f is. subst P (sym (is ∙ ap settled (reads_mid old mid start reads))) settled_ok)
