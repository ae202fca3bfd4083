-- Files of which those that hold records of the log are as they were.
use Rattle.std.proofs.Common.{◌≡◌, ℕ, ◌<◌, ◌≤◌, List, [], ◌∷◌, ◌++◌, take, refl, sym, ◌∙◌, ap, subst, arith, Option, Some, None}
use Rattle.tx_model.specs.declared.record.Record.{Record}
use Rattle.tx_model.specs.Contents.{records_in}
use Rattle.disk_model.specs.File.{File}
use Rattle.disk_model.specs.History.{Files}
use Rattle.segment_store.specs.Index.{Index, count_of, IsIndexOf, IsTidy as IsTidySegment}
use Rattle.proto_model.specs.Held.{Held, Contents}
use Rattle.partition_store.specs.Stands.{reads_of}
use Rattle.partition_store.specs.Stores.{AreClosed, records_by, records_at, IsLastOf}

pub closed_same : (c d : Contents) (top : ℕ) (is : List Index) → ((q : ℕ) → 1 < q → q < top → d q ≡ c q) → AreClosed c top is → AreClosed d top is
closed_same c d top [] same all = tt
closed_same c d top (i ∷ is) same all = (
  record {
    above = all.0.above;
    below = all.0.below;
    index = subst (λ (l : List ℕ). IsIndexOf i l) (sym (same i.file all.0.above all.0.below)) all.0.index;
  },
  closed_same c d top is same all.1,
)

pub records_by-same : (c d : Contents) (top : ℕ) (is : List Index) → ((q : ℕ) → 1 < q → q < top → d q ≡ c q) → AreClosed c top is → records_by d is ≡ records_by c is
unfolding records_by
records_by-same c d top [] same all = refl
records_by-same c d top (i ∷ is) same all =
    ap (λ (l : List ℕ). take (count_of i) (records_in l) ++ records_by d is) (same i.file all.0.above all.0.below)
    ∙ ap (λ (rs : List Record). take (count_of i) (records_in (c i.file)) ++ rs) (records_by-same c d top is same all.1)

module _ (s t : Files) (h g : Held) (named : (q : ℕ) → 1 < q → q ≤ h.file → t q ≡ s q) (file : g.file ≡ h.file) where
  below : (q : ℕ) → 1 < q → q < h.file → reads_of t q ≡ reads_of s q
  below q above under = ap (λ (f : File). f.reads) (named q above (omega arith))

  pub same_closed : (is : List Index) → AreClosed (reads_of s) h.file is → AreClosed (reads_of t) g.file is
  same_closed is all = subst (λ (n : ℕ). AreClosed (reads_of t) n is) (sym file) (closed_same (reads_of s) (reads_of t) h.file is below all)

  pub same_last : (o : Option Index) → IsLastOf s h o → IsLastOf t g o
  same_last None it = file ∙ it
  same_last (Some i) it = record {
    file = it.file ∙ sym file;
    above = omega (arith, it.above, file);
    tidy = subst (λ (f : File). IsTidySegment i f) (sym (named i.file (omega (arith, it.file, it.above)) (omega (arith, it.file)))) it.tidy;
  }

  pub same_records : (o : Option Index) → IsLastOf s h o → records_at t o ≡ records_at s o
  same_records None it = refl
  same_records (Some i) it = ap (λ (f : File). records_in f.reads) (named i.file (omega (arith, it.file, it.above)) (omega (arith, it.file)))

  pub same_log : (is : List Index) (o : Option Index) → g.log ≡ h.log → AreClosed (reads_of s) h.file is → IsLastOf s h o → h.log ≡ records_by (reads_of s) is ++ records_at s o → g.log ≡ records_by (reads_of t) is ++ records_at t o
  same_log is o log all last it =
      log ∙ it
      ∙ ap (λ (rs : List Record). rs ++ records_at s o) (sym (records_by-same (reads_of s) (reads_of t) h.file is below all))
      ∙ ap (λ (rs : List Record). records_by (reads_of t) is ++ rs) (sym (same_records o last))
