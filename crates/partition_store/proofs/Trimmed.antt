-- The calls by which a loading cuts tails away and syncs files, one after the other.
use Rattle.std.proofs.Common.{◌≡◌, ◌≢◌, inl, inr, ℕ, List, take, sym, ◌∙◌, ap, subst, arith, Option, Some, None}
use Rattle.std.specs.Prelude.{IfSome}
use Rattle.std.proofs.lemmas.Bool.{cases_eq}
use Rattle.tx_model.specs.declared.meta.Meta.{Meta}
use Rattle.tx_model.specs.Frames.{joined, frames_in}
use Rattle.tx_model.specs.Contents.{entries_of}
use Rattle.disk_model.specs.File.{File, IsDuring, IsPlain, IsSound, settled, shortened}
use Rattle.disk_model.specs.History.{History, EachMoment, AtEach, Always}
use Rattle.disk_model.proofs.Moments.{and_then, each_now}
use Rattle.segment_store.specs.Index.{Index, IsWholeIndexOf}
use Rattle.proto_model.specs.Held.{EachNamed}
use Rattle.proto_model.specs.Damages.{last_named}
use Rattle.partition_store.specs.Stands.{framing_of}
use Rattle.partition_store.specs.Loading.{frames_of, HoldFrames, AreFirm, HasFirmFiles, IsLastFile, AreRead, AreTrimmed}
use Rattle.partition_store.proofs.FirmFiles.{firm-cut, firm-sync, cut-reads, joined-frames, hold-same, last-has, plain-settled}

module _ (old : History) (end : ℕ) (last : Option Index) (entries : List Meta) (read : AreRead old.now end last entries) where
  abbrev F : ℕ → List (List ℕ)
  F = frames_of old.now

  -- ---- the journal is cut

  pub cut-firm : (at : ℕ) (cut : History) → at ≡ end → EachMoment 0 (IsDuring (Unit {0}) (shortened at (old.now 0))) old cut → Always IsSound cut → HasFirmFiles old.now → AtEach (AreFirm F) old cut
  cut-firm at cut at_is run sound firm = firm-cut F 0 at old cut firm firm.journal (at_is ∙ read.end_is) run sound

  module _ (at : ℕ) (cut : History) (at_is : at ≡ end) (run : EachMoment 0 (IsDuring (Unit {0}) (shortened at (old.now 0))) old cut) (reads : (cut.now 0).reads ≡ take at (old.now 0).reads) where
    pub cut-journal : (cut.now 0).reads ≡ joined (F 0)
    cut-journal = reads ∙ ap (λ (n : ℕ). take n (old.now 0).reads) at_is ∙ cut-reads 0 end (old.now 0).reads read.end_is

    pub cut-hold : HoldFrames F cut.now
    cut-hold q = elim (cases_eq q 0) [
      | inl here ↦ subst (λ (n : ℕ). frames_of cut.now n ≡ F n) (sym here) (ap (frames_in (framing_of 0)) cut-journal ∙ joined-frames 0 (old.now 0).reads)
      | inr other ↦ ap (λ (f : File). frames_in (framing_of q) f.reads) (run.others_now q other)
    ]

    last_then : (o : Option Index) → IfSome o (IsLastFile entries old.now) → IfSome o (IsLastFile (entries_of (F 0)) cut.now)
    last_then None is = tt
    last_then (Some i) is = record {
      above = is.above;
      whole = subst (λ (f : File). IsWholeIndexOf i f.reads) (sym (run.others_now i.file (omega (arith, is.above)))) is.whole;
      named = is.named;
      last = ap (last_named None) (sym read.entries_are) ∙ is.last;
      file_is = is.file_is;
    }

    pub cut-last-then : IfSome last (IsLastFile (entries_of (F 0)) cut.now)
    cut-last-then = last_then last read.last_is

    pub cut-last-read : IfSome last (IsLastFile entries cut.now)
    cut-last-read = subst (λ (es : List Meta). IfSome last (IsLastFile es cut.now)) (sym read.entries_are) cut-last-then

    pub firm-last : (next : History) → Always IsSound cut → HasFirmFiles old.now
        → ((frames : ℕ → List (List ℕ)) → HoldFrames frames cut.now → AreFirm frames cut.now → IfSome last (IsLastFile (entries_of (frames 0)) cut.now) → AtEach (AreFirm frames) cut next) → AtEach (AreFirm F) old next
    firm-last next sound firm to =
        let so_far = cut-firm at cut at_is run sound firm in
        and_then (AreFirm F) old cut next so_far (to F cut-hold (each_now (AreFirm F) old cut so_far firm) cut-last-then)

    -- ---- and then the last file

    module _ (next : History) (others : (q : ℕ) → IfSome last (λ i. q ≢ i.file) → next.now q ≡ cut.now q) (short : IfSome last (λ i. (next.now i.file).reads ≡ joined (frames_of cut.now i.file))) where
      held_by : (o : Option Index) → ((q : ℕ) → IfSome o (λ i. q ≢ i.file) → next.now q ≡ cut.now q) → IfSome o (λ i. (next.now i.file).reads ≡ joined (frames_of cut.now i.file)) → HoldFrames F next.now
      held_by None same short_by q = ap (λ (f : File). frames_in (framing_of q) f.reads) (same q tt) ∙ cut-hold q
      held_by (Some i) same short_by q = elim (cases_eq q i.file) [
        | inl here ↦
            subst (λ (n : ℕ). frames_of next.now n ≡ F n) (sym here)
            (ap (frames_in (framing_of i.file)) short_by ∙ joined-frames i.file (cut.now i.file).reads ∙ cut-hold i.file)
        | inr other ↦ ap (λ (f : File). frames_in (framing_of q) f.reads) (same q other) ∙ cut-hold q
      ]

      pub last-hold : HoldFrames F next.now
      last-hold = held_by last others short

      -- the journal is not the last file
      zero_other : (o : Option Index) → IfSome o (IsLastFile entries old.now) → IfSome o (λ i. 0 ≢ i.file)
      zero_other None is = tt
      zero_other (Some i) is = λ same. omega (arith, same, is.above)

      journal_reads : (next.now 0).reads ≡ joined (F 0)
      journal_reads = ap (λ (f : File). f.reads) (others 0 (zero_other last read.last_is)) ∙ cut-journal

      pub firm-journal : (synced : History) → HasFirmFiles old.now → AtEach (AreFirm F) old next → EachMoment 0 (λ f. f ≡ settled (next.now 0).reads) next synced → AtEach (AreFirm F) old synced
      firm-journal synced firm so_far sync = and_then (AreFirm F) old next synced so_far (firm-sync F 0 next synced (each_now (AreFirm F) old next so_far firm) (last-hold 0) sync)

      -- ---- and the syncs

      synced_reads : (synced : History) → synced.now 0 ≡ settled (next.now 0).reads → ((q : ℕ) → q ≢ 0 → synced.now q ≡ next.now q) → (q : ℕ) → (synced.now q).reads ≡ (next.now q).reads
      synced_reads synced sync sync_others q = elim (cases_eq q 0) [
        | inl here ↦ subst (λ (n : ℕ). (synced.now n).reads ≡ (next.now n).reads) (sym here) (ap (λ (f : File). f.reads) sync)
        | inr other ↦ ap (λ (f : File). f.reads) (sync_others q other)
      ]

      pub firm-named : (synced new : History) → synced.now 0 ≡ settled (next.now 0).reads → ((q : ℕ) → q ≢ 0 → synced.now q ≡ next.now q) → HasFirmFiles old.now → AtEach (AreFirm F) old synced
          → ((frames : ℕ → List (List ℕ)) → HoldFrames frames synced.now → AreFirm frames synced.now → AtEach (AreFirm frames) synced new) → AtEach (AreFirm F) old new
      firm-named synced new sync sync_others firm so_far to =
          and_then (AreFirm F) old synced new so_far (to F (hold-same F next.now synced.now (synced_reads synced sync sync_others) last-hold) (each_now (AreFirm F) old synced so_far firm))

      module _ (synced new : History) (sync : synced.now 0 ≡ settled (next.now 0).reads) (sync_others : (q : ℕ) → q ≢ 0 → synced.now q ≡ next.now q)
          (plain : (q : ℕ) → IsPlain (synced.now q) → IsPlain (new.now q)) (reads_on : (q : ℕ) → (new.now q).reads ≡ (synced.now q).reads) (named : EachNamed (λ q. IsPlain (new.now q)) entries) where
        sync_reads : (q : ℕ) → (synced.now q).reads ≡ (next.now q).reads
        sync_reads = synced_reads synced sync sync_others

        settled_as : (q : ℕ) (bytes : List ℕ) → IsPlain (new.now q) → (next.now q).reads ≡ bytes → new.now q ≡ settled bytes
        settled_as q bytes is same = is ∙ ap settled (reads_on q ∙ sync_reads q ∙ same)

        last_by : (o : Option Index) → IfSome o (IsLastFile entries old.now) → IfSome o (λ i. (next.now i.file).reads ≡ joined (frames_of cut.now i.file)) → IfSome o (λ i. new.now i.file ≡ settled (joined (F i.file)))
        last_by None is short_by = tt
        last_by (Some i) is short_by =
            settled_as i.file (joined (F i.file)) (subst (λ (q : ℕ). IsPlain (new.now q)) (sym is.file_is) (last-has (λ q. IsPlain (new.now q)) entries is.named is.last named))
            (short_by ∙ ap joined (cut-hold i.file))

        pub all-trimmed : AreTrimmed last entries old.now new.now
        all-trimmed = record {
          journal = settled_as 0 (joined (F 0)) (plain 0 (plain-settled (synced.now 0) (next.now 0).reads sync)) journal_reads;
          last_is = last_by last read.last_is short;
          others = λ q not_journal not_last.
              reads_on q ∙ sync_reads q ∙ ap (λ (f : File). f.reads) (others q not_last) ∙ ap (λ (f : File). f.reads) (run.others_now q not_journal);
          named = named;
        }
