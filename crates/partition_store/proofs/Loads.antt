-- What was taken in of a disk, and its files once they are trimmed, make a store.
use Rattle.std.proofs.Common.{◌≡◌, ◌≢◌, inl, inr, ℕ, ◌<◌, ◌^◌, true, false, List, [], ◌∷◌, ◌++◌, length, take, refl, sym, ◌∙◌, ap, subst, arith, Option, Some, None}
use Rattle.std.specs.Prelude.{IfSome}
use Rattle.std.specs.List.{AllByRecursion}
use Rattle.std.proofs.lemmas.Bool.{cases_eq}
use Rattle.std.proofs.lemmas.List.{append-nil}
use Rattle.tx_model.specs.declared.record.Record.{Record}
use Rattle.tx_model.specs.declared.meta.Meta.{Meta}
use Rattle.tx_model.specs.Framing.{record_len}
use Rattle.tx_model.specs.Frames.{joined, frames_in}
use Rattle.tx_model.specs.Contents.{records_in, records_of, entries_in, entries_of}
use Rattle.disk_model.specs.File.{File, IsPlain, IsSound as IsSoundFile, settled}
use Rattle.disk_model.specs.Frames.{IsFirm}
use Rattle.disk_model.specs.History.{Files, History, AtEach, Always, moments}
use Rattle.disk_model.proofs.Firm.{firm_images}
use Rattle.disk_model.proofs.Left.{left_of}
use Rattle.disk_model.proofs.Moments.{each_now}
use Rattle.segment_store.specs.Index.{Index, count_of, IsIndexOf, IsWholeIndexOf}
use Rattle.segment_store.proofs.Loaded.{wholly-frames}
use Rattle.meta_journal.specs.Entries.{IsTidy as IsTidyJournal}
use Rattle.proto_model.specs.Replicas.{ReplicaState}
use Rattle.proto_model.specs.Held.{Held, Contents, EachNamed, table_of, none_held, folded, held_in, replica_of}
use Rattle.proto_model.specs.Damages.{Naming, last_named, FoldsSoFar}
use Rattle.proto_model.proofs.Folding.{none_sane, folded-alike, folds-names, some-folds, named-map, named-both}
use Rattle.proto_model.proofs.SoFar.{LastOf, so_far-last, so_far-some, none_last}
use Rattle.partition_store.specs.Stands.{reads_of, framing_of, held_or, held_now, AreLeft, LeavesNear, LeavesAtEach}
use Rattle.partition_store.specs.Stores.{Kept, AreClosed, records_by, records_at, IsLastOf, IsFit, IsSound}
use Rattle.partition_store.specs.Loading.{IsLastRead, last_records, IsWholeLog, IsTailOf, IsLoadedOf, IsLoadedFit, frames_of, HoldFrames, AreFirm, IsLastFile, AreLoaded, AreReadFrom, IsLoadedFrom, IsTrimmedOf, AreTrimmedOf}
use Rattle.partition_store.specs.declared.taking.Loaded.{Loaded}
use Rattle.partition_store.proofs.Left.{next_same, near_of}
use Rattle.partition_store.proofs.FirmFiles.{framing_at, framing-records, joined-frames, named-all}

-- ---- the last file

-- the segment of the last file has it, as the entries name it
module _ (c : Contents) (entries : List Meta) (h : Held) (folds : FoldsSoFar (table_of c) entries none_held h) where
  named_by_last : (i : Index) (s : Files) → reads_of s ≡ c → IsLastRead c h (Some i) → (last : Option Naming) → last_named None entries ≡ last → LastOf (table_of c) h last → IsLastFile entries s i
  named_by_last i s same read None is without = absurd (omega (arith, read.1.0, without.file))
  named_by_last i s same read (Some n) is of = record {
    above = omega (arith, read.0, read.1.0);
    whole = subst (λ (d : Contents). IsWholeIndexOf i (d i.file)) (sym same) read.1.1;
    named = n;
    last = is;
    file_is = read.0 ∙ of.file;
  }

  pub last-file : (o : Option Index) (s : Files) → reads_of s ≡ c → IsLastRead c h o → IfSome o (IsLastFile entries s)
  last-file None s same read = tt
  last-file (Some i) s same read = named_by_last i s same read (last_named None entries) refl (so_far-last (table_of c) entries none_held h None none_sane (none_last (table_of c)) folds)

-- what was read makes it whole
pub read-parts : (s : Files) (end : ℕ) (entries : List Meta) (l : Loaded) → AreLoaded (reads_of s) entries l → l.wrong ≡ None → entries ≡ entries_in (s 0).reads → end ≡ length (joined (frames_of s 0)) → AreReadFrom s end entries l
read-parts s end entries l loaded none entries_are end_is =
    let tail : IsWholeLog (reads_of s) loaded.held l.closed.items l.last = subst (IsTailOf (reads_of s) entries loaded.held l.closed.items l.last) none loaded.of.tail in
    record { loaded = loaded; read = record { entries_are = entries_are; end_is = end_is; last_is = last-file (reads_of s) entries loaded.held loaded.of.folds l.last s refl tail.read } }

-- and then its files stand for it
pub parts-held : (s : Files) (end : ℕ) (entries : List Meta) (l : Loaded) (from : AreReadFrom s end entries l) → l.wrong ≡ None → held_in (reads_of s) ≡ Some from.loaded.held
parts-held s end entries l from none =
    let h = from.loaded.held in
    let tail : IsWholeLog (reads_of s) h l.closed.items l.last = subst (IsTailOf (reads_of s) entries h l.closed.items l.last) none from.loaded.of.tail in
    so_far-some (table_of (reads_of s)) (entries_in (s 0).reads) h (subst (λ (es : List Meta). FoldsSoFar (table_of (reads_of s)) es none_held h) from.read.entries_are from.loaded.of.folds) tail.ids

-- ---- files that hold the same frames

-- the files that are named have numbers from 2 on
held-above : (s : Files) (h : Held) → held_in (reads_of s) ≡ Some h → EachNamed (λ q. 1 < q) (entries_in (s 0).reads)
held-above s h is =
    let names = (folds-names (table_of (reads_of s)) (entries_in (s 0).reads) none_held h (some-folds (table_of (reads_of s)) (entries_in (s 0).reads) none_held h is)).1 in
    named-map _ (λ q. 1 < q) (entries_in (s 0).reads) (λ q it. it.0) names

records_as : (q : ℕ) (a b : List ℕ) → 1 < q → frames_in (framing_of q) a ≡ frames_in (framing_of q) b → records_in a ≡ records_in b
records_as q a b above same = ap records_of (subst (λ (len : List ℕ → ℕ). frames_in len a ≡ frames_in len b) (framing-records q above) same)

-- bytes with the same frames in the journal and in each named file stand for the same
pub held-alike : (s : Files) (h : Held) (c : Contents) → held_in (reads_of s) ≡ Some h → frames_in (framing_of 0) (c 0) ≡ frames_of s 0 → EachNamed (λ q. frames_in (framing_of q) (c q) ≡ frames_of s q) (entries_in (s 0).reads) → held_in c ≡ Some h
held-alike s h c is journal named =
    let es = entries_in (s 0).reads in
    let alike = named-map _ (λ q. table_of (reads_of s) q ≡ table_of c q) es (λ q both. records_as q (s q).reads (c q) both.0 (sym both.1)) (named-both (λ q. 1 < q) (λ q. frames_in (framing_of q) (c q) ≡ frames_of s q) es (held-above s h is) named) in
    ap (λ (ds : List Meta). folded (table_of c) ds none_held) (ap entries_of journal) ∙ sym (folded-alike (table_of (reads_of s)) (table_of c) es none_held alike) ∙ is

pub hold-held : (s t : Files) (h : Held) → held_in (reads_of s) ≡ Some h → HoldFrames (frames_of s) t → held_in (reads_of t) ≡ Some h
hold-held s t h is hold = held-alike s h (reads_of t) is (hold 0) (named-all _ (entries_in (s 0).reads) hold)

-- ---- what a crash may leave

module _ (plain : Type 0) (old : Files) (h : Held) (is : held_in (reads_of old) ≡ Some h) where
  abbrev F : ℕ → List (List ℕ)
  F = frames_of old

  -- of files whose counted frames are firm
  firm_held : (s : Files) → AreFirm F s → ((q : ℕ) → IsSoundFile (s q)) → (plain → (q : ℕ) → IsPlain (s q)) → (c : Contents) → AreLeft plain s c → held_in c ≡ Some h
  firm_held s firm sound settles c left =
      held-alike old h c is (left_frames 0 firm.journal) (named-map _ (λ q. frames_in (framing_of q) (c q) ≡ F q) (entries_of (F 0)) left_frames firm.named)
    where
      left_frames : (q : ℕ) → IsFirm (framing_of q) (F q) (s q) → frames_in (framing_of q) (c q) ≡ F q
      left_frames q it = left_of plain (framing_of q) (λ gs. gs ≡ F q) (s q) (sound q) (λ p. settles p q) (firm_images (framing_of q) (framing_at q) (F q) (s q) it) (c q) (left q)

  firm_leaves : (s : Files) → AreFirm F s → ((q : ℕ) → IsSoundFile (s q)) → (plain → (q : ℕ) → IsPlain (s q)) → LeavesNear plain (λ r. r ≡ replica_of h) h.file s
  firm_leaves s firm sound settles c left = near_of (λ r. r ≡ replica_of h) h.file c h (firm_held s firm sound settles c left) refl (next_same h.file)

  -- a plain disk is read as a crash leaves it
  pub held-firm : (was new : History) → AreFirm F was.now → AtEach (AreFirm F) was new → Always IsSoundFile new → (plain → Always IsPlain new) → plain → held_in (reads_of new.now) ≡ Some h
  held-firm was new start run sound settles p =
      firm_held new.now (each_now (AreFirm F) was new run start) sound.0 (λ it. (settles it).0) (reads_of new.now) (λ q. record { image = (sound.0 q).reads_image; no_chance = inl p })

  at_each : (during before : List Files) → AllByRecursion (AreFirm F) during → AllByRecursion (λ s. (q : ℕ) → IsSoundFile (s q)) (during ++ before) → (plain → AllByRecursion (λ s. (q : ℕ) → IsPlain (s q)) (during ++ before))
      → AllByRecursion (LeavesNear plain (λ r. r ≡ replica_of h) h.file) during
  at_each [] before firm sound settles = tt
  at_each (s ∷ during) before firm sound settles = (firm_leaves s firm.0 sound.0 (λ p. (settles p).0), at_each during before firm.1 sound.1 (λ p. (settles p).1))

  pub leaves-firm : (was new : History) → was.now ≡ old → AreFirm F was.now → AtEach (AreFirm F) was new → Always IsSoundFile new → (plain → Always IsPlain new) → LeavesAtEach plain (λ r. r ≡ replica_of h) was new
  leaves-firm was new same start run sound settles =
      let P = λ (r : ReplicaState). r ≡ replica_of h in
      let file : (held_now was.now).file ≡ h.file = ap (λ (g : Held). g.file) (ap (λ (s : Files). held_now s) same ∙ ap held_or is) in
      let here : (history : Files) (n : ℕ) → n ≡ h.file → LeavesNear plain P h.file history → LeavesNear plain P n history = λ history n e leaves. subst (λ (m : ℕ). LeavesNear plain P m history) (sym e) leaves in
      record {
        each = subst (λ (n : ℕ). AtEach (LeavesNear plain P n) was new) (sym file) (record {
          during = run.during;
          joined = run.joined;
          each = at_each run.during (moments was) run.each (subst (λ (ss : List Files). AllByRecursion (λ s. (q : ℕ) → IsSoundFile (s q)) ss) run.joined sound) (λ p. subst (λ (ss : List Files). AllByRecursion (λ s. (q : ℕ) → IsPlain (s q)) ss) run.joined (settles p));
        });
        now = here new.now (held_now was.now).file file (firm_leaves new.now (each_now (AreFirm F) was new run start) sound.0 (λ p. (settles p).0));
      }

-- ---- the store

module _ (old new : Files) (end : ℕ) (entries : List Meta) (l : Loaded) (from : IsLoadedFrom old new end entries l) (none : l.wrong ≡ None) where
  abbrev h : Held
  h = from.parts.loaded.held

  abbrev c : Contents
  c = reads_of old

  of : IsLoadedOf c entries h l
  of = from.parts.loaded.of

  whole : IsWholeLog c h l.closed.items l.last
  whole = subst (IsTailOf c entries h l.closed.items l.last) none of.tail

  -- the files stood for it
  pub held-old : held_in (reads_of old) ≡ Some h
  held-old = parts-held old end entries l from.parts none

  -- ---- and do so now

  hold_by : (o : Option Index) → IfSome o (λ i. new i.file ≡ settled (joined (frames_of old i.file))) → ((q : ℕ) → q ≢ 0 → IfSome o (λ i. q ≢ i.file) → (new q).reads ≡ (old q).reads) → (q : ℕ) → q ≢ 0 → frames_of new q ≡ frames_of old q
  hold_by None last others q not = ap (frames_in (framing_of q)) (others q not tt)
  hold_by (Some i) last others q not = elim (cases_eq q i.file) [
    | inl here ↦ subst (λ (n : ℕ). frames_of new n ≡ frames_of old n) (sym here) (ap (λ (f : File). frames_in (framing_of i.file) f.reads) last ∙ joined-frames i.file (old i.file).reads)
    | inr other ↦ ap (frames_in (framing_of q)) (others q not other)
  ]

  hold : HoldFrames (frames_of old) new
  hold q = elim (cases_eq q 0) [
    | inl here ↦ subst (λ (n : ℕ). frames_of new n ≡ frames_of old n) (sym here) (ap (λ (f : File). frames_in (framing_of 0) f.reads) from.trimmed.journal ∙ joined-frames 0 (old 0).reads)
    | inr other ↦ hold_by l.last from.trimmed.last_is from.trimmed.others q other
  ]

  held_new : held_in (reads_of new) ≡ Some h
  held_new = hold-held old new h held-old hold

  now_is : held_now new ≡ h
  now_is = ap held_or held_new

  pub held-same : held_in (reads_of old) ≡ Some (held_now new)
  held-same = held-old ∙ ap Some (sym now_is)

  -- ---- each file

  trimmed_by : (o : Option Index) → IfSome o (λ i. new i.file ≡ settled (joined (frames_of old i.file))) → ((q : ℕ) → q ≢ 0 → IfSome o (λ i. q ≢ i.file) → (new q).reads ≡ (old q).reads) → (q : ℕ) → q ≢ 0 → IsTrimmedOf (framing_of q) (old q).reads (new q).reads
  trimmed_by None last others q not = inl (others q not tt)
  trimmed_by (Some i) last others q not = elim (cases_eq q i.file) [
    | inl here ↦ subst (λ (n : ℕ). IsTrimmedOf (framing_of n) (old n).reads (new n).reads) (sym here) (inr (ap (λ (f : File). f.reads) last))
    | inr other ↦ inl (others q not other)
  ]

  pub trimmed-files : AreTrimmedOf old new
  trimmed-files q = elim (cases_eq q 0) [
    | inl here ↦ subst (λ (n : ℕ). IsTrimmedOf (framing_of n) (old n).reads (new n).reads) (sym here) (inr (ap (λ (f : File). f.reads) from.trimmed.journal))
    | inr other ↦ trimmed_by l.last from.trimmed.last_is from.trimmed.others q other
  ]

  -- ---- the segments

  -- a closed file is read as before
  closed_reads : (o : Option Index) → IsLastRead c h o → ((q : ℕ) → q ≢ 0 → IfSome o (λ i. q ≢ i.file) → (new q).reads ≡ (old q).reads) → (q : ℕ) → 1 < q → q < h.file → (new q).reads ≡ (old q).reads
  closed_reads None read others q above below = others q (λ zero. omega (arith, zero, above)) tt
  closed_reads (Some i) read others q above below = others q (λ zero. omega (arith, zero, above)) (λ last. omega (arith, last, read.0, below))

  same_reads : (q : ℕ) → 1 < q → q < h.file → (new q).reads ≡ (old q).reads
  same_reads = closed_reads l.last whole.read from.trimmed.others

  closed_now : (closed : List Index) → AreClosed c h.file closed → AreClosed (reads_of new) h.file closed
  closed_now [] all = tt
  closed_now (i ∷ is) all = (
    record { above = all.0.above; below = all.0.below; index = subst (IsIndexOf i) (sym (same_reads i.file all.0.above all.0.below)) all.0.index },
    closed_now is all.1,
  )

  records_now : (closed : List Index) → AreClosed c h.file closed → records_by (reads_of new) closed ≡ records_by c closed
  unfolding records_by
  records_now [] all = refl
  records_now (i ∷ is) all =
      ap (λ (bytes : List ℕ). take (count_of i) (records_in bytes) ++ records_by (reads_of new) is) (same_reads i.file all.0.above all.0.below)
      ∙ ap (λ (rs : List Record). take (count_of i) (records_in (c i.file)) ++ rs) (records_now is all.1)

  -- the last file has its frames alone
  last_now : (o : Option Index) → IsLastRead c h o → IfSome o (λ i. new i.file ≡ settled (joined (frames_of old i.file))) → IsLastOf new h o
  last_now None read is = read
  last_now (Some i) read is =
      let len : framing_of i.file ≡ record_len = framing-records i.file (omega (arith, read.0, read.1.0)) in
      let fs : List (List ℕ) = frames_in record_len (old i.file).reads in
      let now : new i.file ≡ settled (joined fs) = is ∙ ap (λ (f : List ℕ → ℕ). settled (joined (frames_in f (old i.file).reads))) len in
      let wholly = wholly-frames i (old i.file).reads read.1.1 in
      let bytes : (new i.file).reads ≡ joined fs = ap (λ (f : File). f.reads) now in
      let frames : frames_in record_len (new i.file).reads ≡ fs =
      ap (frames_in record_len) bytes
      ∙ subst (λ (f : List ℕ → ℕ). frames_in f (joined (frames_in f (old i.file).reads)) ≡ frames_in f (old i.file).reads) len (joined-frames i.file (old i.file).reads) in
      record {
        file = read.0;
        above = read.1.0;
        tidy = record {
          index = record {
            frames = read.1.1.index.frames;
            rest = [];
            whole = read.1.1.index.whole;
            is = bytes ∙ ap joined wholly ∙ sym (append-nil (joined read.1.1.index.frames));
            starts = read.1.1.index.starts;
            end = read.1.1.index.end;
            ids = read.1.1.index.ids;
          };
          at_rest = record {
            is = now ∙ ap (λ (gs : List (List ℕ)). settled (joined gs)) (sym frames);
            end_is = read.1.1.index.end ∙ ap (λ (gs : List (List ℕ)). length (joined gs)) (sym wholly) ∙ ap length (sym bytes);
          };
        };
      }

  last_same : (o : Option Index) → IsLastRead c h o → records_at new o ≡ last_records c o
  last_same None read = refl
  last_same (Some i) read = records_as i.file (new i.file).reads (old i.file).reads (omega (arith, read.0, read.1.0)) (hold i.file)

  -- ---- all of it

  journal_now : IsTidyJournal end (new 0)
  journal_now = record {
    is = from.trimmed.journal ∙ ap (λ (gs : List (List ℕ)). settled (joined gs)) (sym (hold 0));
    end_is = from.parts.read.end_is ∙ ap (λ (f : File). length f.reads) (sym from.trimmed.journal);
  }

  long : IsLoadedFit l → l.status.length ≡ length h.log
  long fit = let small : l.status.length < 2 ^ 48 = fit.length none in omega (arith, small, of.length)

  pub loaded-sound : {D : Type 0} (d : D) → IsLoadedFit l → IsSound new (record { disk = d; journal = end; status = l.status; closed = l.closed.items; last = l.last; staged = None; shut = false })
  loaded-sound d fit = record {
    standing = record {
      held = held_new ∙ ap Some (sym now_is);
      promised = of.promised ∙ ap (λ (g : Held). g.promised) (sym now_is);
      adopted = of.adopted ∙ ap (λ (g : Held). g.adopted) (sym now_is);
      low = of.low ∙ ap (λ (g : Held). g.low) (sym now_is);
      length = long fit ∙ ap (λ (g : Held). length g.log) (sym now_is);
      file = of.file ∙ ap (λ (g : Held). g.file) (sym now_is);
      staged = refl;
    };
    journal = journal_now;
    plain = subst (EachNamed (λ q. IsPlain (new q))) (from.parts.read.entries_are ∙ ap entries_of (sym (hold 0))) from.trimmed.named;
    closed = subst (λ (g : Held). AreClosed (reads_of new) g.file l.closed.items) (sym now_is) (closed_now l.closed.items whole.below);
    last = subst (λ (g : Held). IsLastOf new g l.last) (sym now_is) (last_now l.last whole.read from.trimmed.last_is);
    log = ap (λ (g : Held). g.log) now_is ∙ whole.log
        ∙ ap (λ (rs : List Record). rs ++ last_records c l.last) (sym (records_now l.closed.items whole.below))
        ∙ ap (λ (rs : List Record). records_by (reads_of new) l.closed.items ++ rs) (sym (last_same l.last whole.read));
    staged = tt;
  }

-- a refused one leaves what it kept
pub shut-fit : {D : Type 0} (k : Kept D) (d : D) → IsFit k → IsFit (record k { disk = d; shut = true })
shut-fit k d fit = record { range = fit.range; none = fit.none; order = fit.order; staged = fit.staged }

pub loaded-fit : {D : Type 0} (d : D) (end : ℕ) (l : Loaded) → IsLoadedFit l → l.wrong ≡ None → IsFit (record { disk = d; journal = end; status = l.status; closed = l.closed.items; last = l.last; staged = None; shut = false })
loaded-fit d end l fit none = record {
  range = record { promised = fit.promised; adopted = fit.adopted; low = fit.low; length = fit.length none };
  none = fit.none;
  order = fit.order none;
  staged = tt;
}
