-- Changes of the file after the last one that is named.
use Rattle.std.proofs.Common.{◌≡◌, ◌≢◌, ℕ, ◌+◌, ◌<◌, ◌≤◌, List, length, refl, sym, ◌∙◌, ap, subst, arith, Option, Some}
use Rattle.tx_model.specs.declared.meta.Meta.{Meta}
use Rattle.tx_model.specs.Contents.{entries_in}
use Rattle.disk_model.specs.File.{File, IsPlain}
use Rattle.disk_model.specs.History.{Files, History, EachMoment}
use Rattle.disk_model.proofs.Moments.{of_file}
use Rattle.meta_journal.specs.Entries.{IsTidy as IsTidyJournal}
use Rattle.segment_store.specs.Index.{Index}
use Rattle.proto_model.specs.Crashes.{unstaged}
use Rattle.proto_model.specs.Held.{Held, EachNamed, replica_of, held_in}
use Rattle.proto_model.proofs.Folding.{folds-names}
use Rattle.partition_store.specs.Stands.{reads_of, held_now, LeavesNear, LeavesAtEach}
use Rattle.partition_store.specs.Stores.{Kept, state_by, staged_count, records_at, IsStagedOf, IsSound}
use Rattle.partition_store.proofs.Left.{now_is, folds, now_named, still_plain, held_same, near_same, leaves_run}
use Rattle.partition_store.proofs.Same.{same_closed, same_last, same_log}

module _ {D : Type 0} (plain : Type 0) (history : D → History) (k : Kept D) (sound : IsSound (history k.disk).now k) (file : ℕ) (next : file ≡ k.status.file + 1) where
  abbrev old : Files
  old = (history k.disk).now

  abbrev h : Held
  h = held_now (history k.disk).now

  pub next_is : file ≡ (held_now (history k.disk).now).file + 1
  next_is = next ∙ ap (λ (n : ℕ). n + 1) sound.standing.file

  pub above_first : 1 < file
  above_first = omega (arith, next_is, (folds-names _ _ _ h (folds old h sound.standing.held sound.plain)).0)

  leaves : (s : Files) → ((q : ℕ) → q ≢ file → s q ≡ old q) → LeavesNear plain (λ r. r ≡ replica_of h) h.file s
  leaves s others = near_same old h sound.standing.held sound.plain plain k.journal sound.journal s (others 0 (omega (arith, next_is))) (λ q above below. others q (omega (arith, below, next_is)))

  -- at each moment of a run on the file
  pub aside : (Q : File → Type 0) (new : History) → EachMoment file Q (history k.disk) new → LeavesAtEach plain (λ r. r ≡ unstaged (state_by history k)) (history k.disk) new
  aside Q new run = leaves_run plain (λ r. r ≡ replica_of h) (history k.disk) new
      (of_file file Q (LeavesNear plain (λ r. r ≡ replica_of h) h.file) (history k.disk) new run (λ s it others. leaves s others))
      (leaves old (λ q not. refl))

  module _ (new : Files) (others : (q : ℕ) → q ≢ file → new q ≡ (history k.disk).now q) where
    named : (q : ℕ) → 1 < q → q ≤ h.file → new q ≡ old q
    named q above below = others q (omega (arith, below, next_is))

    journal_same : new 0 ≡ old 0
    journal_same = others 0 (omega (arith, next_is))

    entries_same : entries_in (new 0).reads ≡ entries_in (old 0).reads
    entries_same = ap (λ (f : File). entries_in f.reads) journal_same

    pub aside_held : held_in (reads_of new) ≡ Some (held_now (history k.disk).now)
    aside_held = held_same old h sound.standing.held sound.plain (reads_of new) entries_same (now_named old h sound.standing.held sound.plain new named)

    pub aside_now : held_now new ≡ held_now (history k.disk).now
    aside_now = now_is new h aside_held

    pub aside_sound : (disk : D) (staged : Option Index) → staged_count staged ≡ length (records_at new staged) → IsStagedOf new (held_now (history k.disk).now) staged → IsSound new (record k { disk = disk; staged = staged })
    aside_sound disk staged count of =
        let file_same = ap (λ (g : Held). g.file) aside_now in
        record {
          standing = record {
            held = aside_held ∙ ap (λ (g : Held). Some g) (sym aside_now);
            promised = sound.standing.promised ∙ sym (ap (λ (g : Held). g.promised) aside_now);
            adopted = sound.standing.adopted ∙ sym (ap (λ (g : Held). g.adopted) aside_now);
            low = sound.standing.low ∙ sym (ap (λ (g : Held). g.low) aside_now);
            file = sound.standing.file ∙ sym file_same;
            staged = count;
            length = sound.standing.length ∙ sym (ap (λ (g : Held). length g.log) aside_now);
          };
          journal = subst (λ (f : File). IsTidyJournal k.journal f) (sym journal_same) sound.journal;
          plain = subst (λ (l : List Meta). EachNamed (λ q. IsPlain (new q)) l) (sym entries_same) (still_plain old h sound.standing.held sound.plain new named);
          closed = same_closed old new h (held_now new) named file_same k.closed sound.closed;
          last = same_last old new h (held_now new) named file_same k.last sound.last;
          log = same_log old new h (held_now new) named file_same k.closed k.last (ap (λ (g : Held). g.log) aside_now) sound.closed sound.last sound.log;
          staged = subst (λ (g : Held). IsStagedOf new g staged) (sym aside_now) of;
        }
