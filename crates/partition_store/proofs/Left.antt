-- What a crash leaves of files of which a part is as it was.
use Rattle.std.proofs.Common.{◌≡◌, ℕ, ◌<◌, ◌≤◌, Bool, false, List, [], ◌∷◌, ◌++◌, sym, ◌∙◌, ap, subst, arith, refl, Some, if◌then◌else◌}
use Rattle.std.specs.Prelude.{nat_lt}
use Rattle.std.proofs.lemmas.Bool.Decides.{nat_tests}
use Rattle.tx_model.specs.declared.meta.Meta.{Meta}
use Rattle.tx_model.specs.Framing.{record_len, meta_len}
use Rattle.tx_model.specs.Contents.{records_in, entries_in}
use Rattle.disk_model.specs.File.{File, IsImage, IsPlain, settled}
use Rattle.disk_model.specs.History.{Files, History, AtEach}
use Rattle.disk_model.proofs.Images.{plain_image}
use Rattle.disk_model.proofs.Moments.{each_now, each_weaker, and_then}
use Rattle.meta_journal.specs.Entries.{IsTidy as IsTidyJournal}
use Rattle.proto_model.specs.Replicas.{ReplicaState}
use Rattle.proto_model.specs.Held.{Held, Table, Contents, none_held, folded, Folds, IsTaken, IfNames, EachNamed, held_after, replica_of, table_of, held_in}
use Rattle.proto_model.proofs.Folding.{folds-some, some-folds, folds-alike, folds-more, folds-names, same_taken, named-map, named-both}
use Rattle.partition_store.specs.Stands.{reads_of, held_or, held_now, framing_of, AreLeft, Leaves, IsNext, StandsNear, LeavesNear, LeavesAtEach}

-- a record file holds records
pub framing-records : (q : ℕ) → 1 < q → framing_of q ≡ record_len
framing-records q above = pick (nat_lt q 2) (let not : nat_lt q 2 ≡ false = grind (arith, nat_tests) in not)
  where
    pick : (b : Bool) → b ≡ false → (if b then meta_len else record_len) ≡ record_len
    pick b is = ap (λ (x : Bool). if x then meta_len else record_len) is

pub next_same : (file : ℕ) → IsNext file file
next_same file = record { from = omega arith; to = omega arith }

pub near_of : (P : ReplicaState → Type 0) (file : ℕ) (c : Contents) (h : Held) → held_in c ≡ Some h → P (replica_of h) → IsNext file h.file → StandsNear P file c
near_of P file c h is has near = record { stands = record { held = h; is = is; has = has }; near = near }

-- what they stand for
pub now_is : (s : Files) (h : Held) → held_in (reads_of s) ≡ Some h → held_now s ≡ h
now_is s h is = ap held_or is

-- a file that is on the disk is left as it was
pub left_plain : (f g : File) (c : List ℕ) → IsPlain f → g ≡ f → IsImage g c → c ≡ f.reads
left_plain f g c plain same image = plain_image f c plain (subst (λ (x : File). IsImage x c) same image)

pub tidy-plain : (end : ℕ) (f : File) → IsTidyJournal end f → IsPlain f
tidy-plain end f tidy = tidy.is ∙ ap settled (sym (ap (λ (g : File). g.reads) tidy.is))

module _ (old : Files) (h : Held) (held : held_in (reads_of old) ≡ Some h) (synced : EachNamed (λ q. IsPlain (old q)) (entries_in (old 0).reads)) where
  abbrev es : List Meta
  es = entries_in (old 0).reads

  abbrev tab : Table
  tab = table_of (reads_of old)

  pub folds : Folds (table_of (reads_of old)) (entries_in (old 0).reads) none_held h
  folds = some-folds tab es none_held h held

  pub within : EachNamed (λ q. (1 < q) × (q ≤ h.file)) (entries_in (old 0).reads)
  within = (folds-names tab es none_held h folds).1

  pub synced_within : EachNamed (λ q. IsPlain (old q) × ((1 < q) × (q ≤ h.file))) (entries_in (old 0).reads)
  synced_within = named-both (λ q. IsPlain (old q)) (λ q. (1 < q) × (q ≤ h.file)) es synced within

  -- the named files hold what they held, in each image of files of which these are as they were
  pub left_named : (s : Files) (c : Contents) → ((q : ℕ) → IsImage (s q) (c q)) → ((q : ℕ) → 1 < q → q ≤ h.file → s q ≡ old q) → EachNamed (λ q. table_of (reads_of old) q ≡ table_of c q) (entries_in (old 0).reads)
  left_named s c image same = named-map (λ q. IsPlain (old q) × ((1 < q) × (q ≤ h.file))) (λ q. tab q ≡ table_of c q) es
      (λ q it. ap records_in (sym (left_plain (old q) (s q) (c q) it.0 (same q it.1.0 it.1.1) (image q))))
      synced_within

  -- and as they are read
  pub now_named : (s : Files) → ((q : ℕ) → 1 < q → q ≤ h.file → s q ≡ old q) → EachNamed (λ q. table_of (reads_of old) q ≡ table_of (reads_of s) q) (entries_in (old 0).reads)
  now_named s same = named-map (λ q. (1 < q) × (q ≤ h.file)) (λ q. tab q ≡ table_of (reads_of s) q) es (λ q it. ap (λ (f : File). records_in f.reads) (sym (same q it.0 it.1))) within

  -- and are on the disk
  pub still_plain : (s : Files) → ((q : ℕ) → 1 < q → q ≤ h.file → s q ≡ old q) → EachNamed (λ q. IsPlain (s q)) (entries_in (old 0).reads)
  still_plain s same = named-map (λ q. IsPlain (old q) × ((1 < q) × (q ≤ h.file))) (λ q. IsPlain (s q)) es
      (λ q it. subst IsPlain (sym (same q it.1.0 it.1.1)) it.0)
      synced_within

  -- the same entries over the same records
  pub held_same : (c : Contents) → entries_in (c 0) ≡ entries_in (old 0).reads → EachNamed (λ q. table_of (reads_of old) q ≡ table_of c q) (entries_in (old 0).reads) → held_in c ≡ Some h
  held_same c entries named = ap (λ (l : List Meta). folded (table_of c) l none_held) entries ∙ folds-some (table_of c) es none_held h (folds-alike tab (table_of c) es none_held h named folds)

  -- and one entry more
  pub held_more : (c : Contents) (e : Meta) → entries_in (c 0) ≡ entries_in (old 0).reads ++ e ∷ [] → EachNamed (λ q. table_of (reads_of old) q ≡ table_of c q) (entries_in (old 0).reads) → IfNames (λ q. table_of (reads_of old) q ≡ table_of c q) e
      → IsTaken (table_of (reads_of old)) h e → held_in c ≡ Some (held_after (table_of (reads_of old)) h e)
  held_more c e entries named it taken =
      let there = same_taken tab (table_of c) h e it taken in
      ap (λ (l : List Meta). folded (table_of c) l none_held) entries
      ∙ folds-some (table_of c) (es ++ e ∷ []) none_held (held_after (table_of c) h e) (folds-more (table_of c) es e none_held h (folds-alike tab (table_of c) es none_held h named folds) there.0)
      ∙ ap (λ (g : Held). Some g) (sym there.1)

  -- the journal is left as it was
  pub left_journal : (end : ℕ) → IsTidyJournal end (old 0) → (s : Files) (c : Contents) → s 0 ≡ old 0 → IsImage (s 0) (c 0) → entries_in (c 0) ≡ entries_in (old 0).reads
  left_journal end tidy s c same image = ap entries_in (left_plain (old 0) (s 0) (c 0) (tidy-plain end (old 0) tidy) same image)

  -- where nothing that the files stand for was touched, they still do
  module _ (plain : Type 0) (end : ℕ) (tidy : IsTidyJournal end (old 0)) (s : Files) (journal : s 0 ≡ old 0) (same : (q : ℕ) → 1 < q → q ≤ h.file → s q ≡ old q) where
    left_held : (c : Contents) → AreLeft plain s c → held_in c ≡ Some h
    left_held c left = held_same c (left_journal end tidy s c journal (left 0).image) (left_named s c (λ q. (left q).image) same)

    pub leaves_same : Leaves plain (λ r. r ≡ replica_of h) s
    leaves_same c left = record { held = h; is = left_held c left; has = refl }

    pub near_same : LeavesNear plain (λ r. r ≡ replica_of h) h.file s
    near_same c left = near_of (λ r. r ≡ replica_of h) h.file c h (left_held c left) refl (next_same h.file)

-- what stands for a state with P stands for one with Q
pub leaves_weaker : (plain : Type 0) (P Q : ReplicaState → Type 0) (file : ℕ) (s : Files) → ((r : ReplicaState) → P r → Q r) → LeavesNear plain P file s → LeavesNear plain Q file s
leaves_weaker plain P Q file s to leaves c left =
    let found = leaves c left in
    record { stands = record { held = found.stands.held; is = found.stands.is; has = to (replica_of found.stands.held) found.stands.has }; near = found.near }

-- a run that began with files which leave such a state
pub leaves_run : (plain : Type 0) (P : ReplicaState → Type 0) (old new : History) → AtEach (LeavesNear plain P (held_now old.now).file) old new → LeavesNear plain P (held_now old.now).file old.now → LeavesAtEach plain P old new
leaves_run plain P old new each first = record { each = each; now = each_now (LeavesNear plain P (held_now old.now).file) old new each first }

-- the same at each moment
pub at_each_weaker : (plain : Type 0) (P Q : ReplicaState → Type 0) (old new : History) → ((r : ReplicaState) → P r → Q r) → LeavesAtEach plain P old new → LeavesAtEach plain Q old new
at_each_weaker plain P Q old new to run =
    let file = (held_now old.now).file in
    record {
      each = each_weaker (LeavesNear plain Q file) (LeavesNear plain P file) old new run.each (λ s. leaves_weaker plain P Q file s to);
      now = leaves_weaker plain P Q file new.now to run.now;
    }

-- one run, and then another
pub then_leaves : (plain : Type 0) (P : ReplicaState → Type 0) (old mid new : History) → (held_now mid.now).file ≡ (held_now old.now).file → LeavesAtEach plain P old mid → LeavesAtEach plain P mid new → LeavesAtEach plain P old new
then_leaves plain P old mid new file first next = record {
  each = and_then (LeavesNear plain P (held_now old.now).file) old mid new first.each (subst (λ (n : ℕ). AtEach (LeavesNear plain P n) mid new) file next.each);
  now = subst (λ (n : ℕ). LeavesNear plain P n new.now) file next.now;
}
