-- Records added to the last file, over the history of the disk.
use Rattle.std.proofs.Common.{◌≡◌, ◌≢◌, inl, inr, ℕ, ◌+◌, ◌-◌, ◌^◌, ◌<◌, ◌≤◌, true, List, [], ◌∷◌, ◌++◌, length, take, drop, refl, sym, ◌∙◌, ap, subst, arith, append_assoc, length-append, length-drop, Option, Some, None}
use Rattle.std.specs.Prelude.{if◌then◌else◌, ◌==◌, max}
use Rattle.std.proofs.lemmas.Bool.{cases_eq}
use Rattle.std.proofs.lemmas.Bool.Decides.{nat_tests}
use Rattle.std.proofs.lemmas.List.{append-nil, drop_all}
use Rattle.tx_model.specs.declared.record.Record.{Record}
use Rattle.tx_model.specs.Records.{RiseByOne, IsBatch, first_id, ids_rise}
use Rattle.tx_model.specs.declared.meta.Meta.{Meta}
use Rattle.tx_model.specs.Framing.{record_len}
use Rattle.tx_model.specs.Contents.{records_in, entries_in}
use Rattle.tx_model.proofs.Batches.{RiseByOne-take, RiseByOne-drop}
use Rattle.tx_model.proofs.RisingIds.{rise-ids}
use Rattle.disk_model.specs.File.{File, IsPlain}
use Rattle.disk_model.specs.Chance.{MayLeave}
use Rattle.disk_model.specs.History.{Files, History, EachMoment}
use Rattle.disk_model.proofs.Moments.{of_file}
use Rattle.meta_journal.specs.Entries.{IsTidy as IsTidyJournal}
use Rattle.segment_store.specs.Records.{HasPrefixOf, EachLeftHolds}
use Rattle.segment_store.specs.Index.{Index, count_of, IsTidy as IsTidySegment}
use Rattle.proto_model.specs.Replicas.{ReplicaState}
use Rattle.proto_model.specs.Crashes.{unstaged}
use Rattle.proto_model.specs.Parts.{with_batch}
use Rattle.proto_model.specs.Held.{Held, Table, Contents, none_held, with_more, folded, Folds, EachNamed, replica_of, table_of, held_in}
use Rattle.proto_model.proofs.Folding.{folds-some, folds-alike, named-map, grows, IsGrown, none_sane}
use Rattle.partition_store.specs.Stands.{reads_of, held_now, LeavesNear, LeavesAtEach, HasSome}
use Rattle.partition_store.specs.Stores.{Kept, state_by, lacking, staged_count, records_at, records_by, IsChain, AreClosed, AreInOrder, IsLast, IsLastOf, IsStagedOf, IsFit, IsSound}
use Rattle.partition_store.proofs.Left.{framing-records, now_is, folds, synced_within, left_plain, left_journal, near_of, next_same, near_same, leaves_weaker, leaves_run}
use Rattle.partition_store.proofs.Same.{closed_same, records_by-same}
use Rattle.partition_store.proofs.Whole.{segment-plain}

-- one file holds other records
abbrev swapped : Table → ℕ → List Record → Table
swapped tab file rs q = if q == file then rs else tab q

module _ (old : Files) (h : Held) (held : held_in (reads_of old) ≡ Some h) (synced : EachNamed (λ q. IsPlain (old q)) (entries_in (old 0).reads)) (above : 1 < h.file) where
  abbrev es : List Meta
  es = entries_in (old 0).reads

  abbrev tab : Table
  tab = table_of (reads_of old)

  named : EachNamed (λ q. IsPlain (old q) × ((1 < q) × (q ≤ h.file))) (entries_in (old 0).reads)
  named = synced_within old h held synced

  -- the same entries, and more records in the last file
  held_grown : (c : Contents) (x : List Record) → entries_in (c 0) ≡ entries_in (old 0).reads → records_in (c h.file) ≡ records_in (old h.file).reads ++ x
      → EachNamed (λ q. q ≢ h.file → table_of (reads_of old) q ≡ table_of c q) (entries_in (old 0).reads) → ids_rise (length h.log + 1) x ≡ true → held_in c ≡ Some (with_more h x)
  held_grown c x entries records same ids =
      let other : Table = swapped tab h.file (records_in (c h.file)) in
      let grown : IsGrown tab other x h = record {
        others = λ q not. (let it : tab q ≡ (if q == h.file then records_in (c h.file) else tab q) = grind (arith, nat_tests) in it);
        more = (let it : (if h.file == h.file then records_in (c h.file) else tab h.file) ≡ records_in (c h.file) = grind (arith, nat_tests) in it) ∙ records;
        ids = ids;
      } in
      let after : Folds other es none_held (with_more h x) = grows tab other x es none_held h above none_sane grown (folds old h held synced) in
      let there : EachNamed (λ q. other q ≡ table_of c q) es = named-map (λ q. q ≢ h.file → tab q ≡ table_of c q) (λ q. other q ≡ table_of c q) es
      (λ q it. elim (cases_eq q h.file) [
        | inl here ↦ (let now : (if q == h.file then records_in (c h.file) else tab q) ≡ records_in (c h.file) = grind (arith, nat_tests) in now ∙ ap (λ (n : ℕ). records_in (c n)) (sym here))
        | inr not ↦ (let now : (if q == h.file then records_in (c h.file) else tab q) ≡ tab q = grind (arith, nat_tests) in now ∙ it not)
      ]) same in
      ap (λ (l : List Meta). folded (table_of c) l none_held) entries ∙ folds-some (table_of c) es none_held (with_more h x) (folds-alike other (table_of c) es none_held (with_more h x) there after)

  module _ (end : ℕ) (tidy : IsTidyJournal end (old 0)) (rs : List Record) (ids : RiseByOne (length h.log + 1) rs) where
    some_ids : (k : ℕ) → ids_rise (length h.log + 1) (take k rs) ≡ true
    some_ids k = rise-ids (length h.log + 1) (take k rs) (RiseByOne-take (length h.log + 1) rs k ids)

    pub add_moment : (plain : Type 0) (s : Files) → EachLeftHolds plain (HasPrefixOf (records_in (old h.file).reads) rs) (s h.file) → ((q : ℕ) → q ≢ h.file → s q ≡ old q) → LeavesNear plain (HasSome (replica_of h) rs) h.file s
    add_moment plain s records others c left =
        let here : MayLeave plain record_len (s h.file) (c h.file) = subst (λ (len : List ℕ → ℕ). MayLeave plain len (s h.file) (c h.file)) (framing-records h.file above) (left h.file) in
        let found = records (c h.file) here in
        let same = named-map (λ q. IsPlain (old q) × ((1 < q) × (q ≤ h.file))) (λ q. q ≢ h.file → tab q ≡ table_of c q) es
        (λ q it not. ap records_in (sym (left_plain (old q) (s q) (c q) it.0 (others q not) (left q).image))) named in
        near_of (HasSome (replica_of h) rs) h.file c (with_more h (take found.0 rs))
        (held_grown c (take found.0 rs) (left_journal old h held synced end tidy s c (others 0 (omega (arith, above))) (left 0).image) found.2 same (some_ids found.0))
        (found.0, found.1, refl) (next_same h.file)

    pub add_first : (plain : Type 0) → LeavesNear plain (HasSome (replica_of h) rs) h.file old
    add_first plain = leaves_weaker plain (λ r. r ≡ replica_of h) (HasSome (replica_of h) rs) h.file old
        (λ r is. (0, omega arith, is ∙ ap (λ (l : List Record). record (replica_of h) { log = l }) (sym (append-nil h.log))))
        (near_same old h held synced plain end tidy old refl (λ q over below. refl))

    -- then it has all of them
    pub add_held : (new : Files) → records_in (new h.file).reads ≡ records_in (old h.file).reads ++ rs → ((q : ℕ) → q ≢ h.file → new q ≡ old q) → held_in (reads_of new) ≡ Some (with_more h rs)
    add_held new records others =
        held_grown (reads_of new) rs (ap (λ (f : File). entries_in f.reads) (others 0 (omega (arith, above)))) records
        (named-map (λ q. IsPlain (old q) × ((1 < q) × (q ≤ h.file))) (λ q. q ≢ h.file → tab q ≡ table_of (reads_of new) q) es
        (λ q it not. ap (λ (f : File). records_in f.reads) (sym (others q not))) named)
        (rise-ids (length h.log + 1) rs ids)

    pub add_plain : (new : Files) → IsPlain (new h.file) → ((q : ℕ) → q ≢ h.file → new q ≡ old q) → EachNamed (λ q. IsPlain (new q)) (entries_in (new 0).reads)
    add_plain new it others =
        subst (λ (l : List Meta). EachNamed (λ q. IsPlain (new q)) l) (sym (ap (λ (f : File). entries_in f.reads) (others 0 (omega (arith, above)))))
        (named-map (λ q. IsPlain (old q) × ((1 < q) × (q ≤ h.file))) (λ q. IsPlain (new q)) es
        (λ q was. elim (cases_eq q h.file) [
          | inl here ↦ subst (λ (n : ℕ). IsPlain (new n)) (sym here) it
          | inr not ↦ subst IsPlain (sym (others q not)) was.0
        ]) named)

-- ---- what the store keeps

pub added_ids : {D : Type 0} (k : Kept D) (i : Index) (rs : List Record) → k.last ≡ Some i → IsFit k → RiseByOne (k.status.length + 1) rs → RiseByOne (i.first + count_of i) rs
added_ids k i rs is fit rise =
    let order = subst (λ (o : Option Index). AreInOrder k.closed o k.status.length) is fit.order in
    subst (λ (n : ℕ). RiseByOne n rs) (sym order.1) rise

rise-limit : (id : ℕ) (rs : List Record) → id ≤ 2 ^ 48 → RiseByOne id rs → id + length rs ≤ 2 ^ 48
unfolding RiseByOne
rise-limit id [] small rise = omega (arith, small)
rise-limit id (r ∷ rs) small rise = omega (arith, rise-limit (id + 1) rs (omega (arith, rise.0.id.below, rise.1)) rise.2)

pub added_fit : {D : Type 0} (k : Kept D) (i j : Index) (rs : List Record) → k.last ≡ Some i → IsFit k → RiseByOne (k.status.length + 1) rs → k.staged ≡ None → (disk : D) → j.first ≡ i.first → count_of j ≡ count_of i + length rs
    → IsFit (record k { disk = disk; status = record k.status { length = k.status.length + length rs }; last = Some j })
added_fit k i j rs is fit rise none disk first count =
    let order = subst (λ (o : Option Index). AreInOrder k.closed o k.status.length) is fit.order in
    record {
      range = record {
        promised = fit.range.promised;
        adopted = fit.range.adopted;
        low = omega (arith, fit.range.low);
        length = omega (arith, rise-limit (k.status.length + 1) rs (omega (arith, fit.range.length)) rise);
      };
      none = λ no_last. absurd (cc no_last);
      order = (subst (λ (n : ℕ). IsChain 1 k.closed n) (sym first) order.0, omega (arith, first, count, order.1));
      staged = fit.staged;
    }

module _ {D : Type 0} (plain : Type 0) (history : D → History) (k : Kept D) (sound : IsSound (history k.disk).now k) (i : Index) (is : k.last ≡ Some i) (rs : List Record) (rise : RiseByOne (k.status.length + 1) rs) where
  abbrev before : Files
  before = (history k.disk).now

  abbrev was : Held
  was = held_now (history k.disk).now

  last : IsLast (history k.disk).now (held_now (history k.disk).now) i
  last = subst (λ (o : Option Index). IsLastOf before was o) is sound.last

  pub added_tidy : IsTidySegment i ((history k.disk).now i.file)
  added_tidy = last.tidy

  ids : RiseByOne (length (held_now (history k.disk).now).log + 1) rs
  ids = subst (λ (n : ℕ). RiseByOne (n + 1) rs) sound.standing.length rise

  -- at each moment
  pub adds : (new : History) → EachMoment i.file (EachLeftHolds plain (HasPrefixOf (records_in ((history k.disk).now i.file).reads) rs)) (history k.disk) new → LeavesAtEach plain (HasSome (state_by history k) rs) (history k.disk) new
  adds new run =
      let here = subst (λ (q : ℕ). EachMoment q (EachLeftHolds plain (HasPrefixOf (records_in (before q).reads) rs)) (history k.disk) new) last.file run in
      leaves_run plain (HasSome (replica_of was) rs) (history k.disk) new
      (of_file was.file (EachLeftHolds plain (HasPrefixOf (records_in (before was.file).reads) rs)) (LeavesNear plain (HasSome (replica_of was) rs) was.file) (history k.disk) new here
      (add_moment before was sound.standing.held sound.plain last.above k.journal sound.journal rs ids plain))
      (add_first before was sound.standing.held sound.plain last.above k.journal sound.journal rs ids plain)

  -- and then
  module _ (new : Files) (records : records_in (new i.file).reads ≡ records_in ((history k.disk).now i.file).reads ++ rs) (others : (q : ℕ) → q ≢ i.file → new q ≡ (history k.disk).now q) (none : k.staged ≡ None) where
    others_last : (q : ℕ) → q ≢ was.file → new q ≡ before q
    others_last q not = others q (λ e. not (e ∙ last.file))

    adds_held : held_in (reads_of new) ≡ Some (with_more (held_now (history k.disk).now) rs)
    adds_held =
        add_held before was sound.standing.held sound.plain last.above k.journal sound.journal rs ids new
        (subst (λ (q : ℕ). records_in (new q).reads ≡ records_in (before q).reads ++ rs) last.file records) others_last

    now : held_now new ≡ with_more (held_now (history k.disk).now) rs
    now = now_is new _ adds_held

    no_staged : (s : Files) (g : Held) → (staged_count k.staged ≡ length (records_at s k.staged)) × (IsStagedOf s g k.staged × (records_at s k.staged ≡ []))
    no_staged s g = subst (λ (o : Option Index). (staged_count o ≡ length (records_at s o)) × (IsStagedOf s g o × (records_at s o ≡ []))) (sym none) (refl, (tt, refl))

    pub added_state : record (replica_of (held_now new)) { staged = records_at new k.staged } ≡ record (state_by history k) { log = (state_by history k).log ++ rs }
    added_state =
        ap (λ (g : Held). record (replica_of g) { staged = records_at new k.staged }) now
        ∙ ap (λ (l : List Record). record (replica_of (with_more was rs)) { staged = l }) ((no_staged new was).1.1 ∙ sym (no_staged before was).1.1)

    read_same : (q : ℕ) → 1 < q → q < was.file → reads_of new q ≡ reads_of before q
    read_same q over below = ap (λ (f : File). f.reads) (others_last q (omega (arith, below)))

    pub added_sound : (disk : D) (j : Index) → j.file ≡ i.file → IsTidySegment j (new j.file) → IsSound new (record k { disk = disk; status = record k.status { length = k.status.length + length rs }; last = Some j })
    added_sound disk j place tidy =
        let file_is : (held_now new).file ≡ was.file = ap (λ (g : Held). g.file) now in
        record {
          standing = record {
            held = adds_held ∙ ap (λ (h : Held). Some h) (sym now);
            promised = sound.standing.promised ∙ sym (ap (λ (h : Held). h.promised) now);
            adopted = sound.standing.adopted ∙ sym (ap (λ (h : Held). h.adopted) now);
            low = sound.standing.low ∙ sym (ap (λ (h : Held). h.low) now);
            file = sound.standing.file ∙ sym file_is;
            staged = (no_staged new was).0;
            length = omega (arith, sound.standing.length, ap (λ (h : Held). length h.log) now, length-append was.log rs);
          };
          journal = subst (λ (f : File). IsTidyJournal k.journal f) (sym (others 0 (omega (arith, last.file, last.above)))) sound.journal;
          plain =
              add_plain before was sound.standing.held sound.plain last.above k.journal sound.journal rs ids new
              (subst (λ (q : ℕ). IsPlain (new q)) (place ∙ last.file) (segment-plain j (new j.file) tidy)) others_last;
          closed = subst (λ (n : ℕ). AreClosed (reads_of new) n k.closed) (sym file_is) (closed_same (reads_of before) (reads_of new) was.file k.closed read_same sound.closed);
          last = record { file = place ∙ last.file ∙ sym file_is; above = omega (arith, last.above, file_is); tidy = tidy };
          log =
              ap (λ (h : Held). h.log) now
              ∙ ap (λ (l : List Record). l ++ rs) (sound.log ∙ ap (λ (o : Option Index). records_by (reads_of before) k.closed ++ records_at before o) is)
              ∙ append_assoc (records_by (reads_of before) k.closed) (records_in (before i.file).reads) rs
              ∙ ap (λ (l : List Record). l ++ (records_in (before i.file).reads ++ rs)) (sym (records_by-same (reads_of before) (reads_of new) was.file k.closed read_same sound.closed))
              ∙ ap (λ (l : List Record). records_by (reads_of new) k.closed ++ l) (sym records ∙ ap (λ (q : ℕ). records_in (new q).reads) (sym place));
          staged = (no_staged new (held_now new)).1.0;
        }

-- ---- a batch

-- what the log lacks of a batch goes on from it
pub lacking_rise : (log known : ℕ) (b : List Record) → IsBatch b → first_id b ≤ log + 1 → known ≡ log + 1 - first_id b → known < length b → RiseByOne (log + 1) (drop known b)
lacking_rise log known b batch within is some =
    subst (λ (n : ℕ). RiseByOne n (drop known b)) (omega (arith, is, within)) (RiseByOne-drop (first_id b) b known (omega arith) batch.rise)

module _ {D : Type 0} (history : D → History) (k : Kept D) (sound : IsSound (history k.disk).now k) (b : List Record) where
  pub lacks : drop (k.status.length + 1 - first_id b) b ≡ lacking (state_by history k).log b
  lacks = ap (λ (n : ℕ). drop (n + 1 - first_id b) b) sound.standing.length

  -- it lacks none
  module _ (known : length b ≤ k.status.length + 1 - first_id b) where
    none_lacking : lacking (state_by history k).log b ≡ []
    none_lacking = sym lacks ∙ drop_all (k.status.length + 1 - first_id b) b known

    same_log : (state_by history k).log ++ lacking (state_by history k).log b ≡ (state_by history k).log
    same_log = ap (λ (l : List Record). (state_by history k).log ++ l) none_lacking ∙ append-nil (state_by history k).log

    pub same_batch : state_by history k ≡ with_batch (state_by history k) b
    same_batch = ap (λ (l : List Record). record (state_by history k) { log = l }) (sym same_log)

-- nothing was added yet
pub has_none : (old : ReplicaState) (records : List Record) (r : ReplicaState) → r ≡ unstaged old → HasSome old records r
has_none old records r is = (0, omega arith, is ∙ ap (λ (l : List Record). unstaged (record old { log = l })) (sym (append-nil old.log)))

pub new-length : (log : ℕ) (b : List Record) → first_id b ≤ log + 1 → log + 1 - first_id b < length b → log + length (drop (log + 1 - first_id b) b) ≡ max log (first_id b + length b - 1)
new-length log b within some =
    let long : length (drop (log + 1 - first_id b) b) + (log + 1 - first_id b) ≡ length b = omega (arith, length-drop (log + 1 - first_id b) b, some) in
    let sum : log + length (drop (log + 1 - first_id b) b) ≡ first_id b + length b - 1 = omega (arith, long, within) in
    grind (arith, sum)

pub old-length : (log : ℕ) (b : List Record) → first_id b ≤ log + 1 → length b ≤ log + 1 - first_id b → log ≡ max log (first_id b + length b - 1)
old-length log b within known = grind (arith, known, within)
