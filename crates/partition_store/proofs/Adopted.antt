-- An adoption names the file of the staged records.
use Rattle.std.proofs.Common.{◌≡◌, ◌≢◌, ◌⊎◌, inl, inr, ℕ, ◌+◌, ◌<◌, ◌≤◌, ◌^◌, List, [], ◌∷◌, ◌++◌, length, take, refl, sym, ◌∙◌, ap, subst, arith, length-append, Option, Some, None}
use Rattle.std.specs.Prelude.{nat_le, nat_lt, ◌==◌}
use Rattle.std.specs.Option.{option_to_list}
use Rattle.std.proofs.lemmas.Bool.{and_from, le-leb, lt-ltb, eq-eqb}
use Rattle.std.proofs.lemmas.List.{append-nil, length-take-le, take_all}
use Rattle.tx_model.specs.declared.record.Record.{Record}
use Rattle.tx_model.specs.Records.{IsPlace, RiseByOne, ids_rise}
use Rattle.tx_model.specs.declared.meta.Meta.{Meta}
use Rattle.tx_model.specs.declared.meta.Meta.TheVariants.{Adopt}
use Rattle.tx_model.specs.Contents.{records_in}
use Rattle.tx_model.proofs.RisingIds.{rise-ids}
use Rattle.disk_model.specs.File.{File, IsPlain}
use Rattle.disk_model.specs.History.{Files, History, EachMoment}
use Rattle.meta_journal.specs.Entries.{entries_at, HasEntry, EachLeftHas, IsEntered}
use Rattle.segment_store.specs.Index.{Index, count_of, IsIndexOfAll, IsTidy as IsTidySegment}
use Rattle.segment_store.proofs.Indexing.{index-none}
use Rattle.segment_store.proofs.Staged.{synced-tidy}
use Rattle.proto_model.specs.Parts.{adopted_to}
use Rattle.proto_model.specs.Held.{Held, IsTaken, held_after, replica_of, table_of}
use Rattle.proto_model.proofs.Folding.{IsSane, none_sane, folds-sane}
use Rattle.partition_store.specs.Stands.{IsNext, reads_of, held_now, LeavesAtEach, IsOldOrNew}
use Rattle.partition_store.specs.Stores.{Kept, state_by, staged_count, records_at, records_by, IsChain, AreClosed, AreCut, AreInOrder, AreStagedFrom, IsLastOf, IsStagedOf, IsReady, IsFit, IsSound, begun}
use Rattle.partition_store.proofs.Left.{folds, at_each_weaker}
use Rattle.partition_store.proofs.Same.{closed_same, records_by-same}
use Rattle.partition_store.proofs.Entered.{enters, enter_held, enter_now, enter_plain}
use Rattle.partition_store.proofs.Begun.{none_in}
use Rattle.partition_store.proofs.Whole.{all-count, all-rise, tidy-all}
use Rattle.partition_store.proofs.Aside.{next_is, above_first}
use Rattle.partition_store.proofs.Chains.{chain-more, records_by-append, records_by-one, closed-append, closed-higher}

-- ---- what becomes the last segment

record IsBegun (s : Files) (file first : ℕ) (o : Option Index) : Type 0 where
  pub place : (begun file first o).file ≡ file
  pub all : IsIndexOfAll (begun file first o) (s file).reads
  pub records : records_at s o ≡ records_in (s file).reads

begun_parts : (s : Files) (h : Held) (file first : ℕ) → file ≡ h.file + 1 → (o : Option Index) → IsStagedOf s h o → (o ≡ None → (s file).reads ≡ []) → IsBegun s file first o
begun_parts s h file first next None it none = record {
  place = refl;
  all = subst (λ (l : List ℕ). IsIndexOfAll (record { file = file; first = first; starts = []; end = 0 }) l) (sym (none refl)) (record { index = index-none file first []; ends = refl });
  records = sym (ap records_in (none refl) ∙ none_in);
}
begun_parts s h file first next (Some i) it none =
    let place : i.file ≡ file = it.file ∙ sym next in
    record {
      place = place;
      all = subst (λ (q : ℕ). IsIndexOfAll i (s q).reads) place it.all;
      records = ap (λ (q : ℕ). records_in (s q).reads) place;
    }

record HasFirst (file first : ℕ) (o : Option Index) : Type 0 where
  pub first_is : (begun file first o).first ≡ first
  pub count : count_of (begun file first o) ≡ staged_count o
  pub bound : first + staged_count o ≤ 2 ^ 48

begun_first : (file first : ℕ) → first ≤ 2 ^ 48 → (o : Option Index) → AreStagedFrom first o → HasFirst file first o
begun_first file first small None it = record { first_is = refl; count = refl; bound = omega (arith, small) }
begun_first file first small (Some i) it = record { first_is = it.0; count = refl; bound = it.2 }

-- ---- what is true whether or not the disk tells

module _ {D : Type 0} (k : Kept D) (fit : IsFit k) (file : ℕ) where
  first_parts : HasFirst file (k.status.low + 1) k.staged
  first_parts = begun_first file (k.status.low + 1) (omega (arith, fit.range.low, fit.range.length)) k.staged fit.staged

  -- the chain that is cut
  pub whole-chain : IsChain 1 (k.closed ++ option_to_list k.last) (k.status.length + 1)
  unfolding IsChain
  whole-chain = by_case k.last fit.order
    where
      by_case : (o : Option Index) → AreInOrder k.closed o k.status.length → IsChain 1 (k.closed ++ option_to_list o) (k.status.length + 1)
      by_case None it =
          let none : k.closed ++ [] ≡ [] = append-nil k.closed ∙ it.0 in
          subst (λ (l : List Index). IsChain 1 l (k.status.length + 1)) (sym none) (omega (arith, it.1))
      by_case (Some i) it = subst (λ (n : ℕ). IsChain 1 (k.closed ++ i ∷ []) n) it.1 (chain-more 1 k.closed i it.0)

  pub adopted_place : (session : ℕ) → session ≡ k.status.promised → k.status.adopted < session → IsPlace session
  adopted_place session promised later = record { some = omega (arith, later); below = omega (arith, promised, fit.range.promised) }

  pub adopted_fit : (count : ℕ) → count ≡ staged_count k.staged → (session : ℕ) → session ≡ k.status.promised → (disk : D) (end : ℕ) (closed : List Index) → IsChain 1 closed (k.status.low + 1)
      → IsFit (record k { disk = disk; journal = end; status = record k.status { adopted = session; length = k.status.low + count; file = file }; closed = closed; last = Some (begun file (k.status.low + 1) k.staged); staged = None })
  adopted_fit count counted session promised disk end closed chain = record {
    range = record { promised = fit.range.promised; adopted = omega (arith, promised); low = omega arith; length = omega (arith, first_parts.bound, counted) };
    none = λ none. absurd (cc none);
    order = (subst (λ (n : ℕ). IsChain 1 closed n) (sym first_parts.first_is) chain, omega (arith, first_parts.first_is, first_parts.count, counted));
    staged = tt;
  }

-- ---- where it tells

last_closed : (s : Files) (h : Held) (file : ℕ) → h.file < file → (o : Option Index) → IsLastOf s h o → AreClosed (reads_of s) file (option_to_list o)
last_closed s h file below None it = tt
last_closed s h file below (Some i) it = (record { above = omega (arith, it.file, it.above); below = omega (arith, it.file, below); index = it.tidy.index }, tt)

last_records : (s : Files) (h : Held) (o : Option Index) → IsLastOf s h o → records_by (reads_of s) (option_to_list o) ≡ records_at s o
unfolding records_by
last_records s h None it = refl
last_records s h (Some i) it = records_by-one (reads_of s) i ∙ take_all (count_of i) (records_in (s i.file).reads) (omega (arith, all-count i (s i.file).reads (tidy-all i (s i.file) it.tidy)))

module _ {D : Type 0} (plain : Type 0) (history : D → History) (k : Kept D) (fit : IsFit k) (sound : IsSound (history k.disk).now k) (session : ℕ) (promised : session ≡ k.status.promised) (later : k.status.adopted < session)
    (file : ℕ) (next : file ≡ k.status.file + 1) (count : ℕ) (counted : count ≡ staged_count k.staged) (ready : IsReady (history k.disk).now file k.staged) where
  abbrev old : Files
  old = (history k.disk).now

  abbrev h : Held
  h = held_now (history k.disk).now

  abbrev i : Index
  i = begun file (k.status.low + 1) k.staged

  abbrev e : Meta
  e = Adopt session (k.status.low + 1) file count

  parts : IsBegun (history k.disk).now file (k.status.low + 1) k.staged
  parts = begun_parts old h file (k.status.low + 1) (next_is plain history k sound file next) k.staged sound.staged ready.none

  first : HasFirst file (k.status.low + 1) k.staged
  first = first_parts k fit file

  count_is : count ≡ length (records_in ((history k.disk).now file).reads)
  count_is = counted ∙ sym first.count ∙ all-count i (old file).reads parts.all

  taken : IsTaken (table_of (reads_of (history k.disk).now)) (held_now (history k.disk).now) (Adopt session (k.status.low + 1) file count)
  taken = record {
    legal =
        and_from (session == h.promised) _ (eq-eqb session h.promised (promised ∙ sound.standing.promised))
        (and_from (nat_lt h.adopted session) _ (lt-ltb h.adopted session (omega (arith, later, sound.standing.adopted)))
        (and_from (k.status.low + 1 == h.low + 1) (nat_lt h.file file) (eq-eqb (k.status.low + 1) (h.low + 1) (omega (arith, sound.standing.low))) (lt-ltb h.file file (omega (arith, next_is plain history k sound file next)))));
    records = and_from (nat_le count (length (records_in (old file).reads))) (ids_rise (k.status.low + 1) (records_in (old file).reads)) (le-leb count (length (records_in (old file).reads)) (omega (arith, count_is)))
        (rise-ids (k.status.low + 1) (records_in (old file).reads) (subst (λ (n : ℕ). RiseByOne n (records_in (old file).reads)) first.first_is (all-rise i (old file).reads parts.all)));
  }

  names : (1 < file) × IsPlain ((history k.disk).now file)
  names = (above_first plain history k sound file next, ready.plain)

  then_next : IsNext h.file file
  then_next = let is = next_is plain history k sound file next in record { from = omega (arith, is); to = omega (arith, is) }

  abbrev then : Held
  then = held_after (table_of (reads_of (history k.disk).now)) (held_now (history k.disk).now) (Adopt session (k.status.low + 1) file count)

  becomes : replica_of (held_after (table_of (reads_of (history k.disk).now)) (held_now (history k.disk).now) (Adopt session (k.status.low + 1) file count)) ≡ adopted_to (state_by history k) session
  becomes = ap (λ (rs : List Record). record (replica_of h) { adopted = session; log = take h.low h.log ++ rs }) (sym parts.records)

  -- at each moment
  pub adopts : (new : History) → EachMoment 0 (EachLeftHas plain (HasEntry (entries_at (history k.disk)) (Adopt session (k.status.low + 1) file count))) (history k.disk) new
      → LeavesAtEach plain (IsOldOrNew (state_by history k) (adopted_to (state_by history k) session)) (history k.disk) new
  adopts new run = at_each_weaker plain (λ r. (r ≡ replica_of h) ⊎ (r ≡ replica_of then)) (IsOldOrNew (state_by history k) (adopted_to (state_by history k) session)) (history k.disk) new
      (λ r it. elim it [ inl was ↦ inl was | inr now ↦ inr (now ∙ becomes) ])
      (enters plain (history k.disk) k sound e taken names then_next new run)

  -- and then
  module _ (disk : D) (end : ℕ) (entered : IsEntered (Adopt session (k.status.low + 1) file count) end (history k.disk) (history disk)) (others : (q : ℕ) → q ≢ 0 → (history disk).now q ≡ (history k.disk).now q) where
    abbrev new : Files
    new = (history disk).now

    now : held_now (history disk).now ≡ held_after (table_of (reads_of (history k.disk).now)) (held_now (history k.disk).now) (Adopt session (k.status.low + 1) file count)
    now = enter_now plain (history k.disk) k sound e taken names new entered.entries others

    pub adopted_state : (o : Option Index) → o ≡ None → record (replica_of (held_now (history disk).now)) { staged = records_at (history disk).now o } ≡ adopted_to (state_by history k) session
    adopted_state o none =
        ap (λ (p : Option Index). record (replica_of (held_now new)) { staged = records_at new p }) none
        ∙ ap (λ (g : Held). replica_of g) now ∙ becomes

    module _ (closed : List Index) (cut : AreCut k.status.low (k.closed ++ option_to_list k.last) closed) where
      all_closed : AreClosed (reads_of (history k.disk).now) file (k.closed ++ option_to_list k.last)
      all_closed =
          let below : h.file < file = omega (arith, next_is plain history k sound file next) in
          closed-append (reads_of old) file k.closed (option_to_list k.last) (closed-higher (reads_of old) h.file file k.closed (omega (arith, below)) sound.closed) (last_closed old h file below k.last sound.last)

      all_records : records_by (reads_of (history k.disk).now) (k.closed ++ option_to_list k.last) ≡ (held_now (history k.disk).now).log
      all_records =
          records_by-append (reads_of old) k.closed (option_to_list k.last)
          ∙ ap (λ (rs : List Record). records_by (reads_of old) k.closed ++ rs) (last_records old h k.last sound.last)
          ∙ sym sound.log

      read_same : (q : ℕ) → 1 < q → q < file → reads_of (history disk).now q ≡ reads_of (history k.disk).now q
      read_same q above below = ap (λ (f : File). f.reads) (others q (omega (arith, above)))

      now_records : records_by (reads_of (history disk).now) closed ≡ take (held_now (history k.disk).now).low (held_now (history k.disk).now).log
      now_records =
          records_by-same (reads_of old) (reads_of new) file closed read_same (cut.closed (reads_of old) file all_closed)
          ∙ cut.records (reads_of old) file all_closed
          ∙ ap (λ (rs : List Record). take k.status.low rs) all_records
          ∙ ap (λ (n : ℕ). take n h.log) sound.standing.low

      there : new i.file ≡ old file
      there = ap new parts.place ∙ others file (omega (arith, names.0))

      pub adopted_sound : IsSound (history disk).now (record k { disk = disk; journal = end; status = record k.status { adopted = session; length = k.status.low + count; file = file }; closed = closed; last = Some (begun file (k.status.low + 1) k.staged); staged = None })
      adopted_sound =
          let sane : IsSane h = folds-sane _ _ _ h none_sane (folds old h sound.standing.held sound.plain) in
          let file_is : (held_now new).file ≡ file = ap (λ (g : Held). g.file) now in
          record {
            standing = record {
              held = enter_held plain (history k.disk) k sound e taken names new entered.entries others ∙ ap (λ (g : Held). Some g) (sym now);
              promised = sound.standing.promised ∙ sym (ap (λ (g : Held). g.promised) now);
              adopted = sym (ap (λ (g : Held). g.adopted) now);
              low = sound.standing.low ∙ sym (ap (λ (g : Held). g.low) now);
              file = sym file_is;
              staged = refl;
              length = omega (arith, sound.standing.low, count_is, ap (λ (g : Held). length g.log) now, length-append (take h.low h.log) (records_in (old file).reads), length-take-le h.low h.log sane.low);
            };
            journal = entered.tidy;
            plain = enter_plain plain (history k.disk) k sound e taken names new entered.entries others;
            closed = subst (λ (n : ℕ). AreClosed (reads_of new) n closed) (sym file_is) (closed_same (reads_of old) (reads_of new) file closed read_same (cut.closed (reads_of old) file all_closed));
            last = record {
              file = parts.place ∙ sym file_is;
              above = omega (arith, file_is, names.0);
              tidy = subst (λ (f : File). IsTidySegment i f) (sym (there ∙ ready.plain)) (synced-tidy i (old file).reads parts.all);
            };
            log = ap (λ (g : Held). g.log) now
                ∙ ap (λ (rs : List Record). rs ++ records_in (old file).reads) (sym now_records)
                ∙ ap (λ (f : File). records_by (reads_of new) closed ++ records_in f.reads) (sym there);
            staged = tt;
          }
