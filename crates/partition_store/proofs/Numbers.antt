-- A promise and a low mark, over the history of the disk.
use Rattle.std.proofs.Common.{◌≡◌, ◌≢◌, ℕ, ◌+◌, ◌<◌, ◌≤◌, [], length, refl, sym, ◌∙◌, ap, subst, arith, Option, Some, None}
use Rattle.std.specs.Prelude.{nat_le, nat_lt}
use Rattle.std.proofs.lemmas.Bool.{and_from, le-leb, lt-ltb}
use Rattle.tx_model.specs.Records.{IsPlace}
use Rattle.tx_model.specs.declared.meta.Meta.TheVariants.{Promise, Low}
use Rattle.disk_model.specs.History.{Files, History, EachMoment}
use Rattle.meta_journal.specs.Entries.{entries_at, HasEntry, EachLeftHas, IsEntered}
use Rattle.segment_store.specs.Index.{Index}
use Rattle.proto_model.specs.Held.{Held, IsTaken, replica_of, table_of}
use Rattle.proto_model.specs.Parts.{promised_to, lowered_to}
use Rattle.partition_store.specs.Stands.{reads_of, held_now, LeavesAtEach, IsOldOrNew}
use Rattle.partition_store.specs.Stores.{Kept, state_by, state_of, records_at, staged_count, AreStagedFrom, IsFit, IsStagedOf, IsSound}
use Rattle.partition_store.proofs.Same.{same_closed, same_last, same_log}
use Rattle.partition_store.proofs.Left.{next_same}
use Rattle.partition_store.proofs.Entered.{enters, enter_held, enter_now, enter_plain}

pub promised_fit : {D : Type 0} (k : Kept D) (session : ℕ) (disk : D) (end : ℕ) → k.status.promised < session → IsPlace session → IsFit k → IsFit (record k { disk = disk; journal = end; status = record k.status { promised = session }; staged = None })
promised_fit k session disk end later place fit = record {
  range = record { promised = place.below; adopted = omega (arith, fit.range.adopted, later); low = fit.range.low; length = fit.range.length };
  none = fit.none;
  order = fit.order;
  staged = tt;
}

pub lowered_fit : {D : Type 0} (k : Kept D) (low : ℕ) (disk : D) (end : ℕ) → low ≤ k.status.length → k.staged ≡ None → IsFit k → IsFit (record k { disk = disk; journal = end; status = record k.status { low = low } })
lowered_fit k low disk end within none fit = record {
  range = record { promised = fit.range.promised; adopted = fit.range.adopted; low = within; length = fit.range.length };
  none = fit.none;
  order = fit.order;
  staged = subst (λ (o : Option Index). AreStagedFrom (low + 1) o) (sym none) tt;
}

module _ {D : Type 0} (plain : Type 0) (history : D → History) (k : Kept D) (sound : IsSound (history k.disk).now k) where
  abbrev old : History
  old = history k.disk

  abbrev h : Held
  h = held_now (history k.disk).now

  -- ---- a promise

  module _ (session : ℕ) (later : k.status.promised < session) where
    promise_taken : IsTaken (table_of (reads_of old.now)) h (Promise session)
    promise_taken = record { legal = lt-ltb h.promised session (omega (arith, later, sound.standing.promised)); records = refl }

    pub promises : (new : History) → EachMoment 0 (EachLeftHas plain (HasEntry (entries_at (history k.disk)) (Promise session))) (history k.disk) new
        → LeavesAtEach plain (IsOldOrNew (state_by history k) (promised_to (state_by history k) session)) (history k.disk) new
    promises new run = enters plain old k sound (Promise session) promise_taken tt (next_same h.file) new run

    module _ (disk : D) (end : ℕ) (entered : IsEntered (Promise session) end (history k.disk) (history disk)) (others : (q : ℕ) → q ≢ 0 → (history disk).now q ≡ (history k.disk).now q) where
      then : held_now (history disk).now ≡ record h { promised = session }
      then = enter_now plain old k sound (Promise session) promise_taken tt (history disk).now entered.entries others

      named : (q : ℕ) → 1 < q → q ≤ h.file → (history disk).now q ≡ old.now q
      named q above below = others q (omega (arith, above))

      pub promised_sound : IsSound (history disk).now (record k { disk = disk; journal = end; status = record k.status { promised = session }; staged = None })
      promised_sound =
          let file = ap (λ (g : Held). g.file) then in
          record {
            standing = record {
              held = enter_held plain old k sound (Promise session) promise_taken tt (history disk).now entered.entries others ∙ ap (λ (g : Held). Some g) (sym then);
              promised = sym (ap (λ (g : Held). g.promised) then);
              adopted = sound.standing.adopted ∙ sym (ap (λ (g : Held). g.adopted) then);
              low = sound.standing.low ∙ sym (ap (λ (g : Held). g.low) then);
              file = sound.standing.file ∙ sym file;
              staged = refl;
              length = sound.standing.length ∙ sym (ap (λ (g : Held). length g.log) then);
            };
            journal = entered.tidy;
            plain = enter_plain plain old k sound (Promise session) promise_taken tt (history disk).now entered.entries others;
            closed = same_closed old.now (history disk).now h (held_now (history disk).now) named file k.closed sound.closed;
            last = same_last old.now (history disk).now h (held_now (history disk).now) named file k.last sound.last;
            log = same_log old.now (history disk).now h (held_now (history disk).now) named file k.closed k.last (ap (λ (g : Held). g.log) then) sound.closed sound.last sound.log;
            staged = tt;
          }

      pub promised_state : state_of (history disk).now (record k { disk = disk; journal = end; status = record k.status { promised = session }; staged = None }) ≡ promised_to (state_by history k) session
      promised_state = ap (λ (g : Held). replica_of g) then

  -- ---- a low mark

  module _ (low : ℕ) (later : k.status.low < low) (in_log : low ≤ k.status.length) (none : k.staged ≡ None) where
    low_taken : IsTaken (table_of (reads_of old.now)) h (Low low)
    low_taken = record {
      legal = and_from (nat_lt h.low low) (nat_le low (length h.log)) (lt-ltb h.low low (omega (arith, later, sound.standing.low))) (le-leb low (length h.log) (omega (arith, in_log, sound.standing.length)));
      records = refl;
    }

    staged_none : (t : Files) (g : Held) → (staged_count k.staged ≡ length (records_at t k.staged)) × (IsStagedOf t g k.staged × (records_at t k.staged ≡ []))
    staged_none t g = subst (λ (o : Option Index). (staged_count o ≡ length (records_at t o)) × (IsStagedOf t g o × (records_at t o ≡ []))) (sym none) (refl, (tt, refl))

    pub lowers : (new : History) → EachMoment 0 (EachLeftHas plain (HasEntry (entries_at (history k.disk)) (Low low))) (history k.disk) new
        → LeavesAtEach plain (IsOldOrNew (state_by history k) (lowered_to (state_by history k) low)) (history k.disk) new
    lowers new run = enters plain old k sound (Low low) low_taken tt (next_same h.file) new run

    module _ (disk : D) (end : ℕ) (entered : IsEntered (Low low) end (history k.disk) (history disk)) (others : (q : ℕ) → q ≢ 0 → (history disk).now q ≡ (history k.disk).now q) where
      then_low : held_now (history disk).now ≡ record h { low = low }
      then_low = enter_now plain old k sound (Low low) low_taken tt (history disk).now entered.entries others

      named_low : (q : ℕ) → 1 < q → q ≤ h.file → (history disk).now q ≡ old.now q
      named_low q above below = others q (omega (arith, above))

      pub lowered_sound : IsSound (history disk).now (record k { disk = disk; journal = end; status = record k.status { low = low } })
      lowered_sound =
          let file = ap (λ (g : Held). g.file) then_low in
          record {
            standing = record {
              held = enter_held plain old k sound (Low low) low_taken tt (history disk).now entered.entries others ∙ ap (λ (g : Held). Some g) (sym then_low);
              promised = sound.standing.promised ∙ sym (ap (λ (g : Held). g.promised) then_low);
              adopted = sound.standing.adopted ∙ sym (ap (λ (g : Held). g.adopted) then_low);
              low = sym (ap (λ (g : Held). g.low) then_low);
              file = sound.standing.file ∙ sym file;
              staged = (staged_none (history disk).now h).0;
              length = sound.standing.length ∙ sym (ap (λ (g : Held). length g.log) then_low);
            };
            journal = entered.tidy;
            plain = enter_plain plain old k sound (Low low) low_taken tt (history disk).now entered.entries others;
            closed = same_closed old.now (history disk).now h (held_now (history disk).now) named_low file k.closed sound.closed;
            last = same_last old.now (history disk).now h (held_now (history disk).now) named_low file k.last sound.last;
            log = same_log old.now (history disk).now h (held_now (history disk).now) named_low file k.closed k.last (ap (λ (g : Held). g.log) then_low) sound.closed sound.last sound.log;
            staged = (staged_none (history disk).now (held_now (history disk).now)).1.0;
          }

      pub lowered_state : state_of (history disk).now (record k { disk = disk; journal = end; status = record k.status { low = low } }) ≡ lowered_to (state_by history k) low
      lowered_state =
          ap (λ (g : Held). record (replica_of g) { staged = records_at (history disk).now k.staged }) then_low
          ∙ ap (λ l. record (replica_of h) { low = low; staged = l }) ((staged_none (history disk).now h).1.1 ∙ sym (staged_none old.now h).1.1)
