-- Records that are staged.
use Rattle.std.proofs.Common.{◌≡◌, ◌≢◌, ℕ, ◌+◌, ◌<◌, List, [], ◌++◌, length, sym, ◌∙◌, ap, subst, arith, Option, Some, None}
use Rattle.tx_model.specs.declared.record.Record.{Record}
use Rattle.tx_model.specs.Records.{RiseByOne}
use Rattle.tx_model.specs.Contents.{records_in}
use Rattle.disk_model.specs.History.{Files, History}
use Rattle.segment_store.specs.Index.{Index, count_of, IsIndexOfAll}
use Rattle.proto_model.specs.Held.{Held, replica_of}
use Rattle.proto_model.specs.Parts.{staged_more}
use Rattle.partition_store.specs.Stands.{held_now}
use Rattle.partition_store.specs.Stores.{Kept, state_by, state_of, staged_count, records_at, AreStagedFrom, IsStaged, IsStagedOf, IsFit, IsSound}
use Rattle.partition_store.proofs.Aside.{aside_sound, aside_now, next_is}
use Rattle.partition_store.proofs.Durable.{sound_kept}
use Rattle.partition_store.proofs.Whole.{all-count, rise-bound}

-- more records are staged
pub staged_fit : {D : Type 0} (k : Kept D) (disk : D) (i : Index) (records : List Record) → i.first ≡ k.status.low + 1 → count_of i ≡ staged_count k.staged + length records
    → RiseByOne (k.status.low + staged_count k.staged + 1) records → 0 < length records → IsFit k → IsFit (record k { disk = disk; staged = Some i })
staged_fit k disk i records first count rise some fit =
    let bound = rise-bound (k.status.low + staged_count k.staged + 1) records rise some in
    record { range = fit.range; none = fit.none; order = fit.order; staged = (first, omega (arith, count, some), omega (arith, count, bound)) }

module _ {D : Type 0} (plain : Type 0) (history : D → History) (k : Kept D) (sound : IsSound (history k.disk).now k) (file : ℕ) (next : file ≡ k.status.file + 1)
    (new : Files) (others : (q : ℕ) → q ≢ file → new q ≡ (history k.disk).now q) (i : Index) (place : i.file ≡ file) (all : IsIndexOfAll i (new i.file).reads) where
  pub staged_sound : (disk : D) → IsSound new (record k { disk = disk; staged = Some i })
  staged_sound disk = aside_sound plain history k sound file next new others disk (Some i) (all-count i (new i.file).reads all) (record { file = place ∙ next_is plain history k sound file next; all = all })

  pub staged_state : (disk : D) (records : List Record) → records_in (new i.file).reads ≡ records_at (history k.disk).now k.staged ++ records → state_of new (record k { disk = disk; staged = Some i }) ≡ staged_more (state_by history k) records
  staged_state disk records is =
      ap (λ (g : Held). record (replica_of g) { staged = records_in (new i.file).reads }) (aside_now plain history k sound file next new others)
      ∙ ap (λ (l : List Record). record (replica_of (held_now (history k.disk).now)) { staged = l }) is

-- the first records
pub first_fit : {D : Type 0} (k : Kept D) (disk : D) (i : Index) (records : List Record) → i.first ≡ k.status.low + 1 → count_of i ≡ length records
    → RiseByOne (k.status.low + 1) records → 0 < length records → IsFit k → IsFit (record k { disk = disk; staged = Some i })
first_fit k disk i records first count rise some fit =
    let bound = rise-bound (k.status.low + 1) records rise some in
    record { range = fit.range; none = fit.none; order = fit.order; staged = (first, omega (arith, count, some), omega (arith, count, bound)) }

module _ {D : Type 0} (plain : Type 0) (history : D → History) (k : Kept D) (sound : IsSound (history k.disk).now k) (file : ℕ) (next : file ≡ k.status.file + 1)
    (new : Files) (others : (q : ℕ) → q ≢ file → new q ≡ (history k.disk).now q) (i : Index) (place : i.file ≡ file) (all : IsIndexOfAll i (new file).reads) where
  there : IsIndexOfAll i (new i.file).reads
  there = subst (λ (q : ℕ). IsIndexOfAll i (new q).reads) (sym place) all

  pub first_sound : (disk : D) → IsSound new (record k { disk = disk; staged = Some i })
  first_sound disk = staged_sound plain history k sound file next new others i place there disk

  pub first_state : k.staged ≡ None → (disk : D) (records : List Record) → records_in (new file).reads ≡ records → state_of new (record k { disk = disk; staged = Some i }) ≡ staged_more (state_by history k) records
  first_state none disk records is =
      staged_state plain history k sound file next new others i place there disk records
      (ap (λ (q : ℕ). records_in (new q).reads) place ∙ is ∙ ap (λ (l : List Record). l ++ records) (sym (ap (λ (o : Option Index). records_at (history k.disk).now o) none)))

-- nothing was staged, and is not
module _ {D : Type 0} (plain : Type 0) (history : D → History) (k : Kept D) (sound : IsSound (history k.disk).now k) (file : ℕ) (next : file ≡ k.status.file + 1)
    (none : k.staged ≡ None) (new : Files) (others : (q : ℕ) → q ≢ file → new q ≡ (history k.disk).now q) where
  none_at : (s : Files) → records_at s k.staged ≡ []
  none_at s = ap (λ (o : Option Index). records_at s o) none

  pub unstaged_sound : (disk : D) → IsSound new (record k { disk = disk })
  unstaged_sound disk = aside_sound plain history k sound file next new others disk k.staged
      (ap staged_count none ∙ sym (ap length (none_at new)))
      (subst (λ (o : Option Index). IsStagedOf new (held_now (history k.disk).now) o) (sym none) tt)

  pub unstaged_state : (disk : D) → state_of new (record k { disk = disk }) ≡ state_by history k
  unstaged_state disk =
      ap (λ (g : Held). record (replica_of g) { staged = records_at new k.staged }) (aside_now plain history k sound file next new others)
      ∙ ap (λ (l : List Record). record (replica_of (held_now (history k.disk).now)) { staged = l }) (none_at new ∙ sym (none_at (history k.disk).now))

-- more of them, behind those of a segment
pub more_ids : {D : Type 0} (k : Kept D) (i : Index) (records : List Record) → k.staged ≡ Some i → IsFit k → RiseByOne (k.status.low + staged_count k.staged + 1) records → RiseByOne (i.first + count_of i) records
more_ids k i records is fit rise =
    let first = subst (λ (o : Option Index). AreStagedFrom (k.status.low + 1) o) is fit.staged in
    subst (λ (n : ℕ). RiseByOne n records) (omega (arith, first.0, ap staged_count is)) rise

pub more_fit : {D : Type 0} (k : Kept D) (disk : D) (i j : Index) (records : List Record) → k.staged ≡ Some i → j.first ≡ i.first → count_of j ≡ count_of i + length records
    → RiseByOne (k.status.low + staged_count k.staged + 1) records → 0 < length records → IsFit k → IsFit (record k { disk = disk; staged = Some j })
more_fit k disk i j records is first count rise some fit =
    let was = subst (λ (o : Option Index). AreStagedFrom (k.status.low + 1) o) is fit.staged in
    staged_fit k disk j records (first ∙ was.0) (count ∙ ap (λ (n : ℕ). n + length records) (sym (ap staged_count is))) rise some fit

module _ {D : Type 0} (plain : Type 0) (history : D → History) (k : Kept D) (sound : IsSound (history k.disk).now k) (i : Index) (is : k.staged ≡ Some i) where
  was : IsStaged (history k.disk).now (held_now (history k.disk).now) i
  was = subst (λ (o : Option Index). IsStagedOf (history k.disk).now (held_now (history k.disk).now) o) is sound.staged

  pub more_next : i.file ≡ k.status.file + 1
  more_next = was.file ∙ sym (ap (λ (n : ℕ). n + 1) sound.standing.file)

  pub more_all : IsIndexOfAll i ((history k.disk).now i.file).reads
  more_all = was.all

  module _ (new : Files) (others : (q : ℕ) → q ≢ i.file → new q ≡ (history k.disk).now q) (j : Index) (place : j.file ≡ i.file) (all : IsIndexOfAll j (new j.file).reads) where
    pub more_sound : (disk : D) → IsSound new (record k { disk = disk; staged = Some j })
    more_sound disk = staged_sound plain history k sound i.file more_next new others j place all disk

    pub more_state : (disk : D) (records : List Record) → records_in (new i.file).reads ≡ records_in ((history k.disk).now i.file).reads ++ records → state_of new (record k { disk = disk; staged = Some j }) ≡ staged_more (state_by history k) records
    more_state disk records now =
        staged_state plain history k sound i.file more_next new others j place all disk records
        (ap (λ (q : ℕ). records_in (new q).reads) place ∙ now ∙ ap (λ (l : List Record). l ++ records) (sym (ap (λ (o : Option Index). records_at (history k.disk).now o) is)))

  pub more_kept : (new : Files) (j : Index) (disk : D) → j ≡ i → new ≡ (history k.disk).now → IsSound new (record k { disk = disk; staged = Some j })
  more_kept new j disk same files = subst (λ (o : Option Index). IsSound new (record k { disk = disk; staged = o })) (is ∙ ap Some (sym same)) (sound_kept (history k.disk).now new k disk files sound)
