-- One entry more in the journal, over the history of the disk.
use Rattle.std.proofs.Common.{◌≡◌, ◌≢◌, inl, inr, ◌⊎◌, ℕ, ◌<◌, ◌≤◌, List, [], ◌∷◌, ◌++◌, refl, sym, ap, subst, arith, Some}
use Rattle.tx_model.specs.declared.meta.Meta.{Meta}
use Rattle.tx_model.specs.declared.meta.Meta.TheVariants.{Promise, Adopt, Low, Roll, Value}
use Rattle.tx_model.specs.Contents.{records_in, entries_in}
use Rattle.disk_model.specs.File.{File, IsImage, IsPlain}
use Rattle.disk_model.specs.History.{Files, History, EachMoment}
use Rattle.disk_model.proofs.Moments.{of_file}
use Rattle.meta_journal.specs.Entries.{entries_at, HasEntry, EachLeftHas}
use Rattle.proto_model.specs.Replicas.{ReplicaState}
use Rattle.proto_model.specs.Held.{Held, Contents, IsTaken, IfNames, EachNamed, held_after, replica_of, table_of, held_in}
use Rattle.proto_model.proofs.Folding.{named-more}
use Rattle.partition_store.specs.Stands.{reads_of, held_now, IsNext, LeavesNear, LeavesAtEach}
use Rattle.partition_store.specs.Stores.{Kept, IsSound}
use Rattle.partition_store.proofs.Left.{now_is, left_plain, left_named, now_named, still_plain, held_same, held_more, near_of, next_same, near_same, leaves_weaker, leaves_run}

if_names-map : (P Q : ℕ → Type 0) (e : Meta) → ((q : ℕ) → P q → Q q) → IfNames P e → IfNames Q e
if_names-map P Q (Promise s) to it = tt
if_names-map P Q (Adopt s first file count) to it = to file it
if_names-map P Q (Low k) to it = tt
if_names-map P Q (Roll file first) to it = to file it
if_names-map P Q (Value n) to it = tt

module _ {D : Type 0} (plain : Type 0) (old : History) (k : Kept D) (sound : IsSound old.now k) (e : Meta)
    (taken : IsTaken (table_of (reads_of old.now)) (held_now old.now) e) (names : IfNames (λ q. (1 < q) × IsPlain (old.now q)) e) where
  abbrev h : Held
  h = held_now old.now

  abbrev then : Held
  then = held_after (table_of (reads_of old.now)) (held_now old.now) e

  it_same : (s : Files) (c : Contents) → ((q : ℕ) → q ≢ 0 → s q ≡ old.now q) → ((q : ℕ) → IsImage (s q) (c q)) → IfNames (λ q. table_of (reads_of old.now) q ≡ table_of c q) e
  it_same s c others image = if_names-map _ _ e (λ q it. ap records_in (sym (left_plain (old.now q) (s q) (c q) it.1 (others q (omega (arith, it.0))) (image q)))) names

  it_now : (s : Files) → ((q : ℕ) → q ≢ 0 → s q ≡ old.now q) → IfNames (λ q. table_of (reads_of old.now) q ≡ table_of (reads_of s) q) e
  it_now s others = if_names-map _ _ e (λ q it. ap (λ (f : File). records_in f.reads) (sym (others q (omega (arith, it.0))))) names

  abbrev IsEither : ReplicaState → Type 0
  IsEither r = (r ≡ replica_of h) ⊎ (r ≡ replica_of then)

  -- at each moment
  at_moment : IsNext h.file then.file → (s : Files) → EachLeftHas plain (HasEntry (entries_at old) e) (s 0) → ((q : ℕ) → q ≢ 0 → s q ≡ old.now q) → LeavesNear plain IsEither h.file s
  at_moment next s entries others c left =
      let named = left_named old.now h sound.standing.held sound.plain s c (λ q. (left q).image) (λ q above below. others q (omega (arith, above))) in
      elim (entries (c 0) (left 0)) [
        | inl same ↦ near_of IsEither h.file c h (held_same old.now h sound.standing.held sound.plain c same named) (inl refl) (next_same h.file)
        | inr more ↦ near_of IsEither h.file c then (held_more old.now h sound.standing.held sound.plain c e more named (it_same s c others (λ q. (left q).image)) taken) (inr refl) next
      ]

  first : LeavesNear plain IsEither h.file old.now
  first = leaves_weaker plain (λ r. r ≡ replica_of h) IsEither h.file old.now (λ r is. inl is)
      (near_same old.now h sound.standing.held sound.plain plain k.journal sound.journal old.now refl (λ q above below. refl))

  pub enters : IsNext (held_now old.now).file (held_after (table_of (reads_of old.now)) (held_now old.now) e).file → (new : History) → EachMoment 0 (EachLeftHas plain (HasEntry (entries_at old) e)) old new
      → LeavesAtEach plain (λ r. (r ≡ replica_of (held_now old.now)) ⊎ (r ≡ replica_of (held_after (table_of (reads_of old.now)) (held_now old.now) e))) old new
  enters next new run = leaves_run plain IsEither old new (of_file 0 (EachLeftHas plain (HasEntry (entries_at old) e)) (LeavesNear plain IsEither h.file) old new run (at_moment next)) first

  -- and then
  module _ (new : Files) (entries : entries_in (new 0).reads ≡ entries_at old ++ e ∷ []) (others : (q : ℕ) → q ≢ 0 → new q ≡ old.now q) where
    named : (q : ℕ) → 1 < q → q ≤ h.file → new q ≡ old.now q
    named q above below = others q (omega (arith, above))

    pub enter_held : held_in (reads_of new) ≡ Some (held_after (table_of (reads_of old.now)) (held_now old.now) e)
    enter_held = held_more old.now h sound.standing.held sound.plain (reads_of new) e entries (now_named old.now h sound.standing.held sound.plain new named) (it_now new others) taken

    pub enter_now : held_now new ≡ held_after (table_of (reads_of old.now)) (held_now old.now) e
    enter_now = now_is new then enter_held

    pub enter_plain : EachNamed (λ q. IsPlain (new q)) (entries_in (new 0).reads)
    enter_plain = subst (λ (l : List Meta). EachNamed (λ q. IsPlain (new q)) l) (sym entries)
        (named-more (λ q. IsPlain (new q)) (entries_in (old.now 0).reads) e
        (still_plain old.now h sound.standing.held sound.plain new named)
        (if_names-map _ _ e (λ q it. subst IsPlain (sym (others q (omega (arith, it.0)))) it.1) names))
