-- Whether the next entry is legal, by the numbers of what was taken in so far.
use Rattle.std.proofs.Common.{◌≡◌, inl, ℕ, ◌+◌, ◌-◌, ◌<◌, ◌≤◌, ◌^◌, true, false, ◌&&◌, List, [], ◌∷◌, ◌++◌, length, refl, sym, ◌∙◌, ap, subst, arith, Option, Some, None, Result, Ok, Err}
use Rattle.std.specs.Prelude.{◌==◌, nat_le, nat_lt, OnOk}
use Rattle.std.specs.List.{flat_map}
use Rattle.std.proofs.lemmas.Bool.{and_from, and_parts, false_from_ne_true, le-leb, lt-ltb, eq-eqb, ltb-true}
use Rattle.tx_model.specs.declared.meta.Meta.{Meta}
use Rattle.tx_model.specs.declared.meta.Meta.TheVariants.{Promise, Adopt, Low, Roll}
use Rattle.tx_model.specs.Spelling.{meta_frame}
use Rattle.tx_model.specs.Contents.{entries_in}
use Rattle.tx_model.specs.declared.record.Record.{Record}
use Rattle.tx_model.specs.Records.{ids_rise}
use Rattle.disk_model.specs.LoadFaults.{IfDamaged}
use Rattle.disk_model.specs.declared.unloaded.LoadFault.{LoadFault}
use Rattle.disk_model.proofs.Told.{told_on}
use Rattle.segment_store.specs.Index.{Index}
use Rattle.proto_model.specs.Held.{Held, Contents, table_of, none_held, is_legal, held_after}
use Rattle.proto_model.specs.Damages.{Naming, named_by, or_before, last_named, IsDamaged}
use Rattle.proto_model.proofs.Folding.{adopt_fits, roll_fits, low_fits}
use Rattle.proto_model.proofs.SoFar.{so_far-more}
use Rattle.proto_model.proofs.NamedFiles.{last_named-more}
use Rattle.partition_store.specs.Stores.{AreClosed}
use Rattle.partition_store.specs.Loading.{IsLastRead, IsTailOf, IsLoadedOf}
use Rattle.partition_store.specs.declared.taking.Loaded.{Loaded}

module _ (c : Contents) (entries : List Meta) (h : Held) (l : Loaded) (of : IsLoadedOf c entries h l) where
  -- it is not
  pub damaged-illegal : (e : Meta) (more : List Meta) (place : ℕ) → is_legal h e ≡ false → entries_in (c 0) ≡ entries ++ e ∷ more → place ≡ length (flat_map meta_frame entries) → IsDamaged c 0 place
  damaged-illegal e more place illegal is place_is = inl (record {
    reached = record { front = entries; back = e ∷ more; entries = is; held = h; folds = of.folds };
    entry = e;
    more = more;
    next = refl;
    illegal = illegal;
    file_is = refl;
    at_is = place_is;
  })

  pub illegal-promise : (s : ℕ) → s ≤ l.status.promised → is_legal h (Promise s) ≡ false
  illegal-promise s less = false_from_ne_true (nat_lt h.promised s) (λ is. omega (arith, less, of.promised, ltb-true h.promised s is))

  pub legal-promise : (s : ℕ) → l.status.promised < s → is_legal h (Promise s) ≡ true
  legal-promise s more = lt-ltb h.promised s (omega (arith, more, of.promised))

  pub illegal-low : (k : ℕ) → k ≤ l.status.low → is_legal h (Low k) ≡ false
  illegal-low k less = false_from_ne_true (nat_lt h.low k && nat_le k (length h.log)) (λ is. omega (arith, less, of.low, (low_fits h k is).0))

  pub illegal-low-long : (k : ℕ) → k < 2 ^ 64 → l.status.length < k → is_legal h (Low k) ≡ false
  illegal-low-long k fits more = false_from_ne_true (nat_lt h.low k && nat_le k (length h.log)) (λ is. omega (arith, more, fits, of.length, (low_fits h k is).1))

  pub legal-low : (k : ℕ) → l.status.low < k → k ≤ l.status.length → is_legal h (Low k) ≡ true
  legal-low k above within = and_from (nat_lt h.low k) (nat_le k (length h.log)) (lt-ltb h.low k (omega (arith, above, of.low))) (le-leb k (length h.log) (omega (arith, within, of.length)))

  abbrev MayAdopt : ℕ → ℕ → ℕ → Type 0
  MayAdopt s first file = (s ≡ l.status.promised) × ((l.status.adopted < s) × ((first ≡ l.status.low + 1) × (l.status.file < file)))

  pub legal-adopt : (s first file count : ℕ) → MayAdopt s first file → is_legal h (Adopt s first file count) ≡ true
  legal-adopt s first file count may =
      and_from (s == h.promised) _ (eq-eqb s h.promised (may.0 ∙ of.promised))
      (and_from (nat_lt h.adopted s) _ (lt-ltb h.adopted s (omega (arith, may.1.0, of.adopted)))
      (and_from (first == h.low + 1) (nat_lt h.file file) (eq-eqb first (h.low + 1) (omega (arith, may.1.1.0, of.low))) (lt-ltb h.file file (omega (arith, may.1.1.1, of.file)))))

  pub illegal-adopt : (s first file count : ℕ) → (MayAdopt s first file → ⊥) → is_legal h (Adopt s first file count) ≡ false
  illegal-adopt s first file count not = false_from_ne_true (is_legal h (Adopt s first file count)) (λ is.
      let fits = adopt_fits h s first file count is in
      not (fits.promised ∙ sym of.promised, (omega (arith, fits.later, of.adopted), (omega (arith, fits.first_is, of.low), omega (arith, fits.above, of.file)))))

  abbrev MayRoll : ℕ → ℕ → Type 0
  MayRoll file first = (0 < l.status.adopted) × ((l.status.low < first) × ((l.first ≤ first) × ((first - 1 ≤ l.status.length) × (l.status.file < file))))

  pub legal-roll : (file first : ℕ) → MayRoll file first → is_legal h (Roll file first) ≡ true
  legal-roll file first may =
      and_from (nat_lt 0 h.adopted) _ (lt-ltb 0 h.adopted (omega (arith, may.0, of.adopted)))
      (and_from (nat_lt h.low first) _ (lt-ltb h.low first (omega (arith, may.1.0, of.low)))
      (and_from (nat_le h.first first) _ (le-leb h.first first (omega (arith, may.1.1.0, of.first)))
      (and_from (nat_le first (length h.log + 1)) (nat_lt h.file file) (le-leb first (length h.log + 1) (omega (arith, may.1.1.1.0, of.length))) (lt-ltb h.file file (omega (arith, may.1.1.1.1, of.file))))))

  roll_adopted : (file first : ℕ) → is_legal h (Roll file first) ≡ true → 0 < h.adopted
  roll_adopted file first is = ltb-true 0 h.adopted (and_parts (nat_lt 0 h.adopted) (nat_lt h.low first && (nat_le h.first first && (nat_le first (length h.log + 1) && nat_lt h.file file))) is).0

  pub illegal-roll : (file first : ℕ) → first < 2 ^ 64 → (MayRoll file first → ⊥) → is_legal h (Roll file first) ≡ false
  illegal-roll file first small not = false_from_ne_true (is_legal h (Roll file first)) (λ is.
      let fits = roll_fits h file first is in
      let adopted = roll_adopted file first is in
      not (omega (arith, adopted, of.adopted), (omega (arith, fits.later, of.low), (omega (arith, fits.begun, of.first), (omega (arith, fits.within, small, of.length), omega (arith, fits.above, of.file))))))

  -- an entry that names no file leaves the log as it is
  module _ (e : Meta) (none : named_by e ≡ None) (g : Held) (log : g.log ≡ h.log) (file : g.file ≡ h.file) where
    read_passed : (last : Option Index) → IsLastRead c h last → IsLastRead c g last
    read_passed None is = file ∙ is
    read_passed (Some i) is = (is.0 ∙ sym file, (omega (arith, is.1.0, file), is.1.1))

    tail_passed : (closed : List Index) (last : Option Index) (wrong : Option ℕ) → IsTailOf c entries h closed last wrong → IsTailOf c (entries ++ e ∷ []) g closed last wrong
    tail_passed closed last None tail = record {
      ids = subst (λ (rs : List Record). ids_rise 1 rs ≡ true) (sym log) tail.ids;
      below = subst (λ (q : ℕ). AreClosed c q closed) (sym file) tail.below;
      read = read_passed last tail.read;
      log = log ∙ tail.log;
    }
    tail_passed closed last (Some at) tail = record {
      named = tail.named;
      last = last_named-more None entries e ∙ ap (λ (o : Option Naming). or_before o (last_named None entries)) none ∙ tail.last;
      file = file ∙ tail.file;
      damaged = tail.damaged;
    }

  pub taken-promise : (e : Meta) (s : ℕ) (now : Loaded) → e ≡ Promise s → is_legal h (Promise s) ≡ true → now ≡ record l { status = record l.status { promised = s } } → IsLoadedOf c (entries ++ e ∷ []) (held_after (table_of c) h e) now
  taken-promise e s now entry legal is =
      subst (λ (d : Meta). IsLoadedOf c (entries ++ d ∷ []) (held_after (table_of c) h d) now) (sym entry)
      (subst (IsLoadedOf c (entries ++ Promise s ∷ []) (record h { promised = s })) (sym is) (record {
        folds = so_far-more (table_of c) entries (Promise s) none_held h of.folds (record { legal = legal; before = tt; counted = refl });
        promised = refl;
        adopted = of.adopted;
        low = of.low;
        length = of.length;
        file = of.file;
        first = of.first;
        tail = tail_passed (Promise s) refl (record h { promised = s }) refl refl l.closed.items l.last l.wrong of.tail;
      }))

  pub taken-low : (e : Meta) (k : ℕ) (now : Loaded) → e ≡ Low k → is_legal h (Low k) ≡ true → now ≡ record l { status = record l.status { low = k } } → IsLoadedOf c (entries ++ e ∷ []) (held_after (table_of c) h e) now
  taken-low e k now entry legal is =
      subst (λ (d : Meta). IsLoadedOf c (entries ++ d ∷ []) (held_after (table_of c) h d) now) (sym entry)
      (subst (IsLoadedOf c (entries ++ Low k ∷ []) (record h { low = k })) (sym is) (record {
        folds = so_far-more (table_of c) entries (Low k) none_held h of.folds (record { legal = legal; before = tt; counted = refl });
        promised = of.promised;
        adopted = of.adopted;
        low = refl;
        length = of.length;
        file = of.file;
        first = of.first;
        tail = tail_passed (Low k) refl (record h { low = k }) refl refl l.closed.items l.last l.wrong of.tail;
      }))

-- what a call's answer says, told on
pub ok_too : {T : Type 0} (r : Result T LoadFault) (P Q : Type 0) → OnOk r P → (P → Q) → OnOk r Q
ok_too (Ok x) P Q is to = to is
ok_too (Err e) P Q is to = tt

pub damaged_too : {T : Type 0} (r : Result T LoadFault) (P Q : ℕ → ℕ → Type 0) → IfDamaged r P → ((file at : ℕ) → P file at → Q file at) → IfDamaged r Q
damaged_too (Ok x) P Q is to = tt
damaged_too (Err e) P Q is to = told_on e P Q is to
