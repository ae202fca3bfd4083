-- Files of which loading answers a damaged place stand for nothing, and others for something; and there is one such place
-- at most.
use Rattle.std.proofs.Common.{◌≡◌, ◌⊎◌, inl, inr, ℕ, ◌<◌, Bool, true, false, List, [], ◌∷◌, ◌++◌, length, refl, sym, ◌∙◌, ap, subst, append_assoc, Option, Some, None}
use Rattle.std.specs.List.{flat_map}
use Rattle.std.proofs.lemmas.Bool.{cases_Bool}
use Rattle.std.proofs.lemmas.List.{append-nil}
use Rattle.tx_model.specs.declared.record.Record.{Record}
use Rattle.tx_model.specs.declared.meta.Meta.{Meta}
use Rattle.tx_model.specs.declared.meta.Meta.TheVariants.{Promise, Adopt, Low, Roll, Value}
use Rattle.tx_model.specs.Records.{ids_rise}
use Rattle.tx_model.specs.Spelling.{meta_frame}
use Rattle.tx_model.specs.Contents.{records_in, entries_in, IsDamagedAt}
use Rattle.tx_model.proofs.RisingIds.{none-rise}
use Rattle.proto_model.specs.Held.{Held, Table, none_held, is_legal, held_after, IfNames, Contents, table_of, held_in}
use Rattle.proto_model.specs.Damages.{Naming, named_by, last_named, has_counted, IsTakenSoFar, FoldsSoFar, Reached, place_of, IsIllegal, IsMiscounted, IsClosed, end, names, IsMistailed, IsDamaged}
use Rattle.proto_model.proofs.Folding.{none_sane}
use Rattle.proto_model.proofs.SoFar.{so_far-one, so_far-more, so_far-parts, so_far-none, so_far-end, so_far-first, so_far-last, so_far-some, some-so_far, LastOf, IsLastNamed, none_last, ids_behind, ids_joined, named-has, named-counted, counted-named}
use Rattle.proto_model.proofs.WrongFrames.{same, longer, shorter, compared, one_place, not_in_order, not_counted, counted_or_missing, in_order_or_wrong}

-- ---- what is reached cannot go on

-- the next entry is not taken, and where there is none the tail is not in order
record Stops (c : Contents) (r : Reached c) : Type 0 where
  next : (e : Meta) (more : List Meta) → r.back ≡ e ∷ more → IsTakenSoFar (table_of c) r.held e → ⊥
  last : r.back ≡ [] → ids_rise 1 r.held.log ≡ true → ⊥

first_entry : (e d : Meta) (es ds : List Meta) → e ∷ es ≡ d ∷ ds → d ≡ e
first_entry e d es ds is = cc

some_entry : (e : Meta) (es : List Meta) → [] ≡ e ∷ es → ⊥
some_entry e es is = cc

both_ways : (b : Bool) → b ≡ true → b ≡ false → ⊥
both_ways b is not = cc

illegal_stops : (c : Contents) (file at : ℕ) (d : IsIllegal c file at) → Stops c d.reached
illegal_stops c file at d = record {
  next = λ e more is taken. both_ways (is_legal d.reached.held e) taken.legal (subst (λ (m : Meta). is_legal d.reached.held m ≡ false) (first_entry e d.entry more d.more (sym is ∙ d.next)) d.illegal);
  last = λ is ids. some_entry d.entry d.more (sym is ∙ d.next);
}

miscounted_stops : (c : Contents) (file at : ℕ) (d : IsMiscounted c file at) → Stops c d.reached
miscounted_stops c file at d = record {
  next = λ e more is taken.
      let same_entry : d.entry ≡ e = first_entry e d.entry more d.more (sym is ∙ d.next) in
      let counted = named-counted (table_of c) d.entry d.named d.names (subst (λ (m : Meta). has_counted (table_of c) m ≡ true) (sym same_entry) taken.counted) in
      let damaged = subst (λ (q : ℕ). (x : IsDamagedAt d.named.first d.named.count (c q) at) × (length x.front < d.named.count)) d.file_is (d.damaged, d.counted) in
      not_counted d.named.first d.named.count (c d.named.file) at counted.enough damaged.0 counted.ids damaged.1;
  last = λ is ids. some_entry d.entry d.more (sym is ∙ d.next);
}

-- the log that is reached ends with the records of the last file
reached_last : (c : Contents) (r : Reached c) → LastOf (table_of c) r.held (last_named None r.front)
reached_last c r = so_far-last (table_of c) r.front none_held r.held None none_sane (none_last (table_of c)) r.folds

mistailed_ids : (c : Contents) (file at : ℕ) (d : IsMistailed c file at) → ids_rise 1 d.reached.held.log ≡ true → ⊥
mistailed_ids c file at d ids =
    let last : IsLastNamed (table_of c) d.reached.held d.named = subst (LastOf (table_of c) d.reached.held) d.last (reached_last c d.reached) in
    let damaged : IsDamagedAt d.named.first d.named.count (c d.named.file) at = subst (λ (q : ℕ). IsDamagedAt d.named.first d.named.count (c q) at) d.file_is d.damaged in
    let rise : ids_rise d.named.first (records_in (c d.named.file)) ≡ true = ids_behind last.before (records_in (c d.named.file)) d.named.first last.long (subst (λ (l : List Record). ids_rise 1 l ≡ true) last.log ids) in
    not_in_order d.named.first d.named.count (c d.named.file) at last.enough damaged rise

-- an entry that names a file is taken where the tail of the one before is in order
before_is : (tab : Table) (h : Held) (e : Meta) (n : Naming) → named_by e ≡ Some n → IsTakenSoFar tab h e → ids_rise 1 h.log ≡ true
before_is tab h e n names_it taken = named-has (λ file. ids_rise 1 h.log ≡ true) e n names_it taken.before

closed_next : (c : Contents) (h : Held) (back : List Meta) (e : Meta) (more : List Meta) → IsClosed h back → back ≡ e ∷ more → IsTakenSoFar (table_of c) h e → ids_rise 1 h.log ≡ true
closed_next c h back e more end is taken = absurd (some_entry e more is)
closed_next c h back e more (names d ds n names_it legal) is taken =
    before_is (table_of c) h e n (subst (λ (m : Meta). named_by m ≡ Some n) (first_entry e d more ds (sym is)) names_it) taken

mistailed_stops : (c : Contents) (file at : ℕ) (d : IsMistailed c file at) → Stops c d.reached
mistailed_stops c file at d = record {
  next = λ e more is taken. mistailed_ids c file at d (closed_next c d.reached.held d.reached.back e more d.closed is taken);
  last = λ is ids. mistailed_ids c file at d ids;
}

-- ---- they stand for nothing

data Option_cases {A : Type 0} (o : Option A) : Type 0 where
  none : o ≡ None → Option_cases o
  some : (x : A) → o ≡ Some x → Option_cases o

option_cases : {A : Type 0} (o : Option A) → Option_cases o
option_cases None = none refl
option_cases (Some x) = some x refl

goes_on : (c : Contents) (r : Reached c) → Stops c r → (back : List Meta) → r.back ≡ back → (h : Held) → FoldsSoFar (table_of c) back r.held h → ids_rise 1 h.log ≡ true → ⊥
goes_on c r stops [] is h folds ids =
    stops.last is (subst (λ (g : Held). ids_rise 1 g.log ≡ true) (sym (so_far-end (table_of c) r.held h folds)) ids)
goes_on c r stops (e ∷ more) is h folds ids = stops.next e more is (so_far-first (table_of c) e more r.held h folds)

stops_nothing : (c : Contents) (r : Reached c) → Stops c r → (h : Held) → held_in c ≡ Some h → ⊥
stops_nothing c r stops h is =
    let whole = some-so_far (table_of c) (entries_in (c 0)) h is in
    let parts = so_far-parts (table_of c) r.front r.back none_held h (subst (λ (es : List Meta). FoldsSoFar (table_of c) es none_held h) r.entries whole.folds) in
    let mid : parts.mid ≡ r.held = so_far-one (table_of c) r.front none_held parts.mid r.held parts.front r.folds in
    goes_on c r stops r.back refl h (subst (λ (g : Held). FoldsSoFar (table_of c) r.back g h) mid parts.back) whole.ids

-- where loading stops, and why
pub record HasStopped (c : Contents) (file at : ℕ) : Type 0 where
  reached : Reached c
  stops : Stops c reached

stopped : (c : Contents) (file at : ℕ) → IsDamaged c file at → HasStopped c file at
stopped c file at damaged = elim damaged [
  | inl d ↦ record { reached = d.reached; stops = illegal_stops c file at d }
  | inr more ↦ elim more [
    | inl d ↦ record { reached = d.reached; stops = miscounted_stops c file at d }
    | inr d ↦ record { reached = d.reached; stops = mistailed_stops c file at d }
  ]
]

pub damaged-stands : (c : Contents) (file at : ℕ) → IsDamaged c file at → (h : Held) → held_in c ≡ Some h → ⊥
damaged-stands c file at damaged h is = let there = stopped c file at damaged in stops_nothing c there.reached there.stops h is

pub damaged-none : (c : Contents) (file at : ℕ) → IsDamaged c file at → held_in c ≡ None
damaged-none c file at damaged = elim (option_cases (held_in c)) [
  | none is ↦ is
  | some h is ↦ absurd (damaged-stands c file at damaged h is)
]

-- ---- there is one place at most

-- both stop at one entry
record Together (c : Contents) (r s : Reached c) : Type 0 where
  fronts : r.front ≡ s.front
  backs : r.back ≡ s.back
  held : r.held ≡ s.held

no_further : (c : Contents) (r s : Reached c) → Stops c r → (e : Meta) (between : List Meta) → s.front ≡ r.front ++ e ∷ between → r.back ≡ e ∷ between ++ s.back → ⊥
no_further c r s stops e between front back =
    let tab = table_of c in
    let parts = so_far-parts tab r.front (e ∷ between) none_held s.held (subst (λ (es : List Meta). FoldsSoFar tab es none_held s.held) front s.folds) in
    let mid : parts.mid ≡ r.held = so_far-one tab r.front none_held parts.mid r.held parts.front r.folds in
    stops.next e (between ++ s.back) back (subst (λ (g : Held). IsTakenSoFar tab g e) mid (so_far-first tab e between parts.mid s.held parts.back))

together : (c : Contents) (r s : Reached c) → Stops c r → Stops c s → Together c r s
together c r s one two = elim (compared r.front s.front r.back s.back (sym r.entries ∙ s.entries)) [
  | same fronts backs ↦ record {
    fronts = fronts;
    backs = backs;
    held = so_far-one (table_of c) r.front none_held r.held s.held r.folds (subst (λ (es : List Meta). FoldsSoFar (table_of c) es none_held s.held) (sym fronts) s.folds);
  }
  | longer e between front back ↦ absurd (no_further c r s one e between front back)
  | shorter e between front back ↦ absurd (no_further c s r two e between front back)
]

-- one file and place
abbrev IsOne : ℕ → ℕ → ℕ → ℕ → Type 0
IsOne f a g b = (f ≡ g) × (a ≡ b)

same_naming : (m n : Naming) (o : Option Naming) → o ≡ Some m → o ≡ Some n → m ≡ n
same_naming m n o a b = cc

same_file : (c : Contents) (m n : Naming) (f a g b : ℕ) → m ≡ n → f ≡ m.file → g ≡ n.file → IsDamagedAt m.first m.count (c f) a → IsDamagedAt n.first n.count (c g) b → IsOne f a g b
same_file c m n f a g b one f_is g_is da db =
    let files : f ≡ g = f_is ∙ ap (λ (k : Naming). k.file) one ∙ sym g_is in
    let moved : IsDamagedAt n.first n.count (c g) a = subst (λ (q : ℕ). IsDamagedAt n.first n.count (c q) a) files (subst (λ (k : Naming). IsDamagedAt k.first k.count (c f) a) one da) in
    (files, one_place n.first n.count (c g) a b moved db)

same_next : (c : Contents) (r s : Reached c) (x y : Meta) (more less : List Meta) → Together c r s → r.back ≡ x ∷ more → s.back ≡ y ∷ less → x ≡ y
same_next c r s x y more less one a b = sym (first_entry x y more less (sym a ∙ one.backs ∙ b))

legal_both : (c : Contents) (r s : Reached c) (x y : Meta) (more less : List Meta) → Together c r s → r.back ≡ x ∷ more → s.back ≡ y ∷ less → is_legal r.held x ≡ false → is_legal s.held y ≡ true → ⊥
legal_both c r s x y more less one a b not is =
    both_ways (is_legal s.held y) is (subst (λ (m : Meta). is_legal s.held m ≡ false) (same_next c r s x y more less one a b) (subst (λ (h : Held). is_legal h x ≡ false) one.held not))

-- where the last file's tail is wrong, the next entry is legal if there is one
closed_legal : (c : Contents) (r s : Reached c) (x : Meta) (more back : List Meta) → Together c r s → r.back ≡ x ∷ more → s.back ≡ back → IsClosed s.held back → is_legal r.held x ≡ false → ⊥
closed_legal c r s x more back one a b end not = some_entry x more (sym b ∙ sym one.backs ∙ a)
closed_legal c r s x more back one a b (names y less n names_it legal) not = legal_both c r s x y more less one a b not legal

illegal_one : (c : Contents) (f a g b : ℕ) (d : IsIllegal c f a) → IsDamaged c g b → IsOne f a g b
illegal_one c f a g b d damaged = elim damaged [
  | inl e ↦
      let one = together c d.reached e.reached (illegal_stops c f a d) (illegal_stops c g b e) in
      (d.file_is ∙ sym e.file_is, d.at_is ∙ ap (λ (es : List Meta). length (flat_map meta_frame es)) one.fronts ∙ sym e.at_is)
  | inr more ↦ elim more [
    | inl e ↦
        let one = together c d.reached e.reached (illegal_stops c f a d) (miscounted_stops c g b e) in
        absurd (legal_both c d.reached e.reached d.entry e.entry d.more e.more one d.next e.next d.illegal e.legal)
    | inr e ↦
        let one = together c d.reached e.reached (illegal_stops c f a d) (mistailed_stops c g b e) in
        absurd (closed_legal c d.reached e.reached d.entry d.more e.reached.back one d.next refl e.closed d.illegal)
  ]
]

miscounted_mistailed : (c : Contents) (f a g b : ℕ) → IsMiscounted c f a → IsMistailed c g b → ⊥
miscounted_mistailed c f a g b d e =
    let one = together c d.reached e.reached (miscounted_stops c f a d) (mistailed_stops c g b e) in
    mistailed_ids c g b e (subst (λ (h : Held). ids_rise 1 h.log ≡ true) one.held d.before)

miscounted_one : (c : Contents) (f a g b : ℕ) → IsMiscounted c f a → IsMiscounted c g b → IsOne f a g b
miscounted_one c f a g b d e =
    let one = together c d.reached e.reached (miscounted_stops c f a d) (miscounted_stops c g b e) in
    let entry : d.entry ≡ e.entry = same_next c d.reached e.reached d.entry e.entry d.more e.more one d.next e.next in
    same_file c d.named e.named f a g b (same_naming d.named e.named (named_by e.entry) (ap named_by (sym entry) ∙ d.names) e.names) d.file_is e.file_is d.damaged e.damaged

mistailed_one : (c : Contents) (f a g b : ℕ) → IsMistailed c f a → IsMistailed c g b → IsOne f a g b
mistailed_one c f a g b d e =
    let one = together c d.reached e.reached (mistailed_stops c f a d) (mistailed_stops c g b e) in
    same_file c d.named e.named f a g b (same_naming d.named e.named (last_named None e.reached.front) (ap (last_named None) (sym one.fronts) ∙ d.last) e.last) d.file_is e.file_is d.damaged e.damaged

turned : (f a g b : ℕ) → IsOne f a g b → IsOne g b f a
turned f a g b is = (sym is.0, sym is.1)

pub damaged-one : (c : Contents) (f a g b : ℕ) → IsDamaged c f a → IsDamaged c g b → (f ≡ g) × (a ≡ b)
damaged-one c f a g b one two = elim one [
  | inl d ↦ illegal_one c f a g b d two
  | inr more ↦ elim two [
    | inl e ↦ turned g b f a (illegal_one c g b f a e (inr more))
    | inr less ↦ elim more [
      | inl d ↦ elim less [
        | inl e ↦ miscounted_one c f a g b d e
        | inr e ↦ absurd (miscounted_mistailed c f a g b d e)
      ]
      | inr d ↦ elim less [
        | inl e ↦ absurd (miscounted_mistailed c g b f a e d)
        | inr e ↦ mistailed_one c f a g b d e
      ]
    ]
  ]
]

-- ---- where there is none, they stand for something

-- a damaged place
pub record HasDamage (c : Contents) : Type 0 where
  pub file : ℕ
  pub at : ℕ
  pub damaged : IsDamaged c file at

-- the tail of the last file is in order, or it is damaged
tail_or : (c : Contents) (r : Reached c) → IsClosed r.held r.back → (last : Option Naming) → last_named None r.front ≡ last → LastOf (table_of c) r.held last → (ids_rise 1 r.held.log ≡ true) ⊎ HasDamage c
tail_or c r closed None is without = inl (subst (λ (l : List Record). ids_rise 1 l ≡ true) (sym without.log) (none-rise 1))
tail_or c r closed (Some n) is last = elim (in_order_or_wrong n.first n.count (c n.file) last.enough last.counted) [
  | inl ids ↦ inl (subst (λ (l : List Record). ids_rise 1 l ≡ true) (sym last.log) (ids_joined last.before (records_in (c n.file)) n.first last.long last.ids ids))
  | inr place ↦ inr (record {
    file = n.file;
    at = place.at;
    damaged = inr (inr (record { reached = r; closed = closed; named = n; last = is; file_is = refl; damaged = place.damaged; behind = place.many }));
  })
]

-- all entries were taken, or a place is damaged
record IsAll (c : Contents) : Type 0 where
  held : Held
  folds : FoldsSoFar (table_of c) (entries_in (c 0)) none_held held
  ids : ids_rise 1 held.log ≡ true

data IsNaming (P : ℕ → Type 0) (e : Meta) : Type 0 where
  naming : (n : Naming) → named_by e ≡ Some n → IsNaming P e
  other : IfNames P e → ((tab : Table) → has_counted tab e ≡ true) → IsNaming P e

naming_cases : (P : ℕ → Type 0) (e : Meta) → IsNaming P e
naming_cases P (Promise s) = other tt (λ tab. refl)
naming_cases P (Adopt s first file count) = naming (record { file = file; first = first; count = count }) refl
naming_cases P (Low k) = other tt (λ tab. refl)
naming_cases P (Roll file first) = naming (record { file = file; first = first; count = 0 }) refl
naming_cases P (Value n) = other tt (λ tab. refl)

names-if : (P : ℕ → Type 0) (e : Meta) (n : Naming) → named_by e ≡ Some n → P n.file → IfNames P e
names-if P (Promise s) n is it = tt
names-if P (Adopt s first file count) n is it = subst (λ (m : Naming). P m.file) (same_naming n _ _ is refl) it
names-if P (Low k) n is it = tt
names-if P (Roll file first) n is it = subst (λ (m : Naming). P m.file) (same_naming n _ _ is refl) it
names-if P (Value k) n is it = tt

taken_or : (c : Contents) (r : Reached c) (e : Meta) (more : List Meta) → r.back ≡ e ∷ more → IsTakenSoFar (table_of c) r.held e ⊎ HasDamage c
taken_or c r e more is = elim (cases_Bool (is_legal r.held e)) [
  | inr illegal ↦ inr (record { file = 0; at = place_of r; damaged = inl (record { reached = r; entry = e; more = more; next = is; illegal = illegal; file_is = refl; at_is = refl }) })
  | inl legal ↦ elim (naming_cases (λ file. ids_rise 1 r.held.log ≡ true) e) [
    | other before counted ↦ inl (record { legal = legal; before = before; counted = counted (table_of c) })
    | naming n names_it ↦ elim (tail_or c r (subst (IsClosed r.held) (sym is) (names e more n names_it legal)) (last_named None r.front) refl (reached_last c r)) [
      | inr damage ↦ inr damage
      | inl ids ↦ elim (counted_or_missing n.first n.count (c n.file)) [
        | inl both ↦ inl (record {
          legal = legal;
          before = names-if (λ file. ids_rise 1 r.held.log ≡ true) e n names_it ids;
          counted = counted-named (table_of c) e n names_it (record { enough = both.0; ids = both.1 });
        })
        | inr place ↦ inr (record {
          file = n.file;
          at = place.at;
          damaged = inr (inl (record {
            reached = r;
            entry = e;
            more = more;
            next = is;
            legal = legal;
            before = ids;
            named = n;
            names = names_it;
            file_is = refl;
            damaged = place.damaged;
            counted = place.few;
          }));
        })
      ]
    ]
  ]
]

all_or : (c : Contents) (back front : List Meta) (h : Held) → entries_in (c 0) ≡ front ++ back → FoldsSoFar (table_of c) front none_held h → IsAll c ⊎ HasDamage c
all_or c [] front h is folds =
    let r : Reached c = record { front = front; back = []; entries = is; held = h; folds = folds } in
    elim (tail_or c r end (last_named None front) refl (reached_last c r)) [
      | inl ids ↦ inl (record { held = h; folds = subst (λ (es : List Meta). FoldsSoFar (table_of c) es none_held h) (sym (is ∙ append-nil front)) folds; ids = ids })
      | inr damage ↦ inr damage
    ]
all_or c (e ∷ more) front h is folds =
    let r : Reached c = record { front = front; back = e ∷ more; entries = is; held = h; folds = folds } in
    elim (taken_or c r e more refl) [
      | inl taken ↦ all_or c more (front ++ e ∷ []) (held_after (table_of c) h e) (is ∙ sym (append_assoc front (e ∷ []) more)) (so_far-more (table_of c) front e none_held h folds taken)
      | inr damage ↦ inr damage
    ]

pub none-damaged : (c : Contents) → held_in c ≡ None → HasDamage c
none-damaged c none_held_in = elim (all_or c (entries_in (c 0)) [] none_held refl (so_far-none (table_of c) none_held)) [
  | inl all ↦ absurd (let some_held = so_far-some (table_of c) (entries_in (c 0)) all.held all.folds all.ids in cc)
  | inr damage ↦ damage
]
