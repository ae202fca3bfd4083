-- The fold over a journal's entries: what it rests on, one entry more, and records added to the last file.
use Rattle.std.proofs.Common.{◌≡◌, ◌≢◌, inl, inr, ℕ, ◌+◌, ◌-◌, ◌<◌, ◌≤◌, Bool, true, ◌&&◌, List, [], ◌∷◌, ◌++◌, length, take, refl, sym, ◌∙◌, ap, subst, arith, append_assoc, length-append, Option, Some, None}
use Rattle.std.specs.Prelude.{◌==◌, nat_le, nat_lt, if◌then◌else◌}
use Rattle.std.proofs.lemmas.Bool.{cases_Bool, and_from, and_parts, leb-true, ltb-true, le-leb, eqb-true, cases_eq}
use Rattle.std.proofs.lemmas.List.{length-take-le}
use Rattle.tx_model.specs.declared.record.Record.{Record}
use Rattle.tx_model.specs.Records.{ids_rise}
use Rattle.tx_model.specs.Contents.{records_in, entries_in}
use Rattle.tx_model.proofs.RisingIds.{ids_rise-append}
use Rattle.tx_model.specs.declared.meta.Meta.{Meta}
use Rattle.tx_model.specs.declared.meta.Meta.TheVariants.{Promise, Adopt, Low, Roll, Value}
use Rattle.proto_model.specs.Held.{Held, Table, none_held, is_legal, has_records, held_after, folded, Folds, IsTaken, IfNames, EachNamed, with_more, Contents, table_of, held_in}

-- ---- what a legal entry says

pub record AdoptFits (h : Held) (s first file : ℕ) : Type 0 where
  pub promised : s ≡ h.promised
  pub later : h.adopted < s
  pub first_is : first ≡ h.low + 1
  pub above : h.file < file

pub adopt_fits : (h : Held) (s first file count : ℕ) → is_legal h (Adopt s first file count) ≡ true → AdoptFits h s first file
adopt_fits h s first file count is =
    let a = and_parts (s == h.promised) (nat_lt h.adopted s && ((first == h.low + 1) && nat_lt h.file file)) is in
    let b = and_parts (nat_lt h.adopted s) ((first == h.low + 1) && nat_lt h.file file) a.1 in
    let c = and_parts (first == h.low + 1) (nat_lt h.file file) b.1 in
    record { promised = eqb-true s h.promised a.0; later = ltb-true h.adopted s b.0; first_is = eqb-true first (h.low + 1) c.0; above = ltb-true h.file file c.1 }

pub record RollFits (h : Held) (file first : ℕ) : Type 0 where
  pub later : h.low < first
  pub begun : h.first ≤ first
  pub within : first ≤ length h.log + 1
  pub above : h.file < file

pub roll_fits : (h : Held) (file first : ℕ) → is_legal h (Roll file first) ≡ true → RollFits h file first
roll_fits h file first is =
    let a = and_parts (nat_lt 0 h.adopted) (nat_lt h.low first && (nat_le h.first first && (nat_le first (length h.log + 1) && nat_lt h.file file))) is in
    let b = and_parts (nat_lt h.low first) (nat_le h.first first && (nat_le first (length h.log + 1) && nat_lt h.file file)) a.1 in
    let c = and_parts (nat_le h.first first) (nat_le first (length h.log + 1) && nat_lt h.file file) b.1 in
    let d = and_parts (nat_le first (length h.log + 1)) (nat_lt h.file file) c.1 in
    record { later = ltb-true h.low first b.0; begun = leb-true h.first first c.0; within = leb-true first (length h.log + 1) d.0; above = ltb-true h.file file d.1 }

pub low_fits : (h : Held) (k : ℕ) → is_legal h (Low k) ≡ true → (h.low < k) × (k ≤ length h.log)
low_fits h k is = let a = and_parts (nat_lt h.low k) (nat_le k (length h.log)) is in (ltb-true h.low k a.0, leb-true k (length h.log) a.1)

-- ---- the function and the relation

pub folds-some : (tab : Table) (es : List Meta) (h end : Held) → Folds tab es h end → folded tab es h ≡ Some end
unfolding folded Folds
folds-some tab [] h end is = ap Some is
folds-some tab (e ∷ es) h end is =
    subst (λ (b : Bool). (if b then folded tab es (held_after tab h e) else None) ≡ Some end) (sym (and_from (is_legal h e) (has_records tab e) is.0.legal is.0.records)) (folds-some tab es (held_after tab h e) end is.1)

none_some : {A : Type 0} (x : A) → None ≡ Some x → ⊥
none_some x e = cc

some_same : {A : Type 0} (x y : A) → Some x ≡ Some y → x ≡ y
some_same x y e = cc

pub some-folds : (tab : Table) (es : List Meta) (h end : Held) → folded tab es h ≡ Some end → Folds tab es h end
unfolding folded Folds
some-folds tab [] h end is = some_same h end is
some-folds tab (e ∷ es) h end is = elim (cases_Bool (is_legal h e && has_records tab e)) [
  | inl fits ↦
      let parts = and_parts (is_legal h e) (has_records tab e) fits in
      (record { legal = parts.0; records = parts.1 }, some-folds tab es (held_after tab h e) end (subst (λ (b : Bool). (if b then folded tab es (held_after tab h e) else None) ≡ Some end) fits is))
  | inr not ↦ absurd (none_some end (subst (λ (b : Bool). (if b then folded tab es (held_after tab h e) else None) ≡ Some end) not is))
]

-- ---- one entry more

pub folds-more : (tab : Table) (es : List Meta) (e : Meta) (h mid : Held) → Folds tab es h mid → IsTaken tab mid e → Folds tab (es ++ e ∷ []) h (held_after tab mid e)
unfolding Folds
folds-more tab [] e h mid is taken = (subst (λ (g : Held). IsTaken tab g e) (sym is) taken, ap (λ (g : Held). held_after tab g e) is)
folds-more tab (d ∷ es) e h mid is taken = (is.0, folds-more tab es e (held_after tab h d) mid is.1 taken)

-- ---- the files that are named

pub named-map : (P Q : ℕ → Type 0) (es : List Meta) → ((q : ℕ) → P q → Q q) → EachNamed P es → EachNamed Q es
unfolding EachNamed
named-map P Q [] to all = tt
named-map P Q (Promise s ∷ es) to all = (tt, named-map P Q es to all.1)
named-map P Q (Adopt s first file count ∷ es) to all = (to file all.0, named-map P Q es to all.1)
named-map P Q (Low k ∷ es) to all = (tt, named-map P Q es to all.1)
named-map P Q (Roll file first ∷ es) to all = (to file all.0, named-map P Q es to all.1)
named-map P Q (Value n ∷ es) to all = (tt, named-map P Q es to all.1)

pub named-both : (P Q : ℕ → Type 0) (es : List Meta) → EachNamed P es → EachNamed Q es → EachNamed (λ q. P q × Q q) es
unfolding EachNamed
named-both P Q [] a b = tt
named-both P Q (Promise s ∷ es) a b = (tt, named-both P Q es a.1 b.1)
named-both P Q (Adopt s first file count ∷ es) a b = ((a.0, b.0), named-both P Q es a.1 b.1)
named-both P Q (Low k ∷ es) a b = (tt, named-both P Q es a.1 b.1)
named-both P Q (Roll file first ∷ es) a b = ((a.0, b.0), named-both P Q es a.1 b.1)
named-both P Q (Value n ∷ es) a b = (tt, named-both P Q es a.1 b.1)

pub named-more : (P : ℕ → Type 0) (es : List Meta) (e : Meta) → EachNamed P es → IfNames P e → EachNamed P (es ++ e ∷ [])
unfolding EachNamed
named-more P [] e all it = (it, tt)
named-more P (d ∷ es) e all it = (all.0, named-more P es e all.1 it)

pub same_taken : (tab other : Table) (h : Held) (e : Meta) → IfNames (λ q. tab q ≡ other q) e → IsTaken tab h e → IsTaken other h e × (held_after tab h e ≡ held_after other h e)
same_taken tab other h (Promise s) same is = (record { legal = is.legal; records = refl }, refl)
same_taken tab other h (Adopt s first file count) same is = (
  record { legal = is.legal; records = subst (λ (rs : List Record). (nat_le count (length rs) && ids_rise first rs) ≡ true) same is.records },
  ap (λ (rs : List Record). record h { adopted = s; log = take h.low h.log ++ rs; file = file; first = first }) same,
)
same_taken tab other h (Low k) same is = (record { legal = is.legal; records = refl }, refl)
same_taken tab other h (Roll file first) same is = (
  record { legal = is.legal; records = subst (λ (rs : List Record). ids_rise first rs ≡ true) same is.records },
  ap (λ (rs : List Record). record h { log = take (first - 1) h.log ++ rs; file = file; first = first }) same,
)
same_taken tab other h (Value n) same is = (record { legal = is.legal; records = refl }, refl)

-- the fold rests on the files that are named
pub folds-alike : (tab other : Table) (es : List Meta) (h end : Held) → EachNamed (λ q. tab q ≡ other q) es → Folds tab es h end → Folds other es h end
unfolding EachNamed Folds
folds-alike tab other [] h end same is = is
folds-alike tab other (e ∷ es) h end same is =
    let there = same_taken tab other h e same.0 is.0 in
    (there.0, subst (λ (g : Held). Folds other es g end) there.1 (folds-alike tab other es (held_after tab h e) end same.1 is.1))

alike_step : (tab other : Table) (h : Held) (e : Meta) → IfNames (λ q. tab q ≡ other q) e → (has_records tab e ≡ has_records other e) × (held_after tab h e ≡ held_after other h e)
alike_step tab other h (Promise s) same = (refl, refl)
alike_step tab other h (Adopt s first file count) same = (
  ap (λ (rs : List Record). nat_le count (length rs) && ids_rise first rs) same,
  ap (λ (rs : List Record). record h { adopted = s; log = take h.low h.log ++ rs; file = file; first = first }) same,
)
alike_step tab other h (Low k) same = (refl, refl)
alike_step tab other h (Roll file first) same = (
  ap (λ (rs : List Record). ids_rise first rs) same,
  ap (λ (rs : List Record). record h { log = take (first - 1) h.log ++ rs; file = file; first = first }) same,
)
alike_step tab other h (Value n) same = (refl, refl)

-- the same of the function
pub folded-alike : (tab other : Table) (es : List Meta) (h : Held) → EachNamed (λ q. tab q ≡ other q) es → folded tab es h ≡ folded other es h
unfolding EachNamed folded
folded-alike tab other [] h same = refl
folded-alike tab other (e ∷ es) h same =
    let step = alike_step tab other h e same.0 in
    let later = folded-alike tab other es (held_after tab h e) same.1 ∙ ap (λ (g : Held). folded other es g) step.1 in
    ap (λ (b : Bool). if is_legal h e && b then folded tab es (held_after tab h e) else None) step.0
    ∙ ap (λ (o : Option Held). if is_legal h e && has_records other e then o else None) later

-- what files stand for rests on the journal and the files that are named
pub held_in-alike : (c d : Contents) → c 0 ≡ d 0 → EachNamed (λ q. c q ≡ d q) (entries_in (c 0)) → held_in c ≡ held_in d
held_in-alike c d journal same =
    folded-alike (table_of c) (table_of d) (entries_in (c 0)) none_held (named-map (λ q. c q ≡ d q) (λ q. table_of c q ≡ table_of d q) (entries_in (c 0)) (λ q is. ap records_in is) same)
    ∙ ap (λ (bytes : List ℕ). folded (table_of d) (entries_in bytes) none_held) journal

-- ---- what is so of all that is held

-- the file of what came before is at most this one
rises_file : (tab : Table) (h : Held) (e : Meta) → IsTaken tab h e → (h.file ≤ (held_after tab h e).file) × IfNames (λ q. (h.file < q) × (q ≤ (held_after tab h e).file)) e
rises_file tab h (Promise s) is = (omega arith, tt)
rises_file tab h (Adopt s first file count) is =
    let above : h.file < file = (adopt_fits h s first file count is.legal).above in
    (omega arith, (above, omega arith))
rises_file tab h (Low k) is = (omega arith, tt)
rises_file tab h (Roll file first) is =
    let above : h.file < file = (roll_fits h file first is.legal).above in
    (omega arith, (above, omega arith))
rises_file tab h (Value n) is = (omega arith, tt)

if_names-map : (P Q : ℕ → Type 0) (e : Meta) → ((q : ℕ) → P q → Q q) → IfNames P e → IfNames Q e
if_names-map P Q (Promise s) to it = tt
if_names-map P Q (Adopt s first file count) to it = to file it
if_names-map P Q (Low k) to it = tt
if_names-map P Q (Roll file first) to it = to file it
if_names-map P Q (Value n) to it = tt

-- the files that are named are above those of before, and at most the last
pub folds-names : (tab : Table) (es : List Meta) (h end : Held) → Folds tab es h end → (h.file ≤ end.file) × EachNamed (λ q. (h.file < q) × (q ≤ end.file)) es
unfolding EachNamed Folds
folds-names tab [] h end is = (let same : h.file ≡ end.file = ap (λ (g : Held). g.file) is in omega arith, tt)
folds-names tab (e ∷ es) h end is =
    let here = rises_file tab h e is.0 in
    let later = folds-names tab es (held_after tab h e) end is.1 in (
      omega (arith, here.0, later.0),
      (
        if_names-map _ (λ q. (h.file < q) × (q ≤ end.file)) e (λ q it. (it.0, omega (arith, it.1, later.0))) here.1,
        named-map _ (λ q. (h.file < q) × (q ≤ end.file)) es (λ q it. (omega (arith, here.0, it.0), it.1)) later.1,
      ),
    )

-- ---- records added to the last file

-- what holds of each that is held
pub record IsSane (h : Held) : Type 0 where
  pub low : h.low ≤ length h.log

pub legal_sane : (tab : Table) (h : Held) (e : Meta) → IsSane h → is_legal h e ≡ true → IsSane (held_after tab h e)
legal_sane tab h (Promise s) sane legal = record { low = sane.low }
legal_sane tab h (Adopt s first file count) sane legal =
    record { low = omega (arith, length-append (take h.low h.log) (tab file), length-take-le h.low h.log sane.low) }
legal_sane tab h (Low k) sane legal = record { low = (low_fits h k legal).1 }
legal_sane tab h (Roll file first) sane legal =
    let fits = roll_fits h file first legal in
    let above : h.low < first = fits.later in
    let within : first ≤ length h.log + 1 = fits.within in
    record { low = omega (arith, length-append (take (first - 1) h.log) (tab file), length-take-le (first - 1) h.log (omega arith)) }
legal_sane tab h (Value n) sane legal = absurd (cc legal)

pub sane_after : (tab : Table) (h : Held) (e : Meta) → IsSane h → IsTaken tab h e → IsSane (held_after tab h e)
sane_after tab h e sane is = legal_sane tab h e sane is.legal

pub none_sane : IsSane none_held
none_sane = record { low = omega arith }

module _ (tab other : Table) (x : List Record) where
  -- behind the last entry that names a file
  grows_behind : (es : List Meta) (h end : Held) → h.file ≡ end.file → Folds tab es h end → Folds other es (with_more h x) (with_more end x)
  unfolding Folds
  grows_behind [] h end last is = ap (λ (g : Held). with_more g x) is
  grows_behind (Promise s ∷ es) h end last is = (record { legal = is.0.legal; records = refl }, grows_behind es (held_after tab h (Promise s)) end last is.1)
  grows_behind (Adopt s first file count ∷ es) h end last is =
      let above = (rises_file tab h (Adopt s first file count) is.0).1 in
      let later = (folds-names tab es (held_after tab h (Adopt s first file count)) end is.1).0 in
      absurd (omega (arith, above.0, later, last))
  grows_behind (Low k ∷ es) h end last is =
      let parts = and_parts (nat_lt h.low k) (nat_le k (length h.log)) is.0.legal in
      let within : k ≤ length h.log = leb-true k (length h.log) parts.1 in
      let legal : (nat_lt h.low k && nat_le k (length (h.log ++ x))) ≡ true = and_from (nat_lt h.low k) (nat_le k (length (h.log ++ x))) parts.0 (le-leb k (length (h.log ++ x)) (omega (arith, within, length-append h.log x))) in
      (record { legal = legal; records = refl }, grows_behind es (held_after tab h (Low k)) end last is.1)
  grows_behind (Roll file first ∷ es) h end last is =
      let above = (rises_file tab h (Roll file first) is.0).1 in
      let later = (folds-names tab es (held_after tab h (Roll file first)) end is.1).0 in
      absurd (omega (arith, above.0, later, last))
  grows_behind (Value n ∷ es) h end last is = absurd (cc is.0.legal)

  -- and there the log stays as it was
  last_log : (es : List Meta) (h end : Held) → h.file ≡ end.file → Folds tab es h end → end.log ≡ h.log
  unfolding Folds
  last_log [] h end last is = ap (λ (g : Held). g.log) (sym is)
  last_log (Promise s ∷ es) h end last is = last_log es (held_after tab h (Promise s)) end last is.1
  last_log (Adopt s first file count ∷ es) h end last is =
      let above = (rises_file tab h (Adopt s first file count) is.0).1 in
      let later = (folds-names tab es (held_after tab h (Adopt s first file count)) end is.1).0 in
      absurd (omega (arith, above.0, later, last))
  last_log (Low k ∷ es) h end last is = last_log es (held_after tab h (Low k)) end last is.1
  last_log (Roll file first ∷ es) h end last is =
      let above = (rises_file tab h (Roll file first) is.0).1 in
      let later = (folds-names tab es (held_after tab h (Roll file first)) end is.1).0 in
      absurd (omega (arith, above.0, later, last))
  last_log (Value n ∷ es) h end last is = absurd (cc is.0.legal)

  -- the last file has the records too, which go on from the log
  pub record IsGrown (end : Held) : Type 0 where
    pub others : (q : ℕ) → q ≢ end.file → tab q ≡ other q
    pub more : other end.file ≡ tab end.file ++ x
    pub ids : ids_rise (length end.log + 1) x ≡ true

  adopt_last : (h end : Held) (s first file count : ℕ) (es : List Meta) → IsSane h → IsGrown end → file ≡ end.file → IsTaken tab h (Adopt s first file count) → Folds tab es (held_after tab h (Adopt s first file count)) end
      → IsTaken other h (Adopt s first file count) × Folds other es (held_after other h (Adopt s first file count)) (with_more end x)
  adopt_last h end s first file count es sane grown here is later =
      let now = held_after tab h (Adopt s first file count) in
      let records : other file ≡ tab file ++ x = subst (λ (q : ℕ). other q ≡ tab q ++ x) (sym here) grown.more in
      let parts = and_parts (nat_le count (length (tab file))) (ids_rise first (tab file)) is.records in
      let enough : count ≤ length (tab file) = leb-true count (length (tab file)) parts.0 in
      let first_is : first ≡ h.low + 1 = (adopt_fits h s first file count is.legal).first_is in
      let log : end.log ≡ take h.low h.log ++ tab file = last_log es now end here later in
      let long : length end.log ≡ h.low + length (tab file) = ap length log ∙ length-append (take h.low h.log) (tab file) ∙ ap (λ (n : ℕ). n + length (tab file)) (length-take-le h.low h.log sane.low) in
      let rise : ids_rise (first + length (tab file)) x ≡ true = subst (λ (n : ℕ). ids_rise n x ≡ true) (omega (arith, long, first_is)) grown.ids in
      let has : (nat_le count (length (tab file ++ x)) && ids_rise first (tab file ++ x)) ≡ true = and_from (nat_le count (length (tab file ++ x))) (ids_rise first (tab file ++ x)) (le-leb count (length (tab file ++ x)) (omega (arith, enough, length-append (tab file) x))) (ids_rise-append first (tab file) x parts.1 rise) in
      let after : held_after other h (Adopt s first file count) ≡ with_more now x =
      ap (λ (rs : List Record). record h { adopted = s; log = take h.low h.log ++ rs; file = file; first = first }) records
      ∙ ap (λ (l : List Record). record h { adopted = s; log = l; file = file; first = first }) (sym (append_assoc (take h.low h.log) (tab file) x)) in (
        record { legal = is.legal; records = subst (λ (rs : List Record). (nat_le count (length rs) && ids_rise first rs) ≡ true) (sym records) has },
        subst (λ (g : Held). Folds other es g (with_more end x)) (sym after) (grows_behind es now end here later),
      )

  roll_last : (h end : Held) (file first : ℕ) (es : List Meta) → IsSane h → IsGrown end → file ≡ end.file → IsTaken tab h (Roll file first) → Folds tab es (held_after tab h (Roll file first)) end
      → IsTaken other h (Roll file first) × Folds other es (held_after other h (Roll file first)) (with_more end x)
  roll_last h end file first es sane grown here is later =
      let now = held_after tab h (Roll file first) in
      let records : other file ≡ tab file ++ x = subst (λ (q : ℕ). other q ≡ tab q ++ x) (sym here) grown.more in
      let fits = roll_fits h file first is.legal in
      let above : h.low < first = fits.later in
      let within : first ≤ length h.log + 1 = fits.within in
      let log : end.log ≡ take (first - 1) h.log ++ tab file = last_log es now end here later in
      let long : length end.log ≡ (first - 1) + length (tab file) = ap length log ∙ length-append (take (first - 1) h.log) (tab file) ∙ ap (λ (n : ℕ). n + length (tab file)) (length-take-le (first - 1) h.log (omega arith)) in
      let rise : ids_rise (first + length (tab file)) x ≡ true = subst (λ (n : ℕ). ids_rise n x ≡ true) (omega (arith, long, above)) grown.ids in
      let after : held_after other h (Roll file first) ≡ with_more now x =
      ap (λ (rs : List Record). record h { log = take (first - 1) h.log ++ rs; file = file; first = first }) records
      ∙ ap (λ (l : List Record). record h { log = l; file = file; first = first }) (sym (append_assoc (take (first - 1) h.log) (tab file) x)) in (
        record { legal = is.legal; records = subst (λ (rs : List Record). ids_rise first rs ≡ true) (sym records) (ids_rise-append first (tab file) x is.records rise) },
        subst (λ (g : Held). Folds other es g (with_more end x)) (sym after) (grows_behind es now end here later),
      )

  pub grows : (es : List Meta) (h end : Held) → h.file < end.file → IsSane h → IsGrown end → Folds tab es h end → Folds other es h (with_more end x)
  unfolding Folds
  grows [] h end below sane grown is = let same : h.file ≡ end.file = ap (λ (g : Held). g.file) is in absurd (omega arith)
  grows (Promise s ∷ es) h end below sane grown is = (record { legal = is.0.legal; records = refl }, grows es (held_after tab h (Promise s)) end below (sane_after tab h (Promise s) sane is.0) grown is.1)
  grows (Adopt s first file count ∷ es) h end below sane grown is =
      let e = Adopt s first file count in
      let later = (folds-names tab es (held_after tab h e) end is.1).0 in
      elim (cases_eq file end.file) [
        | inl here ↦ adopt_last h end s first file count es sane grown here is.0 is.1
        | inr other_file ↦
            let there = same_taken tab other h e (grown.others file other_file) is.0 in
            (there.0, subst (λ (g : Held). Folds other es g (with_more end x)) there.1 (grows es (held_after tab h e) end (omega (arith, later, other_file)) (sane_after tab h e sane is.0) grown is.1))
      ]
  grows (Low k ∷ es) h end below sane grown is = (record { legal = is.0.legal; records = refl }, grows es (held_after tab h (Low k)) end below (sane_after tab h (Low k) sane is.0) grown is.1)
  grows (Roll file first ∷ es) h end below sane grown is =
      let e = Roll file first in
      let later = (folds-names tab es (held_after tab h e) end is.1).0 in
      elim (cases_eq file end.file) [
        | inl here ↦ roll_last h end file first es sane grown here is.0 is.1
        | inr other_file ↦
            let there = same_taken tab other h e (grown.others file other_file) is.0 in
            (there.0, subst (λ (g : Held). Folds other es g (with_more end x)) there.1 (grows es (held_after tab h e) end (omega (arith, later, other_file)) (sane_after tab h e sane is.0) grown is.1))
      ]
  grows (Value n ∷ es) h end below sane grown is = absurd (cc is.0.legal)

-- and it is sane at the end
pub folds-sane : (tab : Table) (es : List Meta) (h end : Held) → IsSane h → Folds tab es h end → IsSane end
unfolding Folds
folds-sane tab [] h end sane is = subst IsSane is sane
folds-sane tab (e ∷ es) h end sane is = folds-sane tab es (held_after tab h e) end (sane_after tab h e sane is.0) is.1
