-- The fold as far as loading knows it: of the tail of a file nothing is known until the next one takes over.
use Rattle.std.proofs.Common.{◌≡◌, ℕ, ◌+◌, ◌-◌, ◌<◌, ◌≤◌, true, List, [], ◌∷◌, ◌++◌, length, take, refl, sym, ◌∙◌, subst, arith, Option, Some, None}
use Rattle.std.specs.Prelude.{nat_le}
use Rattle.std.proofs.lemmas.Bool.{and_from, and_parts, leb-true, le-leb}
use Rattle.std.proofs.lemmas.List.{length-take-le}
use Rattle.tx_model.specs.declared.record.Record.{Record}
use Rattle.tx_model.specs.declared.meta.Meta.{Meta}
use Rattle.tx_model.specs.declared.meta.Meta.TheVariants.{Promise, Adopt, Low, Roll, Value}
use Rattle.tx_model.specs.Records.{ids_rise}
use Rattle.tx_model.proofs.RisingIds.{none-rise, ids_rise-append, ids_rise-back, ids_rise-take}
use Rattle.proto_model.specs.Held.{Held, Table, none_held, is_legal, held_after, folded, Folds, IfNames}
use Rattle.proto_model.specs.Damages.{Naming, named_by, last_named, has_counted, IsTakenSoFar, FoldsSoFar}
use Rattle.proto_model.proofs.Folding.{IsSane, legal_sane, none_sane, adopt_fits, roll_fits, folds-some, some-folds}

-- ---- its parts

pub so_far-one : (tab : Table) (es : List Meta) (h a b : Held) → FoldsSoFar tab es h a → FoldsSoFar tab es h b → a ≡ b
unfolding FoldsSoFar
so_far-one tab [] h a b to_a to_b = sym to_a ∙ to_b
so_far-one tab (e ∷ es) h a b to_a to_b = so_far-one tab es (held_after tab h e) a b to_a.1 to_b.1

pub so_far-append : (tab : Table) (es ds : List Meta) (h mid end : Held) → FoldsSoFar tab es h mid → FoldsSoFar tab ds mid end → FoldsSoFar tab (es ++ ds) h end
unfolding FoldsSoFar
so_far-append tab [] ds h mid end is later = subst (λ (g : Held). FoldsSoFar tab ds g end) (sym is) later
so_far-append tab (e ∷ es) ds h mid end is later = (is.0, so_far-append tab es ds (held_after tab h e) mid end is.1 later)

-- one entry more
pub so_far-more : (tab : Table) (es : List Meta) (e : Meta) (h mid : Held) → FoldsSoFar tab es h mid → IsTakenSoFar tab mid e → FoldsSoFar tab (es ++ e ∷ []) h (held_after tab mid e)
unfolding FoldsSoFar
so_far-more tab es e h mid is taken = so_far-append tab es (e ∷ []) h mid (held_after tab mid e) is (taken, refl)

pub record Parted (tab : Table) (es ds : List Meta) (h end : Held) : Type 0 where
  pub mid : Held
  pub front : FoldsSoFar tab es h mid
  pub back : FoldsSoFar tab ds mid end

pub so_far-parts : (tab : Table) (es ds : List Meta) (h end : Held) → FoldsSoFar tab (es ++ ds) h end → Parted tab es ds h end
unfolding FoldsSoFar
so_far-parts tab [] ds h end is = record { mid = h; front = refl; back = is }
so_far-parts tab (e ∷ es) ds h end is =
    let later = so_far-parts tab es ds (held_after tab h e) end is.1 in
    record { mid = later.mid; front = (is.0, later.front); back = later.back }

pub so_far-none : (tab : Table) (h : Held) → FoldsSoFar tab [] h h
unfolding FoldsSoFar
so_far-none tab h = refl

pub so_far-end : (tab : Table) (h end : Held) → FoldsSoFar tab [] h end → h ≡ end
unfolding FoldsSoFar
so_far-end tab h end is = is

pub so_far-first : (tab : Table) (e : Meta) (es : List Meta) (h end : Held) → FoldsSoFar tab (e ∷ es) h end → IsTakenSoFar tab h e
unfolding FoldsSoFar
so_far-first tab e es h end is = is.0

pub so_far-sane : (tab : Table) (es : List Meta) (h end : Held) → IsSane h → FoldsSoFar tab es h end → IsSane end
unfolding FoldsSoFar
so_far-sane tab [] h end sane is = subst IsSane is sane
so_far-sane tab (e ∷ es) h end sane is = so_far-sane tab es (held_after tab h e) end (legal_sane tab h e sane is.0.legal) is.1

-- ---- it is the fold where the ids of the log at the end are in order

-- then they were so before
so_far-ids : (tab : Table) (es : List Meta) (h end : Held) → FoldsSoFar tab es h end → ids_rise 1 end.log ≡ true → ids_rise 1 h.log ≡ true
unfolding FoldsSoFar
so_far-ids tab [] h end is ids = subst (λ (g : Held). ids_rise 1 g.log ≡ true) (sym is) ids
so_far-ids tab (Promise s ∷ es) h end is ids = so_far-ids tab es (held_after tab h (Promise s)) end is.1 ids
so_far-ids tab (Adopt s first file count ∷ es) h end is ids = is.0.before
so_far-ids tab (Low k ∷ es) h end is ids = so_far-ids tab es (held_after tab h (Low k)) end is.1 ids
so_far-ids tab (Roll file first ∷ es) h end is ids = is.0.before
so_far-ids tab (Value n ∷ es) h end is ids = absurd (cc is.0.legal)

-- ids that go on behind others
pub ids_behind : (before records : List Record) (first : ℕ) → length before + 1 ≡ first → ids_rise 1 (before ++ records) ≡ true → ids_rise first records ≡ true
ids_behind before records first long ids = subst (λ (n : ℕ). ids_rise n records ≡ true) (omega (arith, long)) (ids_rise-back 1 before records ids)

pub ids_joined : (before records : List Record) (first : ℕ) → length before + 1 ≡ first → ids_rise 1 before ≡ true → ids_rise first records ≡ true → ids_rise 1 (before ++ records) ≡ true
ids_joined before records first long ids behind = ids_rise-append 1 before records ids (subst (λ (n : ℕ). ids_rise n records ≡ true) (omega (arith, long)) behind)

-- how many records stay before those of the file
pub adopt-long : (h : Held) (s first file count : ℕ) → IsSane h → is_legal h (Adopt s first file count) ≡ true → length (take h.low h.log) + 1 ≡ first
adopt-long h s first file count sane legal =
    let first_is : first ≡ h.low + 1 = (adopt_fits h s first file count legal).first_is in
    omega (arith, first_is, length-take-le h.low h.log sane.low)

pub roll-long : (h : Held) (file first : ℕ) → is_legal h (Roll file first) ≡ true → length (take (first - 1) h.log) + 1 ≡ first
roll-long h file first legal =
    let fits = roll_fits h file first legal in
    let above : h.low < first = fits.later in
    let within : first ≤ length h.log + 1 = fits.within in
    omega (arith, above, length-take-le (first - 1) h.log (omega arith))

pub so_far-folds : (tab : Table) (es : List Meta) (h end : Held) → IsSane h → FoldsSoFar tab es h end → ids_rise 1 end.log ≡ true → Folds tab es h end
unfolding FoldsSoFar Folds
so_far-folds tab [] h end sane is ids = is
so_far-folds tab (Promise s ∷ es) h end sane is ids =
    (record { legal = is.0.legal; records = refl }, so_far-folds tab es _ end (legal_sane tab h (Promise s) sane is.0.legal) is.1 ids)
so_far-folds tab (Adopt s first file count ∷ es) h end sane is ids =
    let e = Adopt s first file count in
    let counted = and_parts (nat_le count (length (tab file))) (ids_rise first (take count (tab file))) is.0.counted in
    let rise : ids_rise first (tab file) ≡ true = ids_behind (take h.low h.log) (tab file) first (adopt-long h s first file count sane is.0.legal) (so_far-ids tab es (held_after tab h e) end is.1 ids) in (
      record { legal = is.0.legal; records = and_from (nat_le count (length (tab file))) (ids_rise first (tab file)) counted.0 rise },
      so_far-folds tab es (held_after tab h e) end (legal_sane tab h e sane is.0.legal) is.1 ids,
    )
so_far-folds tab (Low k ∷ es) h end sane is ids =
    (record { legal = is.0.legal; records = refl }, so_far-folds tab es _ end (legal_sane tab h (Low k) sane is.0.legal) is.1 ids)
so_far-folds tab (Roll file first ∷ es) h end sane is ids =
    let e = Roll file first in
    let rise : ids_rise first (tab file) ≡ true = ids_behind (take (first - 1) h.log) (tab file) first (roll-long h file first is.0.legal) (so_far-ids tab es (held_after tab h e) end is.1 ids) in
    (record { legal = is.0.legal; records = rise }, so_far-folds tab es (held_after tab h e) end (legal_sane tab h e sane is.0.legal) is.1 ids)
so_far-folds tab (Value n ∷ es) h end sane is ids = absurd (cc is.0.legal)

-- and the other way round
pub record IsInOrder (tab : Table) (es : List Meta) (h end : Held) : Type 0 where
  pub folds : FoldsSoFar tab es h end
  pub ids : ids_rise 1 end.log ≡ true

pub folds-so_far : (tab : Table) (es : List Meta) (h end : Held) → IsSane h → ids_rise 1 h.log ≡ true → Folds tab es h end → IsInOrder tab es h end
unfolding FoldsSoFar Folds
folds-so_far tab [] h end sane ids is = record { folds = is; ids = subst (λ (g : Held). ids_rise 1 g.log ≡ true) is ids }
folds-so_far tab (Promise s ∷ es) h end sane ids is =
    let later = folds-so_far tab es (held_after tab h (Promise s)) end (legal_sane tab h (Promise s) sane is.0.legal) ids is.1 in
    record { folds = (record { legal = is.0.legal; before = tt; counted = refl }, later.folds); ids = later.ids }
folds-so_far tab (Adopt s first file count ∷ es) h end sane ids is =
    let e = Adopt s first file count in
    let has = and_parts (nat_le count (length (tab file))) (ids_rise first (tab file)) is.0.records in
    let counted = and_from (nat_le count (length (tab file))) (ids_rise first (take count (tab file))) has.0 (ids_rise-take first (tab file) count has.1) in
    let rise : ids_rise 1 (take h.low h.log ++ tab file) ≡ true = ids_joined (take h.low h.log) (tab file) first (adopt-long h s first file count sane is.0.legal) (ids_rise-take 1 h.log h.low ids) has.1 in
    let later = folds-so_far tab es (held_after tab h e) end (legal_sane tab h e sane is.0.legal) rise is.1 in
    record { folds = (record { legal = is.0.legal; before = ids; counted = counted }, later.folds); ids = later.ids }
folds-so_far tab (Low k ∷ es) h end sane ids is =
    let later = folds-so_far tab es (held_after tab h (Low k)) end (legal_sane tab h (Low k) sane is.0.legal) ids is.1 in
    record { folds = (record { legal = is.0.legal; before = tt; counted = refl }, later.folds); ids = later.ids }
folds-so_far tab (Roll file first ∷ es) h end sane ids is =
    let e = Roll file first in
    let rise : ids_rise 1 (take (first - 1) h.log ++ tab file) ≡ true = ids_joined (take (first - 1) h.log) (tab file) first (roll-long h file first is.0.legal) (ids_rise-take 1 h.log (first - 1) ids) is.0.records in
    let later = folds-so_far tab es (held_after tab h e) end (legal_sane tab h e sane is.0.legal) rise is.1 in
    record { folds = (record { legal = is.0.legal; before = ids; counted = refl }, later.folds); ids = later.ids }
folds-so_far tab (Value n ∷ es) h end sane ids is = absurd (cc is.0.legal)

-- a whole reading without a damaged tail is what the entries make of it
pub so_far-some : (tab : Table) (es : List Meta) (end : Held) → FoldsSoFar tab es none_held end → ids_rise 1 end.log ≡ true → folded tab es none_held ≡ Some end
so_far-some tab es end is ids = folds-some tab es none_held end (so_far-folds tab es none_held end none_sane is ids)

pub some-so_far : (tab : Table) (es : List Meta) (end : Held) → folded tab es none_held ≡ Some end → IsInOrder tab es none_held end
some-so_far tab es end is = folds-so_far tab es none_held end none_sane (none-rise 1) (some-folds tab es none_held end is)

-- ---- the last file

-- the log ends with the records of this file
pub record IsLastNamed (tab : Table) (h : Held) (n : Naming) : Type 0 where
  pub before : List Record
  pub log : h.log ≡ before ++ tab n.file
  pub long : length before + 1 ≡ n.first
  pub ids : ids_rise 1 before ≡ true
  pub file : h.file ≡ n.file
  pub enough : n.count ≤ length (tab n.file)
  pub counted : ids_rise n.first (take n.count (tab n.file)) ≡ true

-- no file was named
pub record IsWithoutFile (h : Held) : Type 0 where
  pub log : h.log ≡ []
  pub file : h.file ≡ 1
  pub adopted : h.adopted ≡ 0

abbrev pub LastOf : Table → Held → Option Naming → Type 0
LastOf tab h None = IsWithoutFile h
LastOf tab h (Some n) = IsLastNamed tab h n

last_same : (tab : Table) (h g : Held) (last : Option Naming) → g.log ≡ h.log → g.file ≡ h.file → g.adopted ≡ h.adopted → LastOf tab h last → LastOf tab g last
last_same tab h g None log file adopted is = record { log = log ∙ is.log; file = file ∙ is.file; adopted = adopted ∙ is.adopted }
last_same tab h g (Some n) log file adopted is =
    record { before = is.before; log = log ∙ is.log; long = is.long; ids = is.ids; file = file ∙ is.file; enough = is.enough; counted = is.counted }

pub so_far-last : (tab : Table) (es : List Meta) (h end : Held) (last : Option Naming) → IsSane h → LastOf tab h last → FoldsSoFar tab es h end → LastOf tab end (last_named last es)
unfolding FoldsSoFar last_named
so_far-last tab [] h end last sane was is = subst (λ (g : Held). LastOf tab g last) is was
so_far-last tab (Promise s ∷ es) h end last sane was is =
    let now = held_after tab h (Promise s) in
    so_far-last tab es now end last (legal_sane tab h (Promise s) sane is.0.legal) (last_same tab h now last refl refl refl was) is.1
so_far-last tab (Adopt s first file count ∷ es) h end last sane was is =
    let e = Adopt s first file count in
    let counted = and_parts (nat_le count (length (tab file))) (ids_rise first (take count (tab file))) is.0.counted in
    so_far-last tab es (held_after tab h e) end (named_by e) (legal_sane tab h e sane is.0.legal) (record {
      before = take h.low h.log;
      log = refl;
      long = adopt-long h s first file count sane is.0.legal;
      ids = ids_rise-take 1 h.log h.low is.0.before;
      file = refl;
      enough = leb-true count (length (tab file)) counted.0;
      counted = counted.1;
    }) is.1
so_far-last tab (Low k ∷ es) h end last sane was is =
    let now = held_after tab h (Low k) in
    so_far-last tab es now end last (legal_sane tab h (Low k) sane is.0.legal) (last_same tab h now last refl refl refl was) is.1
so_far-last tab (Roll file first ∷ es) h end last sane was is =
    let e = Roll file first in
    so_far-last tab es (held_after tab h e) end (named_by e) (legal_sane tab h e sane is.0.legal) (record {
      before = take (first - 1) h.log;
      log = refl;
      long = roll-long h file first is.0.legal;
      ids = ids_rise-take 1 h.log (first - 1) is.0.before;
      file = refl;
      enough = omega arith;
      counted = none-rise first;
    }) is.1
so_far-last tab (Value n ∷ es) h end last sane was is = absurd (cc is.0.legal)

pub none_last : (tab : Table) → LastOf tab none_held None
none_last tab = record { log = refl; file = refl; adopted = refl }

-- ---- what an entry names

some_same : {A : Type 0} (x y : A) → Some x ≡ Some y → x ≡ y
some_same x y e = cc

pub named-has : (P : ℕ → Type 0) (e : Meta) (n : Naming) → named_by e ≡ Some n → IfNames P e → P n.file
named-has P (Promise s) n is it = absurd (cc is)
named-has P (Adopt s first file count) n is it = subst (λ (m : Naming). P m.file) (some_same _ n is) it
named-has P (Low k) n is it = absurd (cc is)
named-has P (Roll file first) n is it = subst (λ (m : Naming). P m.file) (some_same _ n is) it
named-has P (Value k) n is it = absurd (cc is)

pub record IsCounted (tab : Table) (n : Naming) : Type 0 where
  pub enough : n.count ≤ length (tab n.file)
  pub ids : ids_rise n.first (take n.count (tab n.file)) ≡ true

pub named-counted : (tab : Table) (e : Meta) (n : Naming) → named_by e ≡ Some n → has_counted tab e ≡ true → IsCounted tab n
named-counted tab (Promise s) n is it = absurd (cc is)
named-counted tab (Adopt s first file count) n is it =
    let parts = and_parts (nat_le count (length (tab file))) (ids_rise first (take count (tab file))) it in
    subst (IsCounted tab) (some_same _ n is) (record { enough = leb-true count (length (tab file)) parts.0; ids = parts.1 })
named-counted tab (Low k) n is it = absurd (cc is)
named-counted tab (Roll file first) n is it = subst (IsCounted tab) (some_same _ n is) (record { enough = omega arith; ids = none-rise first })
named-counted tab (Value k) n is it = absurd (cc is)

pub counted-named : (tab : Table) (e : Meta) (n : Naming) → named_by e ≡ Some n → IsCounted tab n → has_counted tab e ≡ true
counted-named tab (Promise s) n is it = refl
counted-named tab (Adopt s first file count) n is it =
    let there = subst (IsCounted tab) (sym (some_same _ n is)) it in
    and_from (nat_le count (length (tab file))) (ids_rise first (take count (tab file))) (le-leb count (length (tab file)) there.enough) there.ids
counted-named tab (Low k) n is it = refl
counted-named tab (Roll file first) n is it = refl
counted-named tab (Value k) n is it = refl
