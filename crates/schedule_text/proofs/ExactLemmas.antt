-- What a line says is one thing: it has one form and one list of numbers, one first number out of range, and one place.
use Rattle.std.proofs.Common.{◌≡◌, ◌≢◌, ℕ, ◌+◌, ◌≤◌, Bool, true, false, List, [], ◌∷◌, ◌++◌, length, take, arith, refl, sym, ◌∙◌, ap, subst, inl, inr, Option, Some, None, Result, Err}
use Rattle.std.specs.Prelude.{◌↔◌}
use Rattle.std.proofs.lemmas.Bool.{cases_lt}
use Rattle.net_model.specs.declared.cluster.Cluster.{Cluster}
use Rattle.schedule_text.specs.declared.lines.form.Name.{Name}
use Rattle.schedule_text.specs.declared.lines.form.Form.{Form}
use Rattle.schedule_text.specs.declared.lines.fault.LineFault.{LineFault}
use Rattle.schedule_text.specs.declared.lines.fault.LineFault.TheVariants.{Bad, Range, Memory}
use Rattle.schedule_text.specs.Forms.{row_of, IsAmong}
use Rattle.schedule_text.specs.Lines.{Lists, Parts, HasForm, HasLists, rest_text, lists_text, Spells, AreInRanges, IsFirstOut}
use Rattle.schedule_text.specs.Lists.{keys_spelling, ops_word}
use Rattle.schedule_text.specs.Spellings.{SpellsLine, AreInRange, IsOutOfRange}
use Rattle.schedule_text.specs.Places.{Begins, IsLongest, IsPlace}
use Rattle.schedule_text.specs.Found.{BeginsSome, IsFault}
use Rattle.schedule_text.proofs.WordLemmas.{cut_unique}
use Rattle.schedule_text.proofs.KeyLemmas.{HasNoSpace-keys, keys_spelling_injective}
use Rattle.schedule_text.proofs.OpsLemmas.{ops_word_injective}
use Rattle.schedule_text.proofs.FormLemmas.{HasNoSpace-word, one_form}
use Rattle.schedule_text.proofs.NumberFronts.{EndsWord-rest}
use Rattle.schedule_text.proofs.FoundLemmas.{same_numbers, EndsWord-lists}

-- ---- one line's parts

-- the lists of one text are one
one_lists : (b : Bool) (l m : Option Lists) → HasLists b l → HasLists b m → lists_text l ≡ lists_text m → l ≡ m
one_lists false None None p q same = refl
one_lists false None (Some m) p q same = absurd q
one_lists false (Some l) m p q same = absurd p
one_lists true None m p q same = absurd p
one_lists true (Some l) None p q same = absurd q
one_lists true (Some l) (Some m) p q same =
    let writes = cut_unique (keys_spelling l.writes) (32 ∷ (keys_spelling l.reads ++ 32 ∷ ops_word l.ops)) (keys_spelling m.writes) (32 ∷ (keys_spelling m.reads ++ 32 ∷ ops_word m.ops)) (HasNoSpace-keys l.writes p.write_keys) refl (HasNoSpace-keys m.writes q.write_keys) refl cc in
    let reads = cut_unique (keys_spelling l.reads) (32 ∷ ops_word l.ops) (keys_spelling m.reads) (32 ∷ ops_word m.ops) (HasNoSpace-keys l.reads p.read_keys) refl (HasNoSpace-keys m.reads q.read_keys) refl cc in
    ap Some (same_lists l m (keys_spelling_injective l.writes m.writes p.write_keys q.write_keys writes.0) (keys_spelling_injective l.reads m.reads p.read_keys q.read_keys reads.0) (ops_word_injective l.ops m.ops p.ops_bytes q.ops_bytes cc))
  where
    built : List (List ℕ) → List (List ℕ) → List ℕ → Lists
    built writes reads ops = record { writes = writes; reads = reads; ops = ops }

    same_built : (w w' r r' : List (List ℕ)) (o o' : List ℕ) → w ≡ w' → r ≡ r' → o ≡ o' → built w r o ≡ built w' r' o'
    same_built w w' r r' o o' p q s = cc

    same_lists : (l m : Lists) → l.writes ≡ m.writes → l.reads ≡ m.reads → l.ops ≡ m.ops → l ≡ m
    same_lists l m writes reads ops = same_built l.writes m.writes l.reads m.reads l.ops m.ops writes reads ops

abbrev made : Form → List ℕ → Option Lists → Parts
made f numbers lists = record { form = f; numbers = numbers; lists = lists }

same_made : (f g : Form) (m n : List ℕ) (l k : Option Lists) → f ≡ g → m ≡ n → l ≡ k → made f m l ≡ made g n k
same_made f g m n l k p q r = cc

-- a line has its parts alone
pub one_line : (forms : List Form) (line : List ℕ) (p q : Parts) → Spells forms line p → Spells forms line q → p ≡ q
one_line forms line p q a b =
    let words = cut_unique (row_of p.form).word (rest_text p.numbers p.lists) (row_of q.form).word (rest_text q.numbers q.lists) (HasNoSpace-word p.form) (EndsWord-rest p.numbers p.lists) (HasNoSpace-word q.form) (EndsWord-rest q.numbers q.lists) (sym a.text ∙ b.text) in
    let one : p.form ≡ q.form = one_form forms p.form q.form a.among b.among words.0 in
    let names : length (row_of p.form).names ≡ length (row_of q.form).names = ap (λ f. length (row_of f).names) one in
    let count = a.form.count_is in
    let many = b.form.count_is in
    let numbers = same_numbers p.numbers q.numbers (lists_text p.lists) (lists_text q.lists) a.form.small b.form.small (omega arith) (EndsWord-lists p.lists) (EndsWord-lists q.lists) words.1 in
    let lists = one_lists (row_of q.form).lists p.lists q.lists (subst (λ f. HasLists (row_of f).lists p.lists) one a.form.lists_fit) b.form.lists_fit numbers.1 in
    same_made p.form q.form p.numbers q.numbers p.lists q.lists one numbers.0 lists

-- ---- one number out of range

pub one_first_out : (cluster : Cluster) (names : List Name) (numbers : List ℕ) (a b : Name) → IsFirstOut cluster names numbers a → IsFirstOut cluster names numbers b → a ≡ b
one_first_out cluster [] numbers a b p q = absurd p
one_first_out cluster (name ∷ names) [] a b p q = absurd p
one_first_out cluster (name ∷ names) (n ∷ numbers) a b (inl p) (inl q) = p.1 ∙ sym q.1
one_first_out cluster (name ∷ names) (n ∷ numbers) a b (inl p) (inr q) = absurd (p.0 q.0)
one_first_out cluster (name ∷ names) (n ∷ numbers) a b (inr p) (inl q) = absurd (q.0 p.0)
one_first_out cluster (name ∷ names) (n ∷ numbers) a b (inr p) (inr q) = one_first_out cluster names numbers a b p.1 q.1

pub none_out : (cluster : Cluster) (names : List Name) (numbers : List ℕ) (a : Name) → AreInRanges cluster names numbers → IsFirstOut cluster names numbers a → ⊥
none_out cluster [] numbers a are out = out
none_out cluster (name ∷ names) [] a are out = out
none_out cluster (name ∷ names) (n ∷ numbers) a are (inl p) = p.0 are.0
none_out cluster (name ∷ names) (n ∷ numbers) a are (inr p) = none_out cluster names numbers a are.1 p.1

-- the same, of lines
pub one_name :
    (forms : List Form) (cluster : Cluster) (line : List ℕ) (p q : Parts) (a b : Name) → Spells forms line p →
    Spells forms line q → IsOutOfRange cluster p a → IsOutOfRange cluster q b → a ≡ b
one_name forms cluster line p q a b is are out other =
    one_first_out cluster (row_of q.form).names q.numbers a b (subst (λ x. IsOutOfRange cluster x a) (one_line forms line p q is are) out) other

pub none_out_of_line :
    (forms : List Form) (cluster : Cluster) (line : List ℕ) (p q : Parts) (a : Name) → Spells forms line p → Spells forms line q →
    AreInRange cluster p → IsOutOfRange cluster q a → ⊥
none_out_of_line forms cluster line p q a is are within out =
    none_out cluster (row_of q.form).names q.numbers a (subst (AreInRange cluster) (one_line forms line p q is are) within) out

-- ---- one place

one_longest : (P : List ℕ → Type 0) (line : List ℕ) (j k : ℕ) → IsLongest P line j → IsLongest P line k → j ≤ k
one_longest P line j k a b = elim (cases_lt k j) [
  | inl less ↦ absurd (b.no_more j less a.within a.holds)
  | inr more ↦ more
]

pub one_place : (P : List ℕ → Type 0) (line : List ℕ) (a b : ℕ) → IsPlace P line a → IsPlace P line b → a ≡ b
one_place P line a b p q =
    let j = p.longest in
    let k = q.longest in
    let here : a ≡ j + 1 = p.at_is in
    let there : b ≡ k + 1 = q.at_is in
    let le : j ≤ k = one_longest P (take 512 line) j k p.is_longest q.is_longest in
    let ge : k ≤ j = one_longest P (take 512 line) k j q.is_longest p.is_longest in
    omega arith

pub same_places : (P Q : List ℕ → Type 0) → ((front : List ℕ) → P front → Q front) → ((front : List ℕ) → Q front → P front) → (line : List ℕ) (at : ℕ) → IsPlace P line at → IsPlace Q line at
same_places P Q to from line at is = record {
  longest = is.longest;
  at_is = is.at_is;
  is_longest = record {
    within = is.is_longest.within;
    holds = to (take is.longest (take 512 line)) is.is_longest.holds;
    no_more = λ j above within holds. is.is_longest.no_more j above within (from (take j (take 512 line)) holds);
  };
}

-- ---- the values that lines of these forms spell

-- each value has parts of one of the forms, and all such parts are some value's
pub record IsTable {V : Type 0} (parts : V → Parts) (forms : List Form) : Type 0 where
  pub among : (v : V) → IsAmong forms (parts v).form
  pub from : (p : Parts) → HasForm p → IsAmong forms p.form → (v : V) × (parts v ≡ p)

-- the contract of a call that reads such lines
pub record IsExact {V : Type 0} (parts : V → Parts) (cluster : Cluster) (line : List ℕ) (r : Result V LineFault) : Type 0 where
  pub range : (name : Name) → (r ≡ Err (Range name)) ↔ ((v : V) × SpellsLine line (parts v) × IsOutOfRange cluster (parts v) name)
  pub bad : (at : ℕ) → (r ≡ Err (Bad at)) ↔ (((v : V) → ¬ SpellsLine line (parts v)) × IsPlace (λ front. (v : V) × Begins front (parts v)) line at)
  pub memory : r ≡ Err Memory → (v : V) × SpellsLine line (parts v) × AreInRange cluster (parts v)

module _ {V : Type 0} (parts : V → Parts) (forms : List Form) (table : IsTable parts forms) where
  pub spells : (line : List ℕ) (v : V) → SpellsLine line (parts v) → Spells forms line (parts v)
  spells line v is = record { short = is.short; text = is.text; form = is.form; among = table.among v }

  value_of : (line : List ℕ) (p : Parts) → Spells forms line p → (v : V) × SpellsLine line (parts v) × (parts v ≡ p)
  value_of line p is =
      let v = table.from p is.form is.among in
      (v.0, subst (SpellsLine line) (sym v.1) (record { short = is.short; text = is.text; form = is.form }), v.1)

  begins_value : (front : List ℕ) → BeginsSome forms front → (v : V) × Begins front (parts v)
  begins_value front begins = let v = table.from begins.0 begins.2.form begins.1 in (v.0, subst (Begins front) (sym v.1) begins.2)

  begins_some : (front : List ℕ) → ((v : V) × Begins front (parts v)) → BeginsSome forms front
  begins_some front begins = (parts begins.0, table.among begins.0, begins.1)

  -- a fault of the forms is the fault of the call
  pub exact_fault : (cluster : Cluster) (line : List ℕ) (fault : LineFault) → IsFault forms cluster line fault → IsExact parts cluster line (Err fault)
  exact_fault cluster line (Bad at) is = record {
    range = λ name. ((λ e. absurd cc), λ out. absurd (is.0 (parts out.0) (spells line out.0 out.1)));
    bad = λ place. (
      (λ e.
          let same : at ≡ place = cc in (
            (λ v spelled. is.0 (parts v) (spells line v spelled)),
            subst (IsPlace (λ front. (v : V) × Begins front (parts v)) line) same (same_places (BeginsSome forms) (λ front. (v : V) × Begins front (parts v)) begins_value begins_some line at is.1),
          )),
      (λ other.
          let same : at ≡ place = one_place (BeginsSome forms) line at place is.1 (same_places (λ front. (v : V) × Begins front (parts v)) (BeginsSome forms) begins_some begins_value line place other.1) in
          cc),
    );
    memory = λ e. absurd cc;
  }
  exact_fault cluster line (Range name) is =
      let v = value_of line is.0 is.1 in
      record {
        range = λ other. (
          (λ e. let same : name ≡ other = cc in (v.0, v.1, subst (λ n. IsOutOfRange cluster (parts v.0) n) same (subst (λ p. IsOutOfRange cluster p name) (sym v.2) is.2))),
          (λ out. let same : name ≡ other = one_name forms cluster line is.0 (parts out.0) name other is.1 (spells line out.0 out.1) is.2 out.2 in cc),
        );
        bad = λ at. ((λ e. absurd cc), λ none. absurd (none.0 v.0 v.1));
        memory = λ e. absurd cc;
      }
  exact_fault cluster line Memory is = absurd is

  -- where a line is a value in range, the call has no such fault
  pub exact_other :
      (cluster : Cluster) (line : List ℕ) (p : Parts) (r : Result V LineFault) → Spells forms line p → AreInRange cluster p →
      ((name : Name) → r ≢ Err (Range name)) → ((at : ℕ) → r ≢ Err (Bad at)) → IsExact parts cluster line r
  exact_other cluster line p r is within no_range no_bad = record {
    range = λ name. ((λ e. absurd (no_range name e)), λ out. absurd (none_out_of_line forms cluster line p (parts out.0) name is (spells line out.0 out.1) within out.2));
    bad = λ at. ((λ e. absurd (no_bad at e)), λ none. let v = value_of line p is in absurd (none.0 v.0 v.1));
    memory = λ e. let v = value_of line p is in (v.0, v.1, subst (AreInRange cluster) (sym v.2) within);
  }
