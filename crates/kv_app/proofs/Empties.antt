-- Which keys have no number while ops are done.
use Rattle.std.proofs.Common.{◌≡◌, ℕ, ℤ, ◌+◌, ◌<◌, ◌≤◌, Bool, true, false, cond, List, length, get_or, Option, Some, None, arith, refl, sym, ◌∙◌, ap, subst, ◌⊎◌, inl, inr}
use Rattle.std.specs.BTreeMap.{BTreeMap, UpdatesBy, WritesThrough}
use Rattle.std.specs.Ordering.{is_eq}
use Rattle.std.specs.declared.cmp.Ordering.{Ordering}
use Rattle.std.specs.declared.cmp.Ordering.TheVariants.{Less, Equal, Greater}
use Rattle.std.proofs.lemmas.Bool.{cases_lt}
use Rattle.std.proofs.lemmas.Cmp.{nat_list_cmp_total, tied_itself}
use Rattle.std.proofs.lemmas.Map.Lookups.{exact_bytes}
use Rattle.tx_model.specs.declared.op.Op.{Op}
use Rattle.tx_model.specs.declared.op.Op.TheVariants.{Set, Add, Del}
use Rattle.tx_model.specs.Applications.{name_cmp}
use Rattle.kv_app.specs.Touches.{op_key}
use Rattle.std.specs.Option.{IsSome}
use Rattle.kv_app.specs.Numbers.{entry_at, HasRoom, IsEmptyAt, Gives, Deletes, SomeFrom, number_after}
use Rattle.kv_app.proofs.NumberLemmas.{entry_after, some_is}

-- ---- ops from a place on

pub SomeFrom-here : (P : Op → Type 0) (ops : List Op) (k : ℕ) (op : Op) → k < length ops → ((d : Op) → op ≡ get_or ops k d) → P op → SomeFrom 0 P ops
SomeFrom-here P ops k op lt at is = (k, omega arith, lt, λ d. subst P (at d) is)

pub SomeFrom-next : (P : Op → Type 0) (ops : List Op) (k : ℕ) (op : Op) → ((d : Op) → op ≡ get_or ops k d) → SomeFrom k P ops → P op ⊎ SomeFrom (k + 1) P ops
SomeFrom-next P ops k op at (i, low, lt, is) = elim (cases_lt k i) [
  | inl later ↦ inr (i, omega (arith, later), lt, is)
  | inr first ↦
      let same : i ≡ k = omega (arith, low, first) in
      let Q : ℕ → Type 0 = λ j. P (get_or ops j op) in
      inl (subst P (sym (at op)) (subst Q same (is op)))
]

pub SomeFrom-end : (P : Op → Type 0) (ops : List Op) (k : ℕ) → length ops ≤ k → SomeFrom k P ops → ⊥
SomeFrom-end P ops k over (i, low, lt, is) = omega (arith, over, low, lt)

-- ---- one update

is_eq-Equal : (o : Ordering) → is_eq o ≡ true → o ≡ Equal
is_eq-Equal Less h = absurd cc
is_eq-Equal Equal h = refl
is_eq-Equal Greater h = absurd cc

tied : (q : List ℕ) → is_eq (name_cmp q q) ≡ true
tied q = ap is_eq (tied_itself nat_list_cmp_total q)

-- a key that has no number after an update is the key with what was put there, or another that had none
empty_by : {w : Option (Option ℤ)} {rest : Option (Option ℤ)} (q key : List ℕ) → cond (is_eq (name_cmp q key)) w rest ≡ Some None → ((q ≡ key) × (w ≡ Some None)) ⊎ ((q ≡ key → ⊥) × (rest ≡ Some None))
empty_by {w} {rest} q key e =
    elim (is_eq (name_cmp q key)) as (λ b. is_eq (name_cmp q key) ≡ b → cond b w rest ≡ Some None → ((q ≡ key) × (w ≡ Some None)) ⊎ ((q ≡ key → ⊥) × (rest ≡ Some None))) [
      | true ↦ λ is here. inl (exact_bytes q key (is_eq-Equal _ is), here)
      | false ↦ λ other there. inr ((λ same. clash _ other (subst (λ x. is_eq (name_cmp q x) ≡ true) same (tied q))), there)
    ] refl e
  where
    clash : (b : Bool) → b ≡ false → b ≡ true → ⊥
    clash b f t = cc

module _ {K : Type 0} (bytes : K → List ℕ) where
  pub empty_after : (m n : BTreeMap K (Option ℤ)) (key : List ℕ) (w : Option (Option ℤ)) → UpdatesBy (λ a b. name_cmp (bytes a) (bytes b)) (λ k. name_cmp key (bytes k)) m n w → (q : List ℕ) → IsEmptyAt bytes n.entries q → ((q ≡ key) × (w ≡ Some None)) ⊎ ((q ≡ key → ⊥) × IsEmptyAt bytes m.entries q)
  empty_after m n key w updates q empty = empty_by q key (sym (entry_after bytes m n key w updates q) ∙ empty)

  -- an entry with no number is made
  pub empty_made : (m n : BTreeMap K (Option ℤ)) (key : List ℕ) → UpdatesBy (λ a b. name_cmp (bytes a) (bytes b)) (λ k. name_cmp key (bytes k)) m n (Some None) → (q : List ℕ) → IsEmptyAt bytes n.entries q → IsEmptyAt bytes m.entries q ⊎ (q ≡ key)
  empty_made m n key updates q empty = elim (empty_after m n key (Some None) updates q empty) [
    | inl here ↦ inr here.0
    | inr there ↦ inl there.1
  ]

  -- a key is taken away
  pub empty_swept : (m n : BTreeMap K (Option ℤ)) (key : List ℕ) → UpdatesBy (λ a b. name_cmp (bytes a) (bytes b)) (λ k. name_cmp key (bytes k)) m n None → (q : List ℕ) → IsEmptyAt bytes n.entries q → IsEmptyAt bytes m.entries q × (q ≡ key → ⊥)
  empty_swept m n key updates q empty = elim (empty_after m n key None updates q empty) [
    | inl here ↦ absurd (let no_entry = here.1 in cc)
    | inr there ↦ (there.1, there.0)
  ]

  -- no entry without a number stands at the key
  pub empty_elsewhere : (entries : List (K × Option ℤ)) (key : List ℕ) → (IsEmptyAt bytes entries key → ⊥) → (q : List ℕ) → IsEmptyAt bytes entries q → IsEmptyAt bytes entries q × (q ≡ key → ⊥)
  empty_elsewhere entries key filled q empty = (empty, λ same. filled (subst (IsEmptyAt bytes entries) same empty))

  -- an op is done
  by_op : (q : List ℕ) (op : Op) (old : Option ℤ) → q ≡ op_key op → Some (number_after old op) ≡ Some None → Deletes q op
  by_op q (Set key n) old same none = absurd cc
  by_op q (Add key n) old same none = absurd cc
  by_op q (Del key) old same none = same

  not_given : (q : List ℕ) (op : Op) → (q ≡ op_key op → ⊥) → Gives q op → ⊥
  not_given q (Set key n) other given = other given
  not_given q (Add key n) other given = other given
  not_given q (Del key) other given = given

  pub empty_changed : (m n : BTreeMap K (Option ℤ)) (op : Op) (key : List ℕ) (old new : Option ℤ) → key ≡ op_key op → entry_at bytes m.entries key ≡ Some old → new ≡ number_after old op → WritesThrough (λ a b. name_cmp (bytes a) (bytes b)) (λ k. name_cmp key (bytes k)) m new n → (q : List ℕ) → IsEmptyAt bytes n.entries q → Deletes q op ⊎ (IsEmptyAt bytes m.entries q × (Gives q op → ⊥))
  empty_changed m n op key old new named at is writes q empty = elim (empty_after m n key (Some new) (writes.3 (some_is at)) q empty) [
    | inl here ↦ inl (by_op q op old (here.0 ∙ named) (ap (λ (o : Option ℤ). Some o) (sym is) ∙ here.1))
    | inr there ↦ inr (there.1, not_given q op (λ same. there.0 (same ∙ sym named)))
  ]

  -- an op on a key that is not there
  pub empty_untouched : (entries : List (K × Option ℤ)) (op : Op) → entry_at bytes entries (op_key op) ≡ None → (q : List ℕ) → IsEmptyAt bytes entries q → Deletes q op ⊎ (IsEmptyAt bytes entries q × (Gives q op → ⊥))
  empty_untouched entries op none q empty = inr (empty, not_given q op (λ same. clash (entry_at bytes entries q) empty (ap (entry_at bytes entries) same ∙ none)))
    where
      clash : (o : Option (Option ℤ)) → o ≡ Some None → o ≡ None → ⊥
      clash o some no_entry = cc

  pub HasRoom-kept : (old new : List (K × Option ℤ)) → ((q : List ℕ) → IsSome (entry_at bytes old q) → IsSome (entry_at bytes new q)) → (op : Op) → HasRoom bytes old op → HasRoom bytes new op
  HasRoom-kept old new kept (Set key n) room = kept key room
  HasRoom-kept old new kept (Add key n) room = kept key room
  HasRoom-kept old new kept (Del key) room = tt

  -- one op of several is done
  pub empty_step : (old mid new : List (K × Option ℤ)) (ops : List Op) (k : ℕ) (op : Op) → k < length ops → ((d : Op) → op ≡ get_or ops k d) → ((q : List ℕ) → IsEmptyAt bytes mid q → SomeFrom 0 (Deletes q) ops ⊎ (IsEmptyAt bytes old q × (SomeFrom 0 (Gives q) ops → SomeFrom k (Gives q) ops))) → ((q : List ℕ) → IsEmptyAt bytes new q → Deletes q op ⊎ (IsEmptyAt bytes mid q × (Gives q op → ⊥))) → (q : List ℕ) → IsEmptyAt bytes new q → SomeFrom 0 (Deletes q) ops ⊎ (IsEmptyAt bytes old q × (SomeFrom 0 (Gives q) ops → SomeFrom (k + 1) (Gives q) ops))
  empty_step old mid new ops k op lt at before step q empty = elim (step q empty) [
    | inl deleted ↦ inl (SomeFrom-here (Deletes q) ops k op lt at deleted)
    | inr still ↦ elim (before q still.0) [
      | inl deleted ↦ inl deleted
      | inr found ↦ inr (found.0, λ given. later given (found.1 given) still.1)
    ]
  ]
    where
      later : SomeFrom 0 (Gives q) ops → SomeFrom k (Gives q) ops → (Gives q op → ⊥) → SomeFrom (k + 1) (Gives q) ops
      later given from other = elim (SomeFrom-next (Gives q) ops k op at from) [
        | inl here ↦ absurd (other here)
        | inr rest ↦ rest
      ]
