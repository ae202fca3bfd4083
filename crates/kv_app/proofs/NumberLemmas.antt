-- What changes of the entries make of the application.
use Rattle.std.proofs.Common.{◌≡◌, ℕ, ℤ, Bool, true, false, cond, ◌+ℤ◌, List, [], ◌∷◌, Option, Some, None, refl, sym, ◌∙◌, ap, subst}
use mathlib.Core.Bool.{true≢false}
use Rattle.std.specs.Option.{IsSome, is_some}
use Rattle.std.specs.FinMap as finite
use Rattle.std.specs.FinMap.{get-empty, get-insert, get-remove, same_map}
use Rattle.std.specs.Map.{KeepsOthers}
use Rattle.std.specs.BTreeMap.{BTreeMap, UpdatesBy, WritesThrough}
use Rattle.std.specs.declared.cmp.Ordering.{Ordering}
use Rattle.std.specs.declared.cmp.Ordering.TheVariants.{Less, Equal, Greater}
use Rattle.std.specs.Ordering.{is_eq}
use Rattle.std.proofs.lemmas.Cmp.{nat_list_cmp_total}
use Rattle.std.proofs.lemmas.Map.Lookups.{exact_bytes}
use Rattle.tx_model.specs.declared.op.Op.{Op}
use Rattle.tx_model.specs.declared.op.Op.TheVariants.{Set, Add, Del}
use Rattle.tx_model.specs.Applications.{Application, name_cmp, after_op, number_or_zero, saturated}
use Rattle.kv_app.specs.Touches.{op_key}
use Rattle.kv_app.specs.Numbers.{with_number, application_of, entry_at, HasRoom, number_after}

pub flat : Option (Option ℤ) → Option ℤ
flat None = None
flat (Some number) = number

flat_cond : (b : Bool) (number : Option ℤ) (rest : Option (Option ℤ)) → flat (cond b (Some number) rest) ≡ cond b number (flat rest)
unfolding flat
flat_cond true number rest = refl
flat_cond false number rest = refl

get-with_number : (app : Application) (key : List ℕ) (w : Option ℤ) (q : List ℕ) → finite.get (with_number app key w) q ≡ cond (is_eq (name_cmp q key)) w (finite.get app q)
get-with_number app key None q = get-remove nat_list_cmp_total app key q
get-with_number app key (Some n) q = get-insert nat_list_cmp_total app key n q

is_eq-Equal : (o : Ordering) → is_eq o ≡ true → o ≡ Equal
is_eq-Equal Less h = absurd cc
is_eq-Equal Equal h = refl
is_eq-Equal Greater h = absurd cc

pub same_application : (a b : Application) → ((q : List ℕ) → finite.get a q ≡ finite.get b q) → a ≡ b
same_application a b same = same_map nat_list_cmp_total exact_bytes a b same

-- a key that has no number may have none
pub with_none : (app : Application) (key : List ℕ) → finite.get app key ≡ None → with_number app key None ≡ app
with_none app key none = same_application (with_number app key None) app (λ q. get-with_number app key None q ∙ go (name_cmp q key) q refl)
  where
    go : (o : Ordering) (q : List ℕ) → name_cmp q key ≡ o → cond (is_eq o) None (finite.get app q) ≡ finite.get app q
    go Less q e = refl
    go Equal q e = sym (ap (finite.get app) (exact_bytes q key e) ∙ none)
    go Greater q e = refl

pub some_is : {A : Type 0} {o : Option A} {x : A} → o ≡ Some x → IsSome o
some_is e = subst IsSome (sym e) refl

module _ {K : Type 0} (bytes : K → List ℕ) where
  pub get-application_of : (entries : List (K × Option ℤ)) (q : List ℕ) → finite.get (application_of bytes entries) q ≡ flat (entry_at bytes entries q)
  unfolding flat
  get-application_of [] q = get-empty name_cmp q
  get-application_of (entry ∷ entries) q =
      get-with_number (application_of bytes entries) (bytes entry.0) entry.1 q
      ∙ (ap (cond (is_eq (name_cmp q (bytes entry.0))) entry.1) (get-application_of entries q)
      ∙ sym (flat_cond (is_eq (name_cmp q (bytes entry.0))) entry.1 (entry_at bytes entries q)))

  -- what an update leaves at each key
  pub entry_after : (m n : BTreeMap K (Option ℤ)) (key : List ℕ) (w : Option (Option ℤ)) → UpdatesBy (λ a b. name_cmp (bytes a) (bytes b)) (λ k. name_cmp key (bytes k)) m n w → (q : List ℕ) → entry_at bytes n.entries q ≡ cond (is_eq (name_cmp q key)) w (entry_at bytes m.entries q)
  unfolding KeepsOthers
  entry_after m n key w updates q = go (name_cmp q key) refl
    where
      apart : is_eq (name_cmp q key) ≡ false → entry_at bytes n.entries q ≡ entry_at bytes m.entries q
      apart other = updates.3 (λ k. is_eq (name_cmp q (bytes k)))
          (λ x y at. ap (λ key. is_eq (name_cmp key (bytes y))) (exact_bytes q (bytes x) (is_eq-Equal _ at)))
          (λ k at. ap (λ key. is_eq (name_cmp q key)) (sym (exact_bytes key (bytes k) (is_eq-Equal _ at))) ∙ other)

      go : (o : Ordering) → name_cmp q key ≡ o → entry_at bytes n.entries q ≡ cond (is_eq o) w (entry_at bytes m.entries q)
      go Less e = apart (ap is_eq e)
      go Equal e = ap (entry_at bytes n.entries) (exact_bytes q key e) ∙ updates.1
      go Greater e = apart (ap is_eq e)

  pub application_after : (m n : BTreeMap K (Option ℤ)) (key : List ℕ) (w : Option (Option ℤ)) → UpdatesBy (λ a b. name_cmp (bytes a) (bytes b)) (λ k. name_cmp key (bytes k)) m n w → application_of bytes n.entries ≡ with_number (application_of bytes m.entries) key (flat w)
  unfolding flat
  application_after m n key w updates = same_application _ _ (λ q.
      get-application_of n.entries q ∙ (ap flat (entry_after m n key w updates q) ∙ (flat_of (is_eq (name_cmp q key)) (entry_at bytes m.entries q)
      ∙ sym (get-with_number (application_of bytes m.entries) key (flat w) q ∙ ap (cond (is_eq (name_cmp q key)) (flat w)) (get-application_of m.entries q)))))
    where
      flat_of : (b : Bool) (rest : Option (Option ℤ)) → flat (cond b w rest) ≡ cond b (flat w) (flat rest)
      flat_of true rest = refl
      flat_of false rest = refl

  pub entry_kept : (m n : BTreeMap K (Option ℤ)) (key : List ℕ) (w : Option ℤ) → UpdatesBy (λ a b. name_cmp (bytes a) (bytes b)) (λ k. name_cmp key (bytes k)) m n (Some w) → (q : List ℕ) → IsSome (entry_at bytes m.entries q) → IsSome (entry_at bytes n.entries q)
  entry_kept m n key w updates q some = subst IsSome (sym (entry_after m n key (Some w) updates q)) (go (is_eq (name_cmp q key)))
    where
      go : (b : Bool) → IsSome (cond b (Some w) (entry_at bytes m.entries q))
      go true = refl
      go false = some

  -- an entry with no number for a key that has none
  pub application_made : (m n : BTreeMap K (Option ℤ)) (key : List ℕ) → UpdatesBy (λ a b. name_cmp (bytes a) (bytes b)) (λ k. name_cmp key (bytes k)) m n (Some None) → entry_at bytes m.entries key ≡ None → application_of bytes n.entries ≡ application_of bytes m.entries
  unfolding flat
  application_made m n key updates none =
      application_after m n key (Some None) updates ∙ with_none (application_of bytes m.entries) key (get-application_of m.entries key ∙ ap flat none)

  -- away with a key that has no number
  pub application_swept : (m n : BTreeMap K (Option ℤ)) (key : List ℕ) → UpdatesBy (λ a b. name_cmp (bytes a) (bytes b)) (λ k. name_cmp key (bytes k)) m n None → entry_at bytes m.entries key ≡ Some None → application_of bytes n.entries ≡ application_of bytes m.entries
  unfolding flat
  application_swept m n key updates none =
      application_after m n key None updates ∙ with_none (application_of bytes m.entries) key (get-application_of m.entries key ∙ ap flat none)

  after_op-is : (app : Application) (op : Op) (old : Option ℤ) → finite.get app (op_key op) ≡ old → after_op app op ≡ with_number app (op_key op) (number_after old op)
  after_op-is app (Set key n) old at = refl
  after_op-is app (Add key n) old at = ap (λ (o : Option ℤ). finite.insert app key (saturated (number_or_zero o +ℤ n))) at
  after_op-is app (Del key) old at = refl

  -- the number at an op's key is the one that the op leaves
  pub application_changed : (m n : BTreeMap K (Option ℤ)) (op : Op) (old : Option ℤ) → entry_at bytes m.entries (op_key op) ≡ Some old → UpdatesBy (λ a b. name_cmp (bytes a) (bytes b)) (λ k. name_cmp (op_key op) (bytes k)) m n (Some (number_after old op)) → application_of bytes n.entries ≡ after_op (application_of bytes m.entries) op
  unfolding flat
  application_changed m n op old at updates =
      application_after m n (op_key op) (Some (number_after old op)) updates
      ∙ sym (after_op-is (application_of bytes m.entries) op old (get-application_of m.entries (op_key op) ∙ ap flat at))

  -- an op on a key with no entry
  pub application_untouched : (m : BTreeMap K (Option ℤ)) (op : Op) → HasRoom bytes m.entries op → entry_at bytes m.entries (op_key op) ≡ None → application_of bytes m.entries ≡ after_op (application_of bytes m.entries) op
  unfolding flat
  application_untouched m (Set key n) room none = absurd (true≢false (sym (subst IsSome none room)))
  application_untouched m (Add key n) room none = absurd (true≢false (sym (subst IsSome none room)))
  application_untouched m (Del key) room none = sym (with_none (application_of bytes m.entries) key (get-application_of m.entries key ∙ ap flat none))

  pub application_written : (m n : BTreeMap K (Option ℤ)) (op : Op) (key : List ℕ) (old new : Option ℤ) → key ≡ op_key op → entry_at bytes m.entries key ≡ Some old → new ≡ number_after old op → WritesThrough (λ a b. name_cmp (bytes a) (bytes b)) (λ k. name_cmp key (bytes k)) m new n → application_of bytes n.entries ≡ after_op (application_of bytes m.entries) op
  application_written m n op key old new named at is writes =
      let updates : UpdatesBy (λ a b. name_cmp (bytes a) (bytes b)) (λ k. name_cmp key (bytes k)) m n (Some new) = writes.3 (some_is at) in
      let P : List ℕ → Type 0 = λ key. UpdatesBy (λ a b. name_cmp (bytes a) (bytes b)) (λ k. name_cmp key (bytes k)) m n (Some new) in
      let Q : Option ℤ → Type 0 = λ w. UpdatesBy (λ a b. name_cmp (bytes a) (bytes b)) (λ k. name_cmp (op_key op) (bytes k)) m n (Some w) in
      application_changed m n op old (ap (entry_at bytes m.entries) (sym named) ∙ at) (subst Q is (subst P named updates))

  pub entry_written : (m n : BTreeMap K (Option ℤ)) (key : List ℕ) (old new : Option ℤ) → entry_at bytes m.entries key ≡ Some old → WritesThrough (λ a b. name_cmp (bytes a) (bytes b)) (λ k. name_cmp key (bytes k)) m new n → (q : List ℕ) → IsSome (entry_at bytes m.entries q) → IsSome (entry_at bytes n.entries q)
  entry_written m n key old new at writes q some = entry_kept m n key new (writes.3 (some_is at)) q some

  pub get-found : (entries : List (K × Option ℤ)) (key : List ℕ) (number : Option ℤ) → entry_at bytes entries key ≡ Some number → number ≡ finite.get (application_of bytes entries) key
  unfolding flat
  get-found entries key number at = sym (get-application_of entries key ∙ ap flat at)

  pub get-absent : (entries : List (K × Option ℤ)) (key : List ℕ) → entry_at bytes entries key ≡ None → None ≡ finite.get (application_of bytes entries) key
  unfolding flat
  get-absent entries key none = sym (get-application_of entries key ∙ ap flat none)

pub none_at : {A : Type 0} (o : Option A) → false ≡ is_some o → o ≡ None
none_at None e = refl
none_at (Some x) e = absurd cc
