-- The keys that ops name, and what ops leave as it is.
use Rattle.std.proofs.Common.{cond, ◌+ℤ◌, ◌≡◌, ℕ, ◌⊎◌, Bool, true, false, refl, ap, sym, ◌∙◌, inl, inr, List, [], ◌∷◌, map, Contains, Option, Some, None, true≢false}
use Rattle.std.specs.FinMap as finite
use Rattle.std.specs.FinMap.{get-insert, get-remove, contains_key-keys}
use Rattle.std.specs.Ordering.{is_eq}
use Rattle.std.specs.declared.cmp.Ordering.{Ordering}
use Rattle.std.specs.declared.cmp.Ordering.TheVariants.{Less, Equal, Greater}
use Rattle.std.proofs.lemmas.Cmp.{nat_list_cmp_total, tied_itself}
use Rattle.std.proofs.lemmas.Map.Lookups.{exact_bytes}
use Rattle.std.proofs.lemmas.Map.Views.{Contains-from_any, tells_apart}
use Rattle.tx_model.specs.Applications.{op_key, ops_of, name_cmp, key_set, touched_keys, named_keys, Application, saturated, number_or_zero, after_op, after_ops, after_read, after_payload}
use Rattle.tx_model.specs.declared.op.Op.{Op}
use Rattle.tx_model.specs.declared.op.Op.TheVariants.{Set, Add, Del}

-- an op names the key
abbrev pub IsTouched : List ℕ → List Op → Type 0
IsTouched key [] = ⊥
IsTouched key (op ∷ ops) = (key ≡ op_key op) ⊎ IsTouched key ops

-- it is in their set

same_in_set : (keys : List (List ℕ)) (k key : List ℕ) → key ≡ k → finite.get (finite.insert (key_set keys) k tt) key ≡ Some tt
same_in_set keys k key e =
    let tied : is_eq (name_cmp key k) ≡ true = ap (λ (x : List ℕ). is_eq (name_cmp key x)) (sym e) ∙ ap is_eq (tied_itself nat_list_cmp_total key) in
    get-insert nat_list_cmp_total (key_set keys) k tt key ∙ rw tied refl

more_in_set : (keys : List (List ℕ)) (k key : List ℕ) → finite.get (key_set keys) key ≡ Some tt
    → finite.get (finite.insert (key_set keys) k tt) key ≡ Some tt
more_in_set keys k key is = get-insert nat_list_cmp_total (key_set keys) k tt key ∙ by_test (is_eq (name_cmp key k))
  where
    by_test : (b : Bool) → cond b (Some tt) (finite.get (key_set keys) key) ≡ Some tt
    by_test true = refl
    by_test false = is

in_set : (ops : List Op) (key : List ℕ) → IsTouched key ops → finite.get (key_set (map op_key ops)) key ≡ Some tt
in_set [] key t = absurd t
in_set (op ∷ ops) key (inl e) = same_in_set (map op_key ops) (op_key op) key e
in_set (op ∷ ops) key (inr t) = more_in_set (map op_key ops) (op_key op) key (in_set ops key t)

touched_named : (ops : List Op) (key : List ℕ) → IsTouched key ops → Contains (touched_keys ops) key
touched_named ops key t =
    let set = key_set (map op_key ops) in
    let there : finite.contains_key set key ≡ true = rw (in_set ops key t) refl in
    Contains-from_any (tells_apart exact_bytes) key (finite.keys set) (sym (contains_key-keys set key) ∙ there)

-- what ops leave

other_key : (o : Ordering) (key k : List ℕ) → name_cmp key k ≡ o → (key ≡ k → ⊥) → is_eq o ≡ false
other_key Less key k e ne = refl
other_key Greater key k e ne = refl
other_key Equal key k e ne = absurd (ne (exact_bytes key k e))

left_out : {A : Type 0} (b : Bool) (x y : A) → b ≡ false → cond b x y ≡ y
left_out true x y e = absurd (true≢false e)
left_out false x y e = refl

op_leaves : (app : Application) (op : Op) (key : List ℕ) → (key ≡ op_key op → ⊥) → finite.get (after_op app op) key ≡ finite.get app key
op_leaves app (Set k n) key ne =
    get-insert nat_list_cmp_total app k n key ∙ left_out (is_eq (name_cmp key k)) (Some n) (finite.get app key) (other_key (name_cmp key k) key k refl ne)
op_leaves app (Add k n) key ne =
    let sum = saturated (number_or_zero (finite.get app k) +ℤ n) in
    get-insert nat_list_cmp_total app k sum key ∙ left_out (is_eq (name_cmp key k)) (Some sum) (finite.get app key)
    (other_key (name_cmp key k) key k refl ne)
op_leaves app (Del k) key ne =
    get-remove nat_list_cmp_total app k key ∙ left_out (is_eq (name_cmp key k)) None (finite.get app key) (other_key (name_cmp key k) key k refl ne)

ops_leave : (ops : List Op) (app : Application) (key : List ℕ) → (IsTouched key ops → ⊥) → finite.get (after_ops app ops) key ≡ finite.get app key
ops_leave [] app key none = refl
ops_leave (op ∷ ops) app key none = ops_leave ops (after_op app op) key (λ t. none (inr t)) ∙ op_leaves app op key (λ e. none (inl e))

read_leaves : (o : Option (List Op)) (app : Application) (key : List ℕ) → ((ops : List Op) → o ≡ Some ops → IsTouched key ops → ⊥)
    → finite.get (after_read app o) key ≡ finite.get app key
read_leaves None app key none = refl
read_leaves (Some ops) app key none = ops_leave ops app key (none ops refl)

named_by : (payload : List ℕ) (ops : List Op) (key : List ℕ) → ops_of payload ≡ Some ops → IsTouched key ops → Contains (named_keys payload) key
named_by payload ops key is t = rw is (touched_named ops key t)

-- a payload leaves a key that it doesn't name
pub payload_leaves : (app : Application) (payload key : List ℕ) → (Contains (named_keys payload) key → ⊥)
    → finite.get (after_payload app payload) key ≡ finite.get app key
payload_leaves app payload key free = read_leaves (ops_of payload) app key (λ ops is t. free (named_by payload ops key is t))
