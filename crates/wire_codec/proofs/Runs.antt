-- Items one after another: a loop's step, and both directions from those of one item.
use Rattle.std.proofs.Common.{◌≡◌, ℕ, zero, suc, ◌+◌, ◌*◌, ◌-◌, ◌<◌, ◌≤◌, Bool, true, ◌&&◌, List, [], ◌∷◌, ◌++◌, length, refl, sym, ap, ◌∙◌, append_assoc, length-append, mul-suc, arith}
use Rattle.std.specs.List.{flat_map}
use Rattle.std.proofs.lemmas.List.{append-nil}
use Rattle.record_frame.proofs.Names.{and_2}
use Rattle.record_frame.proofs.Parts.{IsBytes, IsBytes-behind}
use Rattle.wire_codec.specs.Runs.{are_items, items_of, past_items}

-- ---- a loop's step

pub are_items-next : (test : ℕ → List ℕ → Bool) (after : List ℕ → List ℕ) (id n i : ℕ) (bytes : List ℕ) → i < n → are_items test after id (n - i) bytes ≡ (test id bytes && are_items test after (id + 1) (n - (i + 1)) (after bytes))
unfolding are_items
are_items-next test after id n i bytes lt = let k : n - i ≡ suc (n - (i + 1)) = omega arith in rw k refl

pub past_items-next : (after : List ℕ → List ℕ) (n i : ℕ) (bytes : List ℕ) → i < n → past_items after (n - i) bytes ≡ past_items after (n - (i + 1)) (after bytes)
unfolding past_items
past_items-next after n i bytes lt = let k : n - i ≡ suc (n - (i + 1)) = omega arith in rw k refl

pub items_of-next : {V : Type 0} (value : List ℕ → V) (after : List ℕ → List ℕ) (n i : ℕ) (bytes : List ℕ) → i < n → items_of value after (n - i) bytes ≡ value bytes ∷ items_of value after (n - (i + 1)) (after bytes)
unfolding items_of
items_of-next value after n i bytes lt = let k : n - i ≡ suc (n - (i + 1)) = omega arith in rw k refl

pub are_items-none : (test : ℕ → List ℕ → Bool) (after : List ℕ → List ℕ) (id n i : ℕ) (bytes : List ℕ) → n ≤ i → are_items test after id (n - i) bytes ≡ true
unfolding are_items
are_items-none test after id n i bytes le = let k : n - i ≡ 0 = omega arith in rw k refl

pub past_items-none : (after : List ℕ → List ℕ) (n i : ℕ) (bytes : List ℕ) → n ≤ i → past_items after (n - i) bytes ≡ bytes
unfolding past_items
past_items-none after n i bytes le = let k : n - i ≡ 0 = omega arith in rw k refl

pub items_of-none : {V : Type 0} (value : List ℕ → V) (after : List ℕ → List ℕ) (n i : ℕ) (bytes : List ℕ) → n ≤ i → items_of value after (n - i) bytes ≡ []
unfolding items_of
items_of-none value after n i bytes le = let k : n - i ≡ 0 = omega arith in rw k refl

-- ---- both directions

-- what holds of each, at an id that rises by one
unfoldable pub RunFrom : {V : Type 0} → (ℕ → V → Type 0) → ℕ → List V → Type 0
RunFrom Fits id [] = Unit {0}
RunFrom Fits id (v ∷ vs) = Fits id v × RunFrom Fits (id + 1) vs

-- how one item is read, both ways
pub record IsFormat {V : Type 0} (spell : V → List ℕ) (Fits : ℕ → V → Type 0) (test : ℕ → List ℕ → Bool) (value : List ℕ → V) (after : List ℕ → List ℕ) : Type 0 where
  pub fits : (id : ℕ) (bytes : List ℕ) → test id bytes ≡ true → IsBytes bytes → Fits id (value bytes)
  pub spelled : (id : ℕ) (bytes : List ℕ) → test id bytes ≡ true → IsBytes bytes → bytes ≡ spell (value bytes) ++ after bytes
  pub form : (id : ℕ) (v : V) (rest : List ℕ) → Fits id v → test id (spell v ++ rest) ≡ true
  pub same : (id : ℕ) (v : V) (rest : List ℕ) → Fits id v → value (spell v ++ rest) ≡ v
  pub past : (id : ℕ) (v : V) (rest : List ℕ) → Fits id v → after (spell v ++ rest) ≡ rest

pub length-items_of : {V : Type 0} (value : List ℕ → V) (after : List ℕ → List ℕ) (n : ℕ) (bytes : List ℕ) → length (items_of value after n bytes) ≡ n
unfolding items_of
length-items_of value after zero bytes = refl
length-items_of value after (suc n) bytes = ap suc (length-items_of value after n (after bytes))

pub record AreSpelled {V : Type 0} (spell : V → List ℕ) (Fits : ℕ → V → Type 0) (id : ℕ) (bytes : List ℕ) (vs : List V) (rest : List ℕ) : Type 0 where
  pub fits : RunFrom Fits id vs
  pub spelled : bytes ≡ flat_map spell vs ++ rest

pub items-spelled : {V : Type 0} (spell : V → List ℕ) (Fits : ℕ → V → Type 0) (test : ℕ → List ℕ → Bool) (value : List ℕ → V) (after : List ℕ → List ℕ) → IsFormat spell Fits test value after
    → (id n : ℕ) (bytes : List ℕ) → are_items test after id n bytes ≡ true → IsBytes bytes → AreSpelled spell Fits id bytes (items_of value after n bytes) (past_items after n bytes)
unfolding are_items items_of past_items RunFrom
items-spelled spell Fits test value after is id zero bytes e fits = record { fits = tt; spelled = refl }
items-spelled spell Fits test value after is id (suc n) bytes e fits =
    let p = and_2 _ _ e in
    let one = is.spelled id bytes p.0 fits in
    let rest_fits = IsBytes-behind (spell (value bytes)) (after bytes) bytes one fits in
    let others = items-spelled spell Fits test value after is (id + 1) n (after bytes) p.1 rest_fits in
    let vs = items_of value after n (after bytes) in
    record {
      fits = (is.fits id bytes p.0 fits, others.fits);
      spelled = one ∙ ap (λ (l : List ℕ). spell (value bytes) ++ l) others.spelled ∙ sym (append_assoc (spell (value bytes)) (flat_map spell vs) (past_items after n (after bytes)));
    }

pub record AreRead {V : Type 0} (test : ℕ → List ℕ → Bool) (value : List ℕ → V) (after : List ℕ → List ℕ) (id : ℕ) (vs : List V) (bytes rest : List ℕ) : Type 0 where
  pub form : are_items test after id (length vs) bytes ≡ true
  pub same : items_of value after (length vs) bytes ≡ vs
  pub past : past_items after (length vs) bytes ≡ rest

pub items-read : {V : Type 0} (spell : V → List ℕ) (Fits : ℕ → V → Type 0) (test : ℕ → List ℕ → Bool) (value : List ℕ → V) (after : List ℕ → List ℕ) → IsFormat spell Fits test value after
    → (id : ℕ) (vs : List V) (rest : List ℕ) → RunFrom Fits id vs → AreRead test value after id vs (flat_map spell vs ++ rest) rest
unfolding are_items items_of past_items RunFrom
items-read spell Fits test value after is id [] rest run = record { form = refl; same = refl; past = refl }
items-read spell Fits test value after is id (v ∷ vs) rest run =
    let tail = flat_map spell vs ++ rest in
    let group : flat_map spell (v ∷ vs) ++ rest ≡ spell v ++ tail = append_assoc (spell v) (flat_map spell vs) rest in
    let others = items-read spell Fits test value after is (id + 1) vs rest run.1 in
    let form = is.form id v tail run.0 in
    let same = is.same id v tail run.0 in
    let past = is.past id v tail run.0 in
    record {
      form = ap (are_items test after id (suc (length vs))) group ∙ rw (form, past, others.form) refl;
      same = ap (items_of value after (suc (length vs))) group ∙ rw (same, past, others.same) refl;
      past = ap (past_items after (suc (length vs))) group ∙ ap (past_items after (length vs)) past ∙ others.past;
    }

pub items-length : {V : Type 0} (spell : V → List ℕ) (Fits : ℕ → V → Type 0) (most : ℕ) → ((id : ℕ) (v : V) → Fits id v → length (spell v) ≤ most) → (id : ℕ) (vs : List V) → RunFrom Fits id vs → length (flat_map spell vs) ≤ most * length vs
unfolding RunFrom
items-length spell Fits most each id [] run = omega arith
items-length spell Fits most each id (v ∷ vs) run =
    let a = each id v run.0 in
    let b = items-length spell Fits most each (id + 1) vs run.1 in
    let c = length-append (spell v) (flat_map spell vs) in
    more most (length vs) (length (spell v)) (length (flat_map spell vs)) (length (spell v ++ flat_map spell vs)) a b c
  where
    more : (most n a b c : ℕ) → a ≤ most → b ≤ most * n → c ≡ a + b → c ≤ most * suc n
    more most n a b c p q r = rw mul-suc (omega arith)

-- ---- a loop that builds the items

pub record IsNext (test : ℕ → List ℕ → Bool) (after : List ℕ → List ℕ) (id n i : ℕ) (bytes : List ℕ) : Type 0 where
  pub one : test id bytes ≡ true
  pub others : are_items test after (id + 1) (n - (i + 1)) (after bytes) ≡ true

pub is_next : (test : ℕ → List ℕ → Bool) (after : List ℕ → List ℕ) (id n i : ℕ) (bytes : List ℕ) → i < n → are_items test after id (n - i) bytes ≡ true → IsNext test after id n i bytes
is_next test after id n i bytes lt e =
    let p = and_2 (test id bytes) (are_items test after (id + 1) (n - (i + 1)) (after bytes)) (sym (are_items-next test after id n i bytes lt) ∙ e) in
    record { one = p.0; others = p.1 }

pub goes_on : {V : Type 0} (value : List ℕ → V) (after : List ℕ → List ℕ) (n i : ℕ) (bytes rest : List ℕ) (old new total : List V) (v : V) → i < n → new ≡ old ++ v ∷ [] → v ≡ value bytes → rest ≡ after bytes
    → old ++ items_of value after (n - i) bytes ≡ total → new ++ items_of value after (n - (i + 1)) rest ≡ total
goes_on value after n i bytes rest old new total v lt grown v_is rest_is so_far =
    let next = items_of-next value after n i bytes lt in
    rw (grown, v_is, rest_is) (append_assoc old _ _ ∙ ap (λ l. old ++ l) (sym next) ∙ so_far)

pub is_done : {V : Type 0} (value : List ℕ → V) (after : List ℕ → List ℕ) (n i : ℕ) (bytes : List ℕ) (old total : List V) → n ≤ i → old ++ items_of value after (n - i) bytes ≡ total → old ≡ total
is_done value after n i bytes old total le so_far = sym (append-nil old) ∙ ap (λ l. old ++ l) (sym (items_of-none value after n i bytes le)) ∙ so_far
