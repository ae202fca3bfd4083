-- Requests that are found by their ids, as the list of them in order.
use Rattle.std.proofs.Common.{◌≡◌, ◌≢◌, ℕ, zero, suc, ◌+◌, ◌-◌, ◌<◌, ◌≤◌, min, nat_eq, nat_lt, nat_le, ◌&&◌, if◌then◌else◌, cond, true, false, [], ◌∷◌, ◌++◌, length, take, drop, slice_get, Option, None, Some, is_some, inl, inr, refl, ap, sym, ◌∙◌, arith}
use Rattle.std.proofs.lemmas.Bool.Decides.{nat_tests}
use Rattle.std.proofs.lemmas.Bool.{cases_eq}
use Rattle.proto_model.specs.declared.client_message.FromServer.{FromServer}
use Rattle.proto_model.specs.declared.client_message.FromServer.TheVariants.{Committed}
use Rattle.proto_model.specs.Servers.{Waiting, is_due, waits_on}
use Rattle.partition_server.specs.declared.waiting.Asker.{Asker}
use Rattle.partition_server.specs.Answers.{addressed}
use Rattle.partition_server.specs.Waits.{WaitUpTo}
use Rattle.partition_server.specs.ById.{listed, waiting_at}

pub listed-length : (f : ℕ → Option Asker) (before n : ℕ) → length (listed f before n) ≡ n
listed-length f before zero = refl
listed-length f before (suc n) = ap suc (listed-length f (suc before) n)

pub listed-same : (f g : ℕ → Option Asker) (before n : ℕ) → ((id : ℕ) → before < id → id ≤ before + n → f id ≡ g id) → listed f before n ≡ listed g before n
listed-same f g before zero same = refl
listed-same f g before (suc n) same =
    let here : f (suc before) ≡ g (suc before) = same (suc before) (omega arith) (omega arith) in
    let rest : listed f (suc before) n ≡ listed g (suc before) n = listed-same f g (suc before) n (λ id low high. same id (omega (arith, low)) (omega (arith, high))) in
    λ j. record { id = suc before; client = (waiting_at (λ _. here j) (suc before)).client; request = (waiting_at (λ _. here j) (suc before)).request } ∷ rest j

pub listed-push : (f : ℕ → Option Asker) (before n : ℕ) → listed f before (suc n) ≡ listed f before n ++ waiting_at f (suc (before + n)) ∷ []
listed-push f before zero = let e : suc before ≡ suc (before + 0) = omega arith in ap (λ id. waiting_at f id ∷ []) e
listed-push f before (suc n) =
    let e : suc (suc before + n) ≡ suc (before + suc n) = omega arith in
    ap (λ l. waiting_at f (suc before) ∷ l) (listed-push f (suc before) n ∙ ap (λ id. listed f (suc before) n ++ waiting_at f id ∷ []) e)

pub listed-get : (f : ℕ → Option Asker) (before n k : ℕ) → k < n → slice_get (listed f before n) k ≡ Some (waiting_at f (before + 1 + k))
listed-get f before zero k low = absurd (omega (arith, low))
listed-get f before (suc n) zero low = let e : suc before ≡ before + 1 + 0 = omega arith in ap (λ id. Some (waiting_at f id)) e
listed-get f before (suc n) (suc k) low =
    let e : suc before + 1 + k ≡ before + 1 + suc k = omega arith in
    listed-get f (suc before) n k (omega (arith, low)) ∙ ap (λ id. Some (waiting_at f id)) e

pub answered_at : (f : ℕ → Option Asker) (before n k : ℕ) (asker : Asker) (w : Waiting) → k < n → slice_get (listed f before n) k ≡ Some w → f (before + 1 + k) ≡ Some asker →
    ◌≡◌ {A = ℕ × FromServer} (asker.client, Committed asker.request (before + 1 + k)) (addressed w)
answered_at f before n k asker w low at there =
    let id : ℕ = before + 1 + k in
    let e : Some (waiting_at f id) ≡ Some w = sym (listed-get f before n k low) ∙ at in
    let same : waiting_at f id ≡ w = cc in
    ap (λ o. addressed (waiting_at (λ _. o) id)) (sym there) ∙ ap addressed same

-- ---- those that are due are the front

none_due : (f : ℕ → Option Asker) (mark before n : ℕ) → mark ≤ before → is_due mark (listed f before n) ≡ []
none_due f mark before zero low = refl
none_due f mark before (suc n) low =
    let test : nat_le (suc before) mark ≡ false = grind (arith, nat_tests, low) in
    ap (λ b. if b then waiting_at f (suc before) ∷ is_due mark (listed f (suc before) n) else is_due mark (listed f (suc before) n)) test
    ∙ none_due f mark (suc before) n (omega (arith, low))

all_wait : (f : ℕ → Option Asker) (mark before n : ℕ) → mark ≤ before → waits_on mark (listed f before n) ≡ listed f before n
all_wait f mark before zero low = refl
all_wait f mark before (suc n) low =
    let test : nat_lt mark (suc before) ≡ true = grind (arith, nat_tests, low) in
    ap (λ b. if b then waiting_at f (suc before) ∷ waits_on mark (listed f (suc before) n) else waits_on mark (listed f (suc before) n)) test
    ∙ ap (λ l. waiting_at f (suc before) ∷ l) (all_wait f mark (suc before) n (omega (arith, low)))

pub due_front : (f : ℕ → Option Asker) (mark before n k : ℕ) → k ≡ min (mark - before) n → is_due mark (listed f before n) ≡ take k (listed f before n)
due_front f mark before zero k is = let e : k ≡ 0 = omega (arith, is) in rw e refl
due_front f mark before (suc n) zero is = none_due f mark before (suc n) (omega (arith, is))
due_front f mark before (suc n) (suc k) is =
    let test : nat_le (suc before) mark ≡ true = grind (arith, nat_tests, is) in
    ap (λ b. if b then waiting_at f (suc before) ∷ is_due mark (listed f (suc before) n) else is_due mark (listed f (suc before) n)) test
    ∙ ap (λ l. waiting_at f (suc before) ∷ l) (due_front f mark (suc before) n k (omega (arith, is)))

pub due_rest : (f : ℕ → Option Asker) (mark before n k : ℕ) → k ≡ min (mark - before) n → waits_on mark (listed f before n) ≡ drop k (listed f before n)
due_rest f mark before zero k is = let e : k ≡ 0 = omega (arith, is) in rw e refl
due_rest f mark before (suc n) zero is = all_wait f mark before (suc n) (omega (arith, is))
due_rest f mark before (suc n) (suc k) is =
    let test : nat_lt mark (suc before) ≡ false = grind (arith, nat_tests, is) in
    ap (λ b. if b then waiting_at f (suc before) ∷ waits_on mark (listed f (suc before) n) else waits_on mark (listed f (suc before) n)) test
    ∙ due_rest f mark (suc before) n k (omega (arith, is))

-- ---- one more at the end

-- which ids have a request
abbrev pub HasIds : (ℕ → Option Asker) → ℕ → ℕ → Type 0
HasIds f before n = (id : ℕ) → is_some (f id) ≡ (nat_lt before id && nat_le id (before + n))

-- where the next one goes
pub next_place : (f : ℕ → Option Asker) (before n id : ℕ) → WaitUpTo (id - 1) (listed f before n) → 1 ≤ n → before + n + 1 ≡ id
next_place f before zero id wait some = absurd (omega (arith, some))
next_place f before (suc n) id wait some =
    let place = wait.0.place in
    let len = listed-length f (suc before) n in
    omega (arith, place, len)

none_there : (o : Option Asker) → is_some o ≡ false → o ≡ None
none_there None h = refl
none_there (Some asker) h = absurd (let e : true ≡ false = h in cc)

off_ids : (before n id : ℕ) → (1 ≤ n → before + n + 1 ≡ id) → (nat_lt before id && nat_le id (before + n)) ≡ false
off_ids before zero id next = grind (arith, nat_tests)
off_ids before (suc n) id next = let e = next (omega arith) in grind (arith, nat_tests, e)

pub some_there : (f : ℕ → Option Asker) (before n k : ℕ) → HasIds f before n → k < n → f (before + 1 + k) ≡ None → ⊥
some_there f before n k has low none =
    let test : (nat_lt before (before + 1 + k) && nat_le (before + 1 + k) (before + n)) ≡ true = grind (arith, nat_tests, low) in
    let e : false ≡ true = ap is_some (sym none) ∙ (has (before + 1 + k) ∙ test) in
    cc

pub absent : (f : ℕ → Option Asker) (before n id : ℕ) → HasIds f before n → (1 ≤ n → before + n + 1 ≡ id) → f id ≡ None
absent f before n id has next = none_there (f id) (has id ∙ off_ids before n id next)

more_ids : (before n id q : ℕ) → 1 ≤ id → (1 ≤ n → before + n + 1 ≡ id) → id ≢ q → (nat_lt before q && nat_le q (before + n)) ≡ (nat_lt (id - suc n) q && nat_le q (id - suc n + suc n))
more_ids before zero id q some next other = grind (arith, nat_tests, other)
more_ids before (suc n) id q some next other = let e = next (omega arith) in grind (arith, nat_tests, other, e)

pub room_before : (before n id : ℕ) → 1 ≤ id → (1 ≤ n → before + n + 1 ≡ id) → suc n ≤ id
room_before before zero id some next = some
room_before before (suc n) id some next = let e = next (omega arith) in omega (arith, e)

new_there : (g : ℕ → Option Asker) (id q : ℕ) (asker : Asker) (old : Option Asker) → id ≡ q → g q ≡ cond (nat_eq id q) (Some asker) old → g q ≡ Some asker
new_there g id q asker old same is =
    let t : nat_eq id q ≡ true = grind (arith, nat_tests, same) in
    is ∙ ap (λ b. cond b (Some asker) old) t

old_there : (g : ℕ → Option Asker) (id q : ℕ) (asker : Asker) (old : Option Asker) → id ≢ q → g q ≡ cond (nat_eq id q) (Some asker) old → g q ≡ old
old_there g id q asker old other is =
    let t : nat_eq id q ≡ false = grind (arith, nat_tests, other) in
    is ∙ ap (λ b. cond b (Some asker) old) t

pub added_ids : (f g : ℕ → Option Asker) (before n id : ℕ) (asker : Asker) → HasIds f before n → 1 ≤ id → (1 ≤ n → before + n + 1 ≡ id) →
    ((q : ℕ) → g q ≡ cond (nat_eq id q) (Some asker) (f q)) → HasIds g (id - suc n) (suc n)
added_ids f g before n id asker has some next new q = elim (cases_eq id q) [
  | inl same ↦ (
      let room = room_before before n id some next in
      let test : (nat_lt (id - suc n) q && nat_le q (id - suc n + suc n)) ≡ true = grind (arith, nat_tests, same, room) in
      ap is_some (new_there g id q asker (f q) same (new q)) ∙ sym test)
  | inr other ↦ ap is_some (old_there g id q asker (f q) other (new q)) ∙ (has q ∙ more_ids before n id q some next other)
]

old_list : (f g : ℕ → Option Asker) (before n id : ℕ) (asker : Asker) → (1 ≤ n → before + n + 1 ≡ id) → ((q : ℕ) → g q ≡ cond (nat_eq id q) (Some asker) (f q)) → listed g (id - suc n) n ≡ listed f before n
old_list f g before zero id asker next new = refl
old_list f g before (suc n) id asker next new =
    let e = next (omega arith) in
    let place : id - suc (suc n) ≡ before = omega (arith, e) in
    ap (λ b. listed g b (suc n)) place
    ∙ listed-same g f before (suc n) (λ q low high. old_there g id q asker (f q) (λ same. omega (arith, same, high, e)) (new q))

pub added_list : (f g : ℕ → Option Asker) (before n id : ℕ) (asker : Asker) → 1 ≤ id → (1 ≤ n → before + n + 1 ≡ id) →
    ((q : ℕ) → g q ≡ cond (nat_eq id q) (Some asker) (f q)) →
    listed g (id - suc n) (suc n) ≡ listed f before n ++ record { id = id; client = asker.client; request = asker.request } ∷ []
added_list f g before n id asker some next new =
    let room = room_before before n id some next in
    let last : suc (id - suc n + n) ≡ id = omega (arith, room) in
    let there : g id ≡ Some asker = new_there g id id asker (f id) refl (new id) in
    listed-push g (id - suc n) n
    ∙ (ap (λ l. l ++ waiting_at g (suc (id - suc n + n)) ∷ []) (old_list f g before n id asker next new)
    ∙ (ap (λ i. listed f before n ++ waiting_at g i ∷ []) last
    ∙ ap (λ o. listed f before n ++ waiting_at (λ _. o) id ∷ []) there))

-- ---- one less at the front

pub dropped_list : (f g : ℕ → Option Asker) (before n m : ℕ) → n ≡ m + 1 → ((q : ℕ) → g q ≡ cond (nat_eq (before + 1) q) None (f q)) → listed g (before + 1) m ≡ drop 1 (listed f before n)
dropped_list f g before n m is new =
    let next : n ≡ suc m = omega (arith, is) in
    let place : before + 1 ≡ suc before = omega arith in
    let rest : listed g (suc before) m ≡ listed f (suc before) m =
    listed-same g f (suc before) m (λ q low high. let t : nat_eq (before + 1) q ≡ false = grind (arith, nat_tests, low) in new q ∙ ap (λ b. cond b None (f q)) t) in
    ap (λ b. listed g b m) place ∙ (rest ∙ ap (λ k. drop 1 (listed f before k)) (sym next))
