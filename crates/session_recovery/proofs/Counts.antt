-- Counts of nodes, and tables with one entry changed.
use Rattle.std.proofs.Common.{◌≡◌, ◌≢◌, ℕ, zero, suc, ◌+◌, ◌<◌, ◌≤◌, nat_le, if◌then◌else◌, Bool, true, false, ◌⊎◌, inl, inr, List, slice_set, slice_index_or, replicate, length, refl, ap, sym, ◌∙◌, arith}
use Rattle.std.proofs.lemmas.Bool.Decides.{nat_tests}
use Rattle.std.proofs.lemmas.Bool.{cases_eq}
use Rattle.std.proofs.lemmas.List.{get_or-set_same, get_or-set_other}
use Rattle.proto_model.specs.Tables.{put}
use Rattle.proto_model.specs.Quorums.{count, quorum, reached}
use Rattle.session_recovery.specs.Known.{column}

-- ---- tables

-- functions that agree are one
same_table : {A : Type 0} (f g : ℕ → A) → ((i : ℕ) → f i ≡ g i) → f ≡ g
same_table f g h = λ j i. h i j

pub put_here : {A : Type 0} (f : ℕ → A) (i : ℕ) (x : A) → put f i x i ≡ x
put_here f i x = grind (arith, nat_tests)

pub put_there : {A : Type 0} (f : ℕ → A) (i : ℕ) (x : A) (k : ℕ) → k ≢ i → put f i x k ≡ f k
put_there f i x k ne = grind (arith, nat_tests)

set_row : {A : Type 0} (xs : List A) (i : ℕ) (x other : A) (k : ℕ) → i < length xs → (k ≡ i) ⊎ (k ≢ i) → column other (slice_set xs i x) k ≡ put (column other xs) i x k
set_row xs i x other k h (inl same) = rw same (get_or-set_same xs i x other h ∙ sym (put_here (column other xs) i x))
set_row xs i x other k h (inr ne) = get_or-set_other xs i k x other ne ∙ sym (put_there (column other xs) i x k ne)

pub column-set : {A : Type 0} (xs : List A) (i : ℕ) (x other : A) → i < length xs → column other (slice_set xs i x) ≡ put (column other xs) i x
column-set xs i x other h = same_table _ _ (λ k. set_row xs i x other k h (cases_eq k i))

replicated : {A : Type 0} (n : ℕ) (x : A) (k : ℕ) → slice_index_or (replicate n x) k x ≡ x
replicated zero x k = refl
replicated (suc n) x zero = refl
replicated (suc n) x (suc k) = replicated n x k

pub column-replicate : {A : Type 0} (n : ℕ) (x : A) → column x (replicate n x) ≡ (λ i. x)
column-replicate n x = same_table _ _ (replicated n x)

-- ---- counts

one_more : (a b : Bool) (m n : ℕ) → m ≤ n → (a ≡ true → b ≡ true) → (if a then 1 else 0) + m ≤ (if b then 1 else 0) + n
one_more true true m n h k = omega arith
one_more true false m n h k = absurd (let e : false ≡ true = k refl in cc)
one_more false true m n h k = omega arith
one_more false false m n h k = omega arith

-- numbers of which one test passes all that the other does
pub count-mono : (p r : ℕ → Bool) (n : ℕ) → ((i : ℕ) → p i ≡ true → r i ≡ true) → count p n ≤ count r n
count-mono p r zero h = omega arith
count-mono p r (suc n) h = one_more (p (suc n)) (r (suc n)) (count p n) (count r n) (count-mono p r n h) (h (suc n))

at_most_one : (b : Bool) (m n : ℕ) → m ≤ n → (if b then 1 else 0) + m ≤ suc n
at_most_one true m n h = omega arith
at_most_one false m n h = omega arith

count_le : (p : ℕ → Bool) (n : ℕ) → count p n ≤ n
count_le p zero = omega arith
count_le p (suc n) = at_most_one (p (suc n)) (count p n) n (count_le p n)

count-put_past : (p : ℕ → Bool) (i n : ℕ) → n < i → count (put p i true) n ≡ count p n
count-put_past p i zero h = refl
count-put_past p i (suc n) h =
    let rest : count (put p i true) n ≡ count p n = count-put_past p i n (omega (arith, h)) in
    let here : put p i true (suc n) ≡ p (suc n) = put_there p i true (suc n) (λ e. omega (arith, e, h)) in
    λ j. (if here j then 1 else 0) + rest j

-- one more number passes
pub count-put : (p : ℕ → Bool) (i n : ℕ) → 1 ≤ i → i ≤ n → p i ≡ false → count (put p i true) n ≡ suc (count p n)
count-put p i zero some within off = absurd (omega (arith, some, within))
count-put p i (suc n) some within off = elim (cases_eq (suc n) i) [
  | inl same ↦ (
      let here : put p i true (suc n) ≡ true = ap (put p i true) same ∙ put_here p i true in
      let not : p (suc n) ≡ false = ap p same ∙ off in
      let rest : count (put p i true) n ≡ count p n = count-put_past p i n (omega (arith, same)) in
      let new : count (put p i true) (suc n) ≡ 1 + count p n = (λ j. (if here j then 1 else 0) + rest j) in
      let old : count p (suc n) ≡ 0 + count p n = (λ j. (if not j then 1 else 0) + count p n) in
      omega (arith, new, old))
  | inr other ↦ (
      let here : put p i true (suc n) ≡ p (suc n) = put_there p i true (suc n) other in
      let rest : count (put p i true) n ≡ suc (count p n) = count-put p i n some (omega (arith, within, other)) off in
      let new : count (put p i true) (suc n) ≡ (if p (suc n) then 1 else 0) + suc (count p n) = (λ j. (if here j then 1 else 0) + rest j) in
      let old : count p (suc n) ≡ (if p (suc n) then 1 else 0) + count p n = refl in
      omega (arith, new, old))
]

-- a number that is not yet counted leaves room for one
pub count_room : (p : ℕ → Bool) (i n : ℕ) → 1 ≤ i → i ≤ n → p i ≡ false → count p n < n
count_room p i n some within off =
    let more = count-put p i n some within off in
    let most = count_le (put p i true) n in
    omega (arith, more, most)

-- ---- what a quorum reaches

none_reached : (n : ℕ) (reaches : ℕ → ℕ → Bool) (p : ℕ → Bool) (k : ℕ) → count p n < quorum n → ((k i : ℕ) → reaches k i ≡ true → p i ≡ true) → reached n reaches k ≡ 0
none_reached n reaches p zero few less = refl
none_reached n reaches p (suc k) few less =
    let low = count-mono (reaches (suc k)) p n (less (suc k)) in
    let test : nat_le (quorum n) (count (reaches (suc k)) n) ≡ false = grind (arith, nat_tests, low, few) in
    ap (λ b. if b then suc k else reached n reaches k) test ∙ none_reached n reaches p k few less

all_reached : (n : ℕ) (reaches : ℕ → ℕ → Bool) (p : ℕ → Bool) (k : ℕ) → quorum n ≤ count p n → ((i : ℕ) → p i ≡ true → reaches k i ≡ true) → reached n reaches k ≡ k
all_reached n reaches p zero many more = refl
all_reached n reaches p (suc k) many more =
    let high = count-mono p (reaches (suc k)) n more in
    let test : nat_le (quorum n) (count (reaches (suc k)) n) ≡ true = grind (arith, nat_tests, high, many) in
    ap (λ b. if b then suc k else reached n reaches k) test

-- where each node that reaches anything reaches all, so does the quorum
pub reached_by : (n : ℕ) (reaches : ℕ → ℕ → Bool) (p : ℕ → Bool) (k : ℕ) (b : Bool) → nat_le (quorum n) (count p n) ≡ b → ((k i : ℕ) → reaches k i ≡ true → p i ≡ true) →
    ((i : ℕ) → p i ≡ true → reaches k i ≡ true) → (if b then k else 0) ≡ reached n reaches k
reached_by n reaches p k true is less more = sym (all_reached n reaches p k (grind (arith, nat_tests, is)) more)
reached_by n reaches p k false is less more = sym (none_reached n reaches p k (grind (arith, nat_tests, is)) less)
