-- Lists of parties: a read, a write, and what holds of each.
use Rattle.std.proofs.Common.{◌≡◌, ℕ, zero, suc, ◌+◌, ◌-◌, ◌<◌, ◌≤◌, List, [], ◌∷◌, ◌++◌, length, get_or, set, map, slice_index_or, slice_set, refl, sub-one, sym, ap, ◌∙◌, arith, subst, if◌then◌else◌, ◌==◌}
use Rattle.std.specs.List.{AllByRecursion}
use Rattle.std.proofs.lemmas.List.{map-set, length-map, get_or-map}
use Rattle.std.proofs.lemmas.Bool.Decides.{nat_tests}
use mathlib.Core.Path.{fun_ext}
use Rattle.tx_model.specs.Applications.{Application}
use Rattle.client_core.specs.States.{Kept}
use Rattle.proto_model.specs.Tables.{put, table}
use Rattle.partition_server.specs.Held.{Held}
use Rattle.world_core.specs.Fit.{AreNumbered, waiting_at}

-- ---- lists as tables

pub set_at : {A : Type 0} (d : A) (xs : List A) (i : ℕ) (x : A) (k : ℕ) → i < length xs → get_or (set xs i x) k d ≡ (if k == i then x else get_or xs k d)
set_at d [] i x k h = grind arith
set_at d (y ∷ xs) zero x zero h = refl
set_at d (y ∷ xs) zero x (suc k) h = grind (arith, nat_tests)
set_at d (y ∷ xs) (suc i) x zero h = grind (arith, nat_tests)
set_at d (y ∷ xs) (suc i) x (suc k) h = let r = set_at d xs i x k (omega arith) in grind (arith, nat_tests, r)

table_set_at : {A : Type 0} (d : A) (xs : List A) (i : ℕ) (x : A) (k : ℕ) → i < length xs → table d (set xs i x) k ≡ put (table d xs) (suc i) x k
table_set_at d xs i x zero h = grind (arith, nat_tests)
table_set_at d xs i x (suc k) h = let r = set_at d xs i x k h in grind (arith, nat_tests, r)

table_set : {A : Type 0} (d : A) (xs : List A) (i : ℕ) (x : A) → i < length xs → table d (set xs i x) ≡ put (table d xs) (suc i) x
table_set d xs i x h = fun_ext (λ k. table_set_at d xs i x k h)

either_default : {A : Type 0} (d e : A) (xs : List A) (i : ℕ) → i < length xs → get_or xs i d ≡ get_or xs i e
either_default d e [] i h = grind arith
either_default d e (x ∷ xs) zero h = refl
either_default d e (x ∷ xs) (suc i) h = either_default d e xs i (omega arith)

pub table_at : {A : Type 0} (d : A) (xs : List A) (i : ℕ) (e : A) → 1 ≤ i → i ≤ length xs → table d xs i ≡ get_or xs (i - 1) e
table_at d xs zero e some fits = grind arith
table_at d xs (suc i) e some fits = rw sub-one (either_default d e xs i (omega arith))

-- a read of a list that is seen through f
pub seen_at : {A B : Type 0} (d : B) (f : A → B) (xs : List A) (i : ℕ) (x : A) → 1 ≤ i → i ≤ length xs → x ≡ slice_index_or xs (i - 1) x → table d (map f xs) i ≡ f x
seen_at {A} {B} d f xs i x some fits is =
    let inner : i ≤ length (map f xs) = rw (length-map xs f) fits in
    let near : i - 1 < length xs = omega arith in
    table_at d (map f xs) i (f x) some inner ∙ get_or-map f xs (i - 1) x (f x) near ∙ ap f (sym is)

-- a write to it
pub seen_set : {A B : Type 0} (d : B) (f : A → B) (xs : List A) (i : ℕ) (y : A) → 1 ≤ i → i ≤ length xs → table d (map f (slice_set xs (i - 1) y)) ≡ put (table d (map f xs)) i (f y)
seen_set d f xs zero y some fits = grind arith
seen_set d f xs (suc i) y some fits =
    let inner : i < length (map f xs) = rw (length-map xs f) (omega arith) in
    rw (sub-one, map-set f xs i y) (table_set d (map f xs) i (f y) inner)

-- the same of a list that is seen as it is
pub row_at : {A : Type 0} (d : A) (xs : List A) (i : ℕ) (x : A) → 1 ≤ i → i ≤ length xs → x ≡ slice_index_or xs (i - 1) x → table d xs i ≡ x
row_at d xs i x some fits is = table_at d xs i x some fits ∙ sym is

pub row_set : {A : Type 0} (d : A) (xs : List A) (i : ℕ) (y : A) → 1 ≤ i → i ≤ length xs → table d (slice_set xs (i - 1) y) ≡ put (table d xs) i y
row_set d xs zero y some fits = grind arith
row_set d xs (suc i) y some fits = rw sub-one (table_set d xs i y (omega arith))

-- ---- what holds of each

all_get : {A : Type 0} (P : A → Type 0) (xs : List A) (k : ℕ) (x : A) → AllByRecursion P xs → k < length xs → P (get_or xs k x)
all_get P [] k x all h = absurd (omega arith)
all_get P (y ∷ xs) zero x all h = all.0
all_get P (y ∷ xs) (suc k) x all h = all_get P xs k x all.1 (omega arith)

pub all_at : {A : Type 0} (P : A → Type 0) (xs : List A) (i : ℕ) (x : A) → 1 ≤ i → i ≤ length xs → x ≡ slice_index_or xs (i - 1) x → AllByRecursion P xs → P x
all_at P xs i x some fits is all = subst P (sym is) (all_get P xs (i - 1) x all (omega arith))

all_put : {A : Type 0} (P : A → Type 0) (xs : List A) (k : ℕ) (y : A) → P y → AllByRecursion P xs → AllByRecursion P (set xs k y)
all_put P [] k y p all = tt
all_put P (x ∷ xs) zero y p all = (p, all.1)
all_put P (x ∷ xs) (suc k) y p all = (all.0, all_put P xs k y p all.1)

pub all_set : {A : Type 0} (P : A → Type 0) (xs : List A) (k : ℕ) (y : A) → P y → AllByRecursion P xs → AllByRecursion P (slice_set xs k y)
all_set P xs k y p all = all_put P xs k y p all

-- ---- the numbers of clients

numbered_get : (n : ℕ) (xs : List (Kept Application)) (k : ℕ) (x : Kept Application) → AreNumbered n xs → k < length xs → (get_or xs k x).client ≡ n + k
numbered_get n [] k x are h = absurd (omega arith)
numbered_get n (y ∷ xs) zero x are h = let first = are.0 in omega (arith, first)
numbered_get n (y ∷ xs) (suc k) x are h = let rest = numbered_get (n + 1) xs k x are.1 (omega arith) in omega (arith, rest)

pub numbered_at : (xs : List (Kept Application)) (i : ℕ) (x : Kept Application) → 1 ≤ i → i ≤ length xs → x ≡ slice_index_or xs (i - 1) x → AreNumbered 1 xs → x.client ≡ i
numbered_at xs i x some fits is are =
    let at : (slice_index_or xs (i - 1) x).client ≡ 1 + (i - 1) = numbered_get 1 xs (i - 1) x are (omega arith) in
    let same : x.client ≡ (slice_index_or xs (i - 1) x).client = ap (λ (y : Kept Application). y.client) is in
    omega (arith, at, same)

numbered_put : (n : ℕ) (xs : List (Kept Application)) (k : ℕ) (y : Kept Application) → y.client ≡ n + k → AreNumbered n xs → AreNumbered n (set xs k y)
numbered_put n [] k y is are = tt
numbered_put n (x ∷ xs) zero y is are = (omega (arith, is), are.1)
numbered_put n (x ∷ xs) (suc k) y is are = (are.0, numbered_put (n + 1) xs k y (omega (arith, is)) are.1)

pub numbered_set : (xs : List (Kept Application)) (i : ℕ) (y : Kept Application) → 1 ≤ i → y.client ≡ i → AreNumbered 1 xs → AreNumbered 1 (slice_set xs (i - 1) y)
numbered_set xs i y some is are = numbered_put 1 xs (i - 1) y (omega (arith, is)) are

pub numbered_more : (n : ℕ) (xs : List (Kept Application)) (y : Kept Application) → y.client ≡ n + length xs → AreNumbered n xs → AreNumbered n (xs ++ y ∷ [])
numbered_more n [] y is are = (omega (arith, is), tt)
numbered_more n (x ∷ xs) y is are = (are.0, numbered_more (n + 1) xs y (omega (arith, is)) are.1)

-- ---- a table of one value

all_same_at : {A B : Type 0} (d : B) (f : A → B) (xs : List A) (i : ℕ) → AllByRecursion (λ x. f x ≡ d) xs → table d (map f xs) i ≡ d
all_same_at d f xs zero all = refl
all_same_at d f [] (suc i) all = refl
all_same_at d f (x ∷ xs) (suc zero) all = all.0
all_same_at d f (x ∷ xs) (suc (suc i)) all = all_same_at d f xs (suc i) all.1

pub all_same : {A B : Type 0} (d : B) (f : A → B) (xs : List A) → AllByRecursion (λ x. f x ≡ d) xs → table d (map f xs) ≡ (λ i. d)
all_same d f xs all = fun_ext (λ i. all_same_at d f xs i all)

-- ---- the requests that wait

waiting_put : (xs : List Held) (k : ℕ) (x y : Held) → k < length xs → x ≡ get_or xs k x → waiting_at (set xs k y) + length x.waiting ≡ waiting_at xs + length y.waiting
waiting_put [] k x y h is = absurd (omega arith)
waiting_put (z ∷ xs) zero x y h is = let same : length x.waiting ≡ length z.waiting = ap (λ (s : Held). length s.waiting) is in omega (arith, same)
waiting_put (z ∷ xs) (suc k) x y h is = let rest = waiting_put xs k x y (omega arith) is in omega (arith, rest)

-- so many wait once one server of the list changed
pub waiting_set : (xs : List Held) (i : ℕ) (x y : Held) → 1 ≤ i → i ≤ length xs → x ≡ slice_index_or xs (i - 1) x → waiting_at (slice_set xs (i - 1) y) + length x.waiting ≡ waiting_at xs + length y.waiting
waiting_set xs i x y some fits is = waiting_put xs (i - 1) x y (omega arith) is
